use Rattle.mt_types.specs.declared.event.Request.{Request}
use Rattle.mt_asked.specs.Borrowed.{request_of}
use Rattle.mt_shared.specs.Drives.{IsDrive}
use Rattle.mt_shared.proofs.AskedLemmas.{made, unmade}
use Rattle.mt_shared.proofs.client.Client.drive.Goals as goal

pub returns-in-Err-clause-drives : goal.returns-in-Err-clause-drives
returns-in-Err-clause-drives g c =
    unmade c.columns-columns.result _ (request_of c.args.asked.now) _ c.in-Err.refusal c.args.self.now.shared c.args.self.now.pass c.columns-columns.ensures c.in-Err.ensures.fault

pub returns-in-Ok-clause-drives : goal.returns-in-Ok-clause-drives
returns-in-Ok-clause-drives g c =
    made c.columns-columns.result _ (request_of c.args.asked.now) c.in-Ok.request (λ (r : Request). IsDrive g.S.Shared.does c.args.self.now.shared c.args.self.now.pass r c.drive.result c.drive.new.shared c.drive.new.pass)
    c.drive.result c.args.self.now.shared c.drive.new.shared c.args.self.now.pass c.drive.new.pass c.columns-columns.ensures c.in-Ok.ensures.request c.in-Ok.ensures.fault
    (record { number = c.drive.ensures.number; seen = c.drive.ensures.seen; reply = c.drive.ensures.reply; driven = c.drive.ensures.driven; refused = c.drive.ensures.refused })
