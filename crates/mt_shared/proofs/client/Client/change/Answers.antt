use Rattle.mt_types.specs.declared.event.Request.{Request}
use Rattle.mt_asked.specs.Borrowed.{request_of}
use Rattle.mt_shared.specs.Tidies.{IsDriveTidied}
use Rattle.mt_shared.proofs.AskedLemmas.{made, unmade}
use Rattle.mt_shared.proofs.client.Client.change.Goals as goal

pub returns-in-Err-clause-changes : goal.returns-in-Err-clause-changes
returns-in-Err-clause-changes g c =
    unmade c.columns-columns.result _ (request_of c.args.asked.now) _ c.in-Err.refusal c.args.self.now.shared c.args.self.now.pass c.columns-columns.ensures c.in-Err.ensures.fault

pub returns-in-Ok-clause-changes : goal.returns-in-Ok-clause-changes
returns-in-Ok-clause-changes g c =
    made c.columns-columns.result _ (request_of c.args.asked.now) c.in-Ok.request (λ (r : Request). IsDriveTidied g.S.Shared.does g.S.Shared.looks c.args.self.now.shared c.args.self.now.pass r c.args.self.now.turns c.drive_and_keep.result c.drive_and_keep.new.shared c.drive_and_keep.new.pass)
    c.drive_and_keep.result c.args.self.now.shared c.drive_and_keep.new.shared c.args.self.now.pass c.drive_and_keep.new.pass c.columns-columns.ensures c.in-Ok.ensures.request c.in-Ok.ensures.fault
    c.drive_and_keep.ensures.kept
