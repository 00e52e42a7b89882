use Rattle.mt_types.specs.declared.event.Request.{Request}
use Rattle.mt_asked.specs.Borrowed.{request_of}
use Rattle.mt_shared.specs.Reads.{IsCall}
use Rattle.mt_shared.proofs.AskedLemmas.{made, unmade}
use Rattle.mt_shared.proofs.client.Client.read.Goals as goal

pub returns-in-Err-clause-reads : goal.returns-in-Err-clause-reads
returns-in-Err-clause-reads g c =
    unmade c.columns-columns.result _ (request_of c.args.asked.now) _ c.in-Err.refusal c.args.self.now.shared c.args.self.now.pass c.columns-columns.ensures c.in-Err.ensures.fault

pub returns-in-Ok-clause-reads : goal.returns-in-Ok-clause-reads
returns-in-Ok-clause-reads g c =
    made c.columns-columns.result _ (request_of c.args.asked.now) c.in-Ok.request (λ (r : Request). IsCall g.S.Shared.does g.S.Shared.shows c.args.self.now.shared c.args.self.now.pass r c.ask.result c.ask.new.shared c.ask.new.pass)
    c.ask.result c.args.self.now.shared c.ask.new.shared c.args.self.now.pass c.ask.new.pass c.columns-columns.ensures c.in-Ok.ensures.request c.in-Ok.ensures.fault
    c.ask.ensures.call
