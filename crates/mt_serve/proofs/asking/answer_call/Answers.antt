use Rattle.std.proofs.Common.{sym, subst}
use Rattle.mt_wire.specs.declared.query.Query.TheVariants.{Call}
use Rattle.mt_wire.specs.declared.response.Response.{Response}
use Rattle.mt_serve.specs.Asking.{Answers}
use Rattle.mt_serve.proofs.ServingLemmas.{driven_answers}
use Rattle.mt_serve.proofs.asking.answer_call.Goals as goal

pub returns-in-None-clause-answers : goal.returns-in-None-clause-answers
returns-in-None-clause-answers g c =
    subst (λ (response : Response). Answers g.S.Shared.does g.S.Shared.shows g.S.Shared.pages g.S.Shared.glances g.S.Shared.looks c.args.shared.now c.args.pass.now (Call c.args.request) response c.drive_and_keep.new.shared c.drive_and_keep.new.pass) (sym c.call_response-in-None.ensures)
    (driven_answers g.S.Shared.does g.S.Shared.shows g.S.Shared.pages g.S.Shared.glances g.S.Shared.looks c.args.shared.now c.drive_and_keep.new.shared c.args.pass.now c.read_at_once.new.pass c.drive_and_keep.new.pass c.args.request c.drive_and_keep.result c.in-None.ensures.reads c.drive_and_keep.ensures.kept)
