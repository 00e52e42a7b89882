use Rattle.std.proofs.Common.{sym, subst, ◌∙◌}
use Rattle.mt_reads.specs.declared.quiet.QuietRead.{QuietRead}
use Rattle.mt_shared.specs.Quiet.{IsQuietRead}
use Rattle.mt_wire.specs.declared.query.Query.TheVariants.{Read}
use Rattle.mt_wire.specs.declared.response.Response.{Response}
use Rattle.mt_serve.specs.Asking.{Answers}
use Rattle.mt_serve.proofs.ServingLemmas.{read_answers}
use Rattle.mt_serve.proofs.asking.answer_read.Goals as goal

pub returns-clause-answers : goal.returns-clause-answers
returns-clause-answers g c =
    subst (λ (response : Response). Answers g.S.Shared.does g.S.Shared.shows g.S.Shared.pages g.S.Shared.glances g.S.Shared.looks c.args.shared.now c.args.pass.now (Read c.args.query) response c.args.shared.now c.read_quiet.new.pass) (sym c.quiet_response.ensures)
    (read_answers g.S.Shared.does g.S.Shared.shows g.S.Shared.pages g.S.Shared.glances g.S.Shared.looks c.args.shared.now c.args.pass.now c.read_quiet.new.pass c.args.query c.read_quiet.result (sym c.counts_too_far.ensures ∙ c.if-counts_too_far.false)
    (subst (λ (read : QuietRead). IsQuietRead g.S.Shared.glances c.args.shared.now c.args.pass.now read c.read_quiet.result c.read_quiet.new.pass) c.quiet_of.ensures c.read_quiet.ensures.reads))
