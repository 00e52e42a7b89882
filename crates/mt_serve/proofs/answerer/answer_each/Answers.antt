use Rattle.std.proofs.Common.{◌++◌, ◌∷◌, [], subst}
use Rattle.std.proofs.lemmas.Result.{err_from_is_err_and}
use Rattle.mt_serve.specs.Asking.{Answers}
use Rattle.mt_serve.proofs.ServingLemmas.{answered_more, limited_more}
use Rattle.mt_serve.proofs.answerer.answer_each.Goals as goal

pub loop-query-preserved : goal.loop-query-preserved
loop-query-preserved g c = rw c.in_ok-push.ensures.items (record {
  answered = answered_more g.S.Shared.does g.S.Shared.shows g.S.Shared.pages g.S.Shared.glances g.S.Shared.looks c.args.shared.now c.loop-query.shared c.answer.new.shared c.args.pass.now c.loop-query.pass c.answer.new.pass c.args.queries.items c.loop-query.query-iterator.rest.items c.next.new.self.rest.items
      c.loop-query.responses.items c.in-Some.query c.answer.result c.loop-query.invariant.answered c.in-Some.ensures.steps.0 (subst (λ s. Answers g.S.Shared.does g.S.Shared.shows g.S.Shared.pages g.S.Shared.glances g.S.Shared.looks s c.loop-query.pass c.in-Some.query c.answer.result c.answer.new.shared c.answer.new.pass) c.hold.ensures.stays c.answer.ensures.answers);
  limited = limited_more c.loop-query.responses.items c.answer.result c.loop-query.invariant.limited c.answer.ensures.limited;
})

pub returns-in_err-push-clause-part : goal.returns-in_err-push-clause-part
returns-in_err-push-clause-part g c =
    let p = err_from_is_err_and c.from_residual.result c.from_residual.ensures.1 in
    let h = answered_more g.S.Shared.does g.S.Shared.shows g.S.Shared.pages g.S.Shared.glances g.S.Shared.looks c.args.shared.now c.loop-query.shared c.answer.new.shared c.args.pass.now c.loop-query.pass c.answer.new.pass c.args.queries.items c.loop-query.query-iterator.rest.items c.next.new.self.rest.items
    c.loop-query.responses.items c.in-Some.query c.answer.result c.loop-query.invariant.answered c.in-Some.ensures.steps.0 (subst (λ s. Answers g.S.Shared.does g.S.Shared.shows g.S.Shared.pages g.S.Shared.glances g.S.Shared.looks s c.loop-query.pass c.in-Some.query c.answer.result c.answer.new.shared c.answer.new.pass) c.hold.ensures.stays c.answer.ensures.answers) in
    rw p.1 (h.0, c.next.new.self.rest.items, c.loop-query.responses.items ++ c.answer.result ∷ [], h.1, h.2)
