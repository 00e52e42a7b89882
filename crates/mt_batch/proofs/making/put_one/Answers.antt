use Rattle.std.proofs.Common.{◌≡◌, ◌++◌, ◌∷◌, ◌∙◌, [], None, ap, sym, subst}
use Rattle.mt_types.specs.declared.event.Request.{Request}
use Rattle.mt_types.specs.declared.event.Request.TheVariants.{Put}
use Rattle.mt_index.specs.Alone.{AnswersPlainly, RefusesPlainly}
use Rattle.mt_index.specs.Marks.{IsAhead}
use Rattle.mt_batch.specs.declared.batch.Change.{Change}
use Rattle.mt_batch.specs.Changes.{puts_of, request_of_change}
use Rattle.mt_types.specs.Limits.{request_fault}
use Rattle.mt_promise.specs.History.{History}
use Rattle.mt_index.specs.Stands.{Stands}
use Rattle.mt_batch.specs.Batch.{MayLack}
use Rattle.mt_batch.proofs.MakingLemmas.{err_of, if_err, ok_of, put_off, put_on}
use Rattle.mt_batch.proofs.RefusalLemmas.{put_lacks}
use Rattle.mt_asked.specs.Borrowed.{sets_of}
use Rattle.mt_batch.proofs.making.put_one.Goals as goal

pub returns-clause-ok : goal.returns-clause-ok
returns-clause-ok c =
    let is : c.in-Ok.request ≡ Put c.in-Put.key.now (sets_of c.in-Put.sets.now) = c.in-Ok.ensures.request ∙ c.asked.ensures ∙ ap request_of_change c.in-Put.is in
    ok_of _ c.do_alone.result c.without_reply.result c.without_reply.ensures c.do_alone.ensures.answered (λ reply answers s mark made ahead.
    subst (λ (x : Change). IsAhead s mark (made ++ puts_of (x ∷ [])) c.do_alone.new.self) (sym c.in-Put.is)
    (put_on s c.args.machine.now c.do_alone.new.self mark made ahead c.do_alone.ensures.options c.do_alone.ensures.bounds c.do_alone.ensures.base c.in-Put.key.now (sets_of c.in-Put.sets.now) reply
    (subst (λ (r : Request). AnswersPlainly c.args.machine.now r reply c.do_alone.new.self) is answers)))

pub returns-clause-err : goal.returns-clause-err
returns-clause-err c =
    let is : c.in-Ok.request ≡ Put c.in-Put.key.now (sets_of c.in-Put.sets.now) = c.in-Ok.ensures.request ∙ c.asked.ensures ∙ ap request_of_change c.in-Put.is in
    err_of _ c.do_alone.result c.without_reply.result c.without_reply.ensures c.do_alone.ensures.refused (λ refusal refuses s mark made ahead.
    put_off s c.args.machine.now c.do_alone.new.self mark made ahead c.do_alone.ensures.options c.do_alone.ensures.bounds c.do_alone.ensures.base c.in-Put.key.now (sets_of c.in-Put.sets.now) refusal
    (subst (λ (r : Request). RefusesPlainly c.args.machine.now r refusal c.do_alone.new.self) is refuses))

pub returns-clause-lacks : goal.returns-clause-lacks
returns-clause-lacks c =
    let is : c.in-Ok.request ≡ Put c.in-Put.key.now (sets_of c.in-Put.sets.now) = c.in-Ok.ensures.request ∙ c.asked.ensures ∙ ap request_of_change c.in-Put.is in
    if_err (λ refusal. request_fault c.args.machine.now.columns (request_of_change c.args.change.now) ≡ None → (h : History) → Stands c.args.machine.now h → MayLack refusal) c.do_alone.result c.without_reply.result c.without_reply.ensures c.do_alone.ensures.refused
    (λ refusal refuses fits h st.
    put_lacks c.args.machine.now c.do_alone.new.self h c.in-Put.key.now (sets_of c.in-Put.sets.now) refusal st c.requires c.do_alone.ensures.options
    (subst (λ (x : Change). request_fault c.args.machine.now.columns (request_of_change x) ≡ None) c.in-Put.is fits)
    (subst (λ (r : Request). RefusesPlainly c.args.machine.now r refusal c.do_alone.new.self) is refuses))
