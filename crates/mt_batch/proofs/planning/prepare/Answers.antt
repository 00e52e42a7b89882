use Rattle.std.proofs.Common.{◌+◌, ◌++◌, ◌∙◌, List, drop, ℕ, ap, sym, arith}
use Rattle.std.proofs.lemmas.List.{append-nil}
use Rattle.mt_promise.specs.History.{moment, rows}
use Rattle.mt_batch.specs.declared.batch.Change.{Change}
use Rattle.mt_batch.specs.Changes.{numbers_from, taken_of}
use Rattle.std.proofs.lemmas.List.{drop_all, drop_more}
use Rattle.std.proofs.lemmas.Option.{slice_get-get_or}
use Rattle.mt_batch.proofs.ChangeLemmas.{change_fits}
use Rattle.mt_batch.proofs.planning.prepare.Goals as goal

pub add-requires-clause-fits : goal.add-requires-clause-fits
add-requires-clause-fits c = change_fits c.args.machine.now.columns c.args.changes.now c.loop-change.change-index _ c.requires.fit (slice_get-get_or c.args.changes.now c.loop-change.change-index _ c.loop-change-test.true)

pub loop-change-init : goal.loop-change-init
loop-change-init c = record {
  taken = λ h st. ap (λ l. l ++ taken_of (rows c.args.machine.now.columns (moment h)) c.args.changes.now) c.new.ensures.items;
  numbers = λ h st.
      ap (λ l. l ++ numbers_from (rows c.args.machine.now.columns (moment h)) c.args.from c.commits.result c.args.changes.now) c.new-2.ensures.items
      ∙ ap (λ (n : ℕ). numbers_from (rows c.args.machine.now.columns (moment h)) c.args.from n c.args.changes.now) c.commits.ensures.number;
}

pub loop-change-preserved : goal.loop-change-preserved
loop-change-preserved c =
    let i = c.loop-change.change-index in
    let l = c.args.changes.now in
    record {
      taken = λ h st.
          c.in_ok-add.ensures.taken h (drop (i + 1) l) st
          ∙ ap (λ (cs : List Change). c.loop-change.plan.taken.items ++ taken_of (rows c.args.machine.now.columns (moment h)) cs) (sym (drop_more l i _ c.loop-change-test.true))
          ∙ c.loop-change.invariant.taken h st;
      numbers = λ h st.
          c.in_ok-add.ensures.numbers h (drop (i + 1) l) st
          ∙ ap (λ (cs : List Change). c.loop-change.plan.numbers.items ++ numbers_from (rows c.args.machine.now.columns (moment h)) c.loop-change.plan.put c.loop-change.plan.last cs) (sym (drop_more l i _ c.loop-change-test.true))
          ∙ c.loop-change.invariant.numbers h st;
    }

pub returns-clause-taken : goal.returns-clause-taken
returns-clause-taken c h st =
    let none = drop_all c.loop-change.change-index c.args.changes.now (let past = c.loop-change-test.false in omega (arith, past)) in
    sym (append-nil c.loop-change.plan.taken.items)
    ∙ ap (λ (cs : List Change). c.loop-change.plan.taken.items ++ taken_of (rows c.args.machine.now.columns (moment h)) cs) (sym none)
    ∙ c.loop-change.invariant.taken h st

pub returns-clause-numbers : goal.returns-clause-numbers
returns-clause-numbers c h st =
    let none = drop_all c.loop-change.change-index c.args.changes.now (let past = c.loop-change-test.false in omega (arith, past)) in
    sym (append-nil c.loop-change.plan.numbers.items)
    ∙ ap (λ (cs : List Change). c.loop-change.plan.numbers.items ++ numbers_from (rows c.args.machine.now.columns (moment h)) c.loop-change.plan.put c.loop-change.plan.last cs) (sym none)
    ∙ c.loop-change.invariant.numbers h st
