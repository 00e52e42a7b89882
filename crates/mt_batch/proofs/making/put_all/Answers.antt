use Rattle.std.proofs.Common.{◌≡◌, ◌∙◌, ℕ, List, None, take, sym, subst, refl, arith}
use Rattle.std.proofs.lemmas.Option.{slice_get-get_or}
use Rattle.std.proofs.lemmas.Result.{err_from_is_err_and}
use Rattle.mt_types.specs.declared.row.Change.{Change as RowChange}
use Rattle.mt_index.specs.Marks.{IsAhead}
use Rattle.mt_batch.specs.Batch.{changes_fault}
use Rattle.mt_batch.specs.Changes.{puts_of}
use Rattle.mt_batch.proofs.ChangeLemmas.{are_puts, on_err, puts_more, puts_whole}
use Rattle.mt_batch.proofs.RefusalLemmas.{change_none}
use Rattle.mt_batch.proofs.making.put_all.Goals as goal

pub loop-change-init : goal.loop-change-init
loop-change-init c = record { idle = c.requires; columns = refl; ahead = λ s mark ahead. ahead }

pub put_one-requires : goal.put_one-requires
put_one-requires c = c.loop-change.invariant.idle

pub returns-in_err-put_one-clause-puts : goal.returns-in_err-put_one-clause-puts
returns-in_err-put_one-clause-puts c s mark ahead = record {
  gone = record {
    made = puts_of (take c.loop-change.change-index c.args.changes.now);
    puts = are_puts (take c.loop-change.change-index c.args.changes.now);
    ahead = c.in_err-put_one.ensures.err s mark (puts_of (take c.loop-change.change-index c.args.changes.now)) (c.loop-change.invariant.ahead s mark ahead);
  };
  all = on_err _ c.from_residual.result c.from_residual.ensures.0;
}

pub returns-in_err-put_one-clause-columns : goal.returns-in_err-put_one-clause-columns
returns-in_err-put_one-clause-columns c = c.in_err-put_one.ensures.columns ∙ c.loop-change.invariant.columns

pub loop-change-preserved : goal.loop-change-preserved
loop-change-preserved c = record {
  idle = c.in_ok-put_one.ensures.idle;
  columns = c.in_ok-put_one.ensures.columns ∙ c.loop-change.invariant.columns;
  ahead = λ s mark ahead.
      subst (λ (cs : List RowChange). IsAhead s mark cs c.put_one.new.machine) (sym (puts_more c.args.changes.now c.loop-change.change-index _ c.loop-change-test.true))
      (c.in_ok-put_one.ensures.ok s mark (puts_of (take c.loop-change.change-index c.args.changes.now)) (c.loop-change.invariant.ahead s mark ahead));
}

pub returns-clause-puts : goal.returns-clause-puts
returns-clause-puts c s mark ahead = record {
  gone = record {
    made = puts_of (take c.loop-change.change-index c.args.changes.now);
    puts = are_puts (take c.loop-change.change-index c.args.changes.now);
    ahead = c.loop-change.invariant.ahead s mark ahead;
  };
  all = puts_whole c.args.changes.now c.loop-change.change-index (let past = c.loop-change-test.false in omega (arith, past));
}

pub returns-in_err-put_one-clause-lacks : goal.returns-in_err-put_one-clause-lacks
returns-in_err-put_one-clause-lacks c =
    let p = err_from_is_err_and c.from_residual.result c.from_residual.ensures.1 in
    rw (p.1, p.2) (λ none s mark ahead.
    let on = c.loop-change.invariant.ahead s mark ahead in
    let (h, st) = on.some in
    let (g, gst, by) = on.led h st in
    c.in_err-put_one.ensures.lacks
    (change_none c.loop-change.machine.columns c.args.changes.now c.loop-change.change-index _
    (subst (λ (C : ℕ). changes_fault C c.args.changes.now ≡ None) (sym c.loop-change.invariant.columns) none)
    (slice_get-get_or c.args.changes.now c.loop-change.change-index _ c.loop-change-test.true))
    g gst)
