use Rattle.std.proofs.Common.{sym, ◌∙◌, arith}
use Rattle.mt_promise.specs.History.{moment, rows}
use Rattle.mt_batch.specs.Batch.{Holds}
use Rattle.std.proofs.lemmas.Option.{slice_get-get_or}
use Rattle.mt_batch.proofs.ChangeLemmas.{all_more, all_whole, condition_fits}
use Rattle.mt_batch.proofs.testing.first_unmet.Goals as goal

pub loop-place-init : goal.loop-place-init
loop-place-init c h st = tt

pub version_at-found-requires-clause-fits : goal.version_at-found-requires-clause-fits
version_at-found-requires-clause-fits c =
    condition_fits c.args.conditions.now c.loop-place.place _ c.requires.fit (slice_get-get_or c.args.conditions.now c.loop-place.place _ c.loop-place-test.true)

pub returns-then-found-condition-clause-unmet : goal.returns-then-found-condition-clause-unmet
returns-then-found-condition-clause-unmet c h st = record {
  met = c.loop-place.invariant h st;
  condition = _;
  there = slice_get-get_or c.args.conditions.now c.loop-place.place _ c.loop-place-test.true;
  has = c.version_at-found.ensures h st;
  other = c.if-found-condition.true;
}

pub loop-place-preserved : goal.loop-place-preserved
loop-place-preserved c h st =
    all_more (Holds (rows c.args.machine.now.columns (moment h))) c.args.conditions.now c.loop-place.place _ c.loop-place-test.true (c.loop-place.invariant h st)
    (sym (c.version_at-found.ensures h st) ∙ c.if-found-condition.false)

pub returns-clause-met : goal.returns-clause-met
returns-clause-met c none h st =
    all_whole (Holds (rows c.args.machine.now.columns (moment h))) c.args.conditions.now c.loop-place.place (let past = c.loop-place-test.false in omega (arith, past)) (c.loop-place.invariant h st)
