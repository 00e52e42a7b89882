use Rattle.std.proofs.Common.{ℕ, List, refl, subst, ◌∙◌}
use Rattle.mt_promise.specs.History.{moment, rows}
use Rattle.mt_promise.specs.Alone.{IsRangeOfMap}
use Rattle.mt_shared.proofs.reads.range.Goals as goal

pub returns-in-Ok-range-clause-plain : goal.returns-in-Ok-range-clause-plain
returns-in-Ok-range-clause-plain c = λ h st. (
  subst (λ (start : List ℕ). IsRangeOfMap (rows c.args.machine.now.columns (moment h)) c.args.columns.now start c.args.limit c.in-Ok-range.pairs) (c.in-Ok.ensures.kept ∙ c.in_ok-copy.ensures)
      (subst (λ (asked : List ℕ). IsRangeOfMap (rows c.args.machine.now.columns (moment h)) asked c.in-Ok.start c.args.limit c.in-Ok-range.pairs) c.in_ok-columns.ensures (c.in-Ok-range.ensures.pairs h st)),
  refl,
)
