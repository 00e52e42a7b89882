use Rattle.std.proofs.Common.{ℕ, ap, ◌∙◌}
use Rattle.mt_remove.specs.Above.{bound_stage}
use Rattle.mt_remove.proofs.AboveLemmas.{bound_there, bound_below, bound_within, bounds}
use Rattle.mt_remove.proofs.tidy.Tidy.bound_above.Goals as goal

pub right_at-requires : goal.right_at-requires
right_at-requires c = bound_there c.args.epoch c.args.tree.now c.args.self.now c.args.layer c.requires.at c.requires.may

pub slice_above-requires-clause-below : goal.slice_above-requires-clause-below
slice_above-requires-clause-below c = bound_below c.args.epoch c.args.tree.now c.args.self.now c.args.layer c.requires.at c.requires.may

pub slice_above-requires-clause-within : goal.slice_above-requires-clause-within
slice_above-requires-clause-within c = bound_within c.args.epoch c.args.tree.now c.args.self.now c.args.layer c.requires.at c.requires.may

pub returns : goal.returns
returns c = bounds c.args.epoch c.args.tree.now c.args.self.now c.args.layer c.requires.at c.right_at.result c.right_at.ensures c.bounded-self.result (c.bounded-self.ensures ∙ ap (λ (s : ℕ). bound_stage s c.args.layer c.right_at.result) c.slice_above.ensures)
