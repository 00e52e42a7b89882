use Rattle.std.proofs.Common.{◌∙◌, ap}
use Rattle.mt_types.specs.Packed.{packed}
use Rattle.mt_types.proofs.columns.Columns.as_packed.Goals as goal

pub returns : goal.returns
returns c = c.as_slice.ensures ∙ c.self.invariant ∙ ap packed c.self.view_is
