use Rattle.std.proofs.Common.{◌∙◌}
use Rattle.mt_types.proofs.PackedLemmas.{same_columns}
use Rattle.mt_types.proofs.columns.ColumnsPartialEq.eq.Goals as goal

pub returns : goal.returns
returns c =
    rw (← c.self.view_is, ← c.other.view_is) (c.eq.ensures ∙ same_columns _ _ c.self.invariant c.other.invariant)
