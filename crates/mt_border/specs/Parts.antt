-- The value of a slot, as it is lent.
use Rattle.std.specs.Prelude.{◌≡◌}
use Rattle.mt_border.specs.declared.entry.Content.{Content}
use Rattle.mt_border.specs.declared.entry.Content.TheVariants.{Short, Long, Link}
use Rattle.mt_border.specs.declared.field.ValuePart.{ValuePart}
use Rattle.mt_border.specs.declared.field.ValuePart.TheVariants.{Row as RowPart, Link as LinkPart}

-- the entry's value: its row, or the head to which it leads
abbrev pub IsValueOf : Content → ValuePart → Type 0
IsValueOf (Short bytes row) (RowPart part) = part.now ≡ row
IsValueOf (Long suffix row) (RowPart part) = part.now ≡ row
IsValueOf (Link head) (LinkPart part) = part ≡ head
IsValueOf _ _ = ⊥
