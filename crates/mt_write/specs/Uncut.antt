-- What a reader meets of a border between two steps of a split: the half is linked, and the order is still to be cut.
use Rattle.std.specs.Prelude.{◌++◌, ℕ, ◌≡◌, List, IsSomeAnd}
use Rattle.mt_types.specs.declared.numbers.NodeNo.{NodeNo}
use Rattle.mt_border.specs.Border.{entries_of}
use Rattle.mt_border.specs.Slots.{order_shown}
use Rattle.mt_border.specs.Table.{picked}
use Rattle.mt_arena.specs.Node.{border_at}
use Rattle.mt_arena.specs.Arena.{ArenaView}
use Rattle.mt_steps.specs.World.{World}
use Rattle.mt_steps.specs.declared.way.Way.{Way}
use Rattle.mt_write.specs.declared.writing.Edit.{Edit}
use Rattle.mt_write.specs.declared.writing.Stage.TheVariants.{HalfLinked}
use Rattle.mt_write.specs.Writing.{StageIsTrue}

-- the order that readers see names the border's own entries, and then those of the half to which its right link leads
abbrev pub IsUncut : ArenaView → NodeNo → NodeNo → Type 0
IsUncut a number half = IsSomeAnd (border_at a.nodes number.0) (λ b. IsSomeAnd (border_at a.nodes half.0) (λ upper.
    IsSomeAnd b.right (λ link. link.node ≡ half) × (entries_of (picked b.slots (order_shown b).live) ≡ b.live ++ upper.live)))

-- a put that has linked the half and not cut the order yet is at such a border
abbrev pub UncutEntriesAreInTheHalf : Type 0
UncutEntriesAreInTheHalf = (C : ℕ) (key : List ℕ) (edit : Edit) (way : Way) (half : NodeNo) (cut place begun : ℕ) (a : ArenaView)
    (w : World) → StageIsTrue C key edit way (HalfLinked half cut place) begun a w → IsUncut a way.node half
