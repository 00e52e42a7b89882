-- Why a call waits, and why a get, range or build is refused: what a history doesn't show.
use Rattle.std.specs.Prelude.{ℕ, ◌≡◌, IsSome, IsSomeAnd, true}
use Rattle.mt_types.specs.declared.refusal.Refusal.TheVariants.{NoMemory}
use Rattle.mt_arena.specs.Node.{node_at, border_at}
use Rattle.mt_arena.specs.Arena.{ArenaView}
use Rattle.mt_tree.specs.Descent.{is_marked}
use Rattle.mt_steps.specs.declared.reader.Reader.{Reader}
use Rattle.mt_steps.specs.declared.reader.Reader.TheVariants.{Reads, AtValue}
use Rattle.mt_steps.specs.declared.progress.Progress.{Progress}
use Rattle.mt_steps.specs.declared.progress.Progress.TheVariants.{Refused}

-- the number names a node that is marked deleted
abbrev pub IsMarkedAt : ArenaView → ℕ → Type 0
IsMarkedAt a number = IsSomeAnd (node_at a.nodes number) (λ node. is_marked node ≡ true)

-- the number names a border that is locked
abbrev pub IsLockedAlready : ArenaView → ℕ → Type 0
IsLockedAlready a number = IsSomeAnd (border_at a.nodes number) (λ b. b.version.locked ≡ true)

-- a get or range is refused only when it is out of memory, and only at a border: a visit of a head or an interior takes
-- none
abbrev pub ReadFails : ArenaView → ℕ → Progress → Type 0
ReadFails a number (Refused refusal) = (refusal ≡ NoMemory) × IsSome (border_at a.nodes number)
ReadFails a number _ = Unit {0}

-- Among the fields of a border, a get takes memory for a value alone: for the row that it answers. The version, the right
-- link, the order and the keys take none.
abbrev pub TakesMemory : {N K F : Type 0} → Reader N K F → Type 0
TakesMemory (AtValue notes key) = Unit {0}
TakesMemory _ = ⊥

-- A range or build takes memory for a key and for a value, since it keeps what it reads of a slot. The version, the right
-- link and the order take none.
abbrev pub KeepsSlot : {N K F : Type 0} → Reader N K F → Type 0
KeepsSlot (Reads notes) = Unit {0}
KeepsSlot (AtValue notes key) = Unit {0}
KeepsSlot _ = ⊥
