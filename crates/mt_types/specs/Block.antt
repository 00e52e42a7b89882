-- The bytes of a block: few lie in place, and more are shared.
use Rattle.std.specs.Prelude.{ℕ, ◌≤◌, List, take}
use Rattle.mt_types.specs.declared.block.Kept.{Kept}
use Rattle.mt_types.specs.declared.block.Kept.TheVariants.{Few, Many}
use Rattle.mt_types.specs.declared.block.Made.{Made}
use Rattle.mt_types.specs.declared.block.Made.TheVariants.{Few as FewMade, Many as ManyMade}

abbrev pub kept_bytes : Kept → List ℕ
kept_bytes (Few count bytes) = take count bytes
kept_bytes (Many block) = block.items.value.items

-- there are no more bytes in place than fit there
abbrev pub IsKept : Kept → Type 0
IsKept (Few count bytes) = count ≤ 22
IsKept (Many block) = Unit {0}

abbrev pub made_bytes : Made → List ℕ
made_bytes (FewMade bytes) = bytes.items
made_bytes (ManyMade bytes) = bytes.items
