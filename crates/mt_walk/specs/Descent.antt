-- The way down a layer to the border of a slice, in a tree in which no change is under way.
use Rattle.std.specs.Prelude.{ℕ, suc, List}
use Rattle.mt_arena.specs.Arena.{ArenaView}
use Rattle.mt_chart.specs.Chart.{Holds}
use Rattle.mt_steps.specs.Lone.{IsLoneTree}
use Rattle.mt_steps.specs.Ranging.{IsAtSlice}

-- the node is held now, in the layer of a prefix, for the slice: so it is on
abbrev pub HoldsNow : (a : ArenaView) → IsLoneTree a → List ℕ → ℕ → ℕ → Type 0
HoldsNow a lone prefix number slice = Holds lone.w.chart (suc lone.now) number prefix slice

-- the node is on the way to the slice in its layer
pub record MaySeek (a : ArenaView) (number slice : ℕ) : Type 0 where
  pub lone : IsLoneTree a
  pub prefix : List ℕ
  pub held : HoldsNow a lone prefix number slice

-- from a node of a layer the way to the slice leads to this border, in whose interval the slice is
pub record SeeksBorder (a : ArenaView) (number slice found : ℕ) : Type 0 where
  pub at_slice : IsAtSlice a found slice
  pub leads : (lone : IsLoneTree a) (prefix : List ℕ) → HoldsNow a lone prefix number slice
      → HoldsNow a lone prefix found slice
