-- What a change of a node keeps of the tree, at each chart at which the tree is an index.
use Rattle.std.specs.Prelude.{ℕ, ◌≡◌, ◌≢◌, ◌<◌, ◌⊎◌, ◌↔◌, List, Some, None, Bool}
use Rattle.mt_slice.specs.Place.{Place, under}
use Rattle.mt_types.specs.declared.row.Row.{Row}
use Rattle.mt_arena.specs.Arena.{ArenaView}
use Rattle.mt_chart.specs.Tree.{Has}
use Rattle.mt_chart.specs.Chart.{on, at_level, spot, Chart, Evolves}
use Rattle.mt_chart.specs.Steps.{Twin, IsIndex, SameContent, Keeps, Frees}
use Rattle.mt_tree.specs.Seen.{arena_seen}

-- THE TREE IS AN INDEX in an epoch, with these twins, at a chart: what holds of every tree between two changes
abbrev pub IsIndexAt : ArenaView → ℕ → List Twin → Chart → Type 0
IsIndexAt a now twins chart = IsIndex now twins (arena_seen a) chart

-- the number is a border that is on, in the layer of a prefix
pub record IsOnIn (chart : Chart) (number : ℕ) (prefix : List ℕ) : Type 0 where
  pub low : ℕ
  pub posted : Bool
  pub place : chart number ≡ Some (spot (at_level 0) prefix low (on posted))

-- the tree is an index as before, at each chart at which it was, and has the same rows
pub record KeepsTree (a after : ArenaView) : Type 0 where
  pub keeps : (now : ℕ) (twins : List Twin) (chart : Chart) → IsIndexAt a now twins chart →
      Keeps now twins (arena_seen a) (arena_seen after) chart chart

-- the tree is an index as before, at each chart at which it was and for which this holds, and has the same rows
pub record KeepsWhere (a after : ArenaView) (Where : Chart → Type 0) : Type 0 where
  pub keeps : (now : ℕ) (twins : List Twin) (chart : Chart) → IsIndexAt a now twins chart → Where chart →
      Keeps now twins (arena_seen a) (arena_seen after) chart chart

-- the same at each chart that doesn't know the number
abbrev pub KeepsUnknown : ArenaView → ArenaView → ℕ → Type 0
KeepsUnknown a after number = KeepsWhere a after (λ chart. chart number ≡ None)

-- The tree is an index as before, with the same rows, at each chart to which a chart at which it was one may advance;
-- all that calls rely on stays.
pub record KeepsAlong (a after : ArenaView) (GoesOn : ℕ → List Twin → Chart → Chart → Type 0) : Type 0 where
  pub keeps : (now : ℕ) (twins : List Twin) (chart next : Chart) → IsIndexAt a now twins chart →
      GoesOn now twins chart next → Keeps now twins (arena_seen a) (arena_seen after) chart next

-- a row is added at a place of the border's layer: the tree has that row there, and all rows that it had
pub record AddsRow (a after : ArenaView) (number : ℕ) (place : Place) (row : Row) : Type 0 where
  pub adds : (now : ℕ) (twins : List Twin) (chart : Chart) (prefix : List ℕ) → IsIndexAt a now twins chart →
      IsOnIn chart number prefix →
      IsIndexAt after now twins chart × ((key : Place) (shown : Row) →
      Has (arena_seen after) key shown ↔ (((key ≡ under prefix place) × (shown ≡ row))
      ⊎ Has (arena_seen a) key shown))

-- no row is at a place of the border's layer any more: the tree has none there, and all rows that it had elsewhere
pub record RemovesRow (a after : ArenaView) (number : ℕ) (place : Place) : Type 0 where
  pub removes : (now : ℕ) (twins : List Twin) (chart : Chart) (prefix : List ℕ) → IsIndexAt a now twins chart →
      IsOnIn chart number prefix →
      IsIndexAt after now twins chart × ((key : Place) (shown : Row) →
      Has (arena_seen after) key shown ↔ (Has (arena_seen a) key shown × (key ≢ under prefix place)))

-- another row is at a place of the border's layer: the tree has it there, and all rows that it had elsewhere
pub record ReplacesRow (a after : ArenaView) (number : ℕ) (place : Place) (row : Row) : Type 0 where
  pub replaces : (now : ℕ) (twins : List Twin) (chart : Chart) (prefix : List ℕ) → IsIndexAt a now twins chart →
      IsOnIn chart number prefix →
      IsIndexAt after now twins chart × ((key : Place) (shown : Row) →
      Has (arena_seen after) key shown ↔ (((key ≡ under prefix place) × (shown ≡ row))
      ⊎ (Has (arena_seen a) key shown × (key ≢ under prefix place))))

-- no chart at which the tree is an index knows the number
pub record IsUnknown (a : ArenaView) (number : ℕ) : Type 0 where
  pub unknown : (now : ℕ) (twins : List Twin) (chart : Chart) → IsIndexAt a now twins chart → chart number ≡ None

-- The node of a number is freed: if it went in an epoch in a chart, and nothing that went by then is still to be
-- marked, the chart continues without the number. The tree is an index there with the same rows, and calls that began
-- later may rely on it.
pub record FreesNode (a after : ArenaView) (number : ℕ) : Type 0 where
  pub frees : (now : ℕ) (twins : List Twin) (chart next : Chart) (went : ℕ) → IsIndexAt a now twins chart →
      (frees : Frees (arena_seen a) chart next went) → frees.number ≡ number →
      IsIndexAt after now twins next × SameContent (arena_seen a) (arena_seen after)
      × ((begun : ℕ) → went < begun → Evolves begun chart next)
