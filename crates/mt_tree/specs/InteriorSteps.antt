-- What a caller must know of an interior before it changes it, and at which charts the change keeps the tree.
use Rattle.std.specs.Prelude.{ℕ, ◌≡◌, ◌≢◌, ◌<◌, ◌≤◌, ◌⊎◌, List, Option, Some, None, Bool, true, false, length, drop, slice_get}
use Rattle.std.specs.Option.{option_and_then}
use Rattle.mt_interior.specs.Interior.{InteriorView}
use Rattle.mt_interior.specs.declared.child.Child.{Child}
use Rattle.mt_interior.specs.declared.interior.TheConstants.{MAX_CHILDREN}
use Rattle.mt_arena.specs.Node.{Nodes, interior_at}
use Rattle.mt_arena.specs.Arena.{ArenaView}
use Rattle.mt_chart.specs.Chart.{on, gone, Role, at_level, spot, Chart, Changes}
use Rattle.mt_chart.specs.Steps.{Twin, AreTwins, NoTwin, Keeps}
use Rattle.mt_tree.specs.Seen.{arena_seen}
use Rattle.mt_tree.specs.Keeping.{IsIndexAt}

-- the child at a place of the interior under a number
abbrev pub child_at : Nodes → ℕ → ℕ → Option Child
child_at nodes number place = option_and_then (λ interior. slice_get interior.children place) (interior_at nodes number)

-- the interior has a child, it has room for one more, and a child of this low may stand in it
pub record HasRoomFrom (low : ℕ) (interior : InteriorView) : Type 0 where
  pub some : 0 < length interior.children
  pub room : length interior.children < MAX_CHILDREN
  pub from_low : interior.low ≤ low

-- the interior is locked and has one child
pub record HasOneChild (interior : InteriorView) : Type 0 where
  pub locked : interior.version.locked ≡ true
  pub one : length interior.children ≡ 1

-- one interior has the level of the other, and its children from a place on
pub record HasUpperChildren (half interior : InteriorView) : Type 0 where
  pub place : ℕ
  pub within : place < length interior.children
  pub level : half.level ≡ interior.level
  pub children : half.children ≡ drop place interior.children

-- the number is a node of the tree of the layer of a prefix, and is on
pub record IsInLayer (chart : Chart) (number : ℕ) (prefix : List ℕ) : Type 0 where
  pub level : ℕ
  pub low : ℕ
  pub posted : Bool
  pub place : chart number ≡ Some (spot (at_level level) prefix low (on posted))

-- the number is not gone
abbrev pub IsNotGone : Chart → ℕ → Type 0
IsNotGone chart number = (role : Role) (prefix : List ℕ) (low epoch : ℕ) →
    chart number ≢ Some (spot role prefix low (gone epoch))

-- An interior may be cut to its first n children: it is not gone, and its new half, which is on in a layer, has the
-- others.
pub record CutsAt (a : ArenaView) (number count : ℕ) (chart : Chart) : Type 0 where
  pub stays : IsNotGone chart number
  pub split : InteriorView
  pub half_number : ℕ
  pub half : InteriorView
  pub is_split : interior_at a.nodes number ≡ Some split
  pub is_half : interior_at a.nodes half_number ≡ Some half
  pub upper : half.children ≡ drop count split.children
  pub prefix : List ℕ
  pub half_stands : IsInLayer chart half_number prefix

-- A border comes to be named: the interior that is to name it is on in the same layer, and no head or interior there
-- names the border so far.
pub record PostsAt (number posted : ℕ) (now : ℕ) (twins : List Twin) (chart next : Chart) : Type 0 where
  pub prefix : List ℕ
  pub stands : IsInLayer chart number prefix
  pub low : ℕ
  pub unnamed : chart posted ≡ Some (spot (at_level 0) prefix low (on false))
  pub charted : Changes chart next posted (Some (spot (at_level 0) prefix low (on true)))

-- A border comes to be named no more: the interior that names it is on in the same layer, and is no twin.
pub record DropsAt (number : ℕ) (child : Child) (now : ℕ) (twins : List Twin) (chart next : Chart) : Type 0 where
  pub prefix : List ℕ
  pub stands : IsInLayer chart number prefix
  pub low : ℕ
  pub named : chart child.node.0 ≡ Some (spot (at_level 0) prefix low (on true))
  pub charted : Changes chart next child.node.0 (Some (spot (at_level 0) prefix low (on false)))
  pub no_twin : NoTwin twins number

-- An interior goes: it and the interior that names it are on in one layer, and no twins.
pub record BypassesAt (number gone_number : ℕ) (now : ℕ) (twins : List Twin) (chart next : Chart) : Type 0 where
  pub prefix : List ℕ
  pub stands : IsInLayer chart number prefix
  pub stood : IsInLayer chart gone_number prefix
  pub charted : Changes chart next gone_number (Some (spot (at_level stood.level) prefix stood.low (gone now)))
  pub no_twin : NoTwin twins number
  pub gone_no_twin : NoTwin twins gone_number

-- A half of an interior comes to be named, by another interior of the layer: the half is new, and has children of the
-- one that is split. From now on the two halves are twins, and the new half is a twin of each twin of the other.
pub record PostsHalfAt (a : ArenaView) (number half_number split_number : ℕ) (twins more_twins : List Twin)
    (chart next : Chart) : Type 0 where
  pub split : InteriorView
  pub half : InteriorView
  pub is_split : interior_at a.nodes split_number ≡ Some split
  pub is_half : interior_at a.nodes half_number ≡ Some half
  pub upper : HasUpperChildren half split
  pub prefix : List ℕ
  pub stands : IsInLayer chart number prefix
  pub split_stands : IsInLayer chart split_number prefix
  pub unknown : chart half_number ≡ None
  pub charted : Changes chart next half_number (Some (spot (at_level half.level) prefix half.low (on true)))
  pub kept_twins : (one other : ℕ) → AreTwins twins one other → AreTwins more_twins one other
  pub new_twins : (other : ℕ) → (other ≡ split_number) ⊎ AreTwins twins other split_number →
      AreTwins more_twins half_number other × AreTwins more_twins other half_number

-- When a half of an interior comes to be named, the tree is an index as before, with the same rows and more twins; all
-- that calls rely on stays.
pub record KeepsHalf (a after : ArenaView) (number half_number : ℕ) : Type 0 where
  pub keeps : (now split_number : ℕ) (twins more_twins : List Twin) (chart next : Chart) → IsIndexAt a now twins chart →
      PostsHalfAt a number half_number split_number twins more_twins chart next →
      Keeps now more_twins (arena_seen a) (arena_seen after) chart next
