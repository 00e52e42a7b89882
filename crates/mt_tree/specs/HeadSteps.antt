-- What a caller must know of a head before it changes it, and at which charts the change keeps the tree.
use Rattle.std.specs.Prelude.{ℕ, ◌≡◌, ◌<◌, ◌≤◌, ◌⊎◌, List, [], ◌∷◌, Some, None, true, false}
use Rattle.mt_interior.specs.Head.{HeadView}
use Rattle.mt_interior.specs.Interior.{InteriorView, StartsAt}
use Rattle.mt_interior.specs.declared.child.Child.{Child}
use Rattle.mt_arena.specs.Node.{Nodes, head_at, interior_at}
use Rattle.mt_arena.specs.Arena.{ArenaView, IsArena}
use Rattle.mt_chart.specs.Chart.{on, gone, at_level, spot, Chart, OnHead, Changes}
use Rattle.mt_chart.specs.Steps.{Twin, AreTwins, NoTwin, Keeps}
use Rattle.mt_tree.specs.Seen.{arena_seen}
use Rattle.mt_tree.specs.Keeping.{IsIndexAt, IsOnIn}
use Rattle.mt_tree.specs.InteriorSteps.{child_at, HasUpperChildren, IsInLayer}

-- the interior has two children, from the slice 0 on: the head's root, and a border
pub record IsRootOver (head : HeadView) (root : InteriorView) : Type 0 where
  pub low : root.low ≡ 0
  pub posted : Child
  pub is_border : posted.level ≡ 0
  pub children : root.children ≡ (record { low = 0; node = head.root; level = head.level }) ∷ posted ∷ []

-- A new root, an interior that the chart does not know, comes to be named by the head of its layer; and so does its
-- second child, a border that is on in the layer and that no head or interior names so far. The head is no twin.
pub record NamesRootAt (a : ArenaView) (number root_number : ℕ) (now : ℕ) (twins : List Twin)
    (chart next : Chart) : Type 0 where
  pub root : InteriorView
  pub posted : Child
  pub is_root : interior_at a.nodes root_number ≡ Some root
  pub is_posted : child_at a.nodes root_number 1 ≡ Some posted
  pub prefix : List ℕ
  pub stands : OnHead chart number prefix
  pub unnamed : chart posted.node.0 ≡ Some (spot (at_level 0) prefix posted.low (on false))
  pub unknown : chart root_number ≡ None
  pub between : Chart
  pub posted_charted : Changes chart between posted.node.0 (Some (spot (at_level 0) prefix posted.low (on true)))
  pub root_charted : Changes between next root_number (Some (spot (at_level root.level) prefix 0 (on true)))
  pub no_twin : NoTwin twins number

-- the interior has two children, from the slice 0 on: the head's root, which is an interior, and another interior, at
-- its low
pub record IsRootOverHalf (nodes : Nodes) (head : HeadView) (root : InteriorView) : Type 0 where
  pub low : root.low ≡ 0
  pub split : InteriorView
  pub is_split : interior_at nodes head.root.0 ≡ Some split
  pub posted : Child
  pub half : InteriorView
  pub is_half : interior_at nodes posted.node.0 ≡ Some half
  pub half_low : posted.low ≡ half.low
  pub half_level : posted.level ≡ half.level
  pub half_starts : StartsAt half.low half.children
  pub children : root.children ≡ (record { low = 0; node = head.root; level = head.level }) ∷ posted ∷ []

-- A new root, an interior that the chart does not know, comes to be named by the head of its layer; and so does its
-- second child, which is new too, and has children of the old root. From now on the old root and this half of it are
-- twins, and the new half is a twin of each twin of the other. The head is no twin.
pub record NamesRootOverHalfAt (a : ArenaView) (number root_number : ℕ) (twins more_twins : List Twin)
    (chart next : Chart) : Type 0 where
  pub old : HeadView
  pub root : InteriorView
  pub posted : Child
  pub split : InteriorView
  pub half : InteriorView
  pub is_old : head_at a.nodes number ≡ Some old
  pub is_root : interior_at a.nodes root_number ≡ Some root
  pub is_posted : child_at a.nodes root_number 1 ≡ Some posted
  pub is_split : interior_at a.nodes old.root.0 ≡ Some split
  pub is_half : interior_at a.nodes posted.node.0 ≡ Some half
  pub upper : HasUpperChildren half split
  pub prefix : List ℕ
  pub stands : OnHead chart number prefix
  pub unknown : chart root_number ≡ None
  pub half_unknown : chart posted.node.0 ≡ None
  pub between : Chart
  pub half_charted : Changes chart between posted.node.0 (Some (spot (at_level half.level) prefix half.low (on true)))
  pub root_charted : Changes between next root_number (Some (spot (at_level root.level) prefix 0 (on true)))
  pub kept_twins : (one other : ℕ) → AreTwins twins one other → AreTwins more_twins one other
  pub new_twins : (other : ℕ) → (other ≡ old.root.0) ⊎ AreTwins twins other old.root.0 →
      AreTwins more_twins posted.node.0 other × AreTwins more_twins other posted.node.0
  pub no_twin : NoTwin more_twins number

-- When a new root over a half comes to be named, the tree is an index as before, with the same rows and more twins;
-- all that calls rely on stays.
pub record KeepsRootOverHalf (a after : ArenaView) (number root_number : ℕ) : Type 0 where
  pub keeps : (now : ℕ) (twins more_twins : List Twin) (chart next : Chart) → IsIndexAt a now twins chart →
      NamesRootOverHalfAt a number root_number twins more_twins chart next →
      Keeps now more_twins (arena_seen a) (arena_seen after) chart next

-- A root goes: it is on in the layer of the head, and neither is a twin.
pub record BypassesRootAt (number gone_number : ℕ) (now : ℕ) (twins : List Twin) (chart next : Chart) : Type 0 where
  pub prefix : List ℕ
  pub stands : OnHead chart number prefix
  pub stood : IsInLayer chart gone_number prefix
  pub charted : Changes chart next gone_number (Some (spot (at_level stood.level) prefix stood.low (gone now)))
  pub no_twin : NoTwin twins number
  pub gone_no_twin : NoTwin twins gone_number

-- WHAT A POSTING MAY TAKE FOR GRANTED at a head: if it is to post the new half of an interior, which is on in the
-- head's layer, and the head's root is not above that interior, the root is that interior.
abbrev pub HeadNamesTheSplit : Type 0
HeadNamesTheSplit = (a : ArenaView) (now : ℕ) (twins : List Twin) (chart : Chart) (number split_number : ℕ)
    (prefix : List ℕ) (head : HeadView) (split : InteriorView) → IsArena a → IsIndexAt a now twins chart →
    OnHead chart number prefix → head_at a.nodes number ≡ Some head → interior_at a.nodes split_number ≡ Some split →
    IsInLayer chart split_number prefix → head.level ≤ split.level → head.root.0 ≡ split_number

-- And the head of the layer, which is on, is not marked deleted if a border is to be posted: that border is on in the
-- layer, and has a low above 0 or is not named yet.
abbrev pub HeadOfAPostingIsAlive : Type 0
HeadOfAPostingIsAlive = (a : ArenaView) (now : ℕ) (twins : List Twin) (chart : Chart) (number posted_number : ℕ)
    (prefix : List ℕ) (head : HeadView) → IsIndexAt a now twins chart → OnHead chart number prefix →
    head_at a.nodes number ≡ Some head → (stands : IsOnIn chart posted_number prefix) → (0 < stands.low)
    ⊎ (stands.posted ≡ false) → head.version.deleted ≡ false
