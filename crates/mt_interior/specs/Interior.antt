-- What a contract sees of an `Interior`, and what each call makes of it.
use Rattle.std.specs.Prelude.{◌≡◌, ℕ, zero, suc, ◌^◌, ◌≤◌, ◌<◌, nat_le, Bool, true, false, List, [], ◌∷◌, length, take, insert, remove, All}
use Rattle.std.specs.List.{prefix_len}
use Rattle.std.specs.List.Sorted.{IsNonDecreasingBy}
use Rattle.mt_types.specs.declared.limits.TheConstants.{MAX_LEVEL}
use Rattle.mt_types.specs.declared.numbers.NodeNo.{NodeNo}
use Rattle.mt_word.specs.Version.{VersionView, IsVersion}
use Rattle.mt_interior.specs.Head.{new_inner_version}
use Rattle.mt_interior.specs.declared.child.Child.{Child}
use Rattle.mt_interior.specs.declared.interior.TheConstants.{MAX_CHILDREN}

-- what an unused place holds
abbrev pub blank_child : Child
blank_child = record { low = 0; node = record { 0 = 0 }; level = 0 }

-- an interior node: its version, its level, the least slice that it was posted for, and its children in order
pub record InteriorView : Type 0 where
  pub version : VersionView
  pub level : ℕ
  pub low : ℕ
  pub children : List Child

-- what is seen of an interior node with these fields
abbrev pub interior_view : VersionView → ℕ → ℕ → List Child → InteriorView
interior_view version level low children = record { version = version; level = level; low = low; children = children }

-- a locked interior node with no child
abbrev pub new_interior : ℕ → ℕ → InteriorView
new_interior level low = interior_view (new_inner_version true) level low []

-- how many children there are up to a slice: those from the first on whose low is at most the slice
abbrev pub children_up_to : ℕ → List Child → ℕ
children_up_to slice children = prefix_len (λ child. nat_le child.low slice) children

-- the node once it has these children
abbrev pub with_children : InteriorView → List Child → InteriorView
with_children i children = record i { children = children }

-- the node once this child stands after those whose low is at most its own
abbrev pub with_child : InteriorView → Child → InteriorView
with_child i child = with_children i (insert i.children (children_up_to child.low i.children) child)

-- the node once it has not the child at a place
abbrev pub without_child : InteriorView → ℕ → InteriorView
without_child i place = with_children i (remove i.children place)

-- the children, of which the one at a place is this node, and keeps its low
abbrev pub renamed : ℕ → NodeNo → ℕ → List Child → List Child
renamed place node level [] = []
renamed zero node level (child ∷ children) = record child { node = node; level = level } ∷ children
renamed (suc place) node level (child ∷ children) = child ∷ renamed place node level children

-- the node once it names another instead of the child at a place
abbrev pub with_bypass : InteriorView → ℕ → NodeNo → ℕ → InteriorView
with_bypass i place node level = with_children i (renamed place node level i.children)

-- the node once it has only the first n children
abbrev pub with_first : InteriorView → ℕ → InteriorView
with_first i count = with_children i (take count i.children)

abbrev pub with_lock : InteriorView → Bool → InteriorView
with_lock i locked = record i { version = record i.version { locked = locked } }

abbrev pub with_deleted : InteriorView → InteriorView
with_deleted i = record i { version = record i.version { deleted = true } }

-- the first child, if there is one, has this low
abbrev pub StartsAt : ℕ → List Child → Type 0
StartsAt low [] = Unit {0}
StartsAt low (child ∷ children) = child.low ≡ low

-- no child's low is below that of one before it
pub record IsRising (children : List Child) : Type 0 where
  pub lows : IsNonDecreasingBy (λ child. child.low) children

-- each child's level is below this
pub record AreLower (level : ℕ) (children : List Child) : Type 0 where
  pub each : All (λ child. child.level < level) children

-- what holds of every interior node
pub record IsInterior (i : InteriorView) : Type 0 where
  pub least : 1 ≤ i.level
  pub most : i.level ≤ MAX_LEVEL
  pub low_fits : i.low < 2 ^ 64
  pub few : length i.children ≤ MAX_CHILDREN
  pub starts : StartsAt i.low i.children
  pub rising : IsRising i.children
  pub lower : AreLower i.level i.children
  pub inner : i.version.border ≡ false
  pub counters : IsVersion i.version
