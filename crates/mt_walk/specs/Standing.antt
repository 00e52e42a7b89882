-- A walk, for its proof: its place in the tree.
use Rattle.std.specs.Prelude.{ℕ, ◌≡◌, ◌<◌, ◌≤◌, ◌+◌, ◌^◌, ◌⊎◌, List, [], ◌∷◌, ◌++◌, length, map, reverse, take, drop, slice_get, Some, Bool, true}
use Rattle.mt_types.specs.declared.limits.TheConstants.{MAX_KEY_BYTES}
use Rattle.mt_types.specs.declared.row.Row.{Row}
use Rattle.mt_types.specs.declared.numbers.NodeNo.{NodeNo}
use Rattle.mt_slice.specs.Place.{Place, last, deeper, under, Precedes, first_slice, AreBytes, place_of}
use Rattle.mt_border.specs.Border.{BorderView}
use Rattle.mt_border.specs.Order.{IsBorder}
use Rattle.mt_border.specs.declared.entry.Entry.{Entry}
use Rattle.mt_border.specs.declared.entry.Content.TheVariants.{Link}
use Rattle.mt_arena.specs.Node.{border_at}
use Rattle.mt_arena.specs.Arena.{ArenaView, IsArena}
use Rattle.mt_chart.specs.Tree.{Arena, PlainEntry, link, Among, Below, Has, HoldsRow}
use Rattle.mt_chart.specs.Scan.{AtMost, Pair, Visiting}
use Rattle.mt_tree.specs.Seen.{arena_seen, border_seen, entries_seen, entry_place}
use Rattle.mt_steps.specs.Lone.{IsLoneTree}
use Rattle.mt_walk.specs.Descent.{HoldsNow}
use Rattle.mt_walk.specs.Walk.{HasGiven, CourseView, WalkView, walk_of, stands_at}
use Rattle.mt_walk.specs.declared.course.Stop.{Stop}

-- the slices of stops
abbrev pub slices_of : List Stop → List ℕ
slices_of stops = map (λ stop. stop.slice) stops

-- the slices above the layer below a path, the nearest first
abbrev pub prefix_of : List Stop → List ℕ
prefix_of path = slices_of (reverse path)

-- the stop above a layer is past the link of its slice, in a border of the layer of the slices above
pub record IsAbove (a : ArenaView) (lone : IsLoneTree a) (above : List ℕ) (stop : Stop) : Type 0 where
  pub b : BorderView
  pub named : border_at a.nodes stop.node.0 ≡ Some b
  pub sound : IsBorder b
  pub held : HoldsNow a lone above stop.node.0 stop.slice
  pub place : ℕ
  pub past : stop.place ≡ place + 1
  pub entry : Entry
  pub there : slice_get b.live place ≡ Some entry
  pub at_slice : entry.slice ≡ stop.slice
  pub head : NodeNo
  pub is_link : entry.content ≡ Link head

-- each of the slices is of 64 bits
abbrev pub AreNarrow : List ℕ → Type 0
AreNarrow [] = Unit {0}
AreNarrow (slice ∷ slices) = (slice < 2 ^ 64) × AreNarrow slices

-- these are the stops above a layer, the nearest first
abbrev pub ArePath : (a : ArenaView) → IsLoneTree a → List Stop → Type 0
ArePath a lone [] = Unit {0}
ArePath a lone (stop ∷ stops) = IsAbove a lone (slices_of stops) stop × ArePath a lone stops

-- the key has a row
abbrev pub HasOne : Arena → Place → Type 0
HasOne arena key = (row : Row) × Has arena key row

-- nothing of the entry is before the place of its layer, and a link is wholly after it
abbrev pub IsAhead : Place → PlainEntry → Type 0
IsAhead at entry = ((place : Place) (row : Row) → HoldsRow entry.slice entry.content place row → AtMost at place)
    × ((head : ℕ) → entry.content ≡ link head → Precedes at (deeper entry.slice (last 0 0)))

-- the pair's key is before the place of a layer, or that of one of these entries
abbrev pub IsDone : List ℕ → Place → List PlainEntry → Pair Row → Type 0
IsDone prefix at done pair = Precedes pair.key (under prefix at)
    ⊎ ((entry : PlainEntry) × (place : Place) × (row : Row) × Among entry done
    × HoldsRow entry.slice entry.content place row × (pair.key ≡ under prefix place))

-- the entries of a border before a place, and those from it on
abbrev pub done_of : BorderView → ℕ → List PlainEntry
done_of b place = entries_seen (take place b.live)

abbrev pub left_in : BorderView → ℕ → List PlainEntry
left_in b place = entries_seen (drop place b.live)

-- At a border, past some of its entries, with all before them done, and all pairs up to there given. `at` is the place
-- of the layer from which on it visits the border.
pub record IsVisiting (a : ArenaView) (lone : IsLoneTree a) (start : Place) (limit : ℕ) (prefix : List ℕ) (at : Place)
    (here : Stop) (given : List (Pair Row)) : Type 0 where
  pub b : BorderView
  pub named : border_at a.nodes here.node.0 ≡ Some b
  pub held : HoldsNow a lone prefix here.node.0 (first_slice at)
  pub to_right : Below (first_slice at) (border_seen b).right
  pub visiting : Visiting (λ key row. Has (arena_seen a) key row) (HasOne (arena_seen a)) start limit prefix
      (border_seen b) at (done_of b here.place) (left_in b here.place) given
  pub ahead : (entry : PlainEntry) → Among entry (left_in b here.place) → IsAhead at entry
  pub done : (pair : Pair Row) → Among pair given → IsDone prefix at (done_of b here.place) pair

-- A WALK STANDS IN A TREE in which no change is under way: its path leads back to the borders above, and it visits the
-- border at which it is.
pub record IsWalk (walk : WalkView) : Type 0 where
  pub lone : IsLoneTree walk.tree
  pub start : Place
  pub limit : ℕ
  pub given : List (Pair Row)
  pub has_given : HasGiven start given (stands_at walk)
  pub at : Place
  pub slice : first_slice at ≡ walk.here.slice
  pub after : walk.after ≡ true → at ≡ last walk.here.slice 10
  pub visits : IsVisiting walk.tree lone start limit (prefix_of walk.path) at walk.here given
  pub path : ArePath walk.tree lone (reverse walk.path)
  pub arena : IsArena walk.tree
  pub borrowed : border_at walk.tree.nodes walk.here.node.0 ≡ Some walk.border
  pub narrow : AreNarrow (prefix_of walk.path)
  pub fits : walk.here.slice < 2 ^ 64
  pub bytes : AreBytes walk.key
  pub short : length walk.key ≤ MAX_KEY_BYTES

-- a walk of some key stands on the course
abbrev pub IsOnCourse : CourseView → Type 0
IsOnCourse course = (key : List ℕ) × (given : Bool) × IsWalk (walk_of course key given)

-- the key of an entry, below the stops of a path, is behind what was there
abbrev pub Spells : List ℕ → List Stop → Entry → List ℕ → Type 0
Spells old path entry new = (key : List ℕ) × (new ≡ old ++ key) × (place_of key ≡ under (prefix_of path) (entry_place entry))
    × AreBytes key × (length key ≤ MAX_KEY_BYTES)
