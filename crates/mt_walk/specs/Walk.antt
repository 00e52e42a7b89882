-- A walk over the pairs of a tree, for its user: its place in the order of keys, and its next pair.
use Rattle.std.specs.Prelude.{ℕ, ◌≡◌, ◌⊎◌, List, [], ◌∷◌, ◌++◌, length, Option, Some, None, Bool, if◌then◌else◌}
use Rattle.std.specs.Option.{option_map}
use Rattle.mt_types.specs.declared.row.Row.{Row}
use Rattle.mt_slice.specs.Place.{Place, Precedes, place_of}
use Rattle.mt_border.specs.Border.{BorderView}
use Rattle.mt_chart.specs.Tree.{Arena, Has}
use Rattle.mt_chart.specs.Scan.{AtMost, Pair}
use Rattle.mt_tree.specs.Seen.{arena_seen}
use Rattle.mt_arena.specs.Arena.{ArenaView}
use Rattle.mt_walk.specs.declared.course.Course.{Course}
use Rattle.mt_walk.specs.declared.course.Stop.{Stop}
use Rattle.mt_walk.specs.declared.walk.Walk.{Walk}

-- before the first key at or after a place, or after the last key that it has given
pub data WalkAt : Type 0 where
  from : Place → WalkAt
  behind : Place → WalkAt

-- the key is still to come
abbrev pub ToCome : WalkAt → Place → Type 0
ToCome (from start) key = AtMost start key
ToCome (behind given) key = Precedes given key

-- no row is to come
abbrev pub NoneToCome : Arena → WalkAt → Type 0
NoneToCome arena at = (key : Place) (row : Row) → Has arena key row → ToCome at key → ⊥

-- the pair is the first of those that are to come
pub record IsNextPair (arena : Arena) (at : WalkAt) (pair : Pair Row) : Type 0 where
  pub has : Has arena pair.key pair.value
  pub comes : ToCome at pair.key
  pub least : (key : Place) (row : Row) → Has arena key row → ToCome at key → AtMost pair.key key

-- THE NEXT PAIR OF A WALK: the first pair to come, and the walk is then after it; or none, and the walk stays
abbrev pub Gives : Arena → WalkAt → Option (Pair Row) → WalkAt → Type 0
Gives arena at None after = NoneToCome arena at × (after ≡ at)
Gives arena at (Some pair) after = IsNextPair arena at pair × (after ≡ behind pair.key)

-- what it gives, one pair after the other
abbrev pub GivesAll : Arena → WalkAt → List (Pair Row) → WalkAt → Type 0
GivesAll arena at [] after = after ≡ at
GivesAll arena at (pair ∷ pairs) after = IsNextPair arena at pair × GivesAll arena (behind pair.key) pairs after

-- the pairs are as many as were asked for, or no more are to come
abbrev pub IsEnough : Arena → ℕ → List (Pair Row) → WalkAt → Type 0
IsEnough arena limit pairs after = (length pairs ≡ limit) ⊎ NoneToCome arena after

-- its place, once it has given these pairs from a place on
abbrev pub HasGiven : Place → List (Pair Row) → WalkAt → Type 0
HasGiven start given at = ((given ≡ []) × (at ≡ from start))
    ⊎ ((before : List (Pair Row)) × (pair : Pair Row) × (given ≡ before ++ pair ∷ []) × (at ≡ behind pair.key))

-- a walk: its tree, the key in its buffer, whether that is the key of a pair that it has given, its path, where it is,
-- the border there, and whether it came there from the layer below
pub record WalkView : Type 0 where
  pub tree : ArenaView
  pub key : List ℕ
  pub given : Bool
  pub path : List Stop
  pub here : Stop
  pub border : BorderView
  pub after : Bool

-- its course: what it is without its key
pub record CourseView : Type 0 where
  pub tree : ArenaView
  pub path : List Stop
  pub here : Stop
  pub border : BorderView
  pub after : Bool

abbrev pub course_of : Course → CourseView
course_of course = record {
  tree = course.tree.now;
  path = course.path.items;
  here = course.here;
  border = course.border.now;
  after = course.after;
}

abbrev pub walk_of : CourseView → List ℕ → Bool → WalkView
walk_of course key given = record {
  tree = course.tree;
  key = key;
  given = given;
  path = course.path;
  here = course.here;
  border = course.border;
  after = course.after;
}

abbrev pub view_of : Walk → WalkView
view_of walk = walk_of (course_of walk.course) walk.key.items walk.given

-- its place in the order of keys: its buffer has the key of the last pair, or the key from which it began
abbrev pub stands_at : WalkView → WalkAt
stands_at walk = if walk.given then behind (place_of walk.key) else from (place_of walk.key)

-- WHAT A CALL RETURNS: the row of the first pair to come, and the buffer has its key; or none is to come
abbrev pub GivesRow : WalkView → Option Row → WalkView → Type 0
GivesRow walk row new =
    Gives (arena_seen walk.tree) (stands_at walk) (option_map (λ r. record { key = place_of new.key; value = r }) row)
    (stands_at new)
