-- What a step of a walk does.
use Rattle.std.specs.Prelude.{ℕ, ◌≡◌, ◌<◌, ◌≤◌, ◌+◌, ◌^◌, ◌⊎◌, List, [], ◌∷◌, ◌++◌, length, slice_get, Option, Some, None, Bool, true, false, if◌then◌else◌}
use Rattle.mt_types.specs.declared.numbers.NodeNo.{NodeNo}
use Rattle.std.specs.Borrow.{Bor}
use Rattle.mt_types.specs.declared.row.Row.{Row}
use Rattle.mt_types.specs.declared.limits.TheConstants.{MAX_KEY_BYTES}
use Rattle.mt_slice.specs.Place.{last, place_of, under, AreBytes}
use Rattle.mt_tree.specs.Seen.{entry_place}
use Rattle.mt_border.specs.Border.{BorderView}
use Rattle.mt_border.specs.Entry.{entry_row, IsEntry}
use Rattle.mt_border.specs.Order.{IsBorder}
use Rattle.mt_border.specs.declared.entry.Entry.{Entry}
use Rattle.mt_border.specs.declared.entry.RightLink.{RightLink}
use Rattle.mt_arena.specs.Node.{border_at}
use Rattle.mt_arena.specs.Arena.{ArenaView, IsArena}
use Rattle.mt_scan.specs.Cursor.{CursorView}
use Rattle.mt_scan.specs.Onward.{cursor_of, all_cursors}
use Rattle.mt_walk.specs.Descent.{SeeksBorder}
use Rattle.mt_walk.specs.Walk.{from, CourseView, WalkView, walk_of, stands_at, GivesRow}
use Rattle.mt_walk.specs.Standing.{prefix_of, IsWalk}
use Rattle.mt_walk.specs.declared.course.Stop.{Stop}
use Rattle.mt_walk.specs.declared.course.Step.{Step}
use Rattle.mt_walk.specs.declared.course.Step.TheVariants.{On, Past, End}

-- the place of the tree from which on it visits its border, as far as its slices tell
abbrev pub walk_cursor : WalkView → CursorView
walk_cursor walk = record { prefix = prefix_of walk.path; at = last walk.here.slice (if walk.after then 10 else 0) }

-- the one cursor is further on than the other, or is in the layer below and has not gone back
pub record Advances (a : ArenaView) (c d : CursorView) : Type 0 where
  pub sound : IsArena a
  pub within : (places : ℕ) → cursor_of places c < all_cursors places
  pub gets_on : (places : ℕ) → length c.prefix < places → (cursor_of places c < cursor_of places d)
      ⊎ ((cursor_of places c ≤ cursor_of places d) × (length d.prefix ≡ length c.prefix + 1))

-- it begins at a key of the tree
pub record Begins (a : ArenaView) (start : List ℕ) (walk : WalkView) : Type 0 where
  pub stands : IsWalk walk
  pub tree : walk.tree ≡ a
  pub at_start : stands_at walk ≡ from (place_of start)

-- it is in the same tree
pub record StandsOn (walk new : WalkView) : Type 0 where
  pub stands : IsWalk new
  pub tree : new.tree ≡ walk.tree

-- its border has this entry at its place
pub record IsAtEntry (a : ArenaView) (here : Stop) (entry : Entry) : Type 0 where
  pub b : BorderView
  pub named : border_at a.nodes here.node.0 ≡ Some b
  pub sound : IsBorder b
  pub arena : IsArena a
  pub there : slice_get b.live here.place ≡ Some entry
  pub whole : IsEntry entry

-- it is past all entries of its border, which has this right link
pub record IsAtEnd (a : ArenaView) (here : Stop) (right : Option RightLink) : Type 0 where
  pub b : BorderView
  pub named : border_at a.nodes here.node.0 ≡ Some b
  pub sound : IsBorder b
  pub arena : IsArena a
  pub few : length b.live ≤ here.place
  pub right_is : right ≡ b.right
  pub narrow : (link : RightLink) → right ≡ Some link → link.low < 2 ^ 64

-- it goes past an entry with this row
pub record PassesEntry (walk : WalkView) (entry : Entry) (row : Row) (new : WalkView) : Type 0 where
  pub there : IsAtEntry walk.tree walk.here entry
  pub has : entry_row entry ≡ Some row
  pub passed : new ≡ record walk { here = record walk.here { place = walk.here.place + 1 } }

-- it goes past an entry with a row, and its buffer then has the key of that row
abbrev pub TakesEntry : WalkView → Entry → WalkView → Type 0
TakesEntry walk entry new = (key : List ℕ) × (place_of key ≡ under (prefix_of walk.path) (entry_place entry))
    × AreBytes key × (length key ≤ MAX_KEY_BYTES)
    × (new ≡ record walk { key = key; given = true; here = record walk.here { place = walk.here.place + 1 } })

-- it comes to a border
abbrev pub ComesTo : CourseView → Stop → Bool → CourseView → Type 0
ComesTo course here after new = (border : BorderView) × (border_at course.tree.nodes here.node.0 ≡ Some border)
    × (new ≡ record course { here = here; border = border; after = after })

-- it goes into the layer of a link
abbrev pub EntersLayer : CourseView → ℕ → NodeNo → CourseView → Type 0
EntersLayer course slice head new = (node : NodeNo) × SeeksBorder course.tree head.0 0 node.0
    × ComesTo (record course {
      path = course.path ++ record { node = course.here.node; place = course.here.place + 1; slice = slice } ∷ [];
    }) (record { node = node; place = 0; slice = 0 }) false new

-- A STEP: it continues; or it is past an entry with a row; or no pair is to come
abbrev pub GoesBy : WalkView → Step → WalkView → Type 0
GoesBy walk On new = StandsOn walk new × (stands_at new ≡ stands_at walk)
    × Advances walk.tree (walk_cursor walk) (walk_cursor new)
GoesBy walk (Past entry row) new = PassesEntry walk entry.now row.now new
GoesBy walk End new = (new ≡ walk) × GivesRow walk None walk

-- whatever its key is
abbrev pub Goes : CourseView → Step → CourseView → Type 0
Goes course step new = (key : List ℕ) (given : Bool) → IsWalk (walk_of course key given) →
    GoesBy (walk_of course key given) step (walk_of new key given)

-- it is in the same tree, and in the same place in the order of keys
pub record GoesOn (begun walk : WalkView) : Type 0 where
  pub on : StandsOn begun walk
  pub same : stands_at walk ≡ stands_at begun

-- it continues to an entry with a row, and past it; or no pair is to come, and it stays
abbrev pub FindsEntry : WalkView → Option (Bor Entry × Bor Row) → WalkView → Type 0
FindsEntry walk None new = StandsOn walk new × GivesRow walk None new
FindsEntry walk (Some found) new = (before : WalkView) × GoesOn walk before × PassesEntry before found.0.now found.1.now new

abbrev pub Finds : CourseView → Option (Bor Entry × Bor Row) → CourseView → Type 0
Finds course found new = (key : List ℕ) (given : Bool) → IsWalk (walk_of course key given) →
    FindsEntry (walk_of course key given) found (walk_of new key given)
