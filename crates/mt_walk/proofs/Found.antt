-- An entry that a course has come to, for a walk of some key: it has a key, and once that is spelled the walk is past its pair.
use Rattle.std.proofs.Common.{ℕ, ◌≡◌, ◌≤◌, Bool, true, List, length, Option, Some, None, IsSome, refl, sym, ap, subst}
use Rattle.std.specs.Borrow.{Bor}
use Rattle.mt_types.specs.declared.limits.TheConstants.{MAX_KEY_BYTES}
use Rattle.mt_types.specs.declared.row.Row.{Row}
use Rattle.mt_slice.specs.Place.{under, place_of, AreBytes}
use Rattle.mt_border.specs.Entry.{entry_row}
use Rattle.mt_border.specs.declared.entry.Entry.{Entry}
use Rattle.mt_scan.specs.Scan.{HoldsKey}
use Rattle.mt_tree.specs.Seen.{entry_place}
use Rattle.mt_walk.specs.Walk.{CourseView, WalkView, walk_of, GivesRow}
use Rattle.mt_walk.specs.Standing.{prefix_of, IsWalk, IsOnCourse, Spells}
use Rattle.mt_walk.specs.Steps.{StandsOn, PassesEntry, TakesEntry, GoesOn, FindsEntry, Finds}
use Rattle.mt_walk.specs.declared.course.Stop.{Stop}
use Rattle.mt_walk.proofs.Moves.{walk_holds_key, walk_takes, gives_from, stands_from}

-- ---- of one walk
module _ (begun before passed : WalkView) (entry : Entry) (row : Row) (g : GoesOn begun before) (p : PassesEntry before entry row passed) where
  has_row : IsSome (entry_row entry)
  has_row = subst (λ (o : Option Row). IsSome o) (sym p.has) refl

  has_key : HoldsKey (prefix_of passed.path) entry
  has_key = subst (λ (walk : WalkView). HoldsKey (prefix_of walk.path) entry) (sym p.passed) (walk_holds_key before g.on.stands entry p.there has_row)

  module _ (key : List ℕ) (place : place_of key ≡ under (prefix_of passed.path) (entry_place entry)) (bytes : AreBytes key) (short : length key ≤ MAX_KEY_BYTES) where
    abbrev spelled : WalkView
    spelled = record passed { key = key; given = true }

    takes : TakesEntry before entry spelled
    takes = (
      key,
      subst (λ (walk : WalkView). place_of key ≡ under (prefix_of walk.path) (entry_place entry)) p.passed place,
      bytes,
      short,
      ap (λ (walk : WalkView). let v : WalkView = record walk { key = key; given = true } in v) p.passed,
    )

    is_past : StandsOn begun spelled × GivesRow begun (Some row) spelled
    is_past =
        let taken = walk_takes before g.on.stands entry p.there row p.has spelled takes in
        (stands_from begun before spelled g taken.0, gives_from begun before spelled (Some row) g taken.1)

-- ---- of any walk on the course
module _ (old new : CourseView) (found : Option (Bor Entry × Bor Row)) (finds : Finds old found new) where
  module _ (entry : Bor Entry) (row : Bor Row) (is : found ≡ Some (entry, row)) where
    some_found : (key : List ℕ) (given : Bool) → IsWalk (walk_of old key given) → FindsEntry (walk_of old key given) (Some (entry, row)) (walk_of new key given)
    some_found key given stands = subst (λ (o : Option (Bor Entry × Bor Row)). FindsEntry (walk_of old key given) o (walk_of new key given)) is (finds key given stands)

    pub found_row : IsOnCourse old → IsSome (entry_row entry.now)
    found_row (key, given, stands) =
        let (before, on, past) = some_found key given stands in
        has_row (walk_of old key given) before (walk_of new key given) entry.now row.now on past

    pub found_key : IsOnCourse old → (path : List Stop) → path ≡ new.path → HoldsKey (prefix_of path) entry.now
    found_key (key, given, stands) path same =
        let (before, on, past) = some_found key given stands in
        subst (λ (stops : List Stop). HoldsKey (prefix_of stops) entry.now) (sym same)
        (has_key (walk_of old key given) before (walk_of new key given) entry.now row.now on past)

    pub found_past : (key : List ℕ) (given : Bool) → IsWalk (walk_of old key given) → (path : List Stop) → path ≡ new.path → (bytes more : List ℕ) (spells : Spells bytes path entry.now more)
        → StandsOn (walk_of old key given) (walk_of new spells.0 true) × GivesRow (walk_of old key given) (Some row.now) (walk_of new spells.0 true)
    found_past key given stands path same bytes more spells =
        let (before, on, past) = some_found key given stands in
        is_past (walk_of old key given) before (walk_of new key given) entry.now row.now on past spells.0
        (subst (λ (stops : List Stop). place_of spells.0 ≡ under (prefix_of stops) (entry_place entry.now)) same spells.2) spells.3 spells.4

  pub none_found : found ≡ None → (key : List ℕ) (given : Bool) → IsWalk (walk_of old key given) → StandsOn (walk_of old key given) (walk_of new key given) × GivesRow (walk_of old key given) None (walk_of new key given)
  none_found is key given stands = subst (λ (o : Option (Bor Entry × Bor Row)). FindsEntry (walk_of old key given) o (walk_of new key given)) is (finds key given stands)
