-- What a posting that runs alone may do, and the measure by which it ends: a stack of postings, the innermost first,
-- since an interior that is full is split, and its new half is posted in turn; and the numbers that are free.
use Rattle.std.specs.Prelude.{ℕ, suc, ◌≡◌, ◌<◌, ◌≤◌, ◌+◌, ◌*◌, List, [], ◌∷◌}

-- The state of one posting of the stack: it is at a node that is the given number of kinds above a border (a head 16,
-- one marked deleted 17); or it is making a new root, with the given number of steps left of three; or it is in a step
-- of an interior's split. Late: the head's root is no longer the one that was seen, as others may have left it before
-- the call was alone.
pub data Frame : Type 0 where
  walks : ℕ → Frame
  makes_root : ℕ → Frame
  late_spare : Frame
  late_fill : Frame
  late_name : Frame
  late_back : Frame
  wants_spare : Frame
  lets_go : Frame
  fills : Frame
  waits : Frame
  gives_back : Frame
  unlocks : Frame
  cuts : Frame
  goes_again : Frame

-- what is left to do in one posting, at most
abbrev pub rank : Frame → ℕ
rank (walks steps) = 2 + steps
rank (makes_root steps) = steps
rank late_spare = 22
rank late_fill = 85
rank late_name = 84
rank late_back = 83
rank wants_spare = 2
rank lets_go = 1
rank fills = 41
rank waits = 22
rank gives_back = 2
rank unlocks = 1
rank cuts = 21
rank goes_again = 20

-- the sum over the stack
abbrev pub ranks : List Frame → ℕ
ranks [] = 0
ranks (frame ∷ waiting) = rank frame + ranks waiting

-- what the free numbers are worth: nothing once the innermost posting is being left out
abbrev pub worth : ℕ → List Frame → ℕ
worth free [] = 0
worth free (lets_go ∷ waiting) = 0
worth free (gives_back ∷ waiting) = 0
worth free (unlocks ∷ waiting) = 0
worth free (walks steps ∷ waiting) = 64 * free
worth free (makes_root steps ∷ waiting) = 64 * free
worth free (late_spare ∷ waiting) = 64 * free
worth free (late_fill ∷ waiting) = 64 * free
worth free (late_name ∷ waiting) = 64 * free
worth free (late_back ∷ waiting) = 64 * free
worth free (wants_spare ∷ waiting) = 64 * free
worth free (fills ∷ waiting) = 64 * free
worth free (waits ∷ waiting) = 64 * free
worth free (cuts ∷ waiting) = 64 * free
worth free (goes_again ∷ waiting) = 64 * free

-- THE MEASURE of a posting, by the number of free numbers and the stack
abbrev pub posting_measure : ℕ → List Frame → ℕ
posting_measure free waiting = worth free waiting + ranks waiting

-- what a posting that was made makes of the frames that wait for it
abbrev pub once_posted : List Frame → List Frame
once_posted [] = []
once_posted (frame ∷ waiting) = cuts ∷ waiting

-- what it makes of them if the posting is left out: the innermost of them gives its spare number back
abbrev pub once_left_out : List Frame → List Frame
once_left_out [] = []
once_left_out (frame ∷ waiting) = gives_back ∷ waiting

-- all these frames wait
abbrev pub AllWait : List Frame → Type 0
AllWait [] = Unit {0}
AllWait (frame ∷ waiting) = (frame ≡ waits) × AllWait waiting

-- One step of a posting that runs alone, from a number of free numbers and a stack to others. The innermost posting is
-- the first.
pub data Posts : ℕ → List Frame → ℕ → List Frame → Type 0 where
  goes_down : {free fewer steps : ℕ} {waiting : List Frame} → fewer < steps →
      Posts free (walks steps ∷ waiting) free (walks fewer ∷ waiting)
  needs_root : {free steps : ℕ} {waiting : List Frame} → 16 ≤ steps →
      Posts free (walks steps ∷ waiting) free (makes_root 3 ∷ waiting)
  too_high : {free steps : ℕ} {waiting : List Frame} → Posts free (walks steps ∷ waiting) free (once_left_out waiting)
  is_put : {free steps : ℕ} {waiting : List Frame} → Posts free (walks steps ∷ waiting) free (once_posted waiting)
  is_full : {free steps : ℕ} {waiting : List Frame} → 1 ≤ steps →
      Posts free (walks steps ∷ waiting) free (wants_spare ∷ waiting)
  root_spare : {free : ℕ} {waiting : List Frame} → Posts (suc free)
      (makes_root 3 ∷ waiting) free (makes_root 2 ∷ waiting)
  root_refused : {free : ℕ} {waiting : List Frame} → Posts free (makes_root 3 ∷ waiting) free (once_left_out waiting)
  root_filled : {free : ℕ} {waiting : List Frame} → Posts free (makes_root 2 ∷ waiting) free (makes_root 1 ∷ waiting)
  root_named : {free : ℕ} {waiting : List Frame} → Posts free (makes_root 1 ∷ waiting) free (once_posted waiting)
  late_has : {free : ℕ} {waiting : List Frame} → Posts (suc free) (late_spare ∷ waiting) free (late_fill ∷ waiting)
  late_refused : {free : ℕ} {waiting : List Frame} → Posts free (late_spare ∷ waiting) free (once_left_out waiting)
  late_filled : {free : ℕ} {waiting : List Frame} → Posts free (late_fill ∷ waiting) free (late_name ∷ waiting)
  late_seen : {free : ℕ} {waiting : List Frame} → Posts free (late_name ∷ waiting) free (late_back ∷ waiting)
  late_begins_again : {free : ℕ} {waiting : List Frame} →
      Posts free (late_back ∷ waiting) (suc free) (walks 16 ∷ waiting)
  has_spare : {free : ℕ} {waiting : List Frame} → Posts (suc free) (wants_spare ∷ waiting) free (fills ∷ waiting)
  is_refused : {free : ℕ} {waiting : List Frame} → Posts free (wants_spare ∷ waiting) free (lets_go ∷ waiting)
  has_unlocked : {free : ℕ} {waiting : List Frame} → Posts free (lets_go ∷ waiting) free (once_left_out waiting)
  nests : {free : ℕ} {waiting : List Frame} → Posts free (fills ∷ waiting) free (walks 16 ∷ waits ∷ waiting)
  is_back : {free : ℕ} {waiting : List Frame} → Posts free (gives_back ∷ waiting) (suc free) (unlocks ∷ waiting)
  ends_so : {free : ℕ} {waiting : List Frame} → Posts free (unlocks ∷ waiting) free (once_left_out waiting)
  has_cut : {free : ℕ} {waiting : List Frame} → Posts free (cuts ∷ waiting) free (goes_again ∷ waiting)
  from_head : {free : ℕ} {waiting : List Frame} → Posts free (goes_again ∷ waiting) free (walks 16 ∷ waiting)
