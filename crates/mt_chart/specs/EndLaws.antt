-- The laws by which a call ends: each move of a descent advances in one order of places, and a call alone has a measure
-- that falls.
use Rattle.std.specs.Prelude.{ℕ, ◌≡◌, ◌<◌, ◌≤◌, ◌+◌, ◌*◌, ◌^◌, List, [], ◌∷◌, length, Some}
use Rattle.mt_types.specs.declared.limits.TheConstants.{MAX_LAYER}
use Rattle.mt_chart.specs.Tree.{Arena, Among}
use Rattle.mt_chart.specs.Chart.{Role, Spot, Chart, IsTree, Dated}
use Rattle.mt_chart.specs.Walk.{height, all_heights, moves_left, KnownAt, Bounded, Moves, Higher, Trail, Lone, IsOn}
use Rattle.mt_chart.specs.Posting.{Frame, AllWait, Posts, posting_measure}
use Rattle.mt_chart.specs.CursorNumber.{AreDigits, digit_base, digits_above, cursor_number}

-- each move goes to a node of a greater height, of which the call knows as much
abbrev pub MovesGoOn : Type 0
MovesGoOn = (arena : Arena) (chart : Chart) → IsTree arena chart → (begun number next reached : ℕ) →
    KnownAt chart begun number reached → Moves arena number next → Higher chart begun next reached

-- with each move of a call what is left falls
abbrev pub MovesLeftFall : Type 0
MovesLeftFall = (arena : Arena) (chart : Chart) → IsTree arena chart → (begun number next reached : ℕ) →
    KnownAt chart begun number reached → reached < all_heights → Moves arena number next →
    (further : ℕ) × KnownAt chart begun next further × (moves_left further < moves_left reached)

-- a place in at most `MAX_LAYER + 1` layers has a height below all heights
abbrev pub HeightsAreBounded : Type 0
HeightsAreBounded = (role : Role) (prefix : List ℕ) (low : ℕ) → length prefix ≤ MAX_LAYER → low < 2 ^ 64 →
    height role prefix low < all_heights

-- a run of moves of a get, among any other calls, is shorter than the bound on the numbers
abbrev pub RunsAreBounded : Type 0
RunsAreBounded = (begun bound number moves : ℕ) (chart : Chart) → Bounded chart bound → Trail begun chart number moves →
    moves < bound

-- a get alone ends in no more steps than there are nodes
abbrev pub LoneGetsEnd : Type 0
LoneGetsEnd = (arena : Arena) (chart : Chart) (nodes : List ℕ) → IsTree arena chart →
    ((number : ℕ) (place : Spot) → chart number ≡ Some place → Among number nodes) → (number moves : ℕ) →
    Lone arena number moves → moves + 1 ≤ length nodes

-- a call alone stays on nodes that are on
abbrev pub LoneCallsStayOn : Type 0
LoneCallsStayOn = (arena : Arena) (chart : Chart) → IsTree arena chart → (now number next : ℕ) → Dated chart now →
    IsOn chart number → Moves arena number next → IsOn chart next

-- each step of a posting that runs alone lowers its measure
abbrev pub PostingsEnd : Type 0
PostingsEnd = (free free_after : ℕ) (frame : Frame) (waiting after : List Frame) → AllWait waiting →
    Posts free (frame ∷ waiting) free_after after →
    posting_measure free_after after < posting_measure free (frame ∷ waiting)

-- the cursor's number grows when a scan, with its cursor at or after the slice, leaves a border by a right link of a
-- greater low
abbrev pub CursorsGoRight : Type 0
CursorsGoRight = (prefix digits : List ℕ) (digit slice low : ℕ) → length prefix ≤ MAX_LAYER
    → AreDigits digit_base digits →
    digit ≤ 2 * slice + 1 → slice < low →
    cursor_number (digits_above prefix (digit ∷ digits)) < cursor_number (digits_above prefix ((2 * low) ∷ []))

-- the cursor's number grows when a scan leaves the layer of a slice
abbrev pub CursorsLeaveLayers : Type 0
CursorsLeaveLayers = (prefix digits : List ℕ) (slice : ℕ) → length prefix ≤ MAX_LAYER → AreDigits digit_base digits →
    cursor_number (digits_above (slice ∷ prefix) digits) < cursor_number (digits_above prefix ((2 * slice + 1) ∷ []))
