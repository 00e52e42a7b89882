-- The laws of scans, for ranges and for reading a whole view, among any other calls.
use Rattle.std.specs.Prelude.{ℕ, ◌≡◌, ◌≤◌, List, ◌∷◌, Option, Some, length, false}
use Rattle.mt_slice.specs.Place.{Place, AreBytes, place_of, first_slice}
use Rattle.mt_types.specs.declared.row.Row.{Row}
use Rattle.mt_chart.specs.Tree.{PlainEntry, Right, BorderNode, border, Arena, Below}
use Rattle.mt_chart.specs.Chart.{Chart, IsTree}
use Rattle.mt_chart.specs.Scan.{Pair, answers, VisitOutcome, BorderVisit, AnswersRange, OpenRange}
use Rattle.mt_chart.specs.ScanRun.{Stood, AllHave, EntriesInOrder, Scans, Steady, Never}
use Rattle.mt_types.specs.Ranges.{IsRangeAnswer}
use Rattle.mt_chart.specs.KeyAnswer.{as_places, KeysAreBytes}

-- at each moment of a scan the invariant holds, and all before its cursor is done
abbrev pub ScansStayOpen : Type 0
ScansStayOpen = (show : Row → Row) (begun : ℕ) (start : Place) (limit : ℕ) (chart : Chart) (arena : Arena)
    (past : List Arena) (prefix : List ℕ) (number : ℕ) (at : Place) (taken : List (Pair Row)) →
    Scans show begun start limit chart arena past prefix number at taken → IsTree arena chart
    × OpenRange chart begun (Stood show (arena ∷ past)) (AllHave (arena ∷ past)) start limit prefix number at taken

-- THE ANSWER OF A SCAN IS RIGHT IN FULL, whatever other calls did while it was open
abbrev pub ScansAnswerRightly : Type 0
ScansAnswerRightly = (show : Row → Row) (begun : ℕ) (start : Place) (limit : ℕ) (chart : Chart) (arena : Arena)
    (past : List Arena) (prefix : List ℕ) (number : ℕ) (at : Place) (taken given : List (Pair Row)) →
    Scans show begun start limit chart arena past prefix number at taken → (node : BorderNode) →
    arena number ≡ Some (border node) → node.deleted ≡ false → EntriesInOrder node.entries →
    Below (first_slice at) node.right →
    BorderVisit show limit prefix at node.right node.entries taken (answers given) →
    AnswersRange (Stood show (arena ∷ past)) (AllHave (arena ∷ past)) start limit given

-- the visit of a border has an outcome
abbrev pub VisitsHaveOutcomes : Type 0
VisitsHaveOutcomes = (show : Row → Row) (limit : ℕ) (prefix : List ℕ) (at : Place) (right : Option Right)
    (entries : List PlainEntry) (taken : List (Pair Row)) → length taken ≤ limit →
    (outcome : VisitOutcome Row) × BorderVisit show limit prefix at right entries taken outcome

-- a right answer by places is a right answer by keys, of bytes
abbrev pub AnswersAreOfKeys : Type 0
AnswersAreOfKeys = (show : Row → Row) (past : List Arena) (start : List ℕ) (limit : ℕ) (pairs : List (List ℕ × Row)) →
    AreBytes start → KeysAreBytes pairs →
    AnswersRange (Stood show past) (AllHave past) (place_of start) limit (as_places pairs) →
    IsRangeAnswer (λ key row. Stood show past (place_of key) row)
    (λ key. AreBytes key × AllHave past (place_of key)) start limit pairs

-- what a scan reads of a key whose row nobody changed is that row
abbrev pub SteadyRowsAreRead : Type 0
SteadyRowsAreRead = (show : Row → Row) (past : List Arena) (key : Place) (row read : Row) → Stood show past key read →
    Steady past key row → read ≡ show row

-- a scan reads nothing of a key that never had a row
abbrev pub NothingElseIsRead : Type 0
NothingElseIsRead = (show : Row → Row) (past : List Arena) (key : Place) (read : Row) → Stood show past key read →
    Never past key → ⊥
