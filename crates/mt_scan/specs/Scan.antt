-- A scan as contracts see it, and what its visit of a border comes to.
use Rattle.std.specs.Prelude.{ℕ, ◌≡◌, ◌≤◌, ◌⊎◌, List, [], ◌∷◌, ◌++◌, length, All, IsSome, Some}
use Rattle.mt_types.specs.Rows.{shown}
use Rattle.mt_types.specs.declared.limits.TheConstants.{MAX_KEY_BYTES}
use Rattle.mt_types.specs.declared.row.Row.{Row}
use Rattle.mt_slice.specs.Place.{Place, Precedes, under, AreBytes, place_of}
use Rattle.mt_border.specs.Entry.{entry_row}
use Rattle.mt_border.specs.declared.entry.Entry.{Entry}
use Rattle.mt_chart.specs.Tree.{Among}
use Rattle.mt_chart.specs.Scan.{Pair, Rising, UpTo, VisitOutcome, answers, goes, BorderVisit}
use Rattle.mt_chart.specs.KeyAnswer.{as_places, KeysAreBytes}
use Rattle.mt_tree.specs.Seen.{entry_place}
use Rattle.mt_scan.specs.Listed.{ListView, list_entries, list_right}
use Rattle.mt_scan.specs.declared.scan.ScanMove.{ScanMove}
use Rattle.mt_scan.specs.declared.scan.ScanMove.TheVariants.{Done, To, Top}

pub record ScanView : Type 0 where
  pub prefix : List ℕ  -- the slices above the layer in which it stands, the nearest first
  pub at : Place  -- its cursor, as a place of that layer
  pub taken : List (List ℕ × Row)  -- the pairs that it has taken, in their order
  pub limit : ℕ  -- how many it may take
  pub asked : List ℕ  -- the columns that it shows of each row, or none for all

-- the pairs are no more than the limit, and their keys are bytes and rise
pub record IsScan (s : ScanView) : Type 0 where
  pub few : length s.taken ≤ s.limit
  pub bytes : KeysAreBytes s.taken
  pub rises : Rising (as_places s.taken)

-- the entry's row is that of a key under the prefix
pub record HoldsKey (prefix : List ℕ) (entry : Entry) : Type 0 where
  pub key : List ℕ
  pub bytes : AreBytes key
  pub fits : length key ≤ MAX_KEY_BYTES
  pub place : place_of key ≡ under prefix (entry_place entry)

-- each row of these entries is that of a key under the prefix
pub record HoldsKeys (prefix : List ℕ) (live : List Entry) : Type 0 where
  pub each : All (λ entry. IsSome (entry_row entry) → HoldsKey prefix entry) live

-- what a visit comes to, if it leaves the scan so
abbrev pub outcome_of : ScanMove → ScanView → VisitOutcome Row
outcome_of Done s = answers (as_places s.taken)
outcome_of (To node) s = goes s.prefix node.0 s.at (as_places s.taken)
outcome_of Top s = goes [] 0 s.at (as_places s.taken)

-- the visit of a list of entries by a scan, which leaves it so
abbrev pub VisitsList : ScanView → ListView → ScanMove → ScanView → Type 0
VisitsList s list visited t =
    BorderVisit (shown s.asked) s.limit s.prefix s.at (list_right list) (list_entries list) (as_places s.taken)
    (outcome_of visited t)

-- the key was taken, or one after it
abbrev pub WasTaken : ScanView → Place → Type 0
WasTaken s key = UpTo key (as_places s.taken)

-- the key is after all that were taken
abbrev pub IsNext : ScanView → Place → Type 0
IsNext s key = (pair : Pair Row) → Among pair (as_places s.taken) → Precedes pair.key key

-- the scan with one pair more
abbrev pub with_pair : ScanView → List ℕ → Row → ScanView
with_pair s key row = record s { taken = s.taken ++ (key, shown s.asked row) ∷ [] }

-- the scan takes the entry's pair, or passes it if it is not after those that it took
abbrev pub TakesPair : ScanView → Entry → ScanView → Type 0
TakesPair s entry t =
    (WasTaken s (under s.prefix (entry_place entry)) × (t ≡ s))
    ⊎ ((key : List ℕ) × (row : Row) × (entry_row entry ≡ Some row) × (place_of key ≡ under s.prefix (entry_place entry))
    × IsNext s (place_of key)
    × (t ≡ with_pair s key row))
