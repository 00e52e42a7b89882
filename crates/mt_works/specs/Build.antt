-- A build as contracts see it, and what is true of it while it scans the tree among any other calls.
use Rattle.std.specs.Prelude.{ℕ, ◌≡◌, ◌≤◌, ◌↔◌, IsTrue, List, [], ◌∷◌, Some, IsSome}
use Rattle.std.specs.FinMap.{get}
use Rattle.mt_types.specs.Rows.{Rows, shown}
use Rattle.mt_types.specs.declared.row.Row.{Row}
use Rattle.mt_types.specs.declared.view.ViewSpec.{ViewSpec}
use Rattle.mt_types.specs.declared.view.ViewSpec.TheVariants.{Range, Prefix}
use Rattle.mt_slice.specs.Place.{Place, Precedes, AreBytes, first_slice, place_of, under}
use Rattle.mt_chart.specs.Tree.{Arena, Below, Has}
use Rattle.mt_chart.specs.Chart.{Chart, Holds}
use Rattle.mt_chart.specs.ScanRun.{Stood, AllHave, EntriesInOrder}
use Rattle.mt_chart.specs.NotedList.{IsNotedList}
use Rattle.mt_scan.specs.Cursor.{CursorView}
use Rattle.mt_scan.specs.Listed.{ListView, list_entries, list_right}
use Rattle.mt_scan.specs.declared.scan.ScanMove.{ScanMove}
use Rattle.mt_scan.specs.declared.scan.ScanMove.TheVariants.{Done, To, Top}
use Rattle.mt_view.specs.State.{StateView, IsAfresh}
use Rattle.mt_works.specs.History.{is_within}

pub record BuildView : Type 0 where
  pub prefix : List ℕ  -- the slices above the layer in which its scan stands, the nearest first
  pub at : Place  -- the cursor of its scan, as a place of that layer
  pub state : StateView  -- the state of the view so far

-- the cursor of its scan
abbrev pub build_cursor : BuildView → CursorView
build_cursor build = record { prefix = build.prefix; at = build.at }

-- the first key that a view may have
abbrev pub first_key : ViewSpec → List ℕ
first_key (Range lo hi test) = lo
first_key (Prefix prefix test) = prefix

-- What was read of the keys that are done, if the tree was these arenas, newest first: the state is afresh for rows
-- that were there at some moment, with one of each of those keys of the view that had a row throughout.
pub record HasRead (arenas : List Arena) (Done : Place → Type 0) (state : StateView) : Type 0 where
  pub read : Rows
  pub afresh : IsAfresh state read
  pub stood : (key : List ℕ) (row : Row) → get read key ≡ Some row
      → AreBytes key × Stood (shown []) arenas (place_of key) row
  pub covered : (key : List ℕ) → AreBytes key → IsTrue (is_within state.spec key) → Done (place_of key)
      → AllHave arenas (place_of key) → IsSome (get read key)

-- a build that began in the epoch holds the node for its cursor, and has read all before it
pub record IsScanning (chart : Chart) (begun : ℕ) (arenas : List Arena) (number : ℕ) (build : BuildView) : Type 0 where
  pub held : Holds chart begun number build.prefix (first_slice build.at)
  pub read : HasRead arenas (λ key. Precedes key (under build.prefix build.at)) build.state

-- its scan has read each key of the view
abbrev pub HasScanned : List Arena → BuildView → Type 0
HasScanned arenas build = HasRead arenas (λ key. Unit {0}) build.state

-- its cursor is after each key of the view
abbrev pub IsBehindAll : BuildView → Type 0
IsBehindAll build =
    (key : List ℕ) → AreBytes key → IsTrue (is_within build.state.spec key)
    → Precedes (place_of key) (under build.prefix build.at)

-- what is true after a visit that comes to this
abbrev pub ComesTo : Chart → ℕ → List Arena → ScanMove → BuildView → Type 0
ComesTo chart begun arenas (To next) build = IsScanning chart begun arenas next.0 build
ComesTo chart begun arenas Top build = IsScanning chart begun arenas 0 build
ComesTo chart begun arenas Done build = HasScanned arenas build

-- The visit of a list of entries by a build: wherever they are what was noted of a border, in whose interval its
-- cursor's slice is, it scans on from where the visit comes to, or has scanned all.
pub record VisitsOn (old : BuildView) (list : ListView) (visited : ScanMove) (new : BuildView) : Type 0 where
  pub comes : (chart : Chart) (begun number low : ℕ) (arenas : List Arena) → ((slice : ℕ) → Holds chart begun 0 [] slice)
      → IsNotedList (shown []) chart begun (Stood (shown []) arenas) (AllHave arenas) old.prefix low (list_right list)
      (list_entries list) → EntriesInOrder (list_entries list)
      → low ≤ first_slice old.at → Below (first_slice old.at) (list_right list)
      → IsScanning chart begun arenas number old → ComesTo chart begun arenas visited new

-- the tree of an arena has exactly these rows
pub record HasRows (arena : Arena) (rows : Rows) : Type 0 where
  pub each : (key : List ℕ) (row : Row)
      → (get rows key ≡ Some row) ↔ (AreBytes key × Has arena (place_of key) row)

-- the tree had these rows, moment by moment
abbrev pub HadRows : List Arena → List Rows → Type 0
HadRows [] [] = Unit {0}
HadRows (arena ∷ arenas) (rows ∷ moments) = HasRows arena rows × HadRows arenas moments
HadRows [] (rows ∷ moments) = ⊥
HadRows (arena ∷ arenas) [] = ⊥
