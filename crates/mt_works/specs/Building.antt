-- A build as a call: what it asks for, what is true of it while it scans the tree, and what its steps do.
use Rattle.std.specs.Prelude.{ℕ, ◌≡◌, ◌≤◌, ◌<◌, ◌+◌, ◌^◌, ◌⊎◌, List, [], ◌∷◌, length, Option, Some, None}
use Rattle.mt_types.specs.declared.row.Delta.{Delta}
use Rattle.mt_types.specs.declared.refusal.Refusal.TheVariants.{NoMemory}
use Rattle.mt_types.specs.declared.event.Request.{Request}
use Rattle.mt_types.specs.declared.event.Request.TheVariants.{Build as BuildRequest}
use Rattle.mt_commit.specs.Log.{LogView, newest, delta_of}
use Rattle.mt_types.specs.Rows.{shown}
use Rattle.mt_slice.specs.Place.{first_slice, under}
use Rattle.mt_word.specs.declared.permutation_word.TheConstants.{SLOTS}
use Rattle.mt_arena.specs.declared.part.Part.{Part}
use Rattle.mt_arena.specs.Arena.{ArenaView}
use Rattle.mt_chart.specs.Tree.{Arena}
use Rattle.mt_tree.specs.Seen.{arena_seen}
use Rattle.mt_view.specs.State.{StateView, applied}
use Rattle.mt_scan.specs.Listed.{ListView, list_of}
use Rattle.mt_scan.specs.Onward.{GoesFrom, GoesOnward, all_cursors, cursor_of}
use Rattle.mt_scan.specs.Scan.{HoldsKeys}
use Rattle.mt_scan.specs.declared.scan.ScanMove.{ScanMove}
use Rattle.mt_scan.specs.declared.scan.ScanMove.TheVariants.{Done as VisitDone, To as VisitTo, Top as VisitTop}
use Rattle.mt_works.specs.Build.{BuildView, build_cursor, IsScanning, HasScanned, VisitsOn}
use Rattle.mt_steps.specs.Reader.{wants}
use Rattle.mt_steps.specs.declared.progress.Progress.{Progress}
use Rattle.mt_steps.specs.declared.progress.Progress.TheVariants.{Moved, Waits, Refused}
use Rattle.mt_steps.specs.Listing.{Listing}
use Rattle.mt_steps.specs.declared.reader.Reader.TheVariants.{Begins}
use Rattle.mt_steps.specs.Listing.{ListReading}
use Rattle.mt_steps.specs.declared.reader.Reading.TheVariants.{Restarts, Repeats, GoesOn as ReadsOn, To as ReadTo, Finds}
use Rattle.mt_steps.specs.World.{World, IsWorld, AreOfKeys}
use Rattle.mt_steps.specs.Standing.{Lends}
use Rattle.mt_steps.specs.Listing.{list_reading, ListingIsTrue, WaitsForField}
use Rattle.mt_steps.specs.Way.{start}
use Rattle.mt_steps.specs.Causes.{ReadFails, KeepsSlot}
use Rattle.mt_steps.specs.Step.{StepLaw, nothing}
use Rattle.mt_works.specs.declared.building.Building.{Building}

abbrev pub building_request : Building → Request
building_request building = BuildRequest building.build.state.spec

-- while it scans, it holds the node where it stands, and has read all before its cursor, by the arenas of its moments,
-- whose rows are those of keys; and how far it has read that node is true
pub record ScanIsTrue (build : BuildView) (number : ℕ) (listing : Listing) (begun : ℕ) (past : List Arena) (a : ArenaView)
    (w : World) : Type 0 where
  pub scans : IsScanning w.chart begun (arena_seen a ∷ past) number build
  pub keys : AreOfKeys (arena_seen a ∷ past)
  pub reads : ListingIsTrue (shown []) build.prefix (first_slice build.at) number listing begun (arena_seen a ∷ past) a w

-- once it has scanned all, nothing is said of the tree any more
abbrev pub ScansOn : Option ℕ → BuildView → ℕ → Listing → ℕ → List Arena → ArenaView → World → Type 0
ScansOn None build number listing begun past a w = ScanIsTrue build number listing begun past a w
ScansOn (Some upto) build number listing begun past a w = Unit {0}

abbrev pub BuildingIsTrue : Building → ℕ → ℕ → List Arena → ArenaView → World → Type 0
BuildingIsTrue building begun moves past a w =
    ScansOn building.upto building.build building.node.0 building.listing begun past a w

-- it has taken each delta that it was to take
abbrev pub IsUpTo : Option ℕ → ℕ → Type 0
IsUpTo None at = ⊥
IsUpTo (Some upto) at = at ≡ upto

abbrev pub IsBuilt : Building → Type 0
IsBuilt building = IsUpTo building.upto building.build.state.at

-- the delta that it is to take next is one of the log's
abbrev pub IsInLog : LogView → ℕ → Option ℕ → Type 0
IsInLog log at None = Unit {0}
IsInLog log at (Some upto) = (log.held_after ≤ at) × (at < newest log)

-- of its view the scan changes the rows alone
abbrev pub KeepsView : StateView → StateView → Type 0
KeepsView old new = new ≡ record old { rows = new.rows }

-- the scan has read each key of the view, by the arenas of its moments, in every world in which it was true
abbrev pub ScansAll : ArenaView → BuildView → ℕ → Listing → BuildView → Type 0
ScansAll a old number listing new =
    (now begun : ℕ) (past : List Arena) (w : World) → IsWorld a now w → ScanIsTrue old number listing begun past a w
    → HasScanned (arena_seen a ∷ past) new

-- the state has taken the next delta of the log
pub record TakesNext (log : LogView) (old new : StateView) : Type 0 where
  pub delta : Delta
  pub is_next : delta_of log (old.at + 1) ≡ Some delta
  pub taken : new ≡ applied delta old

-- A step of a build that continues: it scans; or its scan ends, and it is to take the deltas up to that of the newest
-- commit; or it takes the next of them.
abbrev pub GoesOn : ArenaView → LogView → Option ℕ → BuildView → ℕ → Listing → Option ℕ → BuildView → Type 0
GoesOn a log None old number listing None new = KeepsView old.state new.state
GoesOn a log None old number listing (Some upto) new = (upto ≡ newest log) × KeepsView old.state new.state
    × ScansAll a old number listing new
GoesOn a log (Some upto) old number listing then new = (then ≡ Some upto) × TakesNext log old.state new.state

abbrev pub BuildsOn : ArenaView → LogView → Building → Progress → Building → Type 0
BuildsOn a log old (Refused refusal) new = Unit {0}
BuildsOn a log old p new = GoesOn a log old.upto old.build old.node.0 old.listing new.upto new.build

-- its scan is taken back to the head of layer 0, with its cursor as it was
abbrev pub resumed : BuildView → BuildView
resumed build = record build { prefix = []; at = under build.prefix build.at }

-- its scan has visited what it has read of a border, and comes to this
abbrev pub ListEnds : LogView → Building → BuildView → ScanMove → Building → Type 0
ListEnds log old view (VisitTo next) new = new ≡ record old { build = view; node = next }
ListEnds log old view VisitTop new = new ≡ record old { build = view; node = start.node }
ListEnds log old view VisitDone new = new ≡ record old { build = view; upto = Some (newest log) }

pub record BuildLists (log : LogView) (old : Building) (list : ListView) (new : Building) : Type 0 where
  pub visited : ScanMove
  pub view : BuildView
  pub visits : VisitsOn old.build list visited view
  pub keeps : KeepsView old.build.state view.state
  pub leads : GoesFrom list visited
  pub onward : GoesOnward (build_cursor old.build) list visited (build_cursor view)
  pub within : (places : ℕ) → cursor_of places (build_cursor old.build) < all_cursors places
  pub ends : ListEnds log old view visited new

-- what it does by a reading
abbrev pub BuildDoes : LogView → Building → ListReading → Progress → Building → Type 0
BuildDoes log old Restarts p new = (p ≡ Waits) × (new ≡ record old { build = resumed old.build; node = start.node })
BuildDoes log old Repeats p new = (p ≡ Waits) × (new ≡ old)
BuildDoes log old (ReadsOn next) p new = (p ≡ Moved) × (new ≡ record old { listing = next })
BuildDoes log old (ReadTo node) p new = (p ≡ Moved) × (new ≡ record old { node = node })
BuildDoes log old (Finds listed) p new = (p ≡ Refused NoMemory)
    ⊎ ((p ≡ Moved) × BuildLists log old (list_of listed.entries listed.right) new)

-- what a scan may visit of a reading: few entries, whose rows are those of keys
abbrev pub MayScan : List ℕ → ListReading → Type 0
MayScan prefix (Finds listed) = HoldsKeys prefix listed.entries × (length listed.entries ≤ SLOTS)
MayScan prefix _ = Unit {0}

-- it has read nothing of the node at which it is
abbrev pub unread : Building → Building
unread building = record building { listing = Begins }

-- WHILE IT SCANS, A STEP READS ONE FIELD of one border, or visits one head or interior, on its way to a slice of 64 bits:
-- it is lent that, and does what follows from it; or it is out of memory, at a field that takes some
pub record BuildReads (a : ArenaView) (log : LogView) (old : Building) (p : Progress) (new : Building) : Type 0 where
  pub part : Part
  pub fits : first_slice old.build.at < 2 ^ 64
  pub lent : Lends a old.node.0 (wants old.listing) part
  pub does : ((p ≡ Refused NoMemory) × KeepsSlot old.listing)
      ⊎ BuildDoes log (unread old) (list_reading old.listing (first_slice old.build.at) part) p new

-- then it takes a delta: its view is at the next commit
abbrev pub BuildTakes : ℕ → Building → Progress → Building → Type 0
BuildTakes upto old Moved new = (new.upto ≡ Some upto) × (new.build.state.at ≡ old.build.state.at + 1)
BuildTakes upto old _ new = Unit {0}

abbrev pub FollowsBy : ArenaView → LogView → Option ℕ → Building → Progress → Building → Type 0
FollowsBy a log None old p new = BuildReads a log old p new
FollowsBy a log (Some upto) old p new = BuildTakes upto old p new

abbrev pub BuildFollows : ArenaView → LogView → Building → Progress → Building → Type 0
BuildFollows a log old p new = FollowsBy a log old.upto old p new

-- its step is the law's, whatever the tree has: it changes neither the tree nor the log
abbrev pub BuildingLaw : ℕ → ArenaView → LogView → Building → Progress → Building → Type 0
BuildingLaw C a log old p new =
    StepLaw C a a log log (building_request old) nothing p nothing (BuildingIsTrue old) (BuildingIsTrue new)

-- it waits only while it scans, for what it has read of a border
abbrev pub WaitsBy : ArenaView → ℕ → Listing → Option ℕ → Progress → Type 0
WaitsBy a number listing None p = WaitsForField a number listing p
WaitsBy a number listing (Some upto) Waits = ⊥
WaitsBy a number listing (Some upto) _ = Unit {0}

abbrev pub BuildWaits : ArenaView → Building → Progress → Type 0
BuildWaits a building p = WaitsBy a building.node.0 building.listing building.upto p

abbrev pub OnlyForMemory : Progress → Type 0
OnlyForMemory (Refused refusal) = refusal ≡ NoMemory
OnlyForMemory p = Unit {0}

-- it is refused only if out of memory: at a border, or for the row of a delta
abbrev pub FailsAt : ArenaView → ℕ → Option ℕ → Progress → Type 0
FailsAt a number None p = ReadFails a number p
FailsAt a number (Some upto) p = OnlyForMemory p

abbrev pub BuildFails : ArenaView → Building → Progress → Type 0
BuildFails a building p = FailsAt a building.node.0 building.upto p
