-- What is true of a range.
use Rattle.std.specs.Prelude.{ℕ, ◌≡◌, ◌<◌, ◌⊎◌, ◌^◌, List, [], ◌∷◌, length, Some, false}
use Rattle.mt_types.specs.declared.refusal.Refusal.TheVariants.{NoMemory}
use Rattle.mt_types.specs.Rows.{shown}
use Rattle.mt_types.specs.declared.event.Answer.TheVariants.{Rows}
use Rattle.mt_types.specs.declared.event.Request.{Request}
use Rattle.mt_types.specs.declared.event.Request.TheVariants.{Range as RangeRequest}
use Rattle.mt_slice.specs.Place.{AreBytes, place_of, first_slice, under}
use Rattle.mt_border.specs.Border.{BorderView}
use Rattle.mt_arena.specs.Node.{border_at}
use Rattle.mt_arena.specs.declared.part.Part.{Part}
use Rattle.mt_arena.specs.declared.node.Node.{Node}
use Rattle.mt_arena.specs.Arena.{ArenaView, IsArena}
use Rattle.mt_chart.specs.Tree.{Arena, Below}
use Rattle.mt_chart.specs.Chart.{Chart, Holds}
use Rattle.mt_chart.specs.Steps.{Twin}
use Rattle.mt_chart.specs.Scan.{OpenRange}
use Rattle.mt_chart.specs.ScanRun.{Stood, AllHave}
use Rattle.mt_chart.specs.KeyAnswer.{as_places, KeysAreBytes}
use Rattle.mt_chart.specs.Walk.{Moves}
use Rattle.mt_tree.specs.Seen.{arena_seen, border_seen}
use Rattle.mt_tree.specs.Keeping.{IsIndexAt}
use Rattle.mt_scan.specs.Cursor.{CursorView}
use Rattle.mt_scan.specs.Onward.{cursor_in, cursor_of, all_cursors, GetsOn, GoesOnward}
use Rattle.mt_scan.specs.declared.scan.ScanMove.{ScanMove}
use Rattle.mt_scan.specs.declared.scan.ScanMove.TheVariants.{To as VisitedTo, Top as VisitedTop, Done as VisitDone}
use Rattle.mt_scan.specs.Listed.{ListView, list_of}
use Rattle.mt_scan.specs.Scan.{ScanView, HoldsKeys, VisitsList}
use Rattle.mt_steps.specs.declared.progress.Progress.{Progress}
use Rattle.mt_steps.specs.declared.progress.Progress.TheVariants.{Moved, Waits, Answered, Refused}
use Rattle.mt_steps.specs.declared.reader.Reader.TheVariants.{Begins}
use Rattle.mt_steps.specs.declared.reader.Reading.TheVariants.{Restarts, Repeats, GoesOn, To as ReadTo, Finds}
use Rattle.mt_steps.specs.declared.ranging.Range.{Range}
use Rattle.mt_tree.specs.declared.visit.Visit.{Visit}
use Rattle.mt_tree.specs.declared.visit.Visit.TheVariants.{Again as VisitAgain, To as VisitTo, Below as VisitBelow, Here as VisitHere}
use Rattle.mt_steps.specs.Causes.{KeepsSlot}
use Rattle.mt_steps.specs.Way.{start, Names}
use Rattle.mt_steps.specs.Standing.{Lends}
use Rattle.mt_steps.specs.Reader.{wants}
use Rattle.mt_steps.specs.Listing.{ListReading, list_reading, WaitsForField, ListingIsTrue}
use Rattle.mt_steps.specs.World.{World, AreOfKeys}

abbrev pub range_request : Range → Request
range_request range = RangeRequest range.start range.limit range.columns

-- a range that began in the epoch holds the node at which it is, and all before its cursor is done, by the arenas of
-- its moments; and how far it has read that node is true
pub record RangeIsTrue (range : Range) (begun moves : ℕ) (past : List Arena) (a : ArenaView) (w : World) : Type 0 where
  pub bytes : AreBytes range.start
  pub limit : range.scan.limit ≡ range.limit
  pub asked : range.scan.asked ≡ range.columns
  pub scans : OpenRange w.chart begun (Stood (shown range.columns) (arena_seen a ∷ past))
      (AllHave (arena_seen a ∷ past)) (place_of range.start) range.limit
      range.scan.prefix range.node.0 range.scan.at (as_places range.scan.taken)
  pub keys : AreOfKeys (arena_seen a ∷ past)
  pub listing : ListingIsTrue (shown range.columns) range.scan.prefix (first_slice range.scan.at) range.node.0
      range.listing begun (arena_seen a ∷ past) a w

-- a call may hold the node for this slice
pub record IsHeldFor (a : ArenaView) (number slice : ℕ) : Type 0 where
  pub now : ℕ
  pub twins : List Twin
  pub chart : Chart
  pub begun : ℕ
  pub prefix : List ℕ
  pub index : IsIndexAt a now twins chart
  pub holds : Holds chart begun number prefix slice

-- the same of a node that it is lent alone
pub record IsHeldNode (node : Node) (slice : ℕ) : Type 0 where
  pub arena : ArenaView
  pub number : ℕ
  pub names : Names arena number node
  pub held : IsHeldFor arena number slice

-- the border is the one in whose interval the slice is, and is not marked deleted
pub record IsAtSlice (a : ArenaView) (number slice : ℕ) : Type 0 where
  pub border : BorderView
  pub named : border_at a.nodes number ≡ Some border
  pub alive : border.version.deleted ≡ false
  pub to_right : Below slice (border_seen border).right

abbrev pub KnowsOfSlice : ArenaView → Chart → ℕ → ℕ → List ℕ → ℕ → Visit → Type 0
KnowsOfSlice a chart begun number prefix slice VisitAgain = Unit {0}
KnowsOfSlice a chart begun number prefix slice (VisitTo next) = Holds chart begun next.0 prefix slice
KnowsOfSlice a chart begun number prefix slice (VisitBelow top) = ⊥
KnowsOfSlice a chart begun number prefix slice VisitHere = IsAtSlice a number slice

-- a call that holds the node for a slice knows this after the visit; no link leads further from a slice alone
pub record Seeks (a : ArenaView) (number slice : ℕ) (visit : Visit) : Type 0 where
  pub leads : (now : ℕ) (twins : List Twin) (chart : Chart) (begun : ℕ) (prefix : List ℕ) → IsIndexAt a now twins chart
      → Holds chart begun number prefix slice → KnowsOfSlice a chart begun number prefix slice visit

-- a scan with this cursor advances toward the border of its cursor's slice, which is of 64 bits
pub record SeeksOn (a : ArenaView) (number next : ℕ) (c : CursorView) : Type 0 where
  pub fits : first_slice c.at < 2 ^ 64
  pub moves : Moves (arena_seen a) number next

-- A scan has visited the border, and its cursor has advanced, by its number in each number of places that are more than
-- the layers above it. It goes where the border leads, or back to the head of layer 0. The arena is sound: so its tree
-- has few layers.
pub record ScansOn (a : ArenaView) (number next : ℕ) (c d : CursorView) : Type 0 where
  pub gets_on : (places : ℕ) → length c.prefix < places → GetsOn places c (VisitedTo (record { 0 = next })) d
  pub within : (places : ℕ) → cursor_of places c < all_cursors places
  pub leads : Moves (arena_seen a) number next ⊎ (next ≡ 0)
  pub sound : IsArena a

-- a scan has gone from one node to the next, its cursor as it was or further on
abbrev pub ScanGoes : ArenaView → ℕ → ℕ → CursorView → CursorView → Type 0
ScanGoes a number next c d = (SeeksOn a number next c × (d ≡ c)) ⊎ ScansOn a number next c d

-- a scan is taken back to the head of layer 0, with its cursor and its pairs as they were
abbrev pub restarted : ScanView → ScanView
restarted scan = record scan { prefix = []; at = under scan.prefix scan.at }

-- ---- one field a step
-- its scan has visited what it has read of a border, and comes to this
abbrev pub ScanEnds : Range → ScanView → ScanMove → Progress → Range → Type 0
ScanEnds range scan VisitDone p new = (p ≡ Answered (Rows scan.taken)) × KeysAreBytes scan.taken
ScanEnds range scan (VisitedTo next) p new = (p ≡ Moved) × (new ≡ record range { scan = scan; node = next })
ScanEnds range scan VisitedTop p new = (p ≡ Moved) × (new ≡ record range { scan = scan; node = start.node })

pub record RangeScans (range : Range) (list : ListView) (p : Progress) (new : Range) : Type 0 where
  pub visited : ScanMove
  pub scan : ScanView
  pub visits : VisitsList range.scan list visited scan
  pub limit : scan.limit ≡ range.scan.limit
  pub asked : scan.asked ≡ range.scan.asked
  pub home : visited ≡ VisitedTop → scan.prefix ≡ []
  pub onward : GoesOnward (cursor_in range.scan) list visited (cursor_in scan)
  pub within : (places : ℕ) → cursor_of places (cursor_in range.scan) < all_cursors places
  pub ends : ScanEnds range scan visited p new

-- what it does by a reading
abbrev pub RangeDoes : Range → ListReading → Progress → Range → Type 0
RangeDoes range Restarts p new = (p ≡ Waits) × (new ≡ record range { scan = restarted range.scan; node = start.node })
RangeDoes range Repeats p new = (p ≡ Waits) × (new ≡ range)
RangeDoes range (GoesOn next) p new = (p ≡ Moved) × (new ≡ record range { listing = next })
RangeDoes range (ReadTo node) p new = (p ≡ Moved) × (new ≡ record range { node = node })
RangeDoes range (Finds listed) p new = (p ≡ Refused NoMemory)
    ⊎ RangeScans range (list_of listed.entries listed.right) p new

-- the rows of what it has read are those of keys
abbrev pub ListHasKeys : List ℕ → ListReading → Type 0
ListHasKeys prefix (Finds listed) = HoldsKeys prefix listed.entries
ListHasKeys prefix _ = Unit {0}

-- it has read nothing of the node at which it is
abbrev pub unread : Range → Range
unread range = record range { listing = Begins }

-- A STEP READS ONE FIELD of one border, or visits one head or interior, on its way to a slice of 64 bits: it is lent that,
-- and does what follows from it; or it is out of memory, at a field that takes some
pub record RangeReads (a : ArenaView) (range : Range) (p : Progress) (new : Range) : Type 0 where
  pub part : Part
  pub fits : first_slice range.scan.at < 2 ^ 64
  pub lent : Lends a range.node.0 (wants range.listing) part
  pub does : ((p ≡ Refused NoMemory) × KeepsSlot range.listing)
      ⊎ RangeDoes (unread range) (list_reading range.listing (first_slice range.scan.at) part) p new

-- it waits for what it has read of the border
abbrev pub RangeWaits : ArenaView → Range → Progress → Type 0
RangeWaits a range p = WaitsForField a range.node.0 range.listing p
