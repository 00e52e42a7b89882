-- What is true of a get, and what its steps do.
use Rattle.std.specs.Prelude.{ℕ, ◌≡◌, ◌≤◌, ◌<◌, ◌+◌, ◌*◌, ◌⊎◌, List, ◌∷◌, length, slice_index, Option, IsSomeAnd}
use Rattle.std.specs.Option.{option_map}
use Rattle.mt_types.specs.Rows.{shown}
use Rattle.mt_types.specs.declared.event.Answer.TheVariants.{Absent as AbsentAnswer, Found}
use Rattle.mt_types.specs.declared.event.Request.{Request}
use Rattle.mt_types.specs.declared.event.Request.TheVariants.{Get as GetRequest}
use Rattle.mt_types.specs.declared.refusal.Refusal.TheVariants.{NoMemory}
use Rattle.mt_promise.specs.declared.limits.TheConstants.{MAX_READS}
use Rattle.mt_slice.specs.Place.{place_of, slice_number}
use Rattle.mt_word.specs.Slots.{Slots}
use Rattle.mt_word.specs.declared.permutation_word.TheConstants.{SLOTS}
use Rattle.mt_border.specs.Border.{BorderView}
use Rattle.mt_border.specs.declared.entry.RightLink.{RightLink}
use Rattle.mt_arena.specs.Arena.{ArenaView}
use Rattle.mt_arena.specs.Node.{node_at}
use Rattle.mt_arena.specs.declared.part.Part.{Part}
use Rattle.mt_chart.specs.Tree.{Arena}
use Rattle.mt_chart.specs.Walk.{Trail}
use Rattle.mt_chart.specs.ScanRun.{Stood, Lacked}
use Rattle.mt_chart.specs.Reading.{Searches, HasRowKey, HasLinkKey}
use Rattle.mt_tree.specs.Seen.{arena_seen, right_seen}
use Rattle.mt_tree.specs.Fields.{fields_seen}
use Rattle.mt_steps.specs.declared.way.Way.{Way}
use Rattle.mt_steps.specs.declared.reader.Counters.{Counters}
use Rattle.mt_steps.specs.declared.finding.Kind.{Kind}
use Rattle.mt_steps.specs.declared.finding.Kind.TheVariants.{Row as RowKind, Link as LinkKind}
use Rattle.mt_steps.specs.declared.finding.Sight.{Sight}
use Rattle.mt_steps.specs.declared.finding.Sight.TheVariants.{Absent as AbsentSight, Row as RowSight, Link as LinkSight}
use Rattle.mt_steps.specs.declared.reader.Reader.TheVariants.{Begins, Looked, Bounded, Reads, AtValue, Settles}
use Rattle.mt_steps.specs.declared.reader.Reading.TheVariants.{Restarts, Repeats, GoesOn, To, Finds}
use Rattle.mt_steps.specs.declared.getting.Get.{Get}
use Rattle.mt_steps.specs.declared.progress.Progress.{Progress}
use Rattle.mt_steps.specs.declared.progress.Progress.TheVariants.{Moved, Waits, Answered, Refused}
use Rattle.mt_steps.specs.Reader.{wants}
use Rattle.mt_steps.specs.Finding.{Finding, FindReading, find_reading, FindingWaits}
use Rattle.mt_steps.specs.Causes.{TakesMemory}
use Rattle.mt_steps.specs.World.{World}
use Rattle.mt_steps.specs.Standing.{Lends, StandsAt, Still, IsBounded}
use Rattle.mt_steps.specs.Way.{IsHeadOf, IsLayerOf, IsOnWay, prefix_of, rest_of, start}

abbrev pub get_request : Get → Request
get_request get = GetRequest get.key get.columns

-- ---- what it does
-- WHAT IT DOES, by what it is lent of the node at which it is, and by nothing else
abbrev pub reading_of : Get → Part → FindReading
reading_of get part = find_reading get.finding (rest_of get.key get.way) get.columns part

abbrev pub progress_of : FindReading → Progress
progress_of Restarts = Waits
progress_of Repeats = Waits
progress_of (GoesOn finding) = Moved
progress_of (To node) = Moved
progress_of (Finds AbsentSight) = Answered AbsentAnswer
progress_of (Finds (RowSight row)) = Answered (Found row)
progress_of (Finds (LinkSight head)) = Moved

abbrev pub get_after : Get → FindReading → Get
get_after get Restarts = record get { way = start; finding = Begins }
get_after get Repeats = record get { finding = Begins }
get_after get (GoesOn finding) = record get { finding = finding }
get_after get (To node) = record get { way = record { node = node; layer = get.way.layer }; finding = Begins }
get_after get (Finds AbsentSight) = record get { finding = Begins }
get_after get (Finds (RowSight row)) = record get { finding = Begins }
get_after get (Finds (LinkSight head)) = record get { way = record { node = head; layer = get.way.layer + 1 }; finding = Begins }

-- ---- what is true of it
-- it is at a border of its key's way, and has read the border's version, with these counters
pub record AtBorder (begun : ℕ) (key : List ℕ) (way : Way) (counters : Counters) (a : ArenaView) (w : World) : Type 0 where
  pub layer : IsLayerOf key way
  pub here : StandsAt begun (prefix_of key way) (slice_number (rest_of key way)) way.node.0 counters a w

-- it has read the right link, and its slice is before it
abbrev pub HasBound : List ℕ → Way → Counters → BorderView → Option RightLink → ℕ → World → Type 0
HasBound key way counters b right begun w = IsBounded (prefix_of key way) (slice_number (rest_of key way)) counters b right begun w

-- a place among the live slots of an order
abbrev pub IsPlaceOf : Slots → ℕ → Type 0
IsPlaceOf order place = (place < length order.live) × (length order.live ≤ SLOTS)

-- what it has found, if the border is still quiet: no row at some moment, the row of some moment, or the head of the layer
-- in which its key continues
abbrev pub SightIsTrue : List ℕ → List ℕ → Way → Sight → ℕ → List Arena → World → Type 0
SightIsTrue key asked way AbsentSight begun arenas w = Lacked arenas (place_of key)
SightIsTrue key asked way (RowSight row) begun arenas w = Stood (shown asked) arenas (place_of key) row
SightIsTrue key asked way (LinkSight head) begun arenas w =
    IsHeadOf w begun head.0 (slice_number (rest_of key way) ∷ prefix_of key way)

-- only a key that continues past its slice leads below
abbrev pub Fits : List ℕ → Way → Sight → Type 0
Fits key way (LinkSight head) = 8 < length (rest_of key way)
Fits key way _ = Unit {0}

-- the key of the slot that it has found was its own key's, or a link's
abbrev pub KeyIsTrue : List ℕ → List ℕ → Way → Kind → ℕ → BorderView → ℕ → List Arena → World → Type 0
KeyIsTrue key asked way RowKind number b begun arenas w =
    HasRowKey (shown asked) w.chart begun arenas (prefix_of key way) (fields_seen b) number (place_of (rest_of key way))
KeyIsTrue key asked way LinkKind number b begun arenas w =
    HasLinkKey (shown asked) w.chart begun arenas (prefix_of key way) (fields_seen b) number
    (slice_number (rest_of key way))

abbrev pub GoesDeeper : List ℕ → Way → Kind → Type 0
GoesDeeper key way RowKind = Unit {0}
GoesDeeper key way LinkKind = 8 < length (rest_of key way)

-- HOW FAR IT HAS READ is true, by the arenas of its moments, the present one among them: all that it has read of slots
-- is said of a border that is still quiet
abbrev pub FindingIsTrue : List ℕ → List ℕ → Way → Finding → ℕ → List Arena → ArenaView → World → Type 0
FindingIsTrue key asked way Begins begun arenas a w = IsOnWay begun key way w
FindingIsTrue key asked way (Looked counters) begun arenas a w = AtBorder begun key way counters a w
FindingIsTrue key asked way (Bounded counters right) begun arenas a w = (at : AtBorder begun key way counters a w)
    × HasBound key way counters at.here.b right begun w
FindingIsTrue key asked way (Reads notes) begun arenas a w =
    (at : AtBorder begun key way notes.glance.counters a w)
    × HasBound key way notes.glance.counters at.here.b notes.glance.right begun w
    × IsPlaceOf notes.glance.order notes.place × (Still notes.glance.counters at.here.b
    → Searches (shown asked) w.chart begun arenas (prefix_of key way) (fields_seen at.here.b)
    (option_map right_seen notes.glance.right) notes.glance.order.live (place_of (rest_of key way)) notes.place)
FindingIsTrue key asked way (AtValue notes kind) begun arenas a w =
    (at : AtBorder begun key way notes.glance.counters a w) × IsPlaceOf notes.glance.order notes.place
    × GoesDeeper key way kind × (Still notes.glance.counters at.here.b
    → KeyIsTrue key asked way kind (slice_index notes.glance.order.live notes.place) at.here.b begun arenas w)
FindingIsTrue key asked way (Settles counters sight) begun arenas a w = (at : AtBorder begun key way counters a w)
    × Fits key way sight × (Still counters at.here.b → SightIsTrue key asked way sight begun arenas w)

-- how many moves it has made at the node at which it is, at most
abbrev pub reads_made : Finding → ℕ
reads_made Begins = 0
reads_made (Looked counters) = 1
reads_made (Bounded counters right) = 2
reads_made (Reads notes) = 3 + notes.place
reads_made (AtValue notes kind) = 4 + notes.place
reads_made (Settles counters sight) = 20

-- the run of moves that it is in: through `came` nodes, with few moves at each
pub record MovesOn (begun moves : ℕ) (way : Way) (finding : Finding) (w : World) : Type 0 where
  pub came : ℕ
  pub trail : Trail begun w.chart way.node.0 came
  pub few : moves ≤ MAX_READS * came + reads_made finding

abbrev pub GetIsTrue : Get → ℕ → ℕ → List Arena → ArenaView → World → Type 0
GetIsTrue get begun moves past a w =
    FindingIsTrue get.key get.columns get.way get.finding begun (arena_seen a ∷ past) a w
    × MovesOn begun moves get.way get.finding w

-- ---- why it waits
abbrev pub GetWaits : ArenaView → Get → Progress → Type 0
GetWaits a get Waits = IsSomeAnd (node_at a.nodes get.way.node.0) (FindingWaits get.finding)
GetWaits a get _ = Unit {0}

-- A STEP READS ONE FIELD of one border, or visits one head or interior: it is lent that, and does what follows from it;
-- or it is out of memory, at a field that takes some
pub record GetFollows (a : ArenaView) (get : Get) (p : Progress) (new : Get) : Type 0 where
  pub part : Part
  pub lent : Lends a get.way.node.0 (wants get.finding) part
  pub does : ((p ≡ Refused NoMemory) × TakesMemory get.finding)
      ⊎ ((p ≡ progress_of (reading_of get part)) × (new ≡ get_after get (reading_of get part)))
