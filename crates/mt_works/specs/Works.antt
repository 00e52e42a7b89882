-- The kinds of calls: what each asks for, what it has, and what is true of it.
use Rattle.std.specs.Prelude.{ℕ, ◌≡◌, ◌≤◌, Bool, true, false, List, [], length, None}
use Rattle.mt_types.specs.declared.event.Request.{Request}
use Rattle.mt_types.specs.declared.event.Request.TheVariants.{Get as GetRequest, Put as PutRequest, PutIf as PutIfRequest, Remove as RemoveRequest, Range as RangeRequest, Tidy as TidyRequest, Build as BuildRequest}
use Rattle.mt_types.specs.declared.limits.TheConstants.{MAX_KEY_BYTES}
use Rattle.mt_slice.specs.Place.{AreBytes}
use Rattle.mt_commit.specs.Log.{LogView}
use Rattle.mt_arena.specs.Arena.{ArenaView}
use Rattle.mt_chart.specs.Tree.{Arena}
use Rattle.mt_steps.specs.declared.progress.Progress.{Progress}
use Rattle.mt_steps.specs.World.{World, IsWorld}
use Rattle.mt_steps.specs.Step.{Held, nothing}
use Rattle.mt_steps.specs.Way.{start}
use Rattle.mt_steps.specs.Getting.{get_request, GetIsTrue}
use Rattle.mt_steps.specs.Ranging.{range_request, RangeIsTrue}
use Rattle.mt_write.specs.Held.{write_request, write_held}
use Rattle.mt_write.specs.Writing.{WriteIsTrue}
use Rattle.mt_write.specs.declared.writing.Stage.TheVariants.{Seeks as WriteSeeks}
use Rattle.mt_remove.specs.declared.stage.Stage.TheVariants.{Seeks as TidySeeks}
use Rattle.mt_remove.specs.Follows.{not_noted}
use Rattle.mt_remove.specs.Tidy.{tidy_request, tidy_held, TidyTruth}
use Rattle.mt_works.specs.Building.{building_request, BuildingIsTrue, IsInLog, IsBuilt, BuildsOn}
use Rattle.mt_steps.specs.declared.reader.Reader.TheVariants.{Begins}
use Rattle.mt_works.specs.declared.work.Work.{Work}
use Rattle.mt_works.specs.declared.work.Work.TheVariants.{Get, Write, Range, Tidy, Build}

abbrev pub request_of : Work → Request
request_of (Get get) = get_request get
request_of (Write write) = write_request write
request_of (Range range) = range_request range
request_of (Tidy tidy) = tidy_request tidy
request_of (Build building) = building_request building

-- what it owns, has reserved and has committed
abbrev pub held : Work → Held
held (Get get) = nothing
held (Write write) = write_held write
held (Range range) = nothing
held (Tidy tidy) = tidy_held tidy
held (Build building) = nothing

-- what is true of it
abbrev pub IsTrue : ℕ → Work → ℕ → ℕ → List Arena → ArenaView → World → Type 0
IsTrue C (Get get) begun moves past a w = GetIsTrue get begun moves past a w
IsTrue C (Write write) begun moves past a w = WriteIsTrue C write begun moves past a w
IsTrue C (Range range) begun moves past a w = RangeIsTrue range begun moves past a w
IsTrue C (Tidy tidy) begun moves past a w = TidyTruth tidy begun moves past a w
IsTrue C (Build building) begun moves past a w = BuildingIsTrue building begun moves past a w

-- what its step asks in an epoch, the present one: there is a world in which its record is true, and the log has the
-- room that it has reserved
pub record MayWork (now C : ℕ) (a : ArenaView) (log : LogView) (work : Work) : Type 0 where
  pub begun : ℕ
  pub moves : ℕ
  pub past : List Arena
  pub w : World
  pub world : IsWorld a now w
  pub true : IsTrue C work begun moves past a w
  pub room : (held work).reserves ≤ log.reserved

-- the delta that a build is to take next is one of the log's
abbrev pub HasNext : LogView → Work → Type 0
HasNext log (Build building) = IsInLog log building.build.state.at building.upto
HasNext log _ = Unit {0}

-- it is a build that has taken all, whose view is to be opened
abbrev pub IsBuiltWork : Work → Type 0
IsBuiltWork (Build building) = IsBuilt building
IsBuiltWork _ = ⊥

-- what a step of a build has done to its view
abbrev pub WorkBuilds : ArenaView → LogView → Work → Progress → Work → Type 0
WorkBuilds a log (Build old) p (Build new) = BuildsOn a log old p new
WorkBuilds a log (Build old) p _ = ⊥
WorkBuilds a log _ p new = Unit {0}

-- a build that begins at this number of commits is to scan, and its view, of `C` columns, opens there
abbrev pub OpensAt : ℕ → ℕ → Work → Type 0
OpensAt C number (Build building) =
    (building.upto ≡ None) × (building.build.state.at ≡ number) × (building.build.state.columns ≡ C)
OpensAt C number _ = Unit {0}

abbrev pub IsKey : List ℕ → Type 0
IsKey key = AreBytes key × (length key ≤ MAX_KEY_BYTES)

-- the key that it asks for is one: of bytes, and not too long
abbrev pub AsksForKey : Request → Type 0
AsksForKey (GetRequest key asked) = IsKey key
AsksForKey (PutRequest key sets) = IsKey key
AsksForKey (PutIfRequest key sets version) = IsKey key
AsksForKey (RemoveRequest key) = IsKey key
AsksForKey (RangeRequest start limit asked) = IsKey start
AsksForKey (TidyRequest key) = IsKey key
AsksForKey (BuildRequest spec) = Unit {0}

-- it is at the head of layer 0, and has done nothing
abbrev pub IsAtStart : Work → Type 0
IsAtStart (Get get) = (get.way ≡ start) × (get.finding ≡ Begins)
IsAtStart (Write write) = (write.way ≡ start) × (write.stage ≡ WriteSeeks) × (write.head ≡ start.node)
IsAtStart (Range range) = (range.node ≡ start.node) × (range.scan.prefix ≡ []) × (range.listing ≡ Begins)
IsAtStart (Tidy tidy) = (tidy.way ≡ start) × (tidy.finding ≡ Begins) × (tidy.stage ≡ TidySeeks not_noted)
IsAtStart (Build building) = (building.node ≡ start.node) × (building.build.prefix ≡ [])
    × (building.listing ≡ Begins)

-- a call that begins has nothing, and its record is true
pub record IsNew (C number : ℕ) (work : Work) : Type 0 where
  pub has : held work ≡ nothing
  pub key : AsksForKey (request_of work)
  pub at_start : IsAtStart work
  pub true : (a : ArenaView) (now begun : ℕ) (w : World) → IsWorld a now w → IsTrue C work begun 0 [] a w
  pub opens : OpensAt C number work

-- the key that a request names first is not too long
abbrev pub KeyFits : Request → Type 0
KeyFits (GetRequest key columns) = length key ≤ MAX_KEY_BYTES
KeyFits (PutRequest key sets) = length key ≤ MAX_KEY_BYTES
KeyFits (PutIfRequest key sets version) = length key ≤ MAX_KEY_BYTES
KeyFits (RemoveRequest key) = length key ≤ MAX_KEY_BYTES
KeyFits (RangeRequest start limit columns) = length start ≤ MAX_KEY_BYTES
KeyFits (TidyRequest key) = length key ≤ MAX_KEY_BYTES
KeyFits (BuildRequest spec) = Unit {0}

-- a put or a remove
abbrev pub is_write : Request → Bool
is_write (PutRequest key sets) = true
is_write (PutIfRequest key sets version) = true
is_write (RemoveRequest key) = true
is_write _ = false
