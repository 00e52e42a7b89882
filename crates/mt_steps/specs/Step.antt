-- What a step of a call is to the index, said of every kind of call alike: what the call has, what is true of it, and
-- what the step answers.
use Rattle.std.specs.Prelude.{ℕ, ◌≡◌, ◌≢◌, ◌≤◌, ◌<◌, ◌+◌, ◌*◌, ◌⊎◌, ◌↔◌, List, [], ◌∷◌, length, Option, Some, None, IsTrue}
use Rattle.mt_types.specs.Rows.{new_columns, columns_before, shown, version_of}
use Rattle.mt_promise.specs.Legal.{is_get}
use Rattle.mt_promise.specs.declared.limits.TheConstants.{MAX_READS}
use Rattle.mt_types.specs.declared.limits.TheConstants.{MAX_NODES, MAX_KEY_BYTES}
use Rattle.mt_types.specs.declared.row.Row.{Row}
use Rattle.mt_types.specs.declared.event.Answer.{Answer}
use Rattle.mt_types.specs.declared.event.Answer.TheVariants.{Absent, Found, Stored, Removed, Rows, Tidied}
use Rattle.mt_types.specs.declared.event.Request.{Request}
use Rattle.mt_types.specs.declared.event.Request.TheVariants.{Get as GetRequest, Put as PutRequest, PutIf as PutIfRequest, Remove as RemoveRequest, Range as RangeRequest, Tidy as TidyRequest}
use Rattle.mt_types.specs.declared.refusal.Refusal.{Refusal}
use Rattle.mt_types.specs.declared.refusal.Refusal.TheVariants.{NoMemory, ArenaFull, FeedFull, Spent, OtherVersion}
use Rattle.mt_slice.specs.Place.{Place, AreBytes, place_of}
use Rattle.mt_commit.specs.Log.{LogView, newest, slowest, with_delta}
use Rattle.mt_arena.specs.Arena.{ArenaView}
use Rattle.mt_chart.specs.Tree.{Arena, Has}
use Rattle.mt_chart.specs.ScanRun.{Stood, Lacked, AllHave}
use Rattle.mt_chart.specs.KeyAnswer.{KeysAreBytes}
use Rattle.mt_types.specs.Ranges.{IsRangeAnswer}
use Rattle.mt_chart.specs.Steps.{SameContent}
use Rattle.mt_tree.specs.Seen.{arena_seen, HasRow}
use Rattle.mt_steps.specs.declared.progress.Progress.{Progress}
use Rattle.mt_steps.specs.declared.progress.Progress.TheVariants.{Moved, Waits, Committed, Answered, Refused}
use Rattle.mt_steps.specs.World.{World, IsWorld, GoesBy}

-- what a call has: the numbers that it owns, for how many deltas it has reserved room, and the number of its commit;
-- and if it has failed for lack of room in the log, from which number the log was held
pub record Held : Type 0 where
  pub owns : List ℕ
  pub reserves : ℕ
  pub committed : Option ℕ
  pub blocked : Option ℕ

abbrev pub nothing : Held
nothing = record { owns = []; reserves = 0; committed = None; blocked = None }

-- a call that has ended has nothing
abbrev pub left_with : Progress → Held → Held
left_with (Answered answer) held = nothing
left_with (Refused refusal) held = nothing
left_with Moved held = held
left_with Waits held = held
left_with (Committed number) held = held

-- what is true of a call, by the epoch in which it began, the number of its moves in a row, the arenas that the tree
-- was since its begin, newest first, without the present one, and the present tree and world
abbrev pub Truth : Type 1
Truth = ℕ → ℕ → List Arena → ArenaView → World → Type 0

-- what is to be true of it after a step
abbrev pub ThenTrue : Progress → ℕ → (ℕ → World → Type 0) → World → Type 0
ThenTrue Moved moves True w = True (moves + 1) w
ThenTrue Waits moves True w = True 0 w
ThenTrue (Committed number) moves True w = True 0 w
ThenTrue (Answered answer) moves True w = Unit {0}
ThenTrue (Refused refusal) moves True w = Unit {0}

-- the rows, their number, and the deltas of the log, are as before
pub record IsQuiet (a after : ArenaView) (log left : LogView) : Type 0 where
  pub content : SameContent (arena_seen a) (arena_seen after)
  pub trimmed : left.held_after ≡ log.held_after
  pub deltas : left.deltas ≡ log.deltas
  pub rows : left.rows ≡ log.rows

-- this is the row at the key, or there is none
abbrev pub RowIs : ArenaView → List ℕ → Option Row → Type 0
RowIs a key there = (row : Row) → HasRow a key row ↔ (there ≡ Some row)

-- the columns that a put makes of the row that was there, or of none
abbrev pub columns_after : ℕ → List (ℕ × List ℕ) → Option Row → List (List ℕ)
columns_after C sets old = new_columns sets 0 (columns_before C old)

abbrev pub put_row : ℕ → ℕ → List (ℕ × List ℕ) → Option Row → Row
put_row C number sets old = record { version = number; columns = columns_after C sets old }

-- the next commit: the key had this row or none, and then has that row or none, other keys have what they had, and the
-- log has the delta
pub record Changes (a after : ArenaView) (log left : LogView) (key : List ℕ) (before then : Option Row)
    (number : ℕ) : Type 0 where
  pub bytes : AreBytes key
  pub fits : length key ≤ MAX_KEY_BYTES
  pub stood : RowIs a key before
  pub is_next : number ≡ newest log + 1
  pub content : (other : Place) (shown : Row) → Has (arena_seen after) other shown
      ↔ (((other ≡ place_of key) × (then ≡ Some shown)) ⊎ (Has (arena_seen a) other shown × (other ≢ place_of key)))
  pub logged : left ≡ with_delta log (record { number = number; key = key; before = before; after = then })

abbrev pub Commits : ℕ → ArenaView → ArenaView → LogView → LogView → Request → ℕ → Type 0
Commits C a after log left (PutRequest key sets) number = (before : Option Row)
    × Changes a after log left key before (Some (put_row C number sets before)) number
Commits C a after log left (PutIfRequest key sets version) number = (before : Option Row)
    × (version_of before ≡ version)
    × Changes a after log left key before (Some (put_row C number sets before)) number
Commits C a after log left (RemoveRequest key) number = (before : Row)
    × Changes a after log left key (Some before) None number
Commits C a after log left _ number = ⊥

-- the pairs are what a range is to answer, by the arenas of its moments
pub record IsRangeOf (arenas : List Arena) (start asked : List ℕ) (limit : ℕ)
    (pairs : List (List ℕ × Row)) : Type 0 where
  pub bytes : KeysAreBytes pairs
  pub answers : IsRangeAnswer (λ key row. Stood (shown asked) arenas (place_of key) row)
      (λ key. AreBytes key × AllHave arenas (place_of key)) start limit pairs

-- the answer is right: a get's and a range's by the moments since the begin, any other at this moment
abbrev pub IsRight : List Arena → ArenaView → Request → Option ℕ → Answer → Type 0
IsRight past a (GetRequest key asked) committed Absent = AreBytes key × Lacked (arena_seen a ∷ past) (place_of key)
IsRight past a (GetRequest key asked) committed (Found row) = AreBytes key
    × Stood (shown asked) (arena_seen a ∷ past) (place_of key) row
IsRight past a (PutRequest key sets) committed (Stored number) = committed ≡ Some number
IsRight past a (PutIfRequest key sets version) committed (Stored number) = committed ≡ Some number
IsRight past a (RemoveRequest key) committed (Removed number) = committed ≡ Some number
IsRight past a (RemoveRequest key) committed Absent = (committed ≡ None) × AreBytes key × RowIs a key None
IsRight past a (RangeRequest start limit asked) committed (Rows pairs) =
    IsRangeOf (arena_seen a ∷ past) start asked limit pairs
IsRight past a (TidyRequest key) committed (Tidied rule) = committed ≡ None
IsRight past a _ committed _ = ⊥

-- the call may end with this refusal
abbrev pub MayRefuse : Request → Refusal → Type 0
MayRefuse request NoMemory = Unit {0}
MayRefuse (PutRequest key sets) ArenaFull = Unit {0}
MayRefuse (PutRequest key sets) (FeedFull number) = Unit {0}
MayRefuse (PutRequest key sets) Spent = Unit {0}
MayRefuse (PutIfRequest key sets version) ArenaFull = Unit {0}
MayRefuse (PutIfRequest key sets version) (FeedFull number) = Unit {0}
MayRefuse (PutIfRequest key sets version) Spent = Unit {0}
MayRefuse (PutIfRequest key sets version) (OtherVersion found) = found ≢ version
MayRefuse (RemoveRequest key) (FeedFull number) = Unit {0}
MayRefuse (RemoveRequest key) Spent = Unit {0}
MayRefuse _ _ = ⊥

-- the key's row is of this version; 0: it has none
pub record IsOfVersion (a : ArenaView) (key : List ℕ) (version : ℕ) : Type 0 where
  pub bytes : AreBytes key
  pub there : Option Row
  pub stands : RowIs a key there
  pub is : version_of there ≡ version

-- a conditional put that is refused for another version names the one of which its key's row is
abbrev pub TellsVersion : ArenaView → Request → Refusal → Type 0
TellsVersion a (PutIfRequest key sets version) (OtherVersion found) = IsOfVersion a key found
TellsVersion a _ _ = Unit {0}

-- the number that a refusal for lack of room in the log names
abbrev pub blocked_by : Refusal → Option ℕ
blocked_by (FeedFull number) = Some number
blocked_by _ = None

-- a refusal for lack of room in the log names the number from which the log is held
abbrev pub IsOfLog : LogView → Refusal → Type 0
IsOfLog log (FeedFull number) = number ≡ slowest log
IsOfLog log _ = Unit {0}

-- why a call may come to fail: a refusal with which it may end, which is of this log
abbrev pub MayFail : LogView → Request → Refusal → Type 0
MayFail log request refusal = MayRefuse request refusal × IsOfLog log refusal

-- a call comes to be blocked only at the number from which the log is held; and it is refused for the number at which
-- it was blocked
abbrev pub Blocks : LogView → Option ℕ → Progress → Option ℕ → Type 0
Blocks log blocked (Refused refusal) then = blocked ≡ blocked_by refusal
Blocks log blocked (Answered answer) then = Unit {0}
Blocks log blocked _ then = (then ≡ blocked) ⊎ (then ≡ Some (slowest log))

-- who holds the log, how many deltas it may hold for the slowest, how many it keeps for nobody, and after what it began
abbrev pub bounds : LogView → List ℕ × ℕ × ℕ × ℕ
bounds log = (log.holders, log.capacity, log.retention, log.base)

-- what a step does to the rows and the log, by what it comes to
abbrev pub Does : ℕ → List Arena → ArenaView → ArenaView → LogView → LogView → Request → Option ℕ → Progress → Option ℕ
    → Type 0
Does C past a after log left request committed Moved then = IsQuiet a after log left × (then ≡ committed)
Does C past a after log left request committed Waits then = IsQuiet a after log left × (then ≡ committed)
Does C past a after log left request committed (Committed number) then = Commits C a after log left request number
    × (committed ≡ None) × (then ≡ Some number)
Does C past a after log left request committed (Answered answer) then = IsQuiet a after log left
    × IsRight past a request committed answer
Does C past a after log left request committed (Refused refusal) then = IsQuiet a after log left × (committed ≡ None)
    × MayRefuse request refusal × TellsVersion a request refusal

-- a get doesn't move for ever: of moves in a row it makes at most MAX_READS for each number of a node
abbrev pub MayMove : Request → ℕ → Progress → Type 0
MayMove request moves Moved = IsTrue (is_get request) → moves < MAX_READS * MAX_NODES
MayMove request moves _ = Unit {0}

-- the number of the commit that a step is, if it is one
abbrev pub commit_of : Progress → Option ℕ
commit_of (Committed number) = Some number
commit_of _ = None

-- a step of a call, in a world
pub record Stepped (C now moves : ℕ) (past : List Arena) (a after : ArenaView) (log left : LogView) (w : World)
    (request : Request) (held : Held) (p : Progress) (then : Held) (True : ℕ → World → Type 0) : Type 0 where
  pub goes : GoesBy (commit_of p) now a after w held.owns (left_with p then).owns (ThenTrue p moves True)
  pub does : Does C past a after log left request held.committed p then.committed
  pub reserved : left.reserved + held.reserves ≡ log.reserved + (left_with p then).reserves
  pub bounds : bounds left ≡ bounds log
  pub blocked : Blocks log held.blocked p then.blocked
  pub may : MayMove request moves p

-- the law of a step, which each kind of call has as its clause: wherever the tree is an index and the call's record is
-- true
pub record StepLaw (C : ℕ) (a after : ArenaView) (log left : LogView) (request : Request) (held : Held) (p : Progress)
    (then : Held) (True Then : Truth) : Type 0 where
  pub steps : (now begun moves : ℕ) (past : List Arena) (w : World) → IsWorld a now w → begun ≤ now
      → True begun moves past a w
      → Stepped C now moves past a after log left w request held p then
      (λ m next. Then begun m (arena_seen a ∷ past) after next)

-- the same in one epoch, for a kind of call whose step takes the present epoch
pub record StepLawIn (now C : ℕ) (a after : ArenaView) (log left : LogView) (request : Request) (held : Held)
    (p : Progress) (then : Held) (True Then : Truth) : Type 0 where
  pub steps : (begun moves : ℕ) (past : List Arena) (w : World) → IsWorld a now w → begun ≤ now
      → True begun moves past a w
      → Stepped C now moves past a after log left w request held p then
      (λ m next. Then begun m (arena_seen a ∷ past) after next)

-- what a step asks: there is a world in which the call's record is true, and the log has the room that the call has
-- reserved
pub record MayStep (a : ArenaView) (log : LogView) (held : Held) (True : Truth) : Type 0 where
  pub now : ℕ
  pub begun : ℕ
  pub moves : ℕ
  pub past : List Arena
  pub w : World
  pub world : IsWorld a now w
  pub true : True begun moves past a w
  pub room : held.reserves ≤ log.reserved

-- the same in one epoch, of a kind of call that reads and writes no log
pub record MayStepIn (now : ℕ) (a : ArenaView) (True : Truth) : Type 0 where
  pub begun : ℕ
  pub moves : ℕ
  pub past : List Arena
  pub w : World
  pub world : IsWorld a now w
  pub true : True begun moves past a w
