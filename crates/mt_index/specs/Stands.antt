-- The machine as contracts see it, and the histories that it is at.
use Rattle.std.specs.Option.{option_map}
use Rattle.std.specs.Prelude.{Result, Ok, Err, ℕ, ◌+◌, ◌-◌, ◌≡◌, ◌≤◌, ◌<◌, ◌==◌, ◌⊎◌, ◌↔◌, true, if◌then◌else◌, min, Bool, List, [], ◌∷◌, ◌++◌, length, drop, map, filter, Option, Some, None}
use Rattle.std.specs.FinMap.{get, len}
use Rattle.mt_types.specs.declared.numbers.PassNo.{PassNo}
use Rattle.mt_types.specs.declared.event.Request.{Request}
use Rattle.mt_types.specs.declared.event.Outcome.{Outcome}
use Rattle.mt_types.specs.declared.event.Outcome.TheVariants.{Call as Called, Moved, Again, Commit, Done, Applied, Current, View, Dropped, Epoch, Freed, Refused}
use Rattle.mt_types.specs.declared.refusal.Refusal.{Refusal}
use Rattle.mt_types.specs.declared.refusal.Refusal.TheVariants.{NoMemory, NoSuchCall, NoSuchView, Behind, Spent}
use Rattle.mt_types.specs.declared.row.Row.{Row}
use Rattle.mt_promise.specs.History.{History, Moment, OpenCall, StandingView, meant_view, moment, rows, Sometime, Throughout}
use Rattle.mt_promise.specs.Legal.{Legal, begin_fault, held_from, reads_log, is_build}
use Rattle.mt_types.specs.Limits.{page_fault}
use Rattle.mt_types.specs.Numbers.{greatest_number}
use Rattle.mt_types.specs.declared.limits.TheConstants.{MAX_COLUMNS}
use Rattle.mt_types.specs.declared.row.Delta.{Delta}
use Rattle.mt_types.specs.declared.event.Answer.TheVariants.{Built}
use Rattle.mt_types.specs.Rows.{Rows, shown}
use Rattle.mt_promise.specs.RightAnswers.{Shows, Lacks, Stands as IsThere}
use Rattle.mt_slice.specs.Place.{AreBytes, place_of}
use Rattle.mt_commit.specs.Log.{LogView, IsLog, newest, delta_of, trimmed, kept_after}
use Rattle.mt_commit.specs.Laws.{times_held}
use Rattle.mt_commit.specs.Holders.{with_holder, without_holder}
use Rattle.mt_arena.specs.Arena.{ArenaView}
use Rattle.mt_chart.specs.Tree.{Arena, Among}
use Rattle.mt_chart.specs.ScanRun.{Stood, Lacked, AllHave}
use Rattle.mt_tree.specs.Seen.{arena_seen, HasRow}
use Rattle.mt_index.specs.declared.calls.Call.{Call}
use Rattle.mt_works.specs.declared.work.Work.{Work}
use Rattle.mt_works.specs.declared.work.Work.TheVariants.{Build as BuildWork}
use Rattle.mt_works.specs.declared.building.Building.{Building}
use Rattle.mt_works.specs.Building.{IsBuilt}
use Rattle.mt_steps.specs.declared.progress.Progress.{Progress}
use Rattle.mt_steps.specs.declared.progress.Progress.TheVariants.{Moved as WentOn, Waits, Committed, Answered, Refused as EndsRefused}
use Rattle.mt_steps.specs.World.{World, IsWorld, IsTaken}
use Rattle.mt_steps.specs.Collecting.{IsCollected, CollectLaw}
use Rattle.mt_works.specs.Works.{request_of, held, IsTrue, IsNew}
use Rattle.mt_works.specs.History.{GoesBy}
use Rattle.mt_works.specs.Build.{HadRows}
use Rattle.mt_view.specs.State.{StateView, applied, page_of_state}
use Rattle.mt_view.specs.Views.{ViewsView, all_standing, places, state_at, with_state, without as without_view}
use Rattle.mt_index.specs.Viewing.{ViewsStand, ReadsOf}
use Rattle.mt_index.specs.Paired.{Paired}
use Rattle.mt_commit.specs.Logged.{deltas_of}
use Rattle.mt_index.specs.Calls.{CallsView, call_at, without, AreApart, all_reserved, BeganInOrder, oldest_epoch, StepsCall, IsBuiltCall}

-- the machine as contracts see it
pub record MachineView : Type 0 where
  pub columns : ℕ
  pub epoch : ℕ  -- the present one
  pub tree : ArenaView
  pub log : LogView
  pub calls : CallsView
  pub views : ViewsView

-- what is taken, a locked node or a spare, is owned by an open call
abbrev pub AllOwned : ArenaView → World → List (ℕ × Call) → Type 0
AllOwned a w calls = (number : ℕ) → IsTaken a w number → (k : ℕ × Call) × Among k calls
    × Among number (held k.1.work).owns

-- the tree has exactly the rows that the history has come to
abbrev pub HasRowsOf : ℕ → ArenaView → History → Type 0
HasRowsOf C a h = (key : List ℕ) → AreBytes key → (row : Row) → HasRow a key row
    ↔ (get (rows C (moment h)) key ≡ Some row)

-- the moments of a call that began after `began` events and `from` commits, as arenas: a row that one of them has was
-- there at some moment since, a key that one of them lacks had no row at some moment since, and a key that was there at
-- each moment since has a row in each of them; and the deltas of the commits since lead from the rows of each to those
-- of the next
pub record IsPast (C began from : ℕ) (h : History) (arenas : List Arena) : Type 0 where
  pub stood : (asked key : List ℕ) (row : Row) → AreBytes key → Stood (shown asked) arenas (place_of key) row
      → Sometime began (Shows C key asked row) h
  pub lacked : (key : List ℕ) → AreBytes key → Lacked arenas (place_of key) → Sometime began (Lacks C key) h
  pub throughout : (key : List ℕ) → AreBytes key → Throughout began (IsThere C key) h → AllHave arenas (place_of key)
  pub earlier : List Rows
  pub had : HadRows arenas (rows C (moment h) ∷ earlier)
  pub goes : GoesBy (rows C (moment h) ∷ earlier) (drop from (deltas_of C (moment h).commits))
  pub reached : from ≤ length (moment h).commits

-- the numbers of commits from which the log is held: by each view, from its own; by each open call that holds it, from
-- the number at its begin
abbrev pub holding : Moment → List ℕ
holding m =
    map (λ (v : StandingView). v.at) m.views
    ++ map (λ (call : OpenCall). call.from) (filter (λ (call : OpenCall). reads_log call.request) m.calls)

-- a call was blocked, if it was, at a number from which the log was held at some moment since its begin
abbrev pub WasBlocked : ℕ → History → Option ℕ → Type 0
WasBlocked began h None = Unit {0}
WasBlocked began h (Some number) = Sometime began (λ m. held_from m ≡ number) h

-- the machine's record of a call is true after a history
pub record CallStands (C now : ℕ) (a : ArenaView) (w : World) (h : History) (kept : ℕ × Call)
    (call : OpenCall) : Type 0 where
  pub pass : call.pass ≡ kept.1.pass.0
  pub request : call.request ≡ request_of kept.1.work
  pub from : call.from ≡ kept.1.from
  pub began : call.began ≤ length h
  pub epoch : kept.1.epoch ≤ now
  pub committed : call.committed ≡ (held kept.1.work).committed
  pub blocked : WasBlocked call.began h (held kept.1.work).blocked
  pub past : List Arena
  pub passed : IsPast C call.began call.from h (arena_seen a ∷ past)
  pub true : IsTrue C kept.1.work kept.1.epoch call.moves past a w
  pub reads : ReadsOf C (moment h).commits call.from kept.1.work

-- the machine is at a history: this history may have led to it
pub record Stands (s : MachineView) (h : History) : Type 0 where
  -- each outcome was one that its event may have
  pub legal : Legal s.columns h
  -- it has no more columns than an index may have
  pub few : s.columns ≤ MAX_COLUMNS
  pub commits : newest s.log ≡ length (moment h).commits
  pub begun : s.calls.begun ≡ (moment h).begun
  pub epoch : s.epoch ≡ (moment h).epoch
  -- the tree is an index, in some world, and has exactly the rows of the history
  pub w : World
  pub world : IsWorld s.tree s.epoch w
  pub content : HasRowsOf s.columns s.tree h
  pub keys : (key : List ℕ) (row : Row) → get (rows s.columns (moment h)) key ≡ Some row → AreBytes key
  -- the log has exactly the deltas of the commits after the least number from which it is held, and of the last ones
  -- that it keeps for no reader
  pub logged : s.log.deltas ≡ drop s.log.held_after (deltas_of s.columns (moment h).commits)
  pub trimmed : s.log.held_after ≡ min (held_from (moment h)) (kept_after s.log (length (moment h).commits))
  -- it counts the rows
  pub counted : s.log.rows ≡ len (rows s.columns (moment h))
  -- it is held from each number as often as views and open calls hold it from there
  pub held : (number : ℕ) → times_held number s.log.holders ≡ times_held number (holding (moment h))
  -- the views are those of the history, and each is exact at its number
  pub views : ViewsStand s.columns (moment h) s.views
  -- the open calls are those of the history, what is said of each is true, and no number is owned by two
  pub calls : Paired (CallStands s.columns s.epoch s.tree w h) 0 s.calls.begun s.calls.calls (moment h).calls
  pub in_order : BeganInOrder 0 s.calls.calls
  pub apart : AreApart s.calls.calls
  pub owned : AllOwned s.tree w s.calls.calls
  pub reserved : s.log.reserved ≡ all_reserved s.calls.calls

-- how much the log may hold for the slowest reader, and how much it keeps for no reader
abbrev pub HasBounds : ℕ → ℕ → LogView → Type 0
HasBounds feed keep log = (log.capacity ≡ feed) × (log.retention ≡ keep)

-- what a step answers
abbrev pub outcome_of : ℕ → PassNo → ℕ → ℕ → Progress → Outcome
outcome_of number pass from to WentOn = Moved
outcome_of number pass from to Waits = Again
outcome_of number pass from to (Committed commit) = Commit commit
outcome_of number pass from to (Answered answer) =
    Done (record { pass = pass; call = record { 0 = number }; from = from; to = to; answer = answer })
outcome_of number pass from to (EndsRefused refusal) = Refused refusal

-- the calls, once the step has answered so
abbrev pub calls_after : ℕ → Progress → CallsView → CallsView
calls_after number (Answered answer) calls = record calls { calls = without number calls.calls }
calls_after number (EndsRefused refusal) calls = record calls { calls = without number calls.calls }
calls_after number WentOn calls = calls
calls_after number Waits calls = calls
calls_after number (Committed commit) calls = calls

-- the log, once a call that began at this number of commits, and reads it or doesn't, has ended
abbrev pub released : Bool → ℕ → LogView → LogView
released reads from log = if reads then record log { holders = without_holder from log.holders } else log

abbrev pub log_after : Bool → ℕ → Progress → LogView → LogView
log_after reads from (Answered answer) log = released reads from log
log_after reads from (EndsRefused refusal) log = released reads from log
log_after reads from WentOn log = log
log_after reads from Waits log = log
log_after reads from (Committed commit) log = log

-- the views, once a call that is a build, or isn't, has begun and keeps a place; and once it has ended and keeps none
abbrev pub placed : Bool → ViewsView → ViewsView
placed builds views = if builds then record views { building = views.building + 1 } else views

abbrev pub vacated : Bool → ViewsView → ViewsView
vacated builds views = if builds then record views { building = views.building - 1 } else views

abbrev pub views_after : Bool → Progress → ViewsView → ViewsView
views_after builds (Answered answer) views = vacated builds views
views_after builds (EndsRefused refusal) views = vacated builds views
views_after builds WentOn views = views
views_after builds Waits views = views
views_after builds (Committed commit) views = views

-- a step of the call of this number leads from one machine to the next, with this outcome: then the log is trimmed
pub record StepsOpen (s : MachineView) (number : ℕ) (outcome : Outcome) (t : MachineView) : Type 0 where
  pub pass : PassNo
  pub from : ℕ
  pub p : Progress
  pub calls : CallsView
  pub tree : ArenaView
  pub log : LogView
  pub reads : Bool
  pub builds : Bool
  pub unbuilt : IsBuiltCall (call_at number s.calls.calls) → ⊥
  pub steps : StepsCall s.epoch s.columns number s.calls calls s.tree tree s.log log pass reads builds from p
  pub sound : IsLog (log_after reads from p log)
  pub is_outcome : outcome ≡ outcome_of number pass from (newest log) p
  pub is_next : t ≡ record {
    columns = s.columns;
    epoch = s.epoch;
    tree = tree;
    log = trimmed (log_after reads from p log);
    calls = calls_after number p calls;
    views = views_after builds p s.views;
  }

-- ---- views
-- the machine, once these hold the log, and these are the views
abbrev pub with_views : List ℕ → ViewsView → MachineView → MachineView
with_views holders views s = record s { log = trimmed (record s.log { holders = holders }); views = views }

-- and once a call has ended besides
abbrev pub call_ended : ℕ → List ℕ → ViewsView → MachineView → MachineView
call_ended number holders views s =
    record (with_views holders views s) { calls = record s.calls { calls = without number s.calls.calls } }

-- the views and one more, in the place of a build
abbrev pub with_view : StateView → ViewsView → ViewsView
with_view state views = record {
  built = views.built + 1;
  building = views.building - 1;
  views = views.views ++ (views.built + 1, state) ∷ [];
}

-- what the end of a build answers
abbrev pub built_outcome : PassNo → ℕ → ℕ → ℕ → Result ℕ Refusal → Outcome
built_outcome pass number from to (Ok view) =
    Done (record {
      pass = pass;
      call = record { 0 = number };
      from = from;
      to = to;
      answer = Built (record { 0 = view });
    })
built_outcome pass number from to (Err refusal) = Refused refusal

-- a build's view is opened, and holds the log from the number of commits at which it is
pub record Opens (s : MachineView) (number : ℕ) (call : Call) (state : StateView) (outcome : Outcome)
    (t : MachineView) : Type 0 where
  pub holders : List ℕ
  pub are : holders ≡ without_holder call.from (with_holder state.at s.log.holders)
  pub sound : IsLog (record s.log { holders = holders })
  pub unspent : s.views.built < greatest_number
  pub is_outcome : outcome ≡ Done
      (record {
        pass = call.pass;
        call = record { 0 = number };
        from = call.from;
        to = newest s.log;
        answer = Built (record { 0 = s.views.built + 1 });
      })
  pub is_next : t ≡ call_ended number holders (with_view state s.views) s

-- or it isn't opened, because it is out of memory or no number is left
pub record OpensNot (s : MachineView) (number : ℕ) (call : Call) (outcome : Outcome) (t : MachineView) : Type 0 where
  pub refusal : Refusal
  pub why : (refusal ≡ NoMemory) ⊎ ((refusal ≡ Spent) × (greatest_number ≤ s.views.built))
  pub holders : List ℕ
  pub are : holders ≡ without_holder call.from s.log.holders
  pub sound : IsLog (record s.log { holders = holders })
  pub is_outcome : outcome ≡ Refused refusal
  pub is_next : t ≡ call_ended number holders (vacated true s.views) s

-- the call of this number is a build that has taken all, and ends
pub record EndsBuild (s : MachineView) (number : ℕ) (outcome : Outcome) (t : MachineView) : Type 0 where
  pub call : Call
  pub building : Building
  pub is_open : call_at number s.calls.calls ≡ Some call
  pub is_build : call.work ≡ BuildWork building
  pub is_built : IsBuilt building
  pub comes : Opens s number call building.build.state outcome t ⊎ OpensNot s number call outcome t

abbrev pub Steps : MachineView → ℕ → Outcome → MachineView → Type 0
Steps s number outcome t =
    ((call_at number s.calls.calls ≡ None) × (outcome ≡ Refused NoSuchCall) × (t ≡ s))
    ⊎ StepsOpen s number outcome t ⊎ EndsBuild s number outcome t

-- the number of the view that an apply means
abbrev pub meant_number : MachineView → ℕ → Option ℕ
meant_number s asked = option_map (λ (v : StandingView). v.number) (meant_view asked (all_standing s.views.views))

-- what an apply answers that means no view
abbrev pub none_meant : ℕ → Outcome
none_meant asked = if asked == 0 then Current else Refused NoSuchView

-- a view that is behind is advanced by the delta of the next commit, and then holds the log from there
pub record TakesOn (s : MachineView) (number : ℕ) (state : StateView) (outcome : Outcome)
    (t : MachineView) : Type 0 where
  pub behind : state.at < newest s.log
  pub delta : Delta
  pub is_delta : delta_of s.log (state.at + 1) ≡ Some delta
  pub holders : List ℕ
  pub are : holders ≡ without_holder state.at (with_holder (state.at + 1) s.log.holders)
  pub sound : IsLog (record s.log { holders = holders })
  pub is_outcome : outcome ≡ Applied (state.at + 1)
  pub is_next : t ≡ with_views holders
      (record s.views { views = with_state number (applied delta state) s.views.views }) s

pub record AppliesTo (s : MachineView) (asked : ℕ) (outcome : Outcome) (t : MachineView) : Type 0 where
  pub number : ℕ
  pub state : StateView
  pub meant : meant_number s asked ≡ Some number
  pub there : state_at number s.views.views ≡ Some state
  pub comes : ((newest s.log ≤ state.at) × (outcome ≡ Current) × (t ≡ s))
      ⊎ ((state.at < newest s.log) × (outcome ≡ Refused NoMemory) × (t ≡ s))
      ⊎ TakesOn s number state outcome t

-- an apply leads from one machine to the next, with this outcome
abbrev pub Applies : MachineView → ℕ → Outcome → MachineView → Type 0
Applies s asked outcome t =
    ((meant_number s asked ≡ None) × (outcome ≡ none_meant asked) × (t ≡ s)) ⊎ AppliesTo s asked outcome t

-- what is answered if a page of a view in this state is asked for
abbrev pub ReadsState : Option StateView → ℕ → List ℕ → ℕ → Outcome → Type 0
ReadsState None floor start limit outcome = outcome ≡ Refused NoSuchView
ReadsState (Some state) floor start limit outcome =
    ((state.at < floor) × (outcome ≡ Refused (Behind state.at)))
    ⊎ ((floor ≤ state.at) × ((outcome ≡ View (page_of_state state start limit)) ⊎ (outcome ≡ Refused NoMemory)))

abbrev pub ReadsPage : Option Refusal → Option StateView → ℕ → List ℕ → ℕ → Outcome → Type 0
ReadsPage (Some refusal) there floor start limit outcome = outcome ≡ Refused refusal
ReadsPage None there floor start limit outcome = ReadsState there floor start limit outcome

abbrev pub ReadsView : MachineView → ℕ → ℕ → List ℕ → ℕ → Outcome → Type 0
ReadsView s view floor start limit outcome =
    ReadsPage (page_fault start limit) (state_at view s.views.views) floor start limit outcome

-- a view ends, and holds the log no longer
pub record DropsView (s : MachineView) (number : ℕ) (outcome : Outcome) (t : MachineView) : Type 0 where
  pub state : StateView
  pub there : state_at number s.views.views ≡ Some state
  pub holders : List ℕ
  pub are : holders ≡ without_holder state.at s.log.holders
  pub sound : IsLog (record s.log { holders = holders })
  pub is_outcome : outcome ≡ Dropped
  pub is_next : t ≡ with_views holders (record s.views { views = without_view number s.views.views }) s

abbrev pub Drops : MachineView → ℕ → Outcome → MachineView → Type 0
Drops s number outcome t =
    ((state_at number s.views.views ≡ None) × (outcome ≡ Refused NoSuchView) × (t ≡ s)) ⊎ DropsView s number outcome t

-- ---- epochs
-- the next epoch begins, or their numbers are spent
abbrev pub Advances : MachineView → Outcome → MachineView → Type 0
Advances s outcome t =
    ((greatest_number ≤ s.epoch) × (outcome ≡ Refused Spent) × (t ≡ s))
    ⊎ ((s.epoch < greatest_number) × (outcome ≡ Epoch (s.epoch + 1)) × (t ≡ record s { epoch = s.epoch + 1 }))

-- the epoch is that in which the oldest open call began, or, if none is open, the next one
abbrev pub IsOldest : ℕ → ℕ → Option ℕ → Type 0
IsOldest now before None = before ≡ now + 1
IsOldest now before (Some began) = before ≡ began

-- retired nodes are freed: those that were retired before the oldest open call began
pub record Collects (s : MachineView) (outcome : Outcome) (t : MachineView) : Type 0 where
  pub before : ℕ
  pub count : ℕ
  pub after : ArenaView
  pub oldest : IsOldest s.epoch before (oldest_epoch s.calls.calls)
  pub exactly : IsCollected s.tree after before count
  pub keeps : CollectLaw s.tree after before
  pub is_outcome : outcome ≡ Freed count
  pub is_next : t ≡ record s { tree = after }

-- ---- begins
-- why a call can't begin
abbrev pub fault_of : MachineView → Request → Option Refusal
fault_of s request = begin_fault s.columns s.calls.begun (length s.calls.calls) (places s.views) request

-- the log, once a call has begun that holds it, or doesn't
abbrev pub pinned : Bool → LogView → LogView
pinned reads log = if reads then record log { holders = with_holder (newest log) log.holders } else log

-- the machine, once one more call has begun
abbrev pub with_call : MachineView → PassNo → Work → MachineView
with_call s pass work =
    let call : Call = record { pass = pass; from = newest s.log; epoch = s.epoch; work = work } in
    record s {
      log = pinned (reads_log (request_of work)) s.log;
      calls = record { begun = s.calls.begun + 1; calls = s.calls.calls ++ (s.calls.begun + 1, call) ∷ [] };
      views = placed (is_build (request_of work)) s.views;
    }

-- a begin leads from one machine to the next, with this outcome
abbrev pub Begins : MachineView → PassNo → Request → Outcome → MachineView → Type 0
Begins s pass request (Called number) t =
    (fault_of s request ≡ None) × (number ≡ record { 0 = s.calls.begun + 1 }) × (work : Work)
    × (request_of work ≡ request) × IsNew s.columns (newest s.log) work × (t ≡ with_call s pass work)
Begins s pass request (Refused refusal) t =
    ((fault_of s request ≡ Some refusal) ⊎ ((fault_of s request ≡ None) × (refusal ≡ NoMemory))) × (t ≡ s)
Begins s pass request _ t = ⊥
