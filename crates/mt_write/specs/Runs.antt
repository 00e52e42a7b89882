-- Runs of a put or remove: its steps one after the other, after each of which the log is trimmed.
use Rattle.std.specs.Prelude.{ℕ, ◌≡◌, ◌≤◌, ◌+◌, ◌-◌, ◌⊎◌, cond, false, min, List, [], ◌∷◌, length, sum_by, IsSomeAnd, All, Option, Some, None, Result, Ok, Err}
use Rattle.mt_types.specs.declared.refusal.Refusal.{Refusal}
use Rattle.mt_border.specs.declared.found.Found.{Found}
use Rattle.mt_border.specs.declared.found.Found.TheVariants.{Absent as AbsentFound}
use Rattle.mt_border.specs.declared.entry.Entry.{Entry}
use Rattle.mt_commit.specs.Log.{LogView, IsLog, newest, slowest, trimmed, kept_after}
use Rattle.mt_arena.specs.Arena.{ArenaView, IsArena}
use Rattle.mt_chart.specs.Tree.{Arena}
use Rattle.mt_tree.specs.declared.visit.Visit.{Visit}
use Rattle.mt_tree.specs.declared.visit.Visit.TheVariants.{Below}
use Rattle.mt_steps.specs.declared.progress.Progress.{Progress}
use Rattle.mt_steps.specs.declared.progress.Progress.TheVariants.{Moved, Committed}
use Rattle.mt_steps.specs.World.{World, IsWorld}
use Rattle.mt_steps.specs.Step.{bounds}
use Rattle.mt_steps.specs.Way.{Finds}
use Rattle.mt_steps.specs.declared.entering.There.{There}
use Rattle.mt_write.specs.declared.running.WriteRun.{WriteRun}
use Rattle.mt_write.specs.declared.finishing.Committed.{Committed as AtCommit}
use Rattle.mt_write.specs.declared.finishing.AtBorder.{AtBorder}
use Rattle.mt_write.specs.declared.finishing.AtBorder.TheVariants.{Absent, Commits, Ready}
use Rattle.mt_border.specs.Border.{BorderView}
use Rattle.mt_arena.specs.Node.{border_at}
use Rattle.mt_write.specs.declared.writing.Edit.{Edit}
use Rattle.mt_write.specs.declared.writing.Edit.TheVariants.{Put as PutEdit, Remove as RemoveEdit}
use Rattle.mt_write.specs.Ready.{NeedsNoSplit}
use Rattle.mt_write.specs.declared.writing.Write.{Write}
use Rattle.mt_write.specs.declared.writing.Stage.{Stage}
use Rattle.mt_write.specs.declared.writing.Stage.TheVariants.{Searched, Stored, Hidden, Failed}
use Rattle.mt_write.specs.Held.{write_held}
use Rattle.mt_write.specs.Writing.{WriteIsTrue}
use Rattle.mt_write.specs.Follows.{FindsNone, TreeStep, WriteStep}

-- the log holds no delta that is to be trimmed
abbrev pub IsTrimmed : LogView → Type 0
IsTrimmed log = min (slowest log) (kept_after log (newest log)) ≡ log.held_after

-- a put or remove on its way, with the tree and the log
pub record WriteState : Type 0 where
  pub tree : ArenaView
  pub log : LogView
  pub write : Write

abbrev pub state : ArenaView → LogView → Write → WriteState
state a log write = record { tree = a; log = log; write = write }

-- what a run asks: there is a world in which the call's record is true, the call began in no later epoch than the present
-- one, and the log has the room that the call has reserved
pub record MayRun (C : ℕ) (s : WriteState) : Type 0 where
  pub now : ℕ
  pub begun : ℕ
  pub moves : ℕ
  pub past : List Arena
  pub w : World
  pub world : IsWorld s.tree now w
  pub since : begun ≤ now
  pub true : WriteIsTrue C s.write begun moves past s.tree w
  pub room : (write_held s.write).reserves ≤ s.log.reserved

-- the call continues, and has not waited
abbrev pub Advances : Progress → Type 0
Advances Moved = Unit {0}
Advances (Committed number) = Unit {0}
Advances _ = ⊥

-- how many commits it is
abbrev pub commits_in : Progress → ℕ
commits_in (Committed number) = 1
commits_in _ = 0

-- a step, after which the log is trimmed
pub record RunStep (C : ℕ) (s : WriteState) (p : Progress) (t : WriteState) : Type 0 where
  pub log : LogView
  pub step : WriteStep C s.tree t.tree s.log log s.write s.write.stage p t.write
  pub sound : IsLog log
  pub bounds : bounds log ≡ bounds s.log
  pub trims : t.log ≡ trimmed log
  pub arena : IsArena s.tree
  pub arena_after : IsArena t.tree

-- steps one after the other, which come to this
abbrev pub RunSteps : ℕ → WriteState → List Progress → WriteState → Type 0
RunSteps C s [] t = t ≡ s
RunSteps C s (p ∷ ps) t = (next : WriteState) × RunStep C s p next × RunSteps C next ps t

-- a run so far: this many steps, of which this many are commits, and after each the call continues at once
pub record Running (C : ℕ) (s : WriteState) (steps commits : ℕ) (t : WriteState) : Type 0 where
  pub done : List Progress
  pub advance : All Advances done
  pub are : RunSteps C s done t
  pub many : steps ≡ length done
  pub commits_are : commits ≡ sum_by commits_in done

-- A RUN: steps, after each of which but the last the call continues at once
pub record HasRun (C : ℕ) (s : WriteState) (run : WriteRun) (t : WriteState) : Type 0 where
  pub steps : List Progress
  pub advance : All Advances steps
  pub before : WriteState
  pub are : RunSteps C s steps before
  pub last : RunStep C before run.last t
  pub many : run.steps ≡ length steps + 1
  pub commits : run.commits ≡ sum_by commits_in steps + commits_in run.last

-- how many values a write reads of its border, if it finds this there
abbrev pub values_read : Found → ℕ
values_read (AbsentFound place) = 0
values_read _ = 1

-- and of a border that it only passes, by where a visit of it leads: the right link; or that, the order, each key, and
-- the link to the layer below
abbrev pub passed_fields : Visit → List Entry → ℕ
passed_fields (Below head) live = length live + 3
passed_fields _ live = 1

-- AT A BORDER THAT IT ONLY PASSES it makes this run, after which it continues
pub record PassesAt (C : ℕ) (a after : ArenaView) (log : LogView) (write : Write) (run : WriteRun) (then : Write) : Type 0 where
  pub runs : HasRun C (state a log write) run (state after log then)
  pub may : MayRun C (state after log then)

-- what was found doesn't make a put split the border
abbrev pub IsStraight : Edit → BorderView → Found → Type 0
IsStraight (PutEdit sets only) b found = NeedsNoSplit b found
IsStraight RemoveEdit b found = Unit {0}

-- what a write asks at the border that it has locked and read, if it has found this
pub record MayAct (C : ℕ) (a : ArenaView) (log : LogView) (write : Write) (found : Found) (there : There) : Type 0 where
  pub may : MayRun C (state a log (record write { stage = Searched there }))
  pub trimmed : IsTrimmed log
  pub arena : IsArena a
  pub sound : IsLog log
  pub finds : Finds a write.key write.way found
  pub straight : IsSomeAnd (border_at a.nodes write.way.node.0) (λ b. IsStraight write.edit b found)

-- the stage at which it is after such a commit, and how many steps it makes at most before it unlocks
abbrev pub stage_after : AtCommit → Stage
stage_after committed = cond committed.hides (Hidden committed.commit) (Stored committed.commit None)

abbrev pub steps_after : AtCommit → ℕ
steps_after committed = cond committed.hides 2 0

-- AT ITS BORDER, which it has locked and read, a write makes ready and commits, in this many steps
pub record CommitsAt (C : ℕ) (a after : ArenaView) (log left : LogView) (write : Write) (there : There) (committed : AtCommit) : Type 0 where
  pub run : HasRun C (state a log (record write { stage = Searched there }))
      (record { steps = committed.steps; commits = 1; last = Committed committed.commit })
      (state after left (record write { stage = stage_after committed }))
  pub may : MayRun C (state after left (record write { stage = stage_after committed }))
  pub trimmed : IsTrimmed left
  pub few : committed.steps + steps_after committed ≤ 4

-- AFTER ITS COMMIT a write has dropped the row that it has hidden, if it has hidden one, in this many steps
pub record HasForgotten (C : ℕ) (a after : ArenaView) (log : LogView) (write : Write) (committed : AtCommit) (steps : ℕ) : Type 0 where
  pub running : Running C (state a log (record write { stage = stage_after committed })) steps 0
      (state after log (record write { stage = Stored committed.commit None }))
  pub may : MayRun C (state after log (record write { stage = Stored committed.commit None }))
  pub few : steps ≤ steps_after committed
  pub arena : IsArena after

-- without a delta it has made the commit of a number there, or none, or has failed
abbrev pub CommitsUnread : ℕ → ArenaView → ArenaView → LogView → LogView → Write → There → Result (Option AtCommit) Refusal → Type 0
CommitsUnread C a after log left write there (Ok None) = (after ≡ a) × (left ≡ log)
CommitsUnread C a after log left write there (Ok (Some committed)) = CommitsAt C a after log left write there committed
CommitsUnread C a after log left write there (Err refusal) = WriteStep C a after log left write (Searched there) Moved
    (record write { stage = Failed refusal None })

-- the key and the row of a new key are written, one after the other
pub record InsertsAt (a after : ArenaView) (write : Write) (stage then : Stage) : Type 0 where
  pub between : Stage
  pub keyed : ArenaView
  pub key : TreeStep a keyed write stage Moved (record write { stage = between })
  pub value : TreeStep keyed after write between Moved (record write { stage = then })
  pub arena : IsArena keyed

-- from this stage it has committed at once, or has written a new key and its row before
pub record CommitsStage (a after : ArenaView) (log left : LogView) (write : Write) (stage : Stage) (committed : AtCommit) : Type 0 where
  pub between : ArenaView
  pub then : Stage
  pub writes : ((between ≡ a) × (then ≡ stage) × (committed.steps ≡ 2))
      ⊎ (InsertsAt a between write stage then × (committed.steps ≡ 4) × (committed.hides ≡ false))
  pub arena : IsArena between
  pub commits : (C : ℕ) → WriteStep C between after log left write then (Committed committed.commit)
      (record write { stage = stage_after committed })

-- so much it has done there: it has found no row to remove, or committed, or made another stage ready
abbrev pub ComesTo : ℕ → ArenaView → ArenaView → LogView → LogView → Write → There → AtBorder → Type 0
ComesTo C a after log left write there Absent = FindsNone C a after log left write there
ComesTo C a after log left write there (Commits committed) = CommitsAt C a after log left write there committed
ComesTo C a after log left write there (Ready stage) = WriteStep C a after log left write (Searched there) Moved
    (record write { stage = stage })
