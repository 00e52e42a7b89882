-- What a log file and its disk show.
use Rattle.std.specs.Prelude.{◌≡◌, ℕ, Bool, true, List, [], ◌∷◌}
use Rattle.sqlite_disk.specs.declared.modelled.Modelled.{Modelled}
use Rattle.sqlite_disk.specs.declared.calls.Calls as calls
use Rattle.sqlite_disk.specs.declared.start.Start.{Ghosts}
use Rattle.sqlite_disk.specs.Modelled.{calls_of, is_log, start_of}
use Rattle.sqlite_disk.specs.Events.{Event, Model, settled, replay}
use Rattle.sqlite_disk.specs.History.{MayLeave}
use Rattle.mt_log_disk.specs.declared.host.HostFile.{HostFile}

-- the calls that it has had, the newest first
abbrev pub events_of : HostFile → List Event
events_of host = host.made.events

module _ {S : Type 0} {g : calls.Ghosts HostFile} where
  -- what its calls have made of it
  abbrev pub model_of : {start : Ghosts S} → Modelled HostFile S g start → Model
  model_of {start} disk = replay (start_of start disk) (events_of (calls_of disk))

  -- its members `seen`, `may_leave`, `is_usable`, `faults`, `is_clean` and `is_mixing`
  abbrev pub log_seen : {start : Ghosts S} → Modelled HostFile S g start → List ℕ
  log_seen disk = (model_of disk).seen

  abbrev pub log_leaves : {start : Ghosts S} → Modelled HostFile S g start → List ℕ → Type 0
  log_leaves {start} disk = let m = model_of disk in MayLeave start.is_mixing m.seen m.synced m.steps

  abbrev pub log_is_usable : {start : Ghosts S} → Modelled HostFile S g start → Bool
  log_is_usable disk = (model_of disk).is_usable

  abbrev pub log_faults : {start : Ghosts S} → Modelled HostFile S g start → ℕ
  log_faults disk = (model_of disk).faults

  abbrev pub log_is_clean : {start : Ghosts S} → Modelled HostFile S g start → Bool
  log_is_clean disk = (model_of disk).is_honest

  abbrev pub log_is_mixing : {start : Ghosts S} → Modelled HostFile S g start → Bool
  log_is_mixing {start} disk = start.is_mixing

  -- it is a log that was settled, and nothing has happened since
  abbrev pub IsFresh : {start : Ghosts S} → Modelled HostFile S g start → Type 0
  IsFresh disk = (is_log disk ≡ true) × (events_of (calls_of disk) ≡ settled 0 ∷ [])
