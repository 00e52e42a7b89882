-- What each call does with what a handle holds, and what it reports.
use Rattle.std.specs.Prelude.{ℕ, ◌≡◌, ◌⊎◌, List, Result, Option, Some, None, IfOk, IfErr}
use Rattle.std.specs.FinMap.{len}
use Rattle.mt_types.specs.Limits.{open_fault}
use Rattle.mt_types.specs.RefusalNumbers.{refusal_number}
use Rattle.mt_types.specs.declared.event.Answer.{Answer}
use Rattle.mt_types.specs.declared.event.Event.{Event}
use Rattle.mt_types.specs.declared.event.Outcome.{Outcome}
use Rattle.mt_types.specs.declared.event.Request.{Request}
use Rattle.mt_types.specs.declared.refusal.Refusal.{Refusal}
use Rattle.mt_index.specs.declared.options.Options.{Options}
use Rattle.mt_promise.specs.History.{History, moment, rows}
use Rattle.mt_index.specs.Events.{IsOpened}
use Rattle.mt_index.specs.Stands.{Stands}
use Rattle.mt_map.specs.Tidies.{ChangeComesTo, MapMakes, MapView}
use Rattle.mt_map.specs.Views.{IsStopped, KeepsUp}
use Rattle.rowanspan_c.specs.declared.status.TheConstants.{DONE, CLOSED, HELD}
use Rattle.rowanspan_c.specs.declared.changing.TheConstants.{MOST_TURNS}
use Rattle.rowanspan_c.specs.Questions.{CountsTo, IsCausedBy}
use Rattle.rowanspan_c.specs.Told.{Tells, TellsCount, TellsEnd, TellsOutcome, TellsRead}

-- ---- what comes of it
-- a call on a handle that holds no index reports so, and the handle still holds none
abbrev pub TellsClosed : Option MapView → ℕ → ℕ → Type 0
TellsClosed next status told = (next ≡ None) × Tells CLOSED 0 status told

-- WHAT IS ASKED FOR IS DONE with the index that the handle holds, as a map does it, and its end is reported
abbrev pub Changes : Option MapView → Request → Option MapView → ℕ → ℕ → Type 0
Changes None request next status told = TellsClosed next status told
Changes (Some s) request next status told =
    (t : MapView) × (next ≡ Some t) × (ended : Result Answer Refusal) × ChangeComesTo s request ended t
    × TellsEnd ended status told

-- A QUESTION IS ANSWERED from the index that the handle holds, into a buffer
abbrev pub Reads : Option MapView → (MapView → Result (Option (List ℕ)) Refusal → Type 0) → List ℕ → List ℕ → ℕ → ℕ
    → Type 0
Reads None is_answer old new status told = (new ≡ old) × Tells CLOSED 0 status told
Reads (Some s) is_answer old new status told =
    (read : Result (Option (List ℕ)) Refusal) × is_answer s read × TellsRead read old new status told

-- AN EVENT HAPPENS to the index that the handle holds, and its outcome is reported
abbrev pub Meets : Option MapView → Event → Option MapView → ℕ → ℕ → Type 0
Meets None event next status told = TellsClosed next status told
Meets (Some s) event next status told =
    (t : MapView) × (next ≡ Some t) × (outcome : Outcome) × MapMakes s event outcome t × TellsOutcome outcome status told

-- VIEWS ARE ADVANCED, one commit of one view in each turn, until each is at the newest commit or memory is refused; how
-- many turns advanced a view is reported
abbrev pub KeepsViews : Option MapView → Option MapView → ℕ → ℕ → Type 0
KeepsViews None next status told = TellsClosed next status told
KeepsViews (Some s) next status told =
    (t : MapView) × (next ≡ Some t) × (kept : Result ℕ Refusal)
    × IfOk kept (λ applied. KeepsUp s.machine MOST_TURNS applied t.machine)
    × IfErr kept (λ refusal. IsStopped s.machine MOST_TURNS refusal t.machine)
    × (t.tidies ≡ s.tidies) × TellsCount kept status told

-- ROWS ARE COUNTED in the index that the handle holds
abbrev pub CountsRows : Option MapView → List ℕ → Option (List ℕ) → ℕ → ℕ → ℕ → Type 0
CountsRows None start end most status told = Tells CLOSED 0 status told
CountsRows (Some s) start end most status told =
    (count : Result ℕ Refusal) × CountsTo s.machine start end most count × TellsCount count status told

-- the number of all rows is reported
abbrev pub CountsAll : Option MapView → ℕ → ℕ → Type 0
CountsAll None status told = Tells CLOSED 0 status told
CountsAll (Some s) status told =
    (h : History) → Stands s.machine h → Tells DONE (len (rows s.machine.columns (moment h))) status told

-- a number of the index is reported
abbrev pub Counts : Option MapView → (MapView → ℕ) → ℕ → ℕ → Type 0
Counts None count status told = Tells CLOSED 0 status told
Counts (Some s) count status told = Tells DONE (count s) status told

-- AN INDEX IS OPENED if the handle holds none and the options break no limit
abbrev pub Opens : Option MapView → Options → Option MapView → ℕ → Type 0
Opens (Some s) options next status = (next ≡ Some s) × (status ≡ HELD)
Opens None options next status =
    ((t : MapView) × (next ≡ Some t) × IsOpened options t.machine × (t.tidies ≡ options.tidies) × (status ≡ DONE)
    × (open_fault options.columns options.log_capacity options.log_retention ≡ None))
    ⊎ ((refusal : Refusal) × IsCausedBy (open_fault options.columns options.log_capacity options.log_retention) refusal
    × (next ≡ None) × (status ≡ refusal_number refusal))

abbrev pub close_status : Option MapView → ℕ
close_status None = CLOSED
close_status (Some s) = DONE
