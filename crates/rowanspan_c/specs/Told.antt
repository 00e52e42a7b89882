-- What a call returns to its caller: a status, a number, and the bytes in its buffer.
use Rattle.std.specs.Prelude.{ℕ, ◌≡◌, ◌<◌, ◌≤◌, ◌⊎◌, List, ◌++◌, length, drop, Result, Ok, Err, Option, Some, None, unwrap_or}
use Rattle.mt_types.specs.RefusalNumbers.{refusal_number, refusal_detail}
use Rattle.mt_types.specs.declared.refusal.Refusal.{Refusal}
use Rattle.mt_types.specs.TidyNumbers.{tidy_number}
use Rattle.mt_types.specs.declared.event.Answer.{Answer}
use Rattle.mt_types.specs.declared.event.Answer.TheVariants.{Absent, Stored, Removed, Tidied, Built}
use Rattle.mt_types.specs.declared.event.Outcome.{Outcome}
use Rattle.mt_types.specs.declared.event.Outcome.TheVariants.{Applied, Current, Epoch, Freed, Refused}
use Rattle.rowanspan_c.specs.declared.status.TheConstants.{DONE, ABSENT, NO_ROOM, CURRENT}

-- a status and a number
abbrev pub Tells : ℕ → ℕ → ℕ → ℕ → Type 0
Tells status number told_status told = (told_status ≡ status) × (told ≡ number)

-- a refusal: its number, and the number of a commit that goes with it, or 0
abbrev pub TellsRefusal : Refusal → ℕ → ℕ → Type 0
TellsRefusal refusal status told = Tells (refusal_number refusal) (unwrap_or (refusal_detail refusal) 0) status told

-- the answer of a call: the number of its commit, of its view, or of what it did
abbrev pub TellsAnswer : Answer → ℕ → ℕ → Type 0
TellsAnswer Absent status told = Tells ABSENT 0 status told
TellsAnswer (Stored number) status told = Tells DONE number status told
TellsAnswer (Removed number) status told = Tells DONE number status told
TellsAnswer (Tidied rule) status told = Tells DONE (tidy_number rule) status told
TellsAnswer (Built view) status told = Tells DONE view.0 status told
TellsAnswer _ status told = Tells DONE 0 status told

-- the end of a call
abbrev pub TellsEnd : Result Answer Refusal → ℕ → ℕ → Type 0
TellsEnd (Ok answer) status told = TellsAnswer answer status told
TellsEnd (Err refusal) status told = TellsRefusal refusal status told

-- a number, or why there is none
abbrev pub TellsCount : Result ℕ Refusal → ℕ → ℕ → Type 0
TellsCount (Ok count) status told = Tells DONE count status told
TellsCount (Err refusal) status told = TellsRefusal refusal status told

-- what came of an event
abbrev pub TellsOutcome : Outcome → ℕ → ℕ → Type 0
TellsOutcome (Applied number) status told = Tells DONE number status told
TellsOutcome Current status told = Tells CURRENT 0 status told
TellsOutcome (Epoch number) status told = Tells DONE number status told
TellsOutcome (Freed count) status told = Tells DONE count status told
TellsOutcome (Refused refusal) status told = TellsRefusal refusal status told
TellsOutcome _ status told = Tells DONE 0 status told

-- BYTES ARE HANDED OUT if the buffer has room: they are at its front, and the rest is as it was. Else nothing is
-- written. How many there are is reported in both cases.
abbrev pub HandsOut : List ℕ → List ℕ → List ℕ → ℕ → ℕ → Type 0
HandsOut bytes old new status told =
    ((length bytes ≤ length old) × (new ≡ bytes ++ drop (length bytes) old) × Tells DONE (length bytes) status told)
    ⊎ ((length old < length bytes) × (new ≡ old) × Tells NO_ROOM (length bytes) status told)

-- what a question returns, and what is then in the buffer
abbrev pub TellsRead : Result (Option (List ℕ)) Refusal → List ℕ → List ℕ → ℕ → ℕ → Type 0
TellsRead (Ok (Some bytes)) old new status told = HandsOut bytes old new status told
TellsRead (Ok None) old new status told = (new ≡ old) × Tells ABSENT 0 status told
TellsRead (Err refusal) old new status told = (new ≡ old) × TellsRefusal refusal status told
