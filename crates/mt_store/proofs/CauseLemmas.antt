-- The causes of what a store's calls have returned.
use Rattle.std.proofs.Common.{◌≡◌, ◌∙◌, ap, ℕ, Bool, Option, Some, None, Result, Ok, Err}
use Rattle.std.specs.Prelude.{MatchOption}
use Rattle.mt_types.specs.declared.refusal.Refusal.{Refusal}
use Rattle.mt_types.specs.declared.refusal.Refusal.TheVariants as refusals
use Rattle.mt_journal.specs.declared.error.JournalError.{JournalError}
use Rattle.mt_journal.specs.declared.error.JournalError.TheVariants.{NoLog, NotALog, UnknownFormat, OtherColumns, Damaged, DiskFull, Disk, GivenUp, TooLong, NoMemory}
use Rattle.mt_journal.specs.Causes.{AppendHasCause}
use Rattle.mt_store.specs.Causes.{WriteFails}
use Rattle.mt_store.specs.declared.error.StoreError.{StoreError}
use Rattle.mt_store.specs.declared.error.StoreError.TheVariants.{Refused}

-- the error of an append is that of the write
pub write_fails : (error : JournalError) (asks : Bool) (P Q : Type 0) (old new : ℕ) → (P → Q) → AppendHasCause {T = ℕ} (Err error) asks P old new → WriteFails error asks Q old new
write_fails NoLog asks P Q old new then cause = absurd cause
write_fails NotALog asks P Q old new then cause = absurd cause
write_fails UnknownFormat asks P Q old new then cause = absurd cause
write_fails (OtherColumns columns) asks P Q old new then cause = absurd cause
write_fails (Damaged place damage) asks P Q old new then cause = absurd cause
write_fails DiskFull asks P Q old new then cause = cause
write_fails (Disk error) asks P Q old new then cause = cause
write_fails GivenUp asks P Q old new then cause = cause
write_fails TooLong asks P Q old new then cause = (cause.0, then cause.1, cause.2)
write_fails NoMemory asks P Q old new then cause = cause.1

-- ---- a map that is opened
-- it was refused for a fault of the options, or out of memory
pub refused_for : (S T : Type 0) (fault own : Option Refusal) (refusal : Refusal) (P : Type 0) → fault ≡ own → MatchOption fault (refusal ≡ refusals.NoMemory) (λ r. ◌≡◌ {A = Result S Refusal} (Err refusal) (Err r))
    → (refusal ≡ refusals.NoMemory → P) → MatchOption own P (λ r. ◌≡◌ {A = Result T StoreError} (Err (Refused refusal)) (Err (Refused r)))
refused_for S T None None refusal P same cause then = then cause
refused_for S T None (Some r) refusal P same cause then = absurd (cc)
refused_for S T (Some f) None refusal P same cause then = absurd (cc)
refused_for S T (Some f) (Some r) refusal P same cause then =
    let one : refusal ≡ f = cc in
    let two : f ≡ r = cc in
    ap (λ (x : Refusal). Err (Refused x)) (one ∙ two)

-- it was opened, so the options have none
pub not_refused : {S : Type 0} (fault own : Option Refusal) (map : S) (P Q : Type 0) (R : Refusal → Type 0) → fault ≡ own → MatchOption fault Q (λ r. ◌≡◌ {A = Result S Refusal} (Ok map) (Err r)) → P → MatchOption own P R
not_refused None None map P Q R same cause holds = holds
not_refused None (Some r) map P Q R same cause holds = absurd (cc)
not_refused (Some f) None map P Q R same cause holds = absurd (cc)
not_refused (Some f) (Some r) map P Q R same cause holds = absurd (cc)
