-- The cause of an error, told by a step of the call.
use Rattle.std.proofs.Common.{◌≡◌, ℕ, Bool, true, refl, subst, ◌∙◌}
use Rattle.std.specs.Prelude.{IsTrue, Result, Ok, Err}
use Rattle.sqlite_disk.specs.Disk.{MoreFaults}
use Rattle.mt_frame.specs.declared.fault.EncodeError.{EncodeError}
use Rattle.mt_frame.specs.declared.fault.EncodeError.TheVariants as encoding
use Rattle.mt_journal.specs.declared.error.JournalError.{JournalError}
use Rattle.mt_journal.specs.declared.error.JournalError.TheVariants.{NoLog, NotALog, UnknownFormat, OtherColumns, Damaged, DiskFull, Disk, GivenUp, TooLong, NoMemory}
use Rattle.mt_journal.specs.Causes.{of_encoding, OpenFails, OpenHasCause}

-- an entry that is not too long is not written only if memory runs out
pub encode_caused : (e : EncodeError) (usable : Bool) (wrong : JournalError → Type 0) (faults : ℕ) → IsTrue usable → (e ≡ encoding.TooLong → ⊥)
    → OpenFails (of_encoding e) usable wrong faults faults
encode_caused encoding.TooLong usable wrong faults is short = absurd (short refl)
encode_caused encoding.NoMemory usable wrong faults is short = (is, refl)

-- the steps before have not failed
pub step_caused : (e : JournalError) (usable : Bool) (wrong : JournalError → Type 0) (old middle new : ℕ) → IsTrue usable → middle ≡ old
    → OpenFails e true wrong middle new → OpenFails e usable wrong old new
step_caused NoLog usable wrong old middle new is same cause = (is, cause.1, cause.2 ∙ same)
step_caused NotALog usable wrong old middle new is same cause = (is, cause.1, cause.2 ∙ same)
step_caused UnknownFormat usable wrong old middle new is same cause = (is, cause.1, cause.2 ∙ same)
step_caused (OtherColumns columns) usable wrong old middle new is same cause = (is, cause.1, cause.2 ∙ same)
step_caused (Damaged place damage) usable wrong old middle new is same cause = (is, cause.1, cause.2 ∙ same)
step_caused DiskFull usable wrong old middle new is same cause = (is, cause.1, cause.2 ∙ same)
step_caused (Disk error) usable wrong old middle new is same cause = (is, subst (λ (n : ℕ). MoreFaults n new) same cause.1)
step_caused GivenUp usable wrong old middle new is same cause = absurd (let e = cause.0 in cc)
step_caused TooLong usable wrong old middle new is same cause = (is, cause.1, cause.2 ∙ same)
step_caused NoMemory usable wrong old middle new is same cause = (is, cause.1 ∙ same)

pub steps_caused : {T : Type 0} (r : Result T JournalError) (usable : Bool) (old middle new : ℕ) → IsTrue usable → middle ≡ old
    → OpenHasCause r true (λ error. ⊥) middle new → OpenHasCause r usable (λ error. ⊥) old new
steps_caused (Ok x) usable old middle new is same cause = (is, cause.1 ∙ same)
steps_caused (Err e) usable old middle new is same cause = step_caused e usable (λ error. ⊥) old middle new is same cause
