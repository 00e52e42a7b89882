-- What a write has left of a log.
use Rattle.std.proofs.Common.{◌≡◌, ℕ, ◌∷◌, ◌+◌, ◌∙◌, Bool, true, false, List, [], length, map, Ok, Err, arith, ap, subst, sym, refl, inl, inr}
use Rattle.std.specs.Prelude.{◌==◌}
use Rattle.std.proofs.lemmas.Bool.{eqb-true}
use Rattle.std.specs.Global.{Vec}
use Rattle.mt_types.specs.declared.limits.TheConstants.{MAX_RANGE}
use Rattle.mt_types.specs.declared.row.Delta.{Delta}
use Rattle.mt_frame.specs.declared.entry.Entry.{Entry}
use Rattle.mt_frame.specs.declared.entry.Entry.TheVariants.{Commits as Group}
use Rattle.mt_frame.specs.declared.entry.LogHeader.{LogHeader}
use Rattle.mt_frame.specs.declared.entry.Record.{Record}
use Rattle.mt_journal.specs.declared.position.Position.{Position}
use Rattle.mt_journal.specs.Appending.{with_commits}
use Rattle.mt_journal.specs.Keeping.{AllSurvive}
use Rattle.mt_journal.proofs.Kept.{survive_more}
use Rattle.mt_replay.specs.Replay.{record_of}
use Rattle.mt_shared.specs.Feeds.{FeedsSomewhere}
use Rattle.mt_journal.specs.Causes.{AppendHasCause}
use Rattle.mt_journal.specs.declared.error.JournalError.{JournalError}
use Rattle.mt_journal.specs.declared.error.JournalError.TheVariants.{NoLog, NotALog, UnknownFormat, OtherColumns, Damaged, DiskFull, Disk, GivenUp, TooLong, NoMemory}
use Rattle.mt_logger.specs.declared.error.LoggerError.{LoggerError}
use Rattle.mt_logger.specs.declared.error.LoggerError.TheVariants.{Fed, Journal}
use Rattle.mt_logger.specs.Writing.{AreFed, AreTooLong, AppendFails, Leaves, WriteFails, Writes, entries_with}

-- ---- the entries with commits, if there are some
pub with_none : (at : Position) (deltas : List Delta) (entries : List Entry) → (length deltas == 0) ≡ true → entries ≡ entries_with at (map record_of deltas) entries
with_none at [] entries none = refl
with_none at (delta ∷ deltas) entries none = let zero = eqb-true (length (delta ∷ deltas)) 0 none in absurd (omega (arith, zero))

some_with : (at : Position) (deltas : List Delta) (entries : List Entry) → (length deltas == 0) ≡ false → with_commits at (map record_of deltas) entries ≡ entries_with at (map record_of deltas) entries
some_with at [] entries some = absurd cc
some_with at (delta ∷ deltas) entries some = refl

pub with_some : (at : Position) (records : List Record) (deltas : List Delta) (entries : List Entry) → records ≡ map record_of deltas → (length deltas == 0) ≡ false → with_commits at records entries ≡ entries_with at (map record_of deltas) entries
with_some at records deltas entries is some = ap (λ (rs : List Record). with_commits at rs entries) is ∙ some_with at deltas entries some

-- a crash leaves each durable commit, whether they were written or not
pub survive_with : (at : Position) (header : LogHeader) (entries : List Entry) (records : List Record) (durable : ℕ) (may : List ℕ → Type 0)
    → AllSurvive header entries durable may → AllSurvive header (entries_with at records entries) durable may
survive_with at header entries [] durable may all = all
survive_with at header entries (first ∷ more) durable may all =
    survive_more header entries (Group (record { first = at.newest + 1; durable = at.durable; records = first ∷ more }) ∷ []) durable may all

-- ---- what was fed
pub are_fed : (from : ℕ) (list : Vec Delta) → FeedsSomewhere from MAX_RANGE (Ok list) → AreFed from list.items
are_fed from list fed = (list, refl, fed)

-- nothing was written
pub leaves_none : (at : Position) (before : LogHeader → List Entry → Type 0) (may_leave : List ℕ → Type 0)
    → ((header : LogHeader) (entries : List Entry) → before header entries → AllSurvive header entries at.durable may_leave) → Leaves at before may_leave
leaves_none at before may_leave survive = record { deltas = []; fed = inl refl; survive = survive }

-- what was fed was written, or some of its bytes
pub leaves_fed : (at : Position) (before : LogHeader → List Entry → Type 0) (may_leave : List ℕ → Type 0) (list : Vec Delta) (read : List Delta) → FeedsSomewhere at.newest MAX_RANGE (Ok list) → read ≡ list.items
    → ((header : LogHeader) (entries : List Entry) → before header entries → AllSurvive header (entries_with at (map record_of read) entries) at.durable may_leave) → Leaves at before may_leave
leaves_fed at before may_leave list read fed is survive = record {
  deltas = read;
  fed = inr (list, sym is, fed);
  survive = survive;
}

pub writes_fed : (at : Position) (before after : LogHeader → List Entry → Type 0) (list : Vec Delta) (read : List Delta) (count : ℕ) → FeedsSomewhere at.newest MAX_RANGE (Ok list) → read ≡ list.items → count ≡ length list.items
    → ((header : LogHeader) (entries : List Entry) → before header entries → after header (entries_with at (map record_of read) entries)) → Writes at before after count
writes_fed at before after list read count fed is many kept = record {
  deltas = read;
  fed = (list, sym is, fed);
  many = many ∙ ap length (sym is);
  kept = kept;
}

-- ---- why nothing was written
pub append_fails : (at : Position) (asks : Bool) (old new : ℕ) (records : List Record) (deltas : List Delta) (error : JournalError) → records ≡ map record_of deltas
    → AppendHasCause {T = ℕ} (Err error) asks (AreTooLong at records) old new → AppendFails at (map record_of deltas) asks old new (Journal error)
append_fails at asks old new records deltas NoMemory is cause = cause.1
append_fails at asks old new records deltas TooLong is cause = subst (λ (rs : List Record). AppendHasCause {T = List Record} (Err TooLong) asks (AreTooLong at rs) old new) is cause
append_fails at asks old new records deltas GivenUp is cause = cause
append_fails at asks old new records deltas DiskFull is cause = cause
append_fails at asks old new records deltas (Disk error) is cause = cause
append_fails at asks old new records deltas NoLog is cause = absurd cause
append_fails at asks old new records deltas NotALog is cause = absurd cause
append_fails at asks old new records deltas UnknownFormat is cause = absurd cause
append_fails at asks old new records deltas (OtherColumns found) is cause = absurd cause
append_fails at asks old new records deltas (Damaged place damage) is cause = absurd cause

pub write_fails : (at : Position) (asks : Bool) (old new : ℕ) (list : Vec Delta) (read : List Delta) (error : LoggerError) → FeedsSomewhere at.newest MAX_RANGE (Ok list) → read ≡ list.items
    → AppendFails at (map record_of read) asks old new error → WriteFails at asks old new error
write_fails at asks old new list read (Fed refusal) fed is cause = absurd cause
write_fails at asks old new list read (Journal NoMemory) fed is cause = cause
write_fails at asks old new list read (Journal TooLong) fed is cause = (read, (list, sym is, fed), cause)
write_fails at asks old new list read (Journal GivenUp) fed is cause = (read, (list, sym is, fed), cause)
write_fails at asks old new list read (Journal DiskFull) fed is cause = (read, (list, sym is, fed), cause)
write_fails at asks old new list read (Journal (Disk error)) fed is cause = (read, (list, sym is, fed), cause)
write_fails at asks old new list read (Journal NoLog) fed is cause = absurd cause
write_fails at asks old new list read (Journal NotALog) fed is cause = absurd cause
write_fails at asks old new list read (Journal UnknownFormat) fed is cause = absurd cause
write_fails at asks old new list read (Journal (OtherColumns found)) fed is cause = absurd cause
write_fails at asks old new list read (Journal (Damaged place damage)) fed is cause = absurd cause
