-- Why bytes are no log.
use Rattle.std.proofs.Common.{◌≡◌, ℕ, true, List, [], length, sym, ap, ◌∙◌, arith, length-append}
use Rattle.mt_frame.proofs.FrameLaws.{ends_some}
use Rattle.mt_frame.specs.declared.entry.Entry.{Entry}
use Rattle.mt_frame.specs.declared.entry.LogHeader.{LogHeader}
use Rattle.mt_journal.specs.declared.error.JournalError.{JournalError}
use Rattle.mt_journal.specs.declared.error.JournalError.TheVariants.{NoLog, NotALog, UnknownFormat, OtherColumns, Damaged, DiskFull, Disk, GivenUp, TooLong, NoMemory}
use Rattle.mt_journal.specs.declared.position.Position.{Position}
use Rattle.mt_journal.specs.Causes.{OpenFails}
use Rattle.mt_journal.specs.Log.{log_spelling, IsLog}
use Rattle.mt_journal.specs.Recovery.{HasRead}
use Rattle.mt_journal.specs.Refusing.{NextFails, EntriesFail, IsNoRefusal}

-- what comes next is damaged after the entries that were read
pub entries_fail : (header : LogHeader) (entries : List Entry) (at : Position) (bytes : List ℕ) (e : JournalError) → HasRead header entries at bytes → NextFails at bytes e → EntriesFail header bytes e
entries_fail header entries at bytes NoLog read fails = fails
entries_fail header entries at bytes NotALog read fails = fails
entries_fail header entries at bytes UnknownFormat read fails = fails
entries_fail header entries at bytes (OtherColumns columns) read fails = fails
entries_fail header entries at bytes (Damaged place damage) read fails = record { entries = entries; at = at; read = read; place_is = fails.0; next = fails.1 }
entries_fail header entries at bytes DiskFull read fails = fails
entries_fail header entries at bytes (Disk error) read fails = fails
entries_fail header entries at bytes GivenUp read fails = fails
entries_fail header entries at bytes TooLong read fails = fails
entries_fail header entries at bytes NoMemory read fails = tt

-- an empty file is no log
log_some : (header : LogHeader) (others : List Entry) (seen : List ℕ) → IsLog header others seen → seen ≡ [] → ⊥
log_some header others seen log none =
    omega (arith, ap length log.parts, ap length none, length-append (log_spelling header others) log.rest, ends_some log.rest log.ended)

-- a file that is a log was not read: the error is none of its bytes
pub unread : (P : Type 0) (header : LogHeader) (others : List Entry) (seen before : List ℕ) (old new : ℕ) (e : JournalError) → IsLog header others before → seen ≡ before → P
    → OpenFails e true (λ error. (error ≡ NoLog) × (P → seen ≡ [])) old new → IsNoRefusal e
unread P header others seen before old new NoLog log same p cause = absurd (log_some header others before log (sym same ∙ cause.1.1 p))
unread P header others seen before old new NotALog log same p cause = absurd (let e = cause.1.0 in cc)
unread P header others seen before old new UnknownFormat log same p cause = absurd (let e = cause.1.0 in cc)
unread P header others seen before old new (OtherColumns columns) log same p cause = absurd (let e = cause.1.0 in cc)
unread P header others seen before old new (Damaged place damage) log same p cause = absurd (let e = cause.1.0 in cc)
unread P header others seen before old new DiskFull log same p cause = absurd (let e = cause.1.0 in cc)
unread P header others seen before old new (Disk error) log same p cause = tt
unread P header others seen before old new GivenUp log same p cause = tt
unread P header others seen before old new TooLong log same p cause = absurd (let e = cause.1.0 in cc)
unread P header others seen before old new NoMemory log same p cause = tt
