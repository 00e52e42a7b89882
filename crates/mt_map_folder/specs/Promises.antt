-- What the calls of a map's log promise, as relations of the log before a call and after it. Of a disk, a read sees `seen`, a
-- crash may leave `leaves`, no sync has failed if `is_usable`, `faults` calls have failed, and each byte of an unsynced write is
-- the old one or the new one if `is_mixing`.
use Rattle.std.specs.Prelude.{◌≡◌, ◌<◌, ℕ, nat_lt, Bool, false, List, length, Result, Ok, OnOk, OnErr, IfOk, IsTrue, IsFalse}
use Rattle.mt_frame.specs.declared.entry.Entry.{Entry}
use Rattle.mt_frame.specs.declared.entry.LogHeader.{LogHeader}
use Rattle.mt_frame.specs.declared.entry.Part.{Part}
use Rattle.mt_folder_log.specs.Moving.{end_of, start_of, IfFree, IfNeeded, IsAfter, IsFree, Needs}
use Rattle.mt_folder_log.specs.declared.checkpoint.TheConstants.{PART}
use Rattle.mt_index.specs.Feed.{feed_fault}
use Rattle.mt_index.specs.Stands.{MachineView, Stands}
use Rattle.mt_journal.specs.Appending.{with_part, with_seal}
use Rattle.mt_journal.specs.Causes.{may_ask}
use Rattle.mt_journal.specs.declared.error.JournalError.{JournalError}
use Rattle.mt_journal.specs.Keeping.{AllAreLogs, AllSurvive, Keeps}
use Rattle.mt_journal.specs.Recovery.{Mixes}
use Rattle.mt_promise.specs.History.{History}
use Rattle.mt_types.specs.declared.limits.TheConstants.{MAX_RANGE}
use Rattle.mt_map_folder.specs.declared.error.LogError.{LogError}
use Rattle.mt_map_folder.specs.declared.log.MapLog.{MapLog}
use Rattle.mt_map_folder.specs.Rounds.{acts, is_going, next_of, IfCopies, IfMoves, IfSeals}
use Rattle.mt_map_folder.specs.Written.{entries_with, left_after, AreOfMap, WriteHasCause}

-- the log has these entries
abbrev pub Has : {D : Type 0} → (D → List ℕ) → (D → List ℕ → Type 0) → MapLog D → LogHeader → List Entry → Type 0
Has seen leaves log header entries =
    Keeps log.log.journal.at (seen log.log.journal.disk) (leaves log.log.journal.disk) header entries

-- THE NEXT COMMITS of a map ARE WRITTEN, at most a thousand
pub record Writes {D : Type 0} (seen : D → List ℕ) (leaves : D → List ℕ → Type 0) (is_usable is_mixing : D → Bool) (faults : D → ℕ) (s : MachineView) (old new : MapLog D) (result : Result (Unit {0}) LogError) : Type 0 where
  pub kept : (h : History) (header : LogHeader) (entries : List Entry) → Stands s h → Has seen leaves old header entries
      → IsTrue (is_mixing new.log.journal.disk)
      → OnOk result (Has seen leaves new header (entries_with old.log.journal.at (left_after s.columns old.log.journal.at.newest h) entries))
  pub crash : (h : History) (header : LogHeader) (entries : List Entry) → Stands s h → Has seen leaves old header entries
      → IsTrue (is_mixing new.log.journal.disk)
      → AllSurvive header (entries_with old.log.journal.at (left_after s.columns old.log.journal.at.newest h) entries)
      old.log.journal.at.durable (leaves new.log.journal.disk)
  pub stays : (header : LogHeader) (entries : List Entry) → Has seen leaves old header entries
      → IsTrue (may_ask new.log.journal.is_given_up (is_usable new.log.journal.disk))
      → OnErr result (Has seen leaves new header entries)
  pub cause : WriteHasCause result (feed_fault s.log old.log.journal.at.newest MAX_RANGE) (new ≡ old)
      (may_ask old.log.journal.is_given_up (is_usable old.log.journal.disk)) old.log.journal.at
      (faults old.log.journal.disk) (faults new.log.journal.disk)

-- ALL THAT WAS WRITTEN IS MADE DURABLE
pub record Syncs {D : Type 0} (seen : D → List ℕ) (leaves : D → List ℕ → Type 0) (is_usable : D → Bool) (old new : MapLog D) (result : Result ℕ JournalError) : Type 0 where
  pub kept : (header : LogHeader) (entries : List Entry) → Has seen leaves old header entries
      → OnOk result (Has seen leaves new header entries)
  pub crash : (header : LogHeader) (entries : List Entry) → Has seen leaves old header entries
      → AllSurvive header entries old.log.journal.at.durable (leaves new.log.journal.disk)
  pub number : IfOk result (λ number. number ≡ old.log.journal.at.newest)
  pub durable : OnOk result (new.log.journal.at.durable ≡ old.log.journal.at.newest)
  pub stops : OnErr result (IsFalse (may_ask new.log.journal.is_given_up (is_usable new.log.journal.disk)))

-- A ROUND OF A CHECKPOINT, if one is due or asked for
pub record Advances {D : Type 0} (seen : D → List ℕ) (leaves : D → List ℕ → Type 0) (is_usable is_mixing : D → Bool) (s : MachineView) (begins : Bool) (old new : MapLog D) (result : Result Bool LogError) : Type 0 where
  pub moves : (header : LogHeader) (entries : List Entry) → Has seen leaves old header entries
      → IsTrue (acts old.log s begins) → 0 < old.log.journal.at.newest
      → IfMoves (next_of old.log) (IfFree old.log.other (OnOk result (Needs new.log.other (λ disk. AllAreLogs header entries (leaves disk)))))
  pub copies : (header : LogHeader) (entries : List Entry) → Has seen leaves old header entries
      → IsTrue (is_mixing new.log.journal.disk) → IsTrue (acts old.log s begins)
      → IfCopies (next_of old.log) (OnOk result ((part : Part) × AreOfMap s (start_of old.log.other) part
      × IsAfter (end_of part) (nat_lt (length part.rows) PART) old.log.other new.log.other
      × Has seen leaves new header (with_part part entries)))
  pub seals : (header : LogHeader) (entries : List Entry) → Has seen leaves old header entries
      → Mixes is_mixing → IsTrue (acts old.log s begins)
      → IfSeals (next_of old.log) (IfNeeded old.log.other (λ copied. OnOk result (IsFree new.log.other
      × AllAreLogs header (with_seal copied entries) (leaves new.log.journal.disk)
      × Has seen leaves new header (with_seal copied entries))))
  pub stays : (header : LogHeader) (entries : List Entry) → Has seen leaves old header entries
      → IsTrue (may_ask new.log.journal.is_given_up (is_usable new.log.journal.disk))
      → OnErr result (Has seen leaves new header entries)
  pub rests : acts old.log s begins ≡ false → (result ≡ Ok false) × (new ≡ old)
  pub going : IsTrue (acts old.log s begins) → IfOk result (λ going. going ≡ is_going (next_of new.log))
  pub newest : OnOk result (new.log.journal.at.newest ≡ old.log.journal.at.newest)
