-- THE COMMITS OF A FOLDER: what the log in use and the other file have of the changes of an index, and what a crash leaves.
use Rattle.std.specs.Prelude.{◌≡◌, ◌⊎◌, ◌≤◌, ℕ, true, false, List, [], take, length, drop}
use Rattle.std.specs.List.{list_any}
use Rattle.mt_types.specs.Rows.{after}
use Rattle.mt_types.specs.declared.row.Change.{Change}
use Rattle.mt_frame.specs.declared.entry.Entry.{Entry}
use Rattle.mt_frame.specs.declared.entry.LogHeader.{LogHeader}
use Rattle.mt_frame.specs.declared.entry.Part.{Part}
use Rattle.mt_frame.specs.declared.entry.Record.{Record}
use Rattle.mt_journal.specs.declared.position.Position.{Position}
use Rattle.mt_journal.specs.Keeping.{Keeps, AllBegin}
use Rattle.mt_journal.specs.Log.{log_spelling, IsLog}
use Rattle.mt_promise.specs.Alone.{IsRangeOfMap}
use Rattle.mt_replay.specs.Redo.{is_seal, number_after}
use Rattle.mt_replay.specs.RedoLaws.{HaveCommits}
use Rattle.mt_replay.specs.Replay.{records_of}
use Rattle.mt_folder_laws.specs.Copied.{AreCopied, Covers}
use Rattle.mt_folder_laws.specs.Left.{AreLeft, HasNoNewer, HasSeal, IsOnOlder}
use Rattle.mt_folder_log.specs.declared.checkpoint.Other.{Other}
use Rattle.mt_folder_log.specs.declared.checkpoint.Other.TheVariants.{Free, Needed, Gone}
use Rattle.mt_folder_log.specs.declared.checkpoint.TheConstants.{PART}
use Rattle.mt_folder_log.specs.declared.log.FolderLog.{FolderLog}
use Rattle.mt_folder_log.specs.Moving.{start_of}

-- the log has a seal, and whatever a crash leaves of it has the entries up to the seal
pub record KeepsSeal (C : ℕ) (changes : List Change) (header : LogHeader) (entries : List Entry) (leaves : List ℕ → Type 0) : Type 0 where
  pub seal : HasSeal C changes header entries
  pub begins : AllBegin (log_spelling header seal.first) leaves

-- the log has all rows itself: from the first commit on, or since its seal
abbrev pub IsWhole : ℕ → List Change → LogHeader → List Entry → (List ℕ → Type 0) → Type 0
IsWhole C changes header entries leaves =
    ((header.base ≡ 0) × (list_any is_seal entries ≡ false)) ⊎ KeepsSeal C changes header entries leaves

-- the file has the whole log that the log in use continues, and a crash can't change it
abbrev pub IsBefore : ℕ → List Change → LogHeader → (List ℕ → Type 0) → Type 0
IsBefore C changes header leaves = (others : List ℕ) → leaves others → IsOnOlder C changes header others

-- by the role of the other file
abbrev pub HasRole : {D : Type 0} → ℕ → List Change → (D → List ℕ → Type 0) → Other D → LogHeader → List Entry → (List ℕ → Type 0) → Type 0
HasRole C changes may_leave (Free disk most) header entries leaves = IsWhole C changes header entries leaves
HasRole C changes may_leave (Needed disk last copied has_all) header entries leaves =
    (list_any is_seal entries ≡ false) × IsBefore C changes header (may_leave disk)
    × AreCopied C changes header.base entries (Covers last has_all)
HasRole C changes may_leave Gone header entries leaves = IsWhole C changes header entries leaves

-- THESE CHANGES ARE KEPT by the log at this position of this disk, with the other file: the log has the commits that follow its
-- base, and the rows are in it, or in the log before and in part in it
pub record AreKept {D : Type 0} (C : ℕ) (seen : D → List ℕ) (may_leave : D → List ℕ → Type 0) (changes : List Change) (at : Position) (disk : D) (other : Other D) : Type 0 where
  pub header : LogHeader
  pub entries : List Entry
  pub keeps : Keeps at (seen disk) (may_leave disk) header entries
  pub columns : header.columns ≡ C
  pub commits : HaveCommits C changes header.base entries
  pub within : number_after header.base entries ≤ length changes
  pub role : HasRole C changes may_leave other header entries (may_leave disk)

abbrev pub HasChanges : {D : Type 0} → (D → List ℕ) → (D → List ℕ → Type 0) → List Change → FolderLog D → Type 0
HasChanges seen may_leave changes log =
    AreKept log.columns seen may_leave changes log.journal.at log.journal.disk log.other

-- the next commits of these changes, after the first n
abbrev pub AreNext : ℕ → List Change → ℕ → List Record → Type 0
AreNext C changes n records = records ≡ take (length records) (drop n (records_of C changes))

-- the first rows after n commits, from the key on from which the next are to be copied
abbrev pub AreNextRows : {D : Type 0} → ℕ → List Change → ℕ → Other D → Part → Type 0
AreNextRows C changes n other part = IsRangeOfMap (after C (take n changes)) [] (start_of other) PART part.rows

-- all rows were copied, if a checkpoint is in progress
abbrev pub HasAll : {D : Type 0} → Other D → Type 0
HasAll (Free disk most) = Unit {0}
HasAll (Needed disk last copied has_all) = has_all ≡ true
HasAll Gone = Unit {0}

-- what a crash may leave of the other file: what it may of the log before, or anything without a newer log than the one in use,
-- but for one that was begun after a durable commit and not used
abbrev pub MayBeBeside : {D : Type 0} → ℕ → (D → List ℕ → Type 0) → ℕ → ℕ → Other D → List ℕ → Type 0
MayBeBeside C may_leave durable generation (Free disk most) others = HasNoNewer C generation durable others
MayBeBeside C may_leave durable generation (Needed disk last copied has_all) others = may_leave disk others
MayBeBeside C may_leave durable generation Gone others = HasNoNewer C generation durable others

-- AFTER A CRASH, whatever it leaves of the two files, of which the log in use has this generation, they have the first of these
-- changes, at least as many as are durable, and the rows after them are read
abbrev pub AllFound : {D : Type 0} → ℕ → (D → List ℕ → Type 0) → List Change → ℕ → ℕ → D → Other D → Type 0
AllFound C may_leave changes durable generation disk other =
    (left others : List ℕ) → may_leave disk left → MayBeBeside C may_leave durable generation other others → AreLeft C changes durable left others

abbrev pub AllRecover : {D : Type 0} → (D → List ℕ → Type 0) → List Change → ℕ → ℕ → FolderLog D → Type 0
AllRecover may_leave changes durable generation log =
    AllFound log.columns may_leave changes durable generation log.journal.disk log.other

-- whatever a crash leaves of the log in use is a log with this header
abbrev pub AllHaveHeader : LogHeader → (List ℕ → Type 0) → Type 0
AllHaveHeader header may_leave = (left : List ℕ) → may_leave left → (entries : List Entry) × IsLog header entries left
