-- What the two files of a folder have of the changes of an index, and what a crash leaves of that.
use Rattle.std.specs.Prelude.{◌≡◌, ◌⊎◌, ◌+◌, ◌++◌, ◌<◌, ◌≤◌, ℕ, false, List, [], length, take}
use Rattle.std.specs.List.{list_any}
use Rattle.std.specs.FinMap.{empty}
use Rattle.mt_types.specs.Rows.{after}
use Rattle.mt_types.specs.declared.row.Change.{Change}
use Rattle.mt_frame.specs.declared.entry.Entry.{Entry}
use Rattle.mt_frame.specs.declared.entry.LogHeader.{LogHeader}
use Rattle.mt_journal.specs.Keeping.{Survives}
use Rattle.mt_journal.specs.Log.{log_spelling, IsLog, MaySay}
use Rattle.mt_replay.specs.Redo.{is_seal, number_after}
use Rattle.mt_replay.specs.RedoLaws.{HaveCommits}
use Rattle.mt_folder.specs.declared.log.LogRead.{LogRead}
use Rattle.mt_folder.specs.declared.reading.RowsRead.{RowsRead}
use Rattle.mt_folder.specs.Files.{Says}
use Rattle.mt_folder.specs.Kept.{rows_after}
use Rattle.mt_folder_laws.specs.Crashes.{AreFirst, AreRead, IsUnsealed}
use Rattle.mt_folder_laws.specs.Grown.{IsSealed}

-- the log has a seal, and only commits follow it
pub record HasSeal (C : ℕ) (changes : List Change) (header : LogHeader) (entries : List Entry) : Type 0 where
  pub first : List Entry
  pub later : List Entry
  pub joined : entries ≡ first ++ later
  pub says : MaySay header first
  pub sealed : IsSealed C changes header first later

-- the log has all rows itself: from the first commit on, or since its seal
abbrev pub HasAllRows : ℕ → List Change → LogHeader → List Entry → Type 0
HasAllRows C changes header entries = ((header.base ≡ 0) × (list_any is_seal entries ≡ false)) ⊎ HasSeal C changes header entries

-- the other file has the whole log that a log with this header continues
pub record IsOnOlder (C : ℕ) (changes : List Change) (header : LogHeader) (others : List ℕ) : Type 0 where
  pub older : LogHeader
  pub entries : List Entry
  pub columns : older.columns ≡ C
  pub base : header.base ≡ number_after older.base entries
  pub generation : header.generation ≡ older.generation + 1
  pub rows : rows_after older entries empty ≡ after C (take (number_after older.base entries) changes)
  pub log : IsLog older entries others

-- a log that was begun after one of the first n commits of the log of this generation, and not used: the log didn't move there
pub record IsBegun (generation n : ℕ) (log : LogRead) : Type 0 where
  pub next : log.header.generation ≡ generation + 1
  pub some : 0 < log.header.base
  pub base : log.header.base ≤ n
  pub none : log.entries.items ≡ []

-- the other file has no newer log than that of this generation, but for one that was begun and not used
abbrev pub HasNoNewer : ℕ → ℕ → ℕ → List ℕ → Type 0
HasNoNewer C generation n others =
    (other : LogRead) → Says C others other → (other.header.generation < generation) ⊎ IsBegun generation n other

-- THE FILES HAVE THE FIRST n of these changes: the newer log is that of the first file
pub record HaveFirst (C : ℕ) (changes : List Change) (n : ℕ) (bytes others : List ℕ) : Type 0 where
  pub header : LogHeader
  pub entries : List Entry
  pub log : IsLog header entries bytes
  pub columns : header.columns ≡ C
  pub commits : HaveCommits C changes header.base entries
  pub number : number_after header.base entries ≡ n
  pub within : n ≤ length changes
  pub role : (HasAllRows C changes header entries × HasNoNewer C header.generation n others)
      ⊎ ((list_any is_seal entries ≡ false) × IsOnOlder C changes header others)

-- WHAT A CRASH HAS LEFT has the first of these changes, at least as many as were durable, whatever changes follow them; and their
-- rows are read of it
pub record AreLeft (C : ℕ) (changes : List Change) (durable : ℕ) (bytes others : List ℕ) : Type 0 where
  pub rows : (read : RowsRead) → AreRead C bytes others read → AreFirst C changes durable read
  pub count : ℕ
  pub enough : durable ≤ count
  pub again : (later : List Change) → take count later ≡ take count changes → HaveFirst C later count bytes others

-- A LOG FROM THE FIRST COMMIT ON, of which a crash has left this, next to a file without a newer log
abbrev pub FirstLogsSurvive : Type 0
FirstLogsSurvive =
    (C : ℕ) (changes : List Change) (header : LogHeader) (entries : List Entry) (durable : ℕ) (left others : List ℕ)
    → IsUnsealed C changes header entries → header.base ≡ 0
    → Survives header entries durable left
    → HasNoNewer C header.generation durable others
    → AreLeft C changes durable left others

-- A LOG WHOSE CHECKPOINT IS IN PROGRESS, of which a crash has left this, next to the whole log that it continues
abbrev pub CheckpointsSurvive : Type 0
CheckpointsSurvive =
    (C : ℕ) (changes : List Change) (header : LogHeader) (entries : List Entry) (durable : ℕ) (left others : List ℕ)
    → IsUnsealed C changes header entries → IsOnOlder C changes header others
    → Survives header entries durable left
    → AreLeft C changes durable left others

-- A SEALED LOG that has grown, of which a crash has left this, the first entries among it, next to a file without a newer log
abbrev pub GrownLogsSurvive : Type 0
GrownLogsSurvive =
    (C : ℕ) (changes : List Change) (header : LogHeader) (first later : List Entry) (durable : ℕ) (left rest others : List ℕ)
    → HaveCommits C changes header.base (first ++ later) → number_after header.base (first ++ later) ≤ length changes
    → IsSealed C changes header first later → MaySay header first
    → Survives header (first ++ later) durable left → left ≡ log_spelling header first ++ rest
    → HasNoNewer C header.generation durable others
    → AreLeft C changes durable left others

-- WHAT IS READ of files that have the first n changes is the rows after these
abbrev pub FirstAreRead : Type 0
FirstAreRead =
    (C : ℕ) (changes : List Change) (n : ℕ) (bytes others : List ℕ) (read : RowsRead)
    → HaveFirst C changes n bytes others → AreRead C bytes others read
    → (read.commits ≡ n) × (read.rows ≡ after C (take n changes))
