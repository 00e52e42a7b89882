-- What the bytes of a folder's two files say of its rows.
use Rattle.std.specs.Prelude.{◌≡◌, ◌≤◌, ◌==◌, ℕ, Bool, List, drop, IsTrue, Option, Some, None}
use Rattle.std.specs.List.{list_all}
use Rattle.std.specs.FinMap.{empty}
use Rattle.mt_frame.specs.declared.entry.Entry.{Entry}
use Rattle.mt_frame.specs.declared.entry.LogHeader.{LogHeader}
use Rattle.mt_journal.specs.Log.{IsLog}
use Rattle.mt_folder.specs.declared.looking.TheConstants.{HEADER}
use Rattle.mt_folder.specs.declared.log.LogRead.{LogRead}
use Rattle.mt_folder.specs.declared.reading.RowsRead.{RowsRead}
use Rattle.mt_folder.specs.declared.source.Source.{Source}
use Rattle.mt_folder.specs.declared.source.Source.TheVariants.{Newer, Older, Both, Neither}
use Rattle.mt_folder.specs.Logs.{is_whole, AreOfSource, HasRows}

-- the bytes have nothing after what a header takes
abbrev pub is_blank : List ℕ → Bool
is_blank bytes = list_all (λ byte. byte == 0) (drop HEADER bytes)

-- the bytes of a file are a log of an index of C columns, which says this
pub record Says (C : ℕ) (bytes : List ℕ) (log : LogRead) : Type 0 where
  pub spells : IsLog log.header log.entries.items bytes
  pub columns : log.header.columns ≡ C

-- the bytes are a log of such an index with this header
pub record Spells (C : ℕ) (bytes : List ℕ) (header : LogHeader) : Type 0 where
  pub entries : List Entry
  pub log : IsLog header entries bytes
  pub columns : header.columns ≡ C

-- the bytes are no log but one with this header
abbrev pub HeaderOf : ℕ → List ℕ → Option LogHeader → Type 0
HeaderOf C bytes found = (header : LogHeader) → Spells C bytes header → found ≡ Some header

-- the bytes are no log
abbrev pub HasNone : ℕ → List ℕ → Type 0
HasNone C bytes = (header : LogHeader) → Spells C bytes header → ⊥

-- the log of these bytes, if they are one, has no greater generation
abbrev pub IsNewest : ℕ → LogRead → List ℕ → Type 0
IsNewest C log others = (header : LogHeader) → Spells C others header → header.generation ≤ log.header.generation

-- the rows are those of the log of one file, which has them all, and is the newest
pub record AreOfOne (C : ℕ) (bytes others : List ℕ) (read : RowsRead) : Type 0 where
  pub log : LogRead
  pub says : Says C bytes log
  pub whole : IsTrue (is_whole log)
  pub newest : IsNewest C log others
  pub rows : HasRows log read

-- they are those of the logs of both files, by this source, and the first is the newest
pub record AreOfBoth (C : ℕ) (bytes others : List ℕ) (source : Option Source) (read : RowsRead) : Type 0 where
  pub newer : LogRead
  pub older : LogRead
  pub says : Says C bytes newer
  pub said : Says C others older
  pub newest : IsNewest C newer others
  pub rows : AreOfSource newer older source read

-- there are none, since neither file has a log
pub record AreNone (C : ℕ) (bytes others : List ℕ) (read : RowsRead) : Type 0 where
  pub blank : IsTrue (is_blank bytes)
  pub other_blank : IsTrue (is_blank others)
  pub none : HasNone C bytes
  pub other_none : HasNone C others
  pub rows : read.rows ≡ empty
  pub commits : read.commits ≡ 0

-- THE ROWS OF A FOLDER by this source, if the files of its newer log and of the other one have these bytes
abbrev pub AreRows : ℕ → List ℕ → List ℕ → Option Source → RowsRead → Type 0
AreRows C bytes others (Some Newer) read = AreOfOne C bytes others read
AreRows C bytes others (Some Older) read = AreOfBoth C bytes others (Some Older) read
AreRows C bytes others (Some Both) read = AreOfBoth C bytes others (Some Both) read
AreRows C bytes others (Some Neither) read = ⊥
AreRows C bytes others None read = AreNone C bytes others read
