-- What is opened over two empty files, and over files that have the first of some changes.
use Rattle.std.proofs.Common.{◌≡◌, ◌≤◌, ◌⊎◌, ℕ, List, [], length, take, refl, ap, arith, inl, inr, length-append, Option, Some, None}
use Rattle.mt_types.specs.declared.row.Change.{Change}
use Rattle.mt_frame.specs.declared.entry.Entry.TheVariants.{Header}
use Rattle.mt_frame.specs.Spelling.{frames_of}
use Rattle.mt_journal.specs.Log.{header_frame, log_spelling}
use Rattle.mt_journal.proofs.Frames.{frame_some}
use Rattle.mt_folder.specs.declared.log.LogRead.{LogRead}
use Rattle.mt_folder.specs.declared.reading.RowsRead.{RowsRead}
use Rattle.mt_folder.specs.declared.source.Source.{Source}
use Rattle.mt_folder.specs.declared.source.Source.TheVariants.{Newer, Older, Both, Neither}
use Rattle.mt_folder.specs.Files.{AreRows, Says}
use Rattle.mt_folder.specs.declared.opening.Spare.{Spare}
use Rattle.mt_folder.specs.declared.opening.Spare.TheVariants.{Free, Needed}
use Rattle.mt_folder.specs.Spares.{is_needed, IsSpareOf}
use Rattle.std.specs.Prelude.{IfNone, IsFalse}
use Rattle.mt_types.specs.Rows.{after}
use Rattle.mt_journal.proofs.Frames.{logs_read_one_way}
use Rattle.mt_replay.proofs.FollowLemmas.{commits_are_redone}
use Rattle.mt_folder.specs.declared.opening.OpenedLog.{OpenedLog}
use Rattle.mt_folder.specs.Kept.{IsOpened}
use Rattle.mt_folder_laws.specs.Left.{HaveFirst}
use Rattle.mt_folder_laws.proofs.CrashLemmas.{first_are_read}
use Rattle.mt_folder_log.specs.declared.checkpoint.Other.{Other}
use Rattle.mt_folder_log.specs.Folder.{AreKept}
use Rattle.mt_folder_log.specs.Moving.{IsOfSpare}
use Rattle.mt_folder_log.proofs.OpenedLemmas.{reopened}

-- no bytes are no log
says_none : (C : ℕ) (bytes : List ℕ) (log : LogRead) → bytes ≡ [] → Says C bytes log → ⊥
says_none C bytes log empty says =
    let head = header_frame log.header in
    let spelled = log_spelling log.header log.entries.items in
    let long = length-append spelled says.spells.rest in
    let parts = length-append head (frames_of log.header.generation (length head) log.entries.items) in
    omega (arith, ap length empty, ap length says.spells.parts, long, parts, frame_some 0 0 (Header log.header))

nothing_ahead : (C : ℕ) (bytes others : List ℕ) (source : Option Source) (read : RowsRead) → bytes ≡ [] → AreRows C bytes others source read → (source ≡ None) × (read.commits ≡ 0)
nothing_ahead C bytes others (Some Newer) read empty are = absurd (says_none C bytes are.log empty are.says)
nothing_ahead C bytes others (Some Older) read empty are = absurd (says_none C bytes are.newer empty are.says)
nothing_ahead C bytes others (Some Both) read empty are = absurd (says_none C bytes are.newer empty are.says)
nothing_ahead C bytes others (Some Neither) read empty are = absurd are
nothing_ahead C bytes others None read empty are = (refl, are.commits)

pub nothing_read : (C : ℕ) (even odd : List ℕ) (source : Option Source) (read : RowsRead) → even ≡ [] → odd ≡ [] → AreRows C even odd source read ⊎ AreRows C odd even source read → (source ≡ None) × (read.commits ≡ 0)
nothing_read C even odd source read no_even no_odd are = elim are [
  | inl ahead ↦ nothing_ahead C even odd source read no_even ahead
  | inr behind ↦ nothing_ahead C odd even source read no_odd behind
]

-- ---- what is so if neither file had a log
pub begun_of : (source : Option Source) (P : Type 0) → source ≡ None → IfNone source P → P
begun_of (Some it) P none begun = cc
begun_of None P none begun = begun

pub unneeded : {D : Type 0} (source : Option Source) (spare : Spare D) → source ≡ None → IsSpareOf source spare → IsFalse (is_needed spare)
unneeded source (Free disk size) none is = refl
unneeded source (Needed disk) none is = absurd (clash source none (is.0 refl))
  where
    clash : (source : Option Source) → source ≡ None → source ≡ Some Both → ⊥
    clash source one two = cc

swapped : {A B : Type 0} → A ⊎ B → B ⊎ A
swapped either = elim either [
  | inl a ↦ inr a
  | inr b ↦ inl b
]

-- ---- files that have the first n changes: the rows that were read are those after them, and the folder keeps the changes
abbrev pub Continues : {D : Type 0} → ℕ → (D → List ℕ) → (D → List ℕ → Type 0) → List Change → ℕ → OpenedLog D → Other D → Type 0
Continues C seen may_leave changes n opened other =
    (opened.read.commits ≡ n) × (opened.read.rows ≡ after C (take n changes)) × (n ≤ length changes)
    × AreKept C seen may_leave changes opened.journal.at opened.journal.disk other

module _ {D : Type 0} (C : ℕ) (seen : D → List ℕ) (may_leave : D → List ℕ → Type 0) (changes : List Change) (n : ℕ) (opened : OpenedLog D) (other : Other D) (of_spare : IsOfSpare opened.spare other) (needs : IsSpareOf opened.source opened.spare) where
  continued : (bytes others : List ℕ) → HaveFirst C changes n bytes others → AreRows C bytes others opened.source opened.read ⊎ AreRows C others bytes opened.source opened.read
      → IsOpened C seen may_leave bytes others opened ⊎ IsOpened C seen may_leave others bytes opened → Continues C seen may_leave changes n opened other
  continued bytes others have rows is =
      let read = first_are_read logs_read_one_way commits_are_redone C changes n bytes others opened.read have (opened.source, rows) in
      (read.0, read.1, have.within, reopened C seen may_leave changes n bytes others have opened other of_spare needs is)

  pub continued_either : (even odd : List ℕ) → HaveFirst C changes n even odd ⊎ HaveFirst C changes n odd even → AreRows C even odd opened.source opened.read ⊎ AreRows C odd even opened.source opened.read
      → IsOpened C seen may_leave even odd opened ⊎ IsOpened C seen may_leave odd even opened → Continues C seen may_leave changes n opened other
  continued_either even odd have rows is = elim have [
    | inl ahead ↦ continued even odd ahead rows is
    | inr behind ↦ continued odd even behind (swapped rows) (swapped is)
  ]
