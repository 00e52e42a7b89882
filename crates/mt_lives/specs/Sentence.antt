-- THE SENTENCE: what survives of the lives of a map whose rows are in a folder, over every list of turns with crashes.
use Rattle.std.specs.Prelude.{◌≡◌, ◌⊎◌, ◌≤◌, ℕ, List, [], ◌∷◌, length, take}
use Rattle.mt_frame.specs.declared.entry.Entry.{Entry}
use Rattle.mt_frame.specs.declared.entry.LogHeader.{LogHeader}
use Rattle.mt_journal.specs.Log.{IsLog}
use Rattle.mt_types.specs.Rows.{after}
use Rattle.mt_types.specs.declared.row.Change.{Change}
use Rattle.mt_folder.specs.declared.reading.RowsRead.{RowsRead}
use Rattle.mt_folder_laws.specs.Crashes.{AreRead}
use Rattle.mt_folder_laws.specs.Left.{AreLeft, HaveFirst, HasNoNewer}
use Rattle.mt_folder_log.specs.declared.checkpoint.Other.{Other}
use Rattle.mt_folder_log.specs.declared.checkpoint.Other.TheVariants.{Free, Needed, Gone}
use Rattle.mt_map_folder.specs.declared.log.MapLog.{MapLog}
use Rattle.mt_lives.specs.declared.turn.Told.{Told}
use Rattle.mt_lives.specs.declared.turn.Turn.{Turn}
use Rattle.mt_lives.specs.Turns.{LeadsAll, Reached}

-- the first n of these changes were made, and no others; all are written, and durable
abbrev pub opened_at : List Change → ℕ → Reached
opened_at changes n = record { changes = take n changes; written = n; durable = n }

-- THE TWO FILES HAVE THE FIRST n of these changes, whatever others follow them. Files without a byte have none
abbrev pub HasFirst : ℕ → List Change → ℕ → List ℕ → List ℕ → Type 0
HasFirst C changes n even odd =
    (n ≤ length changes)
    × (((later : List Change) → take n later ≡ take n changes → HaveFirst C later n even odd ⊎ HaveFirst C later n odd even)
    ⊎ ((n ≡ 0) × (even ≡ []) × (odd ≡ [])))

-- ---- one life
-- the turns of a life, what was answered to those that were taken, and what a crash has left then: of the file of the log, and
-- of the other file
pub record Life : Type 0 where
  pub turns : List Turn
  pub told : List Told
  pub left : List ℕ
  pub others : List ℕ

-- a crash may leave this of the other file; of one that has failed, anything
abbrev pub MayLeaveOther : {D : Type 0} → (D → List ℕ → Type 0) → Other D → List ℕ → Type 0
MayLeaveOther may_leave (Free disk most) others = may_leave disk others
MayLeaveOther may_leave (Needed disk last copied has_all) others = may_leave disk others
MayLeaveOther may_leave Gone others = Unit {0}

-- a crash may leave this of the two files
abbrev pub AreLeftOf : {D : Type 0} → (D → List ℕ → Type 0) → MapLog D → List ℕ → List ℕ → Type 0
AreLeftOf may_leave log left others = may_leave log.log.journal.disk left × MayLeaveOther may_leave log.log.other others

-- no newer log is in the other file than the one that was left of the log in use, but for one that was begun and not used. Only a
-- write past the end of a file, of which a crash may leave anything, could leave one by chance
abbrev pub HasNoOther : ℕ → ℕ → List ℕ → List ℕ → Type 0
HasNoOther C durable left others =
    (header : LogHeader) (entries : List Entry) → IsLog header entries left → header.columns ≡ C → HasNoNewer C header.generation durable others

-- A LIFE over files that have the first n of these changes: the turns that were taken led somewhere, as those of a plain map do;
-- and what the crash has left has the first of the changes then, all that were said to be durable among them
pub record IsLife (C : ℕ) (life : Life) (changes : List Change) (n : ℕ) : Type 0 where
  pub reached : Reached
  pub leads : LeadsAll C life.turns life.told (opened_at changes n) reached
  pub left : HasNoOther C reached.durable life.left life.others → AreLeft C reached.changes reached.durable life.left life.others

abbrev pub AreLife : ℕ → List ℕ → List ℕ → Life → Type 0
AreLife C even odd life = (changes : List Change) (n : ℕ) → HasFirst C changes n even odd → IsLife C life changes n

-- lives one after the other, each over the files that the crash before has left
abbrev pub AreLives : ℕ → List ℕ → List ℕ → List Life → Type 0
AreLives C even odd [] = Unit {0}
AreLives C even odd (life ∷ lives) = AreLife C even odd life × AreLives C life.left life.others lives

-- ---- what survives
-- the rows of the two files are those after these changes, and of no others
abbrev pub AreRowsAfter : ℕ → List Change → List ℕ → List ℕ → Type 0
AreRowsAfter C changes left others =
    (read : RowsRead) → AreRead C left others read → (read.commits ≡ length changes) × (read.rows ≡ after C changes)

-- FROM a ON, THE LIVES SURVIVE: the turns of each lead somewhere, as those of a plain map do; after the crash the first m of its
-- changes are there, exactly their rows are read, m is at least the last number that was said to be durable, and the next life
-- continues from there
abbrev pub Survive : ℕ → Reached → List Life → Type 0
Survive C a [] = Unit {0}
Survive C a (life ∷ lives) =
    (b : Reached) × LeadsAll C life.turns life.told a b
    × (HasNoOther C b.durable life.left life.others → (m : ℕ) × (b.durable ≤ m) × (m ≤ length b.changes) × AreRowsAfter C (take m b.changes) life.left life.others
    × Survive C (opened_at b.changes m) lives)

-- over every list of lives
abbrev pub LivesSurvive : Type 0
LivesSurvive =
    (C : ℕ) (even odd : List ℕ) (changes : List Change) (n : ℕ) (lives : List Life)
    → HasFirst C changes n even odd → AreLives C even odd lives → Survive C (opened_at changes n) lives
