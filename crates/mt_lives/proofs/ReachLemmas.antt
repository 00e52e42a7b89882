-- How a life begins, and what a crash leaves at any of its turns.
use Rattle.std.proofs.Common.{◌≡◌, ◌⊎◌, ◌∙◌, ◌≤◌, ℕ, Bool, List, [], length, take, Result, Ok, Err, inl, inr, refl, sym, ap, subst, arith}
use Rattle.std.specs.Prelude.{IfOk}
use Rattle.std.proofs.lemmas.List.{length-append, length-take, length-take-le, take_all}
use Rattle.mt_types.specs.declared.row.Change.{Change}
use Rattle.mt_frame.specs.declared.entry.LogHeader.{LogHeader}
use Rattle.mt_commit.specs.Log.{newest}
use Rattle.mt_index.specs.Stands.{MachineView}
use Rattle.mt_promise.specs.History.{moment}
use Rattle.mt_journal.specs.declared.position.Position.{Position}
use Rattle.mt_journal.specs.Keeping.{StaysDurable}
use Rattle.mt_journal.proofs.Kept.{durable_after}
use Rattle.mt_folder.specs.declared.reading.RowsRead.{RowsRead}
use Rattle.mt_load.specs.Loaded.{IsLoaded}
use Rattle.mt_folder_laws.specs.Left.{HasNoNewer, HaveFirst}
use Rattle.mt_folder_log.specs.declared.checkpoint.Other.{Other}
use Rattle.mt_folder_log.specs.declared.checkpoint.Other.TheVariants.{Free, Needed, Gone}
use Rattle.mt_folder_log.specs.Folder.{AllFound, AllHaveHeader, AllRecover, MayBeBeside}
use Rattle.mt_folder_log.proofs.ChangeLemmas.{still_headed}
use Rattle.mt_map_folder.specs.Changes.{KeepsChanges}
use Rattle.mt_map_folder.specs.Read.{AreClean}
use Rattle.mt_map_folder.specs.declared.log.MapLog.{MapLog}
use Rattle.mt_map_folder.specs.declared.opening.OpenedMap.{OpenedMap}
use Rattle.mt_map_folder.proofs.ChangeLemmas.{unwritten}
use Rattle.mt_lives.specs.Lives.{AllAreLeft, AreFront, HasLived, IsOfGeneration}
use Rattle.mt_lives.specs.Sentence.{opened_at, HasFirst}
use Rattle.mt_lives.specs.Turns.{Reached}

-- changes are the first of themselves
pub front_self : (changes : List Change) → AreFront changes changes
front_self changes = take_all (length changes) changes (omega arith)

-- ---- how a life begins
-- a map that keeps the first n changes has made n commits
made : {D : Type 0} (seen : D → List ℕ) (may_leave : D → List ℕ → Type 0) (changes : List Change) (s : MachineView) (log : MapLog D) → KeepsChanges seen may_leave changes s log → length changes ≤ log.log.journal.at.newest → newest s.log ≡ length changes
made seen may_leave changes s log kept all =
    let commits = (moment kept.h).commits in
    let loaded = kept.made.loaded in
    let before = kept.made.before in
    let more = kept.made.more in
    let one = ap (λ (cs : List Change). length cs) kept.made.commits_are ∙ length-append loaded more in
    let two = ap (λ (cs : List Change). length cs) kept.made.changes_are ∙ length-append before more in
    let few = length-take (length commits) changes in
    omega (arith, one, two, few, kept.made.as_many, kept.stands.commits, kept.within, all)

pub begun : {D : Type 0} (seen : D → List ℕ) (may_leave : D → List ℕ → Type 0) (C : ℕ) (changes : List Change) (n : ℕ) (s : MachineView) (log : MapLog D) → n ≤ length changes
    → ((later : List Change) → take n later ≡ take n changes → KeepsChanges seen may_leave later s log)
    → log.log.journal.at.newest ≡ n → log.log.journal.at.durable ≡ log.log.journal.at.newest → s.columns ≡ C → HasLived seen may_leave C (opened_at changes n) s log
begun seen may_leave C changes n s log within keeps is durable columns =
    let front = take n changes in
    let long : length front ≡ n = length-take-le n changes within in
    let kept : (later : List Change) → AreFront front later → KeepsChanges seen may_leave later s log =
    λ later same. keeps later (ap (λ (k : ℕ). take k later) (sym long) ∙ same) in
    record {
      kept = kept;
      all = made seen may_leave front s log (kept front (front_self front)) (omega (arith, long, is));
      columns = columns;
      written = is;
      durable = omega (arith, is, durable);
    }

-- a map over files without a byte has written nothing
none_written : {D : Type 0} (seen : D → List ℕ) (may_leave : D → List ℕ → Type 0) (s : MachineView) (log : MapLog D) → KeepsChanges seen may_leave [] s log → log.log.journal.at.newest ≡ 0
none_written seen may_leave s log kept =
    let commits = (moment kept.h).commits in
    let loaded = kept.made.loaded in
    let before = kept.made.before in
    let more = kept.made.more in
    let nothing : List Change = [] in
    let one = ap (λ (cs : List Change). length cs) kept.made.commits_are ∙ length-append loaded more in
    let two = ap (λ (cs : List Change). length cs) kept.made.changes_are ∙ length-append before more in
    let few = length-take (length commits) nothing in
    omega (arith, one, two, few, kept.made.as_many, kept.within)

-- an opened map has this many columns
pub opened_columns : {D E : Type 0} (P : OpenedMap D → RowsRead → Type 0) (C : ℕ) (result : Result (OpenedMap D) E) → IfOk result (λ opened. (read : RowsRead) × IsLoaded C read.commits read.rows opened.map.machine × P opened read) → IfOk result (λ opened. opened.map.machine.columns ≡ C)
opened_columns P C (Ok opened) (read, loaded, more) = loaded.columns
opened_columns P C (Err error) loaded = tt

-- an opened map begins a life
pub begins : {D E : Type 0} (seen : D → List ℕ) (may_leave : D → List ℕ → Type 0) (is_clean : D → Bool) (C : ℕ) (changes : List Change) (n : ℕ) (even odd : List ℕ) (result : Result (OpenedMap D) E) → HasFirst C changes n even odd
    → IfOk result (λ opened. opened.map.machine.columns ≡ C)
    → (even ≡ [] → odd ≡ [] → IfOk result (λ opened. AreClean is_clean opened.log → (later : List Change) → KeepsChanges seen may_leave later opened.map.machine opened.log))
    → ((later : List Change) (n : ℕ) → HaveFirst C later n even odd ⊎ HaveFirst C later n odd even → IfOk result (λ opened. AreClean is_clean opened.log → (opened.log.log.journal.at.newest ≡ n) × KeepsChanges seen may_leave later opened.map.machine opened.log))
    → IfOk result (λ opened. opened.log.log.journal.at.durable ≡ opened.log.log.journal.at.newest)
    → IfOk result (λ opened. AreClean is_clean opened.log → HasLived seen may_leave C (opened_at changes n) opened.map.machine opened.log)
begins seen may_leave is_clean C changes n even odd (Err error) first columns blank again durable = tt
begins seen may_leave is_clean C changes n even odd (Ok opened) (within, first) columns blank again durable = λ clean. elim first [
  | inl has ↦
      begun seen may_leave C changes n opened.map.machine opened.log within
      (λ later same. (again later n (has later same) clean).1) (again changes n (has changes refl) clean).0 durable columns
  | inr (none, no_even, no_odd) ↦
      let keeps = blank no_even no_odd clean in
      begun seen may_leave C changes n opened.map.machine opened.log within (λ later same. keeps later)
      (none_written seen may_leave opened.map.machine opened.log (keeps []) ∙ sym none) durable columns
]

-- ---- what a crash leaves
-- fewer are said to be durable
no_newer : (C least durable generation : ℕ) (others : List ℕ) → least ≤ durable → HasNoNewer C generation least others → HasNoNewer C generation durable others
no_newer C least durable generation others le none = λ other says. elim (none other says) [
  | inl older ↦ inl older
  | inr begun ↦ inr (record { next = begun.next; some = begun.some; base = omega (arith, begun.base, le); none = begun.none })
]

beside_more : {D : Type 0} (C : ℕ) (may_leave : D → List ℕ → Type 0) (least durable generation : ℕ) (other : Other D) (others : List ℕ) → least ≤ durable → MayBeBeside C may_leave least generation other others → MayBeBeside C may_leave durable generation other others
beside_more C may_leave least durable generation (Free disk most) others le beside = no_newer C least durable generation others le beside
beside_more C may_leave least durable generation (Needed disk last copied has_all) others le beside = beside
beside_more C may_leave least durable generation Gone others le beside = no_newer C least durable generation others le beside

found_less : {D : Type 0} (C : ℕ) (may_leave : D → List ℕ → Type 0) (changes : List Change) (least durable generation : ℕ) (disk : D) (other : Other D) → least ≤ durable → AllFound C may_leave changes durable generation disk other → AllFound C may_leave changes least generation disk other
found_less C may_leave changes least durable generation disk other le found = λ left others leaves beside.
    let are = found left others leaves (beside_more C may_leave least durable generation other others le beside) in
    record {
      rows = λ read from.
          let first = are.rows read from in
          record { enough = omega (arith, le, first.enough); rows = first.rows };
      count = are.count;
      enough = omega (arith, le, are.enough);
      again = are.again;
    }

-- a log with this header is one of its generation
of_header : (C generation : ℕ) (header : LogHeader) (may_leave : List ℕ → Type 0) → header.columns ≡ C → header.generation ≡ generation → AllHaveHeader header may_leave → (left : List ℕ) → may_leave left → IsOfGeneration C generation left
of_header C generation header may_leave columns is heads left leaves = let has = heads left leaves in (header, has.0, has.1, columns, is)

module _ {D : Type 0} (seen : D → List ℕ) (may_leave : D → List ℕ → Type 0) (C : ℕ) (a : Reached) (s : MachineView) (log : MapLog D) (lived : HasLived seen may_leave C a s log) where
  abbrev pub own : KeepsChanges seen may_leave a.changes s log
  own = lived.kept a.changes (front_self a.changes)

  pub log_columns : log.log.columns ≡ C
  log_columns = sym own.columns ∙ lived.columns

  -- after a call by which the folder recovers, and the log has its header
  pub left_by : (new : MapLog D) → new.log.columns ≡ log.log.columns → AllHaveHeader own.kept.header (may_leave new.log.journal.disk)
      → AllRecover may_leave a.changes log.log.journal.at.durable log.log.journal.at.generation new.log → AllAreLeft may_leave C a new
  left_by new columns heads recovers =
      let at = log.log.journal.at in
      record {
        generation = at.generation;
        heads = of_header C at.generation own.kept.header (may_leave new.log.journal.disk) (own.kept.columns ∙ log_columns) (sym own.kept.keeps.generation) heads;
        found = found_less C may_leave a.changes a.durable at.durable at.generation new.log.journal.disk new.log.other lived.durable
            (subst (λ (k : ℕ). AllFound k may_leave a.changes at.durable at.generation new.log.journal.disk new.log.other) (columns ∙ log_columns) recovers);
      }

  -- at any turn
  pub lived_left : AllAreLeft may_leave C a log
  lived_left =
      let journal = log.log.journal in
      left_by log refl (still_headed journal.at (seen journal.disk) (may_leave journal.disk) own.kept.header own.kept.entries own.kept.keeps) (unwritten seen may_leave a.changes s log own)

  -- what was said to be durable stays so
  pub stays : (at : Position) → StaysDurable log.log.journal.at at → a.durable ≤ at.durable
  stays at more =
      let keeps = own.kept.keeps in
      let least = durable_after log.log.journal.at (seen log.log.journal.disk) (may_leave log.log.journal.disk) at own.kept.header own.kept.entries keeps more in
      omega (arith, least, lived.durable)

  -- and so do the changes, if the log keeps them
  pub logged : (new : MapLog D) (written durable : ℕ) → ((later : List Change) → AreFront a.changes later → KeepsChanges seen may_leave later s new)
      → new.log.journal.at.newest ≡ written → durable ≤ new.log.journal.at.durable → HasLived seen may_leave C (record { changes = a.changes; written = written; durable = durable }) s new
  logged new written durable keeps is le = record { kept = keeps; all = lived.all; columns = lived.columns; written = is; durable = le }
