-- What is read after a crash.
use Rattle.std.proofs.Common.{◌≡◌, ◌∙◌, ◌++◌, ◌-◌, ◌≤◌, ◌||◌, ◌==◌, ℕ, Bool, true, false, List, length, take, refl, sym, ap, subst, arith, inl, inr, IsTrue, [], drop}
use Rattle.std.specs.List.{list_any}
use Rattle.std.specs.FinMap.{empty}
use Rattle.std.specs.Prelude.{Option, Some}
use Rattle.std.proofs.lemmas.List.{take_all}
use Rattle.std.proofs.lemmas.List.Folds.{list_any-append}
use Rattle.mt_types.specs.Rows.{after}
use Rattle.mt_types.specs.declared.row.Change.{Change}
use Rattle.mt_frame.specs.declared.entry.Entry.{Entry}
use Rattle.mt_frame.specs.declared.entry.LogHeader.{LogHeader}
use Rattle.mt_journal.specs.Laws.{LogsHaveTheirFronts, LogsReadOneWay}
use Rattle.mt_journal.specs.Log.{IsLog}
use Rattle.mt_replay.specs.Redo.{is_seal, number_after}
use Rattle.mt_replay.specs.RedoLaws.{HaveCommits, CommitsAreRedone}
use Rattle.mt_replay.specs.Replay.{records_of}
use Rattle.mt_folder.specs.declared.log.LogRead.{LogRead}
use Rattle.mt_folder.specs.declared.reading.RowsRead.{RowsRead}
use Rattle.mt_folder.specs.declared.source.Source.{Source}
use Rattle.mt_folder.specs.declared.source.Source.TheVariants.{Newer, Older, Both}
use Rattle.mt_folder.specs.Files.{AreRows, Says}
use Rattle.mt_folder.specs.Kept.{rows_after}
use Rattle.mt_folder.specs.Laws.{HasCommits}
use Rattle.mt_folder.specs.Logs.{last_number}
use Rattle.mt_folder.proofs.FolderLemmas.{later_rows, rows_from_first}
use Rattle.mt_folder.proofs.SourceLemmas.{last_is}
use Rattle.mt_folder_laws.specs.Crashes.{AreFirst, AreRead, SealedLogsSurvive}
use Rattle.mt_folder_laws.specs.Grown.{IsSealed}
use Rattle.mt_folder_laws.specs.Left.{AreLeft, CheckpointsSurvive, FirstAreRead, FirstLogsSurvive, GrownLogsSurvive, HasAllRows, HasNoNewer, HaveFirst, IsBegun, IsOnOlder}
use Rattle.mt_folder_laws.proofs.AlikeLemmas.{commits_alike, rows_alike, sealed_alike, within_alike}
use Rattle.mt_folder_laws.proofs.FrontLemmas.{front_unsealed, front_within, have_front}
use Rattle.mt_folder_laws.proofs.GrownLemmas.{commits_front, front_over, grown_rows}
use Rattle.mt_folder_laws.proofs.SourceLemmas.{of_begun, of_later, of_newest, of_whole, older_than, same, same_last, same_rows}

-- the rows after n commits
abbrev HasRead : ℕ → List Change → ℕ → RowsRead → Type 0
HasRead C changes n read = (read.commits ≡ n) × (read.rows ≡ after C (take n changes))

are_first : (C : ℕ) (changes : List Change) (durable n : ℕ) (read : RowsRead) → durable ≤ n → HasRead C changes n read → AreFirst C changes durable read
are_first C changes durable n read enough has = record {
  enough = omega (arith, has.0, enough);
  rows = has.1 ∙ ap (λ (k : ℕ). after C (take k changes)) (sym has.0);
}

-- ---- the rows that a log has itself
pub all_rows : CommitsAreRedone → (C : ℕ) (changes : List Change) (header : LogHeader) (entries : List Entry) → HaveCommits C changes header.base entries → HasAllRows C changes header entries
    → rows_after header entries empty ≡ after C (take (number_after header.base entries) changes)
all_rows redone C changes header entries have all = elim all [
  | inl first ↦ rows_from_first redone C changes header entries first.0 first.1 have
  | inr seal ↦
      let whole : take (length seal.later) seal.later ≡ seal.later = take_all (length seal.later) seal.later (omega arith) in
      let same : seal.first ++ take (length seal.later) seal.later ≡ entries = ap (λ (l : List Entry). seal.first ++ l) whole ∙ sym seal.joined in
      subst (λ (l : List Entry). rows_after header l empty ≡ after C (take (number_after header.base l) changes)) same
      (grown_rows redone C changes header seal.first seal.later (length seal.later) seal.sealed)
]

from_first : (base : ℕ) (sealed : Bool) → base ≡ 0 → IsTrue ((base == 0) || sealed)
from_first base sealed is = subst (λ (n : ℕ). IsTrue ((n == 0) || sealed)) (sym is) refl

has_seal : (a b : Bool) → b ≡ true → IsTrue (a || b)
has_seal true b is = refl
has_seal false b is = is

pub all_whole : (C : ℕ) (changes : List Change) (header : LogHeader) (entries : List Entry) → HasAllRows C changes header entries → IsTrue ((header.base == 0) || list_any is_seal entries)
all_whole C changes header entries all = elim all [
  | inl first ↦ from_first header.base (list_any is_seal entries) first.0
  | inr seal ↦
      let is : list_any is_seal entries ≡ true =
      ap (list_any is_seal) seal.joined ∙ list_any-append is_seal seal.first seal.later ∙ ap (λ (b : Bool). b || list_any is_seal seal.later) seal.sealed.sealed in
      has_seal (header.base == 0) (list_any is_seal entries) is
]

-- ---- what is read of a log, and of two
module _ (one : LogsReadOneWay) (C : ℕ) (changes : List Change) (bytes others : List ℕ) (read : RowsRead) (header : LogHeader) (entries : List Entry) (is : IsLog header entries bytes) where
  read_newer : rows_after header entries empty ≡ after C (take (number_after header.base entries) changes) → AreRows C bytes others (Some Newer) read → HasRead C changes (number_after header.base entries) read
  read_newer rows are = (
    are.rows.commits ∙ sym (same_last one C bytes header entries are.log is are.says),
    are.rows.rows ∙ sym (same_rows one C bytes header entries are.log is are.says) ∙ rows,
  )

  module _ (redone : CommitsAreRedone) (columns : header.columns ≡ C) (have : HaveCommits C changes header.base entries) where
    read_both : IsOnOlder C changes header others → AreRows C bytes others (Some Both) read → HasRead C changes (number_after header.base entries) read
    read_both on are =
        let found = same one C bytes header entries are.newer is are.says in
        let last = same_last one C bytes header entries are.newer is are.says in
        let commits : HasCommits C changes are.newer =
        subst (λ (h : LogHeader). HaveCommits C changes h.base are.newer.entries.items) found.0 (subst (HaveCommits C changes header.base) found.1 have) in
        let before = sym (same_rows one C others on.older on.entries are.older on.log are.said) ∙ on.rows ∙ ap (λ (n : ℕ). after C (take n changes)) (same_last one C others on.older on.entries are.older on.log are.said) in (
          are.rows.2.commits ∙ sym last,
          are.rows.2.rows ∙ later_rows redone C changes are.newer are.older are.rows.1 are.rows.0 commits before ∙ ap (λ (n : ℕ). after C (take n changes)) (sym last),
        )

    read_later : list_any is_seal entries ≡ false → IsOnOlder C changes header others → AreRead C bytes others read → HasRead C changes (number_after header.base entries) read
    read_later unsealed on are = elim are.1 [
      | inl ahead ↦ elim (of_later one C bytes others header entries is columns read on.older on.entries on.base on.generation on.log are.0 unsealed ahead) [
        | inl first ↦ read_newer (rows_from_first redone C changes header entries first.1 unsealed have) (subst (λ (s : Option Source). AreRows C bytes others s read) first.0 ahead)
        | inr both ↦ read_both on (subst (λ (s : Option Source). AreRows C bytes others s read) both ahead)
      ]
      | inr behind ↦ absurd (of_newest one C bytes others header entries is columns read are.0 (older_than one C bytes others header entries is columns read on.older on.entries on.base on.generation on.log) behind)
    ]

-- ---- a log that was begun after the last commit, and not used, is the newer one
pub have_nothing : (C : ℕ) (changes : List Change) (n : ℕ) → HaveCommits C changes n []
have_nothing C changes n =
    let none : number_after n [] - n ≡ 0 = omega arith in
    ap (λ (k : ℕ). take k (drop n (records_of C changes))) (sym none)

module _ (redone : CommitsAreRedone) (C : ℕ) (changes : List Change) (n : ℕ) (bytes others : List ℕ) (have : HaveFirst C changes n bytes others) (newer : LogRead) (all : HasAllRows C changes have.header have.entries) (says : Says C others newer) (begun : IsBegun have.header.generation n newer) (base : newer.header.base ≡ number_after have.header.base have.entries) where
  pub begun_on : IsOnOlder C changes newer.header bytes
  begun_on = record {
    older = have.header;
    entries = have.entries;
    columns = have.columns;
    base = base;
    generation = begun.next;
    rows = all_rows redone C changes have.header have.entries have.commits all;
    log = have.log;
  }

  pub begun_first : HaveFirst C changes n others bytes
  begun_first = record {
    header = newer.header;
    entries = [];
    log = subst (λ (l : List Entry). IsLog newer.header l others) begun.none says.spells;
    columns = says.columns;
    commits = have_nothing C changes newer.header.base;
    number = omega (arith, base, have.number);
    within = have.within;
    role = inr (refl, begun_on);
  }

module _ (one : LogsReadOneWay) (redone : CommitsAreRedone) (C : ℕ) (changes : List Change) (n : ℕ) (read : RowsRead) where
  -- of files whose newer log continues the other one
  read_on : (bytes others : List ℕ) (have : HaveFirst C changes n bytes others) → list_any is_seal have.entries ≡ false → IsOnOlder C changes have.header others → AreRead C bytes others read → HasRead C changes n read
  read_on bytes others have unsealed on are =
      subst (λ (k : ℕ). HasRead C changes k read) have.number
      (read_later one C changes bytes others read have.header have.entries have.log redone have.columns have.commits unsealed on are)

  -- of files of which one has all rows
  module _ (bytes others : List ℕ) (have : HaveFirst C changes n bytes others) (all : HasAllRows C changes have.header have.entries) where
    rows_are : rows_after have.header have.entries empty ≡ after C (take (number_after have.header.base have.entries) changes)
    rows_are = all_rows redone C changes have.header have.entries have.commits all

    read_older : AreRows C others bytes (Some Older) read → HasRead C changes n read
    read_older are =
        subst (λ (k : ℕ). HasRead C changes k read) have.number (
          are.rows.2.commits ∙ sym (same_last one C bytes have.header have.entries are.older have.log are.said),
          are.rows.2.rows ∙ sym (same_rows one C bytes have.header have.entries are.older have.log are.said) ∙ rows_are,
        )

    read_whole : HasNoNewer C have.header.generation n others → AreRead C bytes others read → HasRead C changes n read
    unfolding begun_first
    read_whole beside are = elim are.1 [
      | inl ahead ↦
          let source = of_whole one C bytes others have.header have.entries have.log have.columns read are.0 (all_whole C changes have.header have.entries all) ahead in
          subst (λ (k : ℕ). HasRead C changes k read) have.number
          (read_newer one C changes bytes others read have.header have.entries have.log rows_are (subst (λ (s : Option Source). AreRows C bytes others s read) source ahead))
      | inr behind ↦ elim (of_begun one C bytes others have.header have.entries have.log have.columns read n are.0 beside behind) [
        | inl older ↦ read_older (subst (λ (s : Option Source). AreRows C others bytes s read) older behind)
        | inr both ↦
            read_on others bytes (begun_first redone C changes n bytes others have both.1 all both.2 both.3 both.4) refl
            (begun_on redone C changes n bytes others have both.1 all both.2 both.3 both.4) (are.0, inl behind)
      ]
    ]

pub first_are_read : LogsReadOneWay → CommitsAreRedone → FirstAreRead
first_are_read one redone C changes n bytes others read have are = elim have.role [
  | inl all ↦ read_whole one redone C changes n read bytes others have all.0 all.1 are
  | inr on ↦ read_on one redone C changes n read bytes others have on.0 on.1 are
]

-- one that was begun earlier was begun after one of more commits
more_begun : (C generation n more : ℕ) (others : List ℕ) → n ≤ more → HasNoNewer C generation n others → HasNoNewer C generation more others
more_begun C generation n more others le beside = λ other says. elim (beside other says) [
  | inl smaller ↦ inl smaller
  | inr begun ↦ inr (record { next = begun.next; some = begun.some; base = omega (arith, begun.base, le); none = begun.none })
]

-- ---- what a crash leaves
module _ (one : LogsReadOneWay) (redone : CommitsAreRedone) where
  left_of : (C : ℕ) (changes : List Change) (durable n : ℕ) (left others : List ℕ) → durable ≤ n → n ≤ length changes → ((later : List Change) → take n later ≡ take n changes → n ≤ length later → HaveFirst C later n left others) → AreLeft C changes durable left others
  left_of C changes durable n left others enough within again = record {
    rows = λ read are. are_first C changes durable n read enough (first_are_read one redone C changes n left others read (again changes refl within) are);
    count = n;
    enough = enough;
    again = λ later alike. again later alike (within_alike C changes later n alike within);
  }

  pub first_logs : FirstLogsSurvive
  first_logs C changes header entries durable left others whole base survives smaller =
      let front = take survives.count entries in
      let n = number_after header.base front in
      let have = have_front C changes header.base survives.count entries whole.commits in
      let unsealed = front_unsealed survives.count entries whole.unsealed in
      let enough : durable ≤ n = omega (arith, survives.kept, last_is header.base front) in
      left_of C changes durable n left others enough (omega (arith, front_within header.base survives.count entries, whole.within)) (λ later alike long. record {
        header = header;
        entries = front;
        log = survives.log;
        columns = whole.columns;
        commits = commits_alike C changes later n alike header.base front (omega arith) have;
        number = refl;
        within = long;
        role = inl (inl (base, unsealed), more_begun C header.generation durable n others enough smaller);
      })

  pub checkpoints : CheckpointsSurvive
  checkpoints C changes header entries durable left others whole on survives =
      let front = take survives.count entries in
      let n = number_after header.base front in
      let have = have_front C changes header.base survives.count entries whole.commits in
      let unsealed = front_unsealed survives.count entries whole.unsealed in
      let enough : durable ≤ n = omega (arith, survives.kept, last_is header.base front) in
      left_of C changes durable n left others enough (omega (arith, front_within header.base survives.count entries, whole.within)) (λ later alike long. record {
        header = header;
        entries = front;
        log = survives.log;
        columns = whole.columns;
        commits = commits_alike C changes later n alike header.base front (omega arith) have;
        number = refl;
        within = long;
        role = inr (
          unsealed,
          record {
            older = on.older;
            entries = on.entries;
            columns = on.columns;
            base = on.base;
            generation = on.generation;
            rows = on.rows ∙ rows_alike C changes later n alike (number_after on.older.base on.entries) (omega (arith, on.base));
            log = on.log;
          },
        );
      })

  pub grown_logs : LogsHaveTheirFronts → GrownLogsSurvive
  grown_logs fronts C changes header first later durable left rest others commits within sealed says survives begins smaller =
      let entries = first ++ later in
      let count = survives.count in
      let read_front = fronts header first (take count entries) left rest says survives.log begins in
      let j = count - length first in
      let front = first ++ take j later in
      let is : take count entries ≡ front = front_over first later read_front.0 count read_front.1 in
      let n = number_after header.base front in
      let have = subst (HaveCommits C changes header.base) is (have_front C changes header.base count entries commits) in
      let sealed_front : IsSealed C changes header first (take j later) = record {
        columns = sealed.columns;
        sealed = sealed.sealed;
        rows = sealed.rows;
        more = commits_front j later sealed.more;
        commits = have_front C changes (number_after header.base first) j later sealed.commits;
      } in
      let enough : durable ≤ n = omega (arith, survives.kept, last_is header.base (take count entries), ap (number_after header.base) is) in
      left_of C changes durable n left others enough
      (omega (arith, front_within header.base count entries, within, ap (number_after header.base) is)) (λ later_changes alike long. record {
        header = header;
        entries = front;
        log = subst (λ (l : List Entry). IsLog header l left) is survives.log;
        columns = sealed.columns;
        commits = commits_alike C changes later_changes n alike header.base front (omega arith) have;
        number = refl;
        within = long;
        role = inl (
          inr (record {
            first = first;
            later = take j later;
            joined = refl;
            says = says;
            sealed = sealed_alike C changes later_changes n alike header first (take j later) (omega arith) sealed_front;
          }),
          more_begun C header.generation durable n others enough smaller,
        );
      })

pub sealed_logs : LogsReadOneWay → SealedLogsSurvive
sealed_logs one C changes log left others read says whole rows smaller are =
    let n = last_number log in
    elim are.1 [
      | inl ahead ↦
          let source = of_whole one C left others log.header log.entries.items says.spells says.columns read are.0 whole ahead in
          are_first C changes n n read (omega arith) (read_newer one C changes left others read log.header log.entries.items says.spells rows (subst (λ (s : Option Source). AreRows C left others s read) source ahead))
      | inr behind ↦ absurd (of_newest one C left others log.header log.entries.items says.spells says.columns read are.0 smaller behind)
    ]
