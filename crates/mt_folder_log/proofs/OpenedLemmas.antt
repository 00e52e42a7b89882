-- A log that was opened over files that have the first changes: the folder keeps these.
use Rattle.std.proofs.Common.{◌≡◌, ◌∙◌, ◌++◌, ◌∷◌, ◌≤◌, ◌⊎◌, ℕ, Bool, false, List, [], length, refl, sym, ap, subst, arith, append_assoc, if◌then◌else◌, inl, inr, IsTrue}
use Rattle.std.specs.Prelude.{Option, Some, None}
use Rattle.std.specs.List.{list_any}
use Rattle.mt_types.specs.declared.row.Change.{Change}
use Rattle.mt_frame.specs.declared.entry.Entry.{Entry}
use Rattle.mt_frame.specs.declared.entry.Entry.TheVariants.{Header, Commits as Group, Rows as Listed, Sealed, Closed}
use Rattle.mt_frame.specs.declared.entry.LogHeader.{LogHeader}
use Rattle.mt_frame.specs.Spelling.{frames_of}
use Rattle.mt_journal.specs.Keeping.{AllAreLogs, Keeps}
use Rattle.mt_journal.specs.Log.{log_spelling}
use Rattle.mt_journal.proofs.Frames.{log_append, logs_read_one_way}
use Rattle.mt_replay.proofs.FollowLemmas.{commits_are_redone}
use Rattle.mt_replay.specs.Redo.{is_seal, number_after}
use Rattle.mt_replay.specs.RedoLaws.{AllListRows}
use Rattle.mt_folder.specs.declared.log.LogRead.{LogRead}
use Rattle.mt_folder.specs.declared.opening.OpenedLog.{OpenedLog}
use Rattle.mt_folder.specs.declared.opening.Spare.{Spare}
use Rattle.mt_folder.specs.declared.opening.Spare.TheVariants.{Free as FreeSpare, Needed as NeededSpare}
use Rattle.mt_folder.specs.declared.source.Source.{Source}
use Rattle.mt_folder.specs.declared.source.Source.TheVariants.{Newer, Older, Both}
use Rattle.mt_folder.specs.Files.{Says}
use Rattle.mt_folder.specs.Kept.{IsOpened, KeepsLog, KeepsLogs}
use Rattle.mt_folder.specs.Spares.{disk_of, is_needed, IsSpareOf}
use Rattle.mt_folder_laws.specs.Copied.{counted_later, seals_later}
use Rattle.mt_folder_laws.specs.Left.{HasAllRows, HaveFirst, IsOnOlder}
use Rattle.mt_folder_laws.proofs.CrashLemmas.{all_whole, begun_first}
use Rattle.mt_folder_laws.proofs.SourceLemmas.{of_begun, of_later, of_newest, of_whole, older_than, same}
use Rattle.mt_folder_log.specs.declared.checkpoint.Other.{Other}
use Rattle.mt_folder_log.specs.declared.checkpoint.Other.TheVariants.{Free, Needed, Gone}
use Rattle.mt_folder_log.specs.Folder.{AreKept, HasRole, IsWhole}
use Rattle.mt_folder_log.specs.Moving.{IsFree, IsOfSpare}
use Rattle.mt_folder_log.proofs.ChangeLemmas.{have_other, within_other}
use Rattle.mt_folder_log.proofs.RoleLemmas.{unsealed_next}

-- ---- what was copied before the log was closed doesn't count
closed_later : (entries : List Entry) (number : ℕ) → list_any is_seal entries ≡ false → seals_later (entries ++ Closed number ∷ []) ≡ false
closed_later [] number none = refl
closed_later (Header header ∷ entries) number none = closed_later entries number none
closed_later (Group commits ∷ entries) number none = closed_later entries number none
closed_later (Listed part ∷ entries) number none = closed_later entries number none
closed_later (Sealed count ∷ entries) number none = cc
closed_later (Closed before ∷ entries) number none = refl

lists_none : (C : ℕ) (changes : List Change) (n m : ℕ) (entries : List Entry) (number : ℕ) → list_any is_seal entries ≡ false → AllListRows C changes n m (counted_later (entries ++ Closed number ∷ []))
lists_none C changes n m [] number none = (tt, tt)
lists_none C changes n m (Header header ∷ entries) number none = (tt, lists_none C changes (number_after n (Header header ∷ [])) m entries number none)
lists_none C changes n m (Group commits ∷ entries) number none = (tt, lists_none C changes (number_after n (Group commits ∷ [])) m entries number none)
lists_none C changes n m (Listed part ∷ entries) number none =
    let rest = counted_later (entries ++ Closed number ∷ []) in
    subst (AllListRows C changes n m) (sym (ap (λ (b : Bool). if b then Listed part ∷ rest else rest) (closed_later entries number none))) (lists_none C changes n m entries number none)
lists_none C changes n m (Sealed count ∷ entries) number none = cc
lists_none C changes n m (Closed before ∷ entries) number none = (tt, lists_none C changes (number_after n (Closed before ∷ [])) m entries number none)

-- ---- a log with all rows, of which a crash leaves every entry
whole_of : (C : ℕ) (changes : List Change) (header : LogHeader) (entries : List Entry) (leaves : List ℕ → Type 0) → HasAllRows C changes header entries → AllAreLogs header entries leaves → IsWhole C changes header entries leaves
whole_of C changes header entries leaves all logs = elim all [
  | inl first ↦ inl first
  | inr seal ↦ inr (record {
    seal = seal;
    begins = λ left may_left.
        let log = logs left may_left in
        let front = log_spelling header seal.first in
        let more = frames_of header.generation (length front) seal.later in (
          more ++ log.rest,
          log.parts ∙ ap (λ (l : List Entry). log_spelling header l ++ log.rest) seal.joined ∙ ap (λ (l : List ℕ). l ++ log.rest) (log_append header seal.first seal.later) ∙ append_assoc front more log.rest,
        );
  })
]

role_free : {D : Type 0} (C : ℕ) (changes : List Change) (may_leave : D → List ℕ → Type 0) (other : Other D) (header : LogHeader) (entries : List Entry) (leaves : List ℕ → Type 0) → IsFree other → IsWhole C changes header entries leaves
    → HasRole C changes may_leave other header entries leaves
role_free C changes may_leave (Free disk most) header entries leaves free whole = whole
role_free C changes may_leave (Needed disk last copied has_all) header entries leaves free whole = absurd free
role_free C changes may_leave Gone header entries leaves free whole = whole

free_of : {D : Type 0} (spare : Spare D) (other : Other D) → (IsTrue (is_needed spare) → ⊥) → IsOfSpare spare other → IsFree other
free_of (FreeSpare disk size) (Free file most) unneeded is = tt
free_of (FreeSpare disk size) (Needed file last copied has_all) unneeded is = is
free_of (FreeSpare disk size) Gone unneeded is = is
free_of (NeededSpare disk) other unneeded is = absurd (unneeded refl)

needed_of : {D : Type 0} (spare : Spare D) (other : Other D) → IsTrue (is_needed spare) → IsOfSpare spare other → other ≡ Needed (disk_of spare) None 0 false
needed_of (FreeSpare disk size) other needed is = cc
needed_of (NeededSpare disk) other needed is = is

module _ {D : Type 0} (C : ℕ) (seen : D → List ℕ) (may_leave : D → List ℕ → Type 0) (changes : List Change) (n : ℕ) (bytes others : List ℕ) (have : HaveFirst C changes n bytes others) (opened : OpenedLog D) (other : Other D) (of_spare : IsOfSpare opened.spare other) (needs : IsSpareOf opened.source opened.spare) where
  count_within : number_after have.header.base have.entries ≤ length changes
  count_within = omega (arith, have.number, have.within)

  -- a log that has all rows
  kept_one : (log : LogRead) → Says C bytes log → KeepsLog seen may_leave log opened → (opened.source ≡ Some Both → ⊥)
      → (AllAreLogs have.header have.entries (may_leave opened.journal.disk) → IsWhole C changes have.header have.entries (may_leave opened.journal.disk))
      → AreKept C seen may_leave changes opened.journal.at opened.journal.disk other
  kept_one log says keeps one whole =
      let found = same logs_read_one_way C bytes have.header have.entries log have.log says in
      let at = opened.journal.at in
      let see = seen opened.journal.disk in
      let leaves = may_leave opened.journal.disk in
      let all = subst (λ (h : LogHeader). AllAreLogs h have.entries leaves) (sym found.0) (subst (λ (l : List Entry). AllAreLogs log.header l leaves) (sym found.1) keeps.all) in
      record {
        header = have.header;
        entries = have.entries;
        keeps = subst (λ (h : LogHeader). Keeps at see leaves h have.entries) (sym found.0) (subst (λ (l : List Entry). Keeps at see leaves log.header l) (sym found.1) keeps.keeps);
        columns = have.columns;
        commits = have.commits;
        within = count_within;
        role = role_free C changes may_leave other have.header have.entries leaves (free_of opened.spare other (λ needed. one (needs.0 needed)) of_spare) (whole all);
      }

  kept_newer : opened.source ≡ Some Newer → (AllAreLogs have.header have.entries (may_leave opened.journal.disk) → IsWhole C changes have.header have.entries (may_leave opened.journal.disk))
      → KeepsLogs C seen may_leave bytes others (Some Newer) opened → AreKept C seen may_leave changes opened.journal.at opened.journal.disk other
  kept_newer source whole logs = kept_one logs.0 logs.1 logs.2 (λ both. let clash : Some Newer ≡ Some Both = sym source ∙ both in cc) whole

  -- the logs of both files
  kept_both : opened.source ≡ Some Both → list_any is_seal have.entries ≡ false → IsOnOlder C changes have.header others → KeepsLogs C seen may_leave bytes others (Some Both) opened
      → AreKept C seen may_leave changes opened.journal.at opened.journal.disk other
  kept_both source unsealed on (newer, older, says, said, both) =
      let found = same logs_read_one_way C bytes have.header have.entries newer have.log says in
      let before = same logs_read_one_way C others on.older on.entries older on.log said in
      let at = opened.journal.at in
      let see = seen opened.journal.disk in
      let leaves = may_leave opened.journal.disk in
      let file = disk_of opened.spare in
      let ended = have.entries ++ Closed both.number ∷ [] in
      subst (AreKept C seen may_leave changes at opened.journal.disk) (sym (needed_of opened.spare other (needs.1 source) of_spare)) (record {
        header = have.header;
        entries = ended;
        keeps = subst (λ (h : LogHeader). Keeps at see leaves h ended) (sym found.0) (subst (λ (l : List Entry). Keeps at see leaves newer.header (l ++ Closed both.number ∷ [])) (sym found.1) both.keeps);
        columns = have.columns;
        commits = have_other C changes have.header.base have.entries (Closed both.number) refl have.commits;
        within = within_other have.header.base have.entries (Closed both.number) (length changes) refl count_within;
        role = (
          unsealed_next have.entries (Closed both.number) refl unsealed,
          λ left may_left. record {
            older = on.older;
            entries = on.entries;
            columns = on.columns;
            base = on.base;
            generation = on.generation;
            rows = on.rows;
            log = subst (λ (h : LogHeader). AllAreLogs h on.entries (may_leave file)) (sym before.0) (subst (λ (l : List Entry). AllAreLogs older.header l (may_leave file)) (sym before.1) both.stays) left may_left;
          },
          record { listed = lists_none C changes have.header.base (number_after have.header.base ended) have.entries both.number unsealed; others = λ key covers. absurd covers },
        );
      })

  kept_ahead : IsOpened C seen may_leave bytes others opened → AreKept C seen may_leave changes opened.journal.at opened.journal.disk other
  kept_ahead is =
      let logs = λ (source : Option Source) (which : opened.source ≡ source). subst (λ (s : Option Source). KeepsLogs C seen may_leave bytes others s opened) which is.1 in
      let leaves = may_leave opened.journal.disk in
      elim have.role [
        | inl all ↦
            let source = of_whole logs_read_one_way C bytes others have.header have.entries have.log have.columns opened.read opened.source (all_whole C changes have.header have.entries all.0) is.0 in
            kept_newer source (whole_of C changes have.header have.entries leaves all.0) (logs (Some Newer) source)
        | inr on ↦ elim (of_later logs_read_one_way C bytes others have.header have.entries have.log have.columns opened.read on.1.older on.1.entries on.1.base on.1.generation on.1.log opened.source on.0 is.0) [
          | inl first ↦ kept_newer first.0 (λ all. inl (first.1, on.0)) (logs (Some Newer) first.0)
          | inr both ↦ kept_both both on.0 on.1 (logs (Some Both) both)
        ]
      ]

  -- the other file has the newer log
  not_behind : list_any is_seal have.entries ≡ false → IsOnOlder C changes have.header others → IsOpened C seen may_leave others bytes opened → ⊥
  not_behind unsealed on is =
      of_newest logs_read_one_way C bytes others have.header have.entries have.log have.columns opened.read opened.source
      (older_than logs_read_one_way C bytes others have.header have.entries have.log have.columns opened.read on.older on.entries on.base on.generation on.log) is.0

  kept_older : opened.source ≡ Some Older → HasAllRows C changes have.header have.entries → IsOpened C seen may_leave others bytes opened → AreKept C seen may_leave changes opened.journal.at opened.journal.disk other
  kept_older source all is =
      let logs = subst (λ (s : Option Source). KeepsLogs C seen may_leave others bytes s opened) source is.1 in
      kept_one logs.0 logs.1 logs.2 (λ both. let clash : Some Older ≡ Some Both = sym source ∙ both in cc) (whole_of C changes have.header have.entries (may_leave opened.journal.disk) all)

-- THE FOLDER KEEPS THE CHANGES that its files have
module _ {D : Type 0} (C : ℕ) (seen : D → List ℕ) (may_leave : D → List ℕ → Type 0) (changes : List Change) (n : ℕ) (bytes others : List ℕ) (have : HaveFirst C changes n bytes others) (opened : OpenedLog D) (other : Other D) (of_spare : IsOfSpare opened.spare other) (needs : IsSpareOf opened.source opened.spare) where
  kept_behind : IsOpened C seen may_leave others bytes opened → AreKept C seen may_leave changes opened.journal.at opened.journal.disk other
  kept_behind is = elim have.role [
    | inl all ↦ elim (of_begun logs_read_one_way C bytes others have.header have.entries have.log have.columns opened.read n opened.source all.1 is.0) [
      | inl older ↦ kept_older C seen may_leave changes n bytes others have opened other of_spare needs older all.0 is
      | inr both ↦
          kept_ahead C seen may_leave changes n others bytes (begun_first commits_are_redone C changes n bytes others have both.1 all.0 both.2 both.3 both.4) opened other of_spare needs is
    ]
    | inr on ↦ absurd (not_behind C seen may_leave changes n bytes others have opened other of_spare needs on.0 on.1 is)
  ]

  pub reopened : IsOpened C seen may_leave bytes others opened ⊎ IsOpened C seen may_leave others bytes opened → AreKept C seen may_leave changes opened.journal.at opened.journal.disk other
  reopened is = elim is [
    | inl ahead ↦ kept_ahead C seen may_leave changes n bytes others have opened other of_spare needs ahead
    | inr behind ↦ kept_behind behind
  ]
