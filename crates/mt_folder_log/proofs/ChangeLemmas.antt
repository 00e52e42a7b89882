-- What the calls of a log do to the changes that a folder keeps.
use Rattle.std.proofs.Common.{◌≡◌, ◌∙◌, ◌++◌, ◌∷◌, ◌+◌, ◌-◌, ◌<◌, ◌≤◌, ◌||◌, ◌⊎◌, ℕ, Bool, true, false, List, [], length, take, drop, refl, sym, ap, subst, arith, inl, inr, length-append, IsFalse, Result, Ok, Err, Option, Some, None}
use Rattle.std.specs.Prelude.{nat_lt, unwrap_or, OnOk, OnErr}
use Rattle.std.specs.List.{list_any}
use Rattle.std.specs.FinMap.{empty}
use Rattle.std.specs.Option.{option_or}
use Rattle.std.proofs.lemmas.Bool.Decides.{leb_tells}
use Rattle.std.proofs.lemmas.List.{append-nil, take_all, take-append-le}
use Rattle.std.proofs.lemmas.List.Folds.{list_any-append}
use Rattle.mt_types.specs.Rows.{after}
use Rattle.mt_types.specs.declared.row.Change.{Change}
use Rattle.mt_frame.specs.declared.entry.Entry.{Entry}
use Rattle.mt_frame.specs.declared.entry.Entry.TheVariants.{Rows as Listed, Sealed}
use Rattle.mt_frame.specs.declared.entry.LogHeader.{LogHeader}
use Rattle.mt_frame.specs.declared.entry.Part.{Part}
use Rattle.mt_frame.specs.declared.entry.Record.{Record}
use Rattle.mt_journal.specs.declared.position.Position.{Position}
use Rattle.mt_journal.specs.Appending.{with_commits, with_part, with_seal}
use Rattle.mt_journal.specs.Keeping.{AllAreLogs, AllSurvive, Keeps, KeepsFronts}
use Rattle.mt_journal.specs.Log.{last_number, IsLog, MaySay}
use Rattle.mt_journal.proofs.Frames.{logs_read_one_way}
use Rattle.mt_journal.proofs.Kept.{all_survive}
use Rattle.mt_replay.specs.Redo.{is_seal, number_after}
use Rattle.mt_replay.specs.RedoLaws.{HaveCommits}
use Rattle.mt_replay.specs.Replay.{records_in, records_of}
use Rattle.mt_replay.proofs.EntryLemmas.{records-append}
use Rattle.mt_folder.specs.declared.log.LogRead.{LogRead}
use Rattle.mt_folder.specs.Files.{Says}
use Rattle.mt_folder.specs.declared.opening.Spare.{Spare}
use Rattle.mt_folder.specs.declared.opening.Spare.TheVariants.{Free as FreeSpare, Needed as NeededSpare}
use Rattle.mt_folder.specs.Spares.{is_needed}
use Rattle.mt_folder.specs.Kept.{rows_after}
use Rattle.mt_replay.proofs.FollowLemmas.{commits_are_redone}
use Rattle.mt_folder.proofs.SourceLemmas.{last_is}
use Rattle.mt_folder_laws.specs.Copied.{Covers}
use Rattle.mt_folder_laws.proofs.CopiedLemmas.{sealed_rows}
use Rattle.mt_folder_laws.proofs.CrashLemmas.{all_rows, have_nothing}
use Rattle.mt_folder_laws.proofs.PartLemmas.{copied_part}
use Rattle.mt_folder_log.specs.declared.checkpoint.Other.{Other}
use Rattle.mt_folder_log.specs.declared.checkpoint.Other.TheVariants.{Free, Needed, Gone}
use Rattle.mt_folder_log.specs.declared.checkpoint.TheConstants.{PART}
use Rattle.mt_folder_log.specs.Folder.{AllHaveHeader, AllFound, AreKept, AreNext, AreNextRows, HasRole, IsWhole, MayBeBeside}
use Rattle.mt_folder_log.specs.Moving.{continued, end_of, start_of, IfNeeded, IsAfter, IsFree, IsOfSpare}
use Rattle.mt_folder_log.proofs.MovingLemmas.{if_err}
use Rattle.mt_folder_log.proofs.RoleLemmas.{found, found_before, found_whole, has_rows, have_next, role_commits, role_fewer, unsealed_next, within_next}

or_true : (b : Bool) → (b || true) ≡ true
or_true true = refl
or_true false = refl

-- ---- numbers
-- the number of the last commit, of a log in use
newest_is : (at : Position) (seen : List ℕ) (may : List ℕ → Type 0) (header : LogHeader) (entries : List Entry) → Keeps at seen may header entries → at.newest ≡ number_after header.base entries
newest_is at seen may header entries keeps = keeps.newest ∙ last_is header.base entries

-- an entry without commits
pub have_other : (C : ℕ) (changes : List Change) (b : ℕ) (entries : List Entry) (entry : Entry) → records_in (entry ∷ []) ≡ [] → HaveCommits C changes b entries → HaveCommits C changes b (entries ++ entry ∷ [])
have_other C changes b entries entry none have =
    let same : records_in (entries ++ entry ∷ []) ≡ records_in entries = records-append entries (entry ∷ []) ∙ ap (λ (rs : List Record). records_in entries ++ rs) none ∙ append-nil (records_in entries) in
    same ∙ have ∙ ap (λ (rs : List Record). take (b + length rs - b) (drop b (records_of C changes))) (sym same)

pub within_other : (b : ℕ) (entries : List Entry) (entry : Entry) (most : ℕ) → records_in (entry ∷ []) ≡ [] → number_after b entries ≤ most → number_after b (entries ++ entry ∷ []) ≤ most
within_other b entries entry most none within =
    let same : records_in (entries ++ entry ∷ []) ≡ records_in entries = records-append entries (entry ∷ []) ∙ ap (λ (rs : List Record). records_in entries ++ rs) none ∙ append-nil (records_in entries) in
    omega (arith, ap length same, within)

module _ {D : Type 0} (C : ℕ) (seen : D → List ℕ) (may_leave : D → List ℕ → Type 0) (changes : List Change) where
  -- ---- a folder whose first log has no entries
  pub begins : (at : Position) (disk : D) (spare : Spare D) (other : Other D) → IsFalse (is_needed spare) → IsOfSpare spare other → Keeps at (seen disk) (may_leave disk) (record { columns = C; generation = 0; base = 0; run = 0 }) []
      → AreKept C seen may_leave changes at disk other
  begins at disk (FreeSpare file size) (Free free most) unneeded is keeps = record {
    header = record { columns = C; generation = 0; base = 0; run = 0 };
    entries = [];
    keeps = keeps;
    columns = refl;
    commits = have_nothing C changes 0;
    within = omega arith;
    role = inl (refl, refl);
  }
  begins at disk (FreeSpare file size) (Needed free last copied has_all) unneeded is keeps = absurd is
  begins at disk (FreeSpare file size) Gone unneeded is keeps = absurd is
  begins at disk (NeededSpare file) other unneeded is keeps = cc

  -- ---- a crash
  -- of a log that has these entries, in the role that they have
  by_role : (header : LogHeader) (entries : List Entry) (durable generation : ℕ) (disk : D) (other : Other D) → header.columns ≡ C → HaveCommits C changes header.base entries → number_after header.base entries ≤ length changes → generation ≡ header.generation
      → HasRole C changes may_leave other header entries (may_leave disk) → AllSurvive header entries durable (may_leave disk) → AllFound C may_leave changes durable generation disk other
  by_role header entries durable generation disk other columns have within same role survive = λ left others may_left beside.
      found C changes may_leave other header entries (may_leave disk) durable generation columns have within same role left others may_left (survive left may_left) beside

  pub recovers : (at : Position) (disk : D) (other : Other D) → AreKept C seen may_leave changes at disk other → AllFound C may_leave changes at.durable at.generation disk other
  recovers at disk other kept =
      by_role kept.header kept.entries at.durable at.generation disk other kept.columns kept.commits kept.within kept.keeps.generation kept.role
      (all_survive at (seen disk) (may_leave disk) (may_leave disk) kept.header kept.entries kept.keeps (λ left may_left. may_left))

  pub recovers_fewer : (at : Position) (disk new : D) (other : Other D) → ((left : List ℕ) → may_leave new left → may_leave disk left) → AreKept C seen may_leave changes at disk other → AllFound C may_leave changes at.durable at.generation new other
  recovers_fewer at disk new other fewer kept = λ left others may_left. recovers at disk other kept left others (fewer left may_left)

  -- if the log has all rows, whatever the other file is then
  pub recovers_spare : (at : Position) (disk new : D) (other spare : Other D) → ((log : List ℕ) → MayBeBeside C may_leave at.durable at.generation spare log → MayBeBeside C may_leave at.durable at.generation other log)
      → ((left : List ℕ) → may_leave new left → may_leave disk left) → AreKept C seen may_leave changes at disk other → AllFound C may_leave changes at.durable at.generation new spare
  recovers_spare at disk new other spare beside fewer kept = λ left others may_left is. recovers at disk other kept left others (fewer left may_left) (beside others is)

  pub beside_free : (durable generation : ℕ) (file : D) (most : ℕ) (other spare : Other D) → other ≡ Free file most → (spare ≡ Gone) ⊎ IsFree spare → (log : List ℕ) → MayBeBeside C may_leave durable generation spare log → MayBeBeside C may_leave durable generation other log
  beside_free durable generation file most other (Free disk more) free which log is = subst (λ (o : Other D). MayBeBeside C may_leave durable generation o log) (sym free) is
  beside_free durable generation file most other (Needed disk last copied has_all) free which log is = elim which [
    | inl gone ↦ cc
    | inr wrong ↦ absurd wrong
  ]
  beside_free durable generation file most other Gone free which log is = subst (λ (o : Other D). MayBeBeside C may_leave durable generation o log) (sym free) is

  -- ---- commits
  module _ (at : Position) (disk new : D) (other : Other D) (records : List Record) (kept : AreKept C seen may_leave changes at disk other) (next : AreNext C changes at.newest records) (fronts : KeepsFronts at.end (may_leave disk) (may_leave new)) where
    commits_more : HaveCommits C changes kept.header.base (with_commits at records kept.entries)
    commits_more =
        have_next C changes kept.header.base at.newest kept.entries (record { first = at.newest + 1; durable = at.durable; records = records })
        (newest_is at (seen disk) (may_leave disk) kept.header kept.entries kept.keeps) kept.commits next

    within_more : number_after kept.header.base (with_commits at records kept.entries) ≤ length changes
    within_more =
        within_next C changes kept.header.base at.newest kept.entries (record { first = at.newest + 1; durable = at.durable; records = records })
        (newest_is at (seen disk) (may_leave disk) kept.header kept.entries kept.keeps) kept.within next

    role_more : HasRole C changes may_leave other kept.header (with_commits at records kept.entries) (may_leave new)
    role_more =
        role_commits C changes may_leave other kept.header kept.entries (record { first = at.newest + 1; durable = at.durable; records = records }) at.end (may_leave disk) (may_leave new)
        kept.keeps.end commits_more fronts kept.role

    pub appended : {T E : Type 0} (result : Result T E) (then : Position) → OnOk result (Keeps then (seen new) (may_leave new) kept.header (with_commits at records kept.entries)) → OnOk result (AreKept C seen may_leave changes then new other)
    appended (Err e) then keeps = tt
    appended (Ok x) then keeps = record { header = kept.header; entries = with_commits at records kept.entries; keeps = keeps; columns = kept.columns; commits = commits_more; within = within_more; role = role_more }

    pub append_recovers : AllSurvive kept.header (with_commits at records kept.entries) at.durable (may_leave new) → AllFound C may_leave changes at.durable at.generation new other
    append_recovers survive =
        by_role kept.header (with_commits at records kept.entries) at.durable at.generation new other kept.columns commits_more within_more kept.keeps.generation role_more survive

  -- ---- a sync
  pub synced : {T E : Type 0} (result : Result T E) (at then : Position) (disk new : D) (other : Other D) → ((left : List ℕ) → may_leave new left → may_leave disk left)
      → (kept : AreKept C seen may_leave changes at disk other) → OnOk result (Keeps then (seen new) (may_leave new) kept.header kept.entries) → OnOk result (AreKept C seen may_leave changes then new other)
  synced (Err e) at then disk new other fewer kept keeps = tt
  synced (Ok x) at then disk new other fewer kept keeps = record {
    header = kept.header;
    entries = kept.entries;
    keeps = keeps;
    columns = kept.columns;
    commits = kept.commits;
    within = kept.within;
    role = role_fewer C changes may_leave other kept.header kept.entries (may_leave disk) (may_leave new) fewer kept.role;
  }

  -- ---- a move to the other file
  pub moved : (at then : Position) (disk before new : D) (other : Other D) (kept : AreKept C seen may_leave changes at disk other) → IsWhole C changes kept.header kept.entries (may_leave disk)
      → AllAreLogs kept.header kept.entries (may_leave before) → Keeps then (seen new) (may_leave new) (continued C at) [] → AreKept C seen may_leave changes then new (Needed before None 0 false)
  moved at then disk before new other kept whole all keeps = record {
    header = continued C at;
    entries = [];
    keeps = keeps;
    columns = refl;
    commits = have_nothing C changes at.newest;
    within = omega (arith, newest_is at (seen disk) (may_leave disk) kept.header kept.entries kept.keeps, kept.within);
    role = (
      refl,
      λ others may_left. record {
        older = kept.header;
        entries = kept.entries;
        columns = kept.columns;
        base = newest_is at (seen disk) (may_leave disk) kept.header kept.entries kept.keeps;
        generation = ap (λ (n : ℕ). n + 1) kept.keeps.generation;
        rows = all_rows commits_are_redone C changes kept.header kept.entries kept.commits (has_rows C changes kept.header kept.entries (may_leave disk) whole);
        log = all others may_left;
      },
      record { listed = tt; others = λ key covers. absurd covers },
    );
  }

  -- ---- a checkpoint
  module _ (before : D) (last : Option (List ℕ)) (copied : ℕ) (has_all : Bool) (at : Position) (disk new : D) (kept : AreKept C seen may_leave changes at disk (Needed before last copied has_all)) where
    start_is : (key : Option (List ℕ)) → start_of (Needed before key copied has_all) ≡ unwrap_or key []
    start_is None = refl
    start_is (Some key) = refl

    commits_same : (entry : Entry) → records_in (entry ∷ []) ≡ [] → HaveCommits C changes kept.header.base (kept.entries ++ entry ∷ [])
    commits_same entry none = have_other C changes kept.header.base kept.entries entry none kept.commits

    within_same : (entry : Entry) → records_in (entry ∷ []) ≡ [] → number_after kept.header.base (kept.entries ++ entry ∷ []) ≤ length changes
    within_same entry none = within_other kept.header.base kept.entries entry (length changes) none kept.within

    -- the next rows
    pub copied_more : {T E : Type 0} (result : Result T E) (then : Position) (other : Other D) (part : Part) (count : ℕ) → AreNextRows C changes at.newest (Needed before last copied has_all) part
        → other ≡ Needed before (option_or (end_of part) last) count (nat_lt (length part.rows) PART) → OnOk result (Keeps then (seen new) (may_leave new) kept.header (with_part part kept.entries)) → OnOk result (AreKept C seen may_leave changes then new other)
    copied_more (Err e) then other part count range is keeps = tt
    copied_more (Ok x) then other part count range is keeps = subst (AreKept C seen may_leave changes then new) (sym is) (record {
      header = kept.header;
      entries = with_part part kept.entries;
      keeps = keeps;
      columns = kept.columns;
      commits = commits_same (Listed part) refl;
      within = within_same (Listed part) refl;
      role = (
        unsealed_next kept.entries (Listed part) refl kept.role.0,
        kept.role.1,
        copied_part C changes kept.header.base at.newest PART kept.entries part last has_all (nat_lt (length part.rows) PART) (end_of part) (start_of (Needed before last copied has_all))
            (newest_is at (seen disk) (may_leave disk) kept.header kept.entries kept.keeps) (start_is last) refl refl range kept.role.2,
      );
    })

    pub copy_recovers : (part : Part) → AllSurvive kept.header (with_part part kept.entries) at.durable (may_leave new) → AllFound C may_leave changes at.durable at.generation new (Needed before last copied has_all)
    copy_recovers part survive = λ left others may_left beside.
        found_before C changes kept.header (with_part part kept.entries) at.durable left others kept.columns (commits_same (Listed part) refl) (within_same (Listed part) refl) (survive left may_left) (may_leave before)
        (unsealed_next kept.entries (Listed part) refl kept.role.0) kept.role.1 beside

    -- the seal
    all_covered : has_all ≡ true → (key : List ℕ) → Covers last has_all key
    all_covered all key = subst (λ (b : Bool). Covers last b key) (sym all) tt

    seals : (count : ℕ) → list_any is_seal (with_seal count kept.entries) ≡ true
    seals count = list_any-append is_seal kept.entries (Sealed count ∷ []) ∙ or_true (list_any is_seal kept.entries)

    rows_sealed : (count : ℕ) → has_all ≡ true → rows_after kept.header (with_seal count kept.entries) empty ≡ after C (take (number_after kept.header.base (with_seal count kept.entries)) changes)
    rows_sealed count all = sealed_rows C changes kept.header kept.entries count (Covers last has_all) (commits_same (Sealed count) refl) (all_covered all) kept.role.2

    whole_sealed : (count : ℕ) (leaves : List ℕ → Type 0) → has_all ≡ true → MaySay kept.header (with_seal count kept.entries) → AllAreLogs kept.header (with_seal count kept.entries) leaves → IsWhole C changes kept.header (with_seal count kept.entries) leaves
    whole_sealed count leaves all says logs = inr (record {
      seal = record {
        first = with_seal count kept.entries;
        later = [];
        joined = sym (append-nil (with_seal count kept.entries));
        says = says;
        sealed = record {
          columns = kept.columns;
          sealed = seals count;
          rows = rows_sealed count all;
          more = tt;
          commits = have_nothing C changes (number_after kept.header.base (with_seal count kept.entries));
        };
      };
      begins = λ left may_left. let log = logs left may_left in (log.rest, log.parts);
    })

    pub sealed : (then : Position) (other : Other D) (count : ℕ) → has_all ≡ true → IsFree other → AllAreLogs kept.header (with_seal count kept.entries) (may_leave new) → Keeps then (seen new) (may_leave new) kept.header (with_seal count kept.entries)
        → AreKept C seen may_leave changes then new other
    sealed then (Free file most) count all is logs keeps = record {
      header = kept.header;
      entries = with_seal count kept.entries;
      keeps = keeps;
      columns = kept.columns;
      commits = commits_same (Sealed count) refl;
      within = within_same (Sealed count) refl;
      role = whole_sealed count (may_leave new) all keeps.says logs;
    }
    sealed then (Needed file key number done) count all is logs keeps = absurd is
    sealed then Gone count all is logs keeps = absurd is

    -- the log before has another generation
    older : (others : List ℕ) → may_leave before others → (log : LogRead) → Says C others log → log.header.generation < kept.header.generation
    older others may_leave_it log said =
        let it = kept.role.1 others may_leave_it in
        let same = (logs_read_one_way it.older log.header it.entries log.entries.items others it.log said.spells).0 in
        omega (arith, it.generation, ap (λ (h : LogHeader). h.generation) same)

    pub seal_recovers : (count : ℕ) → has_all ≡ true → AllSurvive kept.header (with_seal count kept.entries) at.durable (may_leave new) → AllFound C may_leave changes at.durable at.generation new (Needed before last copied has_all)
    seal_recovers count all survive = λ left others may_left beside.
        let s = survive left may_left in
        elim (leb_tells s.count (length kept.entries)) [
          | inl few ↦
              let same : take s.count (with_seal count kept.entries) ≡ take s.count kept.entries = take-append-le s.count kept.entries (Sealed count ∷ []) few.1 in
              found_before C changes kept.header kept.entries at.durable left others kept.columns kept.commits kept.within
              (record { count = s.count; within = few.1; log = subst (λ (l : List Entry). IsLog kept.header l left) same s.log; kept = subst (λ (l : List Entry). at.durable ≤ last_number kept.header.base l) same s.kept })
              (may_leave before) kept.role.0 kept.role.1 beside
          | inr many ↦
              let whole = with_seal count kept.entries in
              let same : take s.count whole ≡ whole = take_all s.count whole (omega (arith, many.1, length-append kept.entries (Sealed count ∷ []))) in
              let log = subst (λ (l : List Entry). IsLog kept.header l left) same s.log in
              found_whole C changes kept.header whole at.durable left others kept.columns (commits_same (Sealed count) refl) (within_same (Sealed count) refl) s (IsLog kept.header whole)
              (whole_sealed count (IsLog kept.header whole) all log.says (λ bytes is. is)) log (λ other says. inl (older others beside other says))
        ]

  -- whatever the other file is
  pub copy_recovers_if : {T E : Type 0} (result : Result T E) (at : Position) (disk new : D) (other : Other D) (part : Part) (kept : AreKept C seen may_leave changes at disk other) → AllSurvive kept.header (with_part part kept.entries) at.durable (may_leave new)
      → IfNeeded other (λ copied. OnErr result (AllFound C may_leave changes at.durable at.generation new other))
  copy_recovers_if result at disk new (Free file most) part kept survive = tt
  copy_recovers_if result at disk new (Needed file last copied has_all) part kept survive = if_err result (copy_recovers file last copied has_all at disk new kept part survive)
  copy_recovers_if result at disk new Gone part kept survive = tt

  pub copied_if : {T E : Type 0} (result : Result T E) (at then : Position) (disk new : D) (other after : Other D) (part : Part) (kept : AreKept C seen may_leave changes at disk other) → AreNextRows C changes at.newest other part
      → IsAfter (end_of part) (nat_lt (length part.rows) PART) other after → OnOk result (Keeps then (seen new) (may_leave new) kept.header (with_part part kept.entries)) → IfNeeded other (λ copied. OnOk result (AreKept C seen may_leave changes then new after))
  copied_if result at then disk new (Free file most) after part kept range is keeps = tt
  copied_if result at then disk new (Needed file last copied has_all) after part kept range is keeps = copied_more file last copied has_all at disk new kept result then after part is.0 range is.1 keeps
  copied_if result at then disk new Gone after part kept range is keeps = tt

-- ---- the header that a crash leaves
pub headed : (header : LogHeader) (entries : List Entry) (durable : ℕ) (may : List ℕ → Type 0) → AllSurvive header entries durable may → AllHaveHeader header may
headed header entries durable may survive = λ left leaves. let is = survive left leaves in (take is.count entries, is.log)

-- a log that was not written to
pub still_headed : (at : Position) (seen : List ℕ) (may : List ℕ → Type 0) (header : LogHeader) (entries : List Entry) → Keeps at seen may header entries → AllHaveHeader header may
still_headed at seen may header entries keeps = headed header entries at.durable may (all_survive at seen may may header entries keeps (λ left leaves. leaves))
