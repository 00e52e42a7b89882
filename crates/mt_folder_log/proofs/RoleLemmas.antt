-- What a folder has of the changes of an index, as its log grows.
use Rattle.std.proofs.Common.{◌≡◌, ◌∙◌, ◌++◌, ◌∷◌, ◌+◌, ◌-◌, ◌≤◌, ◌||◌, ℕ, Bool, false, List, [], length, take, drop, refl, sym, ap, subst, arith, append_assoc, inl, inr, length-append}
use Rattle.std.specs.List.{list_any}
use Rattle.std.proofs.lemmas.List.{append-nil, drop-drop, length-drop, length-map, length-take}
use lib.Seq.{take-add}
use Rattle.std.proofs.lemmas.List.Folds.{list_any-append}
use Rattle.mt_types.specs.declared.row.Change.{Change}
use Rattle.mt_commit.specs.Logged.{deltas_of}
use Rattle.mt_commit.proofs.DeltaLemmas.{deltas_of-length}
use Rattle.mt_frame.specs.declared.entry.Commits.{Commits}
use Rattle.mt_frame.specs.declared.entry.Entry.{Entry}
use Rattle.mt_frame.specs.declared.entry.Entry.TheVariants.{Commits as Group}
use Rattle.mt_frame.specs.declared.entry.LogHeader.{LogHeader}
use Rattle.mt_frame.specs.declared.entry.Record.{Record}
use Rattle.mt_frame.specs.Spelling.{frames_of}
use Rattle.mt_journal.specs.Keeping.{KeepsFronts, Survives}
use Rattle.mt_journal.specs.Log.{log_spelling}
use Rattle.mt_journal.proofs.Frames.{log_append, logs_have_their_fronts, logs_read_one_way}
use Rattle.mt_replay.specs.Redo.{is_seal, number_after}
use Rattle.mt_replay.specs.RedoLaws.{HaveCommits}
use Rattle.mt_replay.specs.Replay.{record_of, records_in, records_of}
use Rattle.mt_replay.proofs.EntryLemmas.{records-append}
use Rattle.mt_replay.proofs.FollowLemmas.{commits_are_redone}
use Rattle.mt_folder_laws.proofs.CopiedLemmas.{copied_next}
use Rattle.mt_folder_laws.proofs.CrashLemmas.{checkpoints, first_logs, grown_logs}
use Rattle.mt_folder_laws.proofs.GrownLemmas.{commits-append, have_later}
use Rattle.mt_folder_log.specs.declared.checkpoint.Other.{Other}
use Rattle.mt_folder_log.specs.declared.checkpoint.Other.TheVariants.{Free, Needed, Gone}
use Rattle.mt_folder_laws.specs.Copied.{Covers}
use Rattle.mt_folder_laws.specs.Left.{AreLeft, HasAllRows, HasNoNewer}
use Rattle.mt_folder_log.specs.Folder.{AreNext, HasRole, IsBefore, IsWhole, MayBeBeside}

-- ---- the rows that a log has itself
pub has_rows : (C : ℕ) (changes : List Change) (header : LogHeader) (entries : List Entry) (leaves : List ℕ → Type 0) → IsWhole C changes header entries leaves → HasAllRows C changes header entries
has_rows C changes header entries leaves whole = elim whole [
  | inl first ↦ inl first
  | inr keeps ↦ inr keeps.seal
]

-- ---- what a crash leaves
module _ (C : ℕ) (changes : List Change) (header : LogHeader) (entries : List Entry) (durable : ℕ) (left others : List ℕ) (columns : header.columns ≡ C) (have : HaveCommits C changes header.base entries) (within : number_after header.base entries ≤ length changes) (survives : Survives header entries durable left) where
  pub found_whole : (leaves : List ℕ → Type 0) → IsWhole C changes header entries leaves → leaves left → HasNoNewer C header.generation durable others → AreLeft C changes durable left others
  found_whole leaves whole may_left smaller = elim whole [
    | inl first ↦
        first_logs logs_read_one_way commits_are_redone C changes header entries durable left others
        (record { columns = columns; commits = have; within = within; unsealed = first.1 }) first.0 survives smaller
    | inr keeps ↦
        let seal = keeps.seal in
        let begun = keeps.begins left may_left in
        grown_logs logs_read_one_way commits_are_redone logs_have_their_fronts C changes header seal.first seal.later durable left begun.0 others
        (subst (HaveCommits C changes header.base) seal.joined have) (subst (λ (l : List Entry). number_after header.base l ≤ length changes) seal.joined within) seal.sealed seal.says
        (subst (λ (l : List Entry). Survives header l durable left) seal.joined survives) begun.1 smaller
  ]

  pub found_before : (leaves : List ℕ → Type 0) → list_any is_seal entries ≡ false → IsBefore C changes header leaves → leaves others → AreLeft C changes durable left others
  found_before leaves unsealed before may_leave =
      checkpoints logs_read_one_way commits_are_redone C changes header entries durable left others (record { columns = columns; commits = have; within = within; unsealed = unsealed }) (before others may_leave) survives

-- by the role of the other file
pub found : {D : Type 0} (C : ℕ) (changes : List Change) (may_leave : D → List ℕ → Type 0) (other : Other D) (header : LogHeader) (entries : List Entry) (leaves : List ℕ → Type 0) (durable generation : ℕ)
    → header.columns ≡ C → HaveCommits C changes header.base entries → number_after header.base entries ≤ length changes → generation ≡ header.generation → HasRole C changes may_leave other header entries leaves
    → (left others : List ℕ) → leaves left → Survives header entries durable left → MayBeBeside C may_leave durable generation other others → AreLeft C changes durable left others
found C changes may_leave (Free disk most) header entries leaves durable generation columns have within same role = λ left others may_left survives beside.
    found_whole C changes header entries durable left others columns have within survives leaves role may_left (subst (λ (n : ℕ). HasNoNewer C n durable others) same beside)
found C changes may_leave (Needed disk last copied has_all) header entries leaves durable generation columns have within same role = λ left others may_left survives beside.
    found_before C changes header entries durable left others columns have within survives (may_leave disk) role.0 role.1 beside
found C changes may_leave Gone header entries leaves durable generation columns have within same role = λ left others may_left survives beside.
    found_whole C changes header entries durable left others columns have within survives leaves role may_left (subst (λ (n : ℕ). HasNoNewer C n durable others) same beside)

-- ---- a crash leaves no more than before
whole_fewer : (C : ℕ) (changes : List Change) (header : LogHeader) (entries : List Entry) (leaves fewer : List ℕ → Type 0) → ((left : List ℕ) → fewer left → leaves left) → IsWhole C changes header entries leaves → IsWhole C changes header entries fewer
whole_fewer C changes header entries leaves fewer less whole = elim whole [
  | inl first ↦ inl first
  | inr keeps ↦ inr (record { seal = keeps.seal; begins = λ left may_left. keeps.begins left (less left may_left) })
]

pub role_fewer : {D : Type 0} (C : ℕ) (changes : List Change) (may_leave : D → List ℕ → Type 0) (other : Other D) (header : LogHeader) (entries : List Entry) (leaves fewer : List ℕ → Type 0) → ((left : List ℕ) → fewer left → leaves left)
    → HasRole C changes may_leave other header entries leaves → HasRole C changes may_leave other header entries fewer
role_fewer C changes may_leave (Free disk most) header entries leaves fewer less role = whole_fewer C changes header entries leaves fewer less role
role_fewer C changes may_leave (Needed disk last copied has_all) header entries leaves fewer less role = role
role_fewer C changes may_leave Gone header entries leaves fewer less role = whole_fewer C changes header entries leaves fewer less role

-- ---- the next commits
pub have_next : (C : ℕ) (changes : List Change) (b n : ℕ) (entries : List Entry) (commits : Commits) → n ≡ number_after b entries → HaveCommits C changes b entries → AreNext C changes n commits.records
    → HaveCommits C changes b (entries ++ Group commits ∷ [])
have_next C changes b n entries commits at have next =
    let first = records_in entries in
    let rest = commits.records in
    let all = records_of C changes in
    let l = length first in
    let k = length rest in
    let joined : records_in (entries ++ Group commits ∷ []) ≡ first ++ rest = records-append entries (Group commits ∷ []) ∙ ap (λ (rs : List Record). first ++ rs) (append-nil rest) in
    let one : first ≡ take l (drop b all) = let e : number_after b entries - b ≡ l = omega arith in have ∙ ap (λ (m : ℕ). take m (drop b all)) e in
    let two : rest ≡ take k (drop l (drop b all)) =
    next ∙ ap (take k) (ap (λ (m : ℕ). drop m all) at ∙ sym (drop-drop l b all)) in
    let parts : first ++ rest ≡ take (l + k) (drop b all) =
    ap (λ (rs : List Record). rs ++ rest) one ∙ ap (λ (rs : List Record). take l (drop b all) ++ rs) two ∙ sym (take-add l k (drop b all)) in
    let long : number_after b (entries ++ Group commits ∷ []) - b ≡ l + k = omega (arith, ap length joined, length-append first rest) in
    joined ∙ parts ∙ ap (λ (m : ℕ). take m (drop b all)) (sym long)

pub within_next : (C : ℕ) (changes : List Change) (b n : ℕ) (entries : List Entry) (commits : Commits) → n ≡ number_after b entries → number_after b entries ≤ length changes → AreNext C changes n commits.records
    → number_after b (entries ++ Group commits ∷ []) ≤ length changes
within_next C changes b n entries commits at within next =
    let first = records_in entries in
    let rest = commits.records in
    let k = length rest in
    let deltas = deltas_of C changes in
    let all = records_of C changes in
    let joined : records_in (entries ++ Group commits ∷ []) ≡ first ++ rest = records-append entries (Group commits ∷ []) ∙ ap (λ (rs : List Record). first ++ rs) (append-nil rest) in
    omega (arith, at, within, ap length joined, length-append first rest, ap length next, length-take k (drop n all), length-drop n all, length-map deltas record_of, deltas_of-length C changes)

pub unsealed_next : (entries : List Entry) (entry : Entry) → is_seal entry ≡ false → list_any is_seal entries ≡ false → list_any is_seal (entries ++ entry ∷ []) ≡ false
unsealed_next entries entry other none =
    list_any-append is_seal entries (entry ∷ []) ∙ ap (λ (b : Bool). b || (is_seal entry || false)) none ∙ ap (λ (b : Bool). b || false) other

front_long : (header : LogHeader) (first later : List Entry) → length (log_spelling header first) ≤ length (log_spelling header (first ++ later))
front_long header first later =
    let log = log_spelling header first in
    omega (arith, ap length (log_append header first later), length-append log (frames_of header.generation (length log) later))

whole_commits : (C : ℕ) (changes : List Change) (header : LogHeader) (entries : List Entry) (commits : Commits) (place : ℕ) (leaves more : List ℕ → Type 0) → place ≡ length (log_spelling header entries) → HaveCommits C changes header.base (entries ++ Group commits ∷ [])
    → KeepsFronts place leaves more → IsWhole C changes header entries leaves → IsWhole C changes header (entries ++ Group commits ∷ []) more
whole_commits C changes header entries commits place leaves more at have fronts whole = elim whole [
  | inl first ↦ inl (first.0, unsealed_next entries (Group commits) refl first.1)
  | inr keeps ↦
      let seal = keeps.seal in
      let joined : entries ++ Group commits ∷ [] ≡ seal.first ++ (seal.later ++ Group commits ∷ []) =
      ap (λ (l : List Entry). l ++ Group commits ∷ []) seal.joined ∙ append_assoc seal.first seal.later (Group commits ∷ []) in
      let long = front_long header seal.first seal.later in
      let same : length (log_spelling header entries) ≡ length (log_spelling header (seal.first ++ seal.later)) = ap (λ (l : List Entry). length (log_spelling header l)) seal.joined in
      inr (record {
        seal = record {
          first = seal.first;
          later = seal.later ++ Group commits ∷ [];
          joined = joined;
          says = seal.says;
          sealed = record {
            columns = seal.sealed.columns;
            sealed = seal.sealed.sealed;
            rows = seal.sealed.rows;
            more = commits-append seal.later (Group commits ∷ []) seal.sealed.more tt;
            commits = have_later C changes header.base seal.first (seal.later ++ Group commits ∷ []) (subst (HaveCommits C changes header.base) joined have);
          };
        };
        begins = fronts (log_spelling header seal.first) (omega (arith, at, same, long)) keeps.begins;
      })
]

pub role_commits : {D : Type 0} (C : ℕ) (changes : List Change) (may_leave : D → List ℕ → Type 0) (other : Other D) (header : LogHeader) (entries : List Entry) (commits : Commits) (place : ℕ) (leaves more : List ℕ → Type 0)
    → place ≡ length (log_spelling header entries) → HaveCommits C changes header.base (entries ++ Group commits ∷ []) → KeepsFronts place leaves more
    → HasRole C changes may_leave other header entries leaves → HasRole C changes may_leave other header (entries ++ Group commits ∷ []) more
role_commits C changes may_leave (Free disk most) header entries commits place leaves more at have fronts role = whole_commits C changes header entries commits place leaves more at have fronts role
role_commits C changes may_leave (Needed disk last copied has_all) header entries commits place leaves more at have fronts role = (
  unsealed_next entries (Group commits) refl role.0,
  role.1,
  copied_next C changes header.base entries (Group commits) (Covers last has_all) (Covers last has_all) refl refl tt (λ key within. inl within) role.2,
)
role_commits C changes may_leave Gone header entries commits place leaves more at have fronts role = whole_commits C changes header entries commits place leaves more at have fronts role
