-- The next records and rows of a map are those of its changes, and which round of a checkpoint is made says what the other file is.
use Rattle.std.proofs.Common.{◌≡◌, ◌∙◌, ◌++◌, ◌∷◌, ◌+◌, ◌≤◌, ◌==◌, ◌&&◌, ℕ, Bool, true, false, List, [], length, map, take, drop, refl, sym, ap, subst, arith, append_assoc, inl, inr, IsTrue}
use Rattle.std.specs.Prelude.{nat_le, nat_lt, if◌then◌else◌}
use Rattle.std.proofs.lemmas.Bool.Decides.{leb_tells}
use Rattle.std.proofs.lemmas.List.{take-append-drop, drop-append-le, drop_all, take_all, take_at, take-map, drop-map, length-map, length-take, length-drop}
use Rattle.mt_types.specs.Rows.{Rows, after}
use Rattle.mt_types.specs.declared.limits.TheConstants.{MAX_RANGE}
use Rattle.mt_types.specs.declared.row.Change.{Change}
use Rattle.mt_types.specs.declared.row.Delta.{Delta}
use Rattle.mt_types.specs.declared.row.Row.{Row}
use Rattle.mt_commit.specs.Logged.{deltas_of}
use Rattle.mt_commit.proofs.DeltaLemmas.{deltas_of-length}
use Rattle.mt_frame.specs.declared.entry.Record.{Record}
use Rattle.mt_promise.specs.Alone.{IsRangeOfMap}
use Rattle.mt_promise.specs.History.{History, moment, rows}
use Rattle.mt_replay.specs.Replay.{record_of, records_of}
use Rattle.mt_replay.proofs.ReplayLemmas.{records_taken}
use Rattle.mt_folder_log.specs.declared.checkpoint.Other.{Other}
use Rattle.mt_folder_log.specs.declared.checkpoint.Other.TheVariants.{Free, Needed, Gone}
use Rattle.mt_folder_log.specs.declared.checkpoint.Round.TheVariants.{Rests, Moves, Copies, Seals}
use Rattle.mt_folder_log.specs.declared.checkpoint.TheConstants.{PART}
use Rattle.mt_folder_log.specs.Folder.{AllRecover, AreNext, HasAll, HasChanges}
use Rattle.mt_folder_log.proofs.ChangeLemmas.{recovers}
use Rattle.mt_index.specs.Stands.{MachineView}
use Rattle.mt_map_folder.specs.Changes.{KeepsChanges}
use Rattle.mt_folder_log.specs.Made.{AreFirstOf}
use Rattle.mt_folder_log.proofs.MadeLemmas as lemmas
use Rattle.mt_map_folder.specs.declared.log.MapLog.{MapLog}
use Rattle.mt_folder_log.specs.Moving.{round_of, IfNeeded}
use Rattle.mt_map_folder.specs.Written.{entries_with, left_after}
use Rattle.mt_frame.specs.declared.entry.Entry.{Entry}
use Rattle.mt_journal.specs.declared.position.Position.{Position}
use Rattle.mt_journal.specs.Appending.{with_commits}

module _ (C : ℕ) (changes : List Change) (h : History) (n : ℕ) (made : AreFirstOf C changes (moment h).commits) where
  -- what the next commits of the map left is that of the next changes
  pub next_records : length made.before ≤ n → AreNext C changes n (left_after C n h)
  next_records opened = lemmas.next_records C changes (moment h).commits n made MAX_RANGE opened

  pub few_records : n ≤ length (moment h).commits → n + length (left_after C n h) ≤ length (moment h).commits
  few_records le =
      let deltas = deltas_of C (moment h).commits in
      omega (arith, le, length-map (take MAX_RANGE (drop n deltas)) record_of, length-take MAX_RANGE (drop n deltas), length-drop n deltas, deltas_of-length C (moment h).commits)

  -- its rows are those after all of them
  pub next_rows : (start : List ℕ) (pairs : List (List ℕ × Row)) → n ≡ length (moment h).commits → IsRangeOfMap (rows C (moment h)) [] start PART pairs → IsRangeOfMap (after C (take n changes)) [] start PART pairs
  next_rows start pairs all range = lemmas.next_rows C changes (moment h).commits n made start PART pairs all range

-- ---- by the round that is made
neither : (b : Bool) → Copies ≡ (if b then Moves else Rests) → ⊥
neither true is = cc
neither false is = cc

pub of_copies : {D P : Type 0} (least : ℕ) (at : Position) (other : Other D) → Copies ≡ round_of least at other → IfNeeded other (λ copied. P) → P
of_copies least at (Free disk most) is p = absurd (neither (nat_lt 0 least && nat_lt 0 at.newest && nat_le most at.end) is)
of_copies least at (Needed disk last copied true) is p = cc
of_copies least at (Needed disk last copied false) is p = p
of_copies least at Gone is p = cc

pub of_seals : {D : Type 0} (least : ℕ) (at : Position) (other : Other D) → Seals ≡ round_of least at other → HasAll other
of_seals least at (Free disk most) is = tt
of_seals least at (Needed disk last copied true) is = refl
of_seals least at (Needed disk last copied false) is = cc
of_seals least at Gone is = tt

-- ---- what a call of the log leaves of the changes of the map
module _ {D : Type 0} (seen : D → List ℕ) (may_leave : D → List ℕ → Type 0) (changes : List Change) (s : MachineView) where
  pub after_call : (old new : MapLog D) (kept : KeepsChanges seen may_leave changes s old) → new.log.columns ≡ old.log.columns → old.log.journal.at.newest ≤ new.log.journal.at.newest → new.log.journal.at.newest ≤ length (moment kept.h).commits → HasChanges seen may_leave changes new.log → KeepsChanges seen may_leave changes s new
  after_call old new kept columns more within has = record {
    h = kept.h;
    stands = kept.stands;
    made = kept.made;
    columns = kept.columns ∙ sym columns;
    opened = omega (arith, kept.opened, more);
    within = within;
    kept = has;
  }

  -- nothing was written
  pub unwritten : (log : MapLog D) → KeepsChanges seen may_leave changes s log → AllRecover may_leave changes log.log.journal.at.durable log.log.journal.at.generation log.log
  unwritten log kept = recovers log.log.columns seen may_leave changes log.log.journal.at log.log.journal.disk log.log.other kept.kept

pub map_needed : {D : Type 0} {P Q : ℕ → Type 0} (other : Other D) → ((copied : ℕ) → P copied → Q copied) → IfNeeded other P → IfNeeded other Q
map_needed (Free disk most) f p = tt
map_needed (Needed disk last copied has_all) f p = f copied p
map_needed Gone f p = tt

-- ---- the entries with the next commits, if there are some
no_length : (n : ℕ) → n ≡ 0 → (n == 0) ≡ false → ⊥
no_length n none some = let clash : true ≡ false = ap (λ (k : ℕ). k == 0) (sym none) ∙ some in cc

pub written : (at : Position) (records left : List Record) (entries : List Entry) → records ≡ left → (length records == 0) ≡ false → with_commits at records entries ≡ entries_with at left entries
written at records [] entries is some = absurd (no_length (length records) (ap length is) some)
written at records (first ∷ more) entries is some = ap (λ (l : List Record). with_commits at l entries) is

-- ---- a round is made of a log that lacks no commit
pub lacks_none : (a b : ℕ) (c : Bool) → IsTrue (nat_le a b && c) → a ≤ b
lacks_none a b c is = elim (leb_tells a b) [
  | inl le ↦ le.1
  | inr lt ↦ absurd (let clash : false ≡ true = sym (ap (λ (x : Bool). x && c) lt.0) ∙ is in cc)
]

-- the records of the deltas that the map returned are those of its next commits
pub records_left : (C : ℕ) (h : History) (records : List Record) (read deltas : List Delta) (told at : Position) → records ≡ map record_of read → read ≡ deltas → deltas ≡ take MAX_RANGE (drop told.newest (deltas_of C (moment h).commits)) → told ≡ at
    → records ≡ left_after C at.newest h
records_left C h records read deltas told at are same tells is =
    are ∙ ap (map record_of) (same ∙ tells ∙ ap (λ (p : Position). take MAX_RANGE (drop p.newest (deltas_of C (moment h).commits))) is)

pub next_left : (C D : ℕ) (changes : List Change) (h : History) (n : ℕ) (records : List Record) → records ≡ left_after C n h → C ≡ D → (made : AreFirstOf C changes (moment h).commits) → length made.before ≤ n → AreNext D changes n records
next_left C D changes h n records is same made opened =
    subst (λ (columns : ℕ). AreNext columns changes n records) same (subst (AreNext C changes n) (sym is) (next_records C changes h n made opened))

-- if the map returned no delta, no commit comes next
pub none_left : (C : ℕ) (h : History) (deltas : List Delta) (told at : Position) → deltas ≡ take MAX_RANGE (drop told.newest (deltas_of C (moment h).commits)) → told ≡ at → length deltas ≡ 0 → length (left_after C at.newest h) ≡ 0
none_left C h deltas told at tells is none =
    length-map (take MAX_RANGE (drop at.newest (deltas_of C (moment h).commits))) record_of
    ∙ ap (λ (p : Position). length (take MAX_RANGE (drop p.newest (deltas_of C (moment h).commits)))) (sym is) ∙ ap length (sym tells) ∙ none
