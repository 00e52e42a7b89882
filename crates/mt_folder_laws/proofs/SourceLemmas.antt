-- Of which of the two files of a folder the rows are read.
use Rattle.std.proofs.Common.{◌≡◌, ◌∙◌, ◌+◌, ◌<◌, ◌||◌, ◌==◌, ◌⊎◌, ℕ, true, false, List, refl, sym, ap, subst, arith, inl, inr, IsTrue}
use Rattle.std.specs.List.{list_any}
use Rattle.std.specs.FinMap.{empty}
use Rattle.std.specs.Prelude.{Option, Some, None}
use Rattle.mt_frame.specs.declared.entry.Entry.{Entry}
use Rattle.mt_frame.specs.declared.entry.LogHeader.{LogHeader}
use Rattle.mt_journal.specs.Laws.{LogsReadOneWay}
use Rattle.mt_journal.specs.Log.{IsLog}
use Rattle.mt_replay.specs.Reading.{counted}
use Rattle.mt_replay.specs.Redo.{entries_redone, is_seal, number_after}
use Rattle.mt_folder.specs.declared.log.LogRead.{LogRead}
use Rattle.mt_folder.specs.declared.reading.RowsRead.{RowsRead}
use Rattle.mt_folder.specs.declared.source.Source.{Source}
use Rattle.mt_folder.specs.declared.source.Source.TheVariants.{Newer, Older, Both, Neither}
use Rattle.mt_folder.specs.Files.{AreRows, Says, Spells}
use Rattle.mt_folder.specs.Kept.{rows_after}
use Rattle.mt_folder.specs.Logs.{is_whole, last_number, rows_left}
use Rattle.mt_folder_laws.specs.Left.{HasNoNewer, IsBegun}
use Rattle.mt_folder_laws.proofs.FrontLemmas.{whole_from_first}

-- a log that was read of bytes is the one that they spell
module _ (one : LogsReadOneWay) (C : ℕ) (bytes : List ℕ) (header : LogHeader) (entries : List Entry) (log : LogRead) (is : IsLog header entries bytes) (said : Says C bytes log) where
  pub same : (header ≡ log.header) × (entries ≡ log.entries.items)
  same = one header log.header entries log.entries.items bytes is said.spells

  pub same_whole : IsTrue ((header.base == 0) || list_any is_seal entries) → IsTrue (is_whole log)
  same_whole whole =
      subst (λ (h : LogHeader). IsTrue ((h.base == 0) || list_any is_seal log.entries.items)) same.0
      (subst (λ (l : List Entry). IsTrue ((header.base == 0) || list_any is_seal l)) same.1 whole)

  pub same_last : number_after header.base entries ≡ last_number log
  same_last = ap (λ (h : LogHeader). number_after h.base entries) same.0 ∙ ap (number_after log.header.base) same.1

  pub same_rows : rows_after header entries empty ≡ rows_left log empty
  same_rows =
      ap (λ (h : LogHeader). entries_redone true h.base (counted entries) empty) same.0
      ∙ ap (λ (l : List Entry). entries_redone true log.header.base (counted l) empty) same.1

  -- without a seal it is whole only from the first commit on
  pub same_first : list_any is_seal entries ≡ false → IsTrue (is_whole log) → header.base ≡ 0
  same_first unsealed whole =
      ap (λ (h : LogHeader). h.base) same.0
      ∙ whole_from_first log.header.base (list_any is_seal log.entries.items) (ap (list_any is_seal) (sym same.1) ∙ unsealed) whole

module _ (one : LogsReadOneWay) (C : ℕ) (bytes others : List ℕ) (header : LogHeader) (entries : List Entry) (is : IsLog header entries bytes) (columns : header.columns ≡ C) (read : RowsRead) where
  spelled : Spells C bytes header
  spelled = record { entries = entries; log = is; columns = columns }

  -- ---- a whole log, next to a file without a newer one
  pub of_whole : (source : Option Source) → IsTrue ((header.base == 0) || list_any is_seal entries) → AreRows C bytes others source read → source ≡ Some Newer
  of_whole (Some Newer) whole are = refl
  of_whole (Some Older) whole are = absurd (are.rows.0 (same_whole one C bytes header entries are.newer is are.says whole))
  of_whole (Some Both) whole are = absurd (are.rows.0 (same_whole one C bytes header entries are.newer is are.says whole))
  of_whole (Some Neither) whole are = absurd are
  of_whole None whole are = absurd (are.none header spelled)

  -- it isn't the log of the other file that is the newer one
  pub of_newest : (source : Option Source) → ((other : LogRead) → Says C others other → other.header.generation < header.generation) → AreRows C others bytes source read → ⊥
  of_newest (Some Newer) smaller are = omega (arith, smaller are.log are.says, are.newest header spelled)
  of_newest (Some Older) smaller are = omega (arith, smaller are.newer are.says, are.newest header spelled)
  of_newest (Some Both) smaller are = omega (arith, smaller are.newer are.says, are.newest header spelled)
  of_newest (Some Neither) smaller are = are
  of_newest None smaller are = are.other_none header spelled

  -- or it was begun and not used: then the rows are those of this one, or of both
  pub of_begun : (n : ℕ) (source : Option Source) → HasNoNewer C header.generation n others → AreRows C others bytes source read
      → (source ≡ Some Older) ⊎ ((source ≡ Some Both) × (newer : LogRead) × Says C others newer × IsBegun header.generation n newer × (newer.header.base ≡ number_after header.base entries))
  of_begun n (Some Newer) beside are = elim (beside are.log are.says) [
    | inl smaller ↦ absurd (omega (arith, smaller, are.newest header spelled))
    | inr begun ↦
        let unsealed : list_any is_seal are.log.entries.items ≡ false = ap (list_any is_seal) begun.none in
        absurd (omega (arith, begun.some, whole_from_first are.log.header.base (list_any is_seal are.log.entries.items) unsealed are.whole))
  ]
  of_begun n (Some Older) beside are = inl refl
  of_begun n (Some Both) beside are = elim (beside are.newer are.says) [
    | inl smaller ↦ absurd (omega (arith, smaller, are.newest header spelled))
    | inr begun ↦ inr (refl, are.newer, are.says, begun, are.rows.1.base ∙ sym (same_last one C bytes header entries are.older is are.said))
  ]
  of_begun n (Some Neither) beside are = absurd are
  of_begun n None beside are = absurd (are.other_none header spelled)

  -- ---- a log without a seal that continues one of the other file
  module _ (older : LogHeader) (before : List Entry) (base : header.base ≡ number_after older.base before) (generation : header.generation ≡ older.generation + 1) (was : IsLog older before others) where
    pub of_later : (source : Option Source) → list_any is_seal entries ≡ false → AreRows C bytes others source read → ((source ≡ Some Newer) × (header.base ≡ 0)) ⊎ (source ≡ Some Both)
    of_later (Some Newer) unsealed are = inl (refl, same_first one C bytes header entries are.log is are.says unsealed are.whole)
    of_later (Some Older) unsealed are =
        let begins = ap (λ (h : LogHeader). h.base) (same one C bytes header entries are.newer is are.says).0 in
        let last = same_last one C others older before are.older was are.said in
        let more : are.newer.header.base < last_number are.older = are.rows.1.more in
        absurd (omega (arith, more, begins, base, last))
    of_later (Some Both) unsealed are = inr refl
    of_later (Some Neither) unsealed are = absurd are
    of_later None unsealed are = absurd (are.none header spelled)

    -- the log before isn't newer
    pub older_than : (log : LogRead) → Says C others log → log.header.generation < header.generation
    older_than log says =
        let equal : older.generation ≡ log.header.generation = ap (λ (h : LogHeader). h.generation) (same one C others older before log was says).0 in
        omega (arith, equal, generation)
