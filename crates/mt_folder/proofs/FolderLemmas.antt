-- The rows that logs without a seal leave: those of their commits alone.
use Rattle.std.proofs.Common.{◌≡◌, ◌∙◌, ◌∷◌, ◌+◌, ◌||◌, ℕ, Bool, true, false, List, [], ap, refl, rules, arith, sym, IsTrue, if◌then◌else◌, take}
use Rattle.std.specs.List.{list_any}
use Rattle.std.specs.FinMap.{empty}
use Rattle.mt_types.specs.Rows.{Rows, after}
use Rattle.mt_types.specs.declared.row.Change.{Change}
use Rattle.mt_frame.specs.declared.entry.Entry.{Entry}
use Rattle.mt_frame.specs.declared.entry.LogHeader.{LogHeader}
use Rattle.mt_frame.specs.declared.entry.Entry.TheVariants.{Header, Commits as Group, Rows as Listed, Sealed, Closed}
use Rattle.mt_replay.specs.Redo.{entries_redone, is_seal, number_after, records_redone}
use Rattle.mt_replay.specs.Reading.{counted, seals_next}
use Rattle.mt_replay.specs.RedoLaws.{HaveCommits, CommitsAreRedone}
use Rattle.mt_folder.specs.Kept.{rows_after}
use Rattle.mt_folder.specs.Logs.{rows_left}
use Rattle.mt_folder.specs.Laws.{FirstLogsHaveTheRows, LaterLogsHaveTheRows}

-- no seal comes next if there is none
unsealed_next : (entries : List Entry) → list_any is_seal entries ≡ false → seals_next entries ≡ false
unsealed_next [] none = refl
unsealed_next (Header header ∷ entries) none = unsealed_next entries none
unsealed_next (Group commits ∷ entries) none = unsealed_next entries none
unsealed_next (Listed part ∷ entries) none = unsealed_next entries none
unsealed_next (Sealed count ∷ entries) none = cc
unsealed_next (Closed number ∷ entries) none = refl

-- then no part counts
unsealed-redone : (n : ℕ) (entries : List Entry) (rows : Rows) → list_any is_seal entries ≡ false → entries_redone true n (counted entries) rows ≡ entries_redone false n entries rows
unsealed-redone n [] rows none = refl
unsealed-redone n (Header header ∷ entries) rows none = unsealed-redone (number_after n (Header header ∷ [])) entries rows none
unsealed-redone n (Group commits ∷ entries) rows none =
    unsealed-redone (number_after n (Group commits ∷ [])) entries (records_redone n commits.records rows) none
unsealed-redone n (Listed part ∷ entries) rows none =
    let same : n ≡ n + 0 = omega arith in
    ap (λ (b : Bool). entries_redone true n (if b then Listed part ∷ counted entries else counted entries) rows) (unsealed_next entries none)
    ∙ unsealed-redone n entries rows none
    ∙ ap (λ (k : ℕ). entries_redone false k entries rows) same
unsealed-redone n (Sealed count ∷ entries) rows none = cc
unsealed-redone n (Closed number ∷ entries) rows none = unsealed-redone (number_after n (Closed number ∷ [])) entries rows none

-- what is not whole has no seal
second_is_false : (a b : Bool) → (IsTrue (a || b) → ⊥) → b ≡ false
second_is_false a false wrong = refl
second_is_false true true wrong = absurd (wrong (search rules))
second_is_false false true wrong = absurd (wrong (search rules))

-- the rows of entries from the first commit on
pub rows_from_first : CommitsAreRedone → (C : ℕ) (changes : List Change) (header : LogHeader) (entries : List Entry) → header.base ≡ 0 → list_any is_seal entries ≡ false → HaveCommits C changes header.base entries
    → rows_after header entries empty ≡ after C (take (number_after header.base entries) changes)
rows_from_first redone C changes header entries first none have =
    let start : empty ≡ after C (take header.base changes) = ap (λ (n : ℕ). after C (take n changes)) (sym first) in
    unsealed-redone header.base entries empty none
    ∙ ap (λ (rows : Rows). entries_redone false header.base entries rows) start
    ∙ redone C changes header.base entries have

pub first_rows : CommitsAreRedone → FirstLogsHaveTheRows
first_rows redone C changes log first none have = rows_from_first redone C changes log.header log.entries.items first none have

pub later_rows : CommitsAreRedone → LaterLogsHaveTheRows
later_rows redone C changes newer older continues not_whole have before =
    let start : rows_left older empty ≡ after C (take newer.header.base changes) = before ∙ ap (λ (n : ℕ). after C (take n changes)) (sym continues.base) in
    unsealed-redone newer.header.base newer.entries.items (rows_left older empty) (second_is_false _ _ not_whole)
    ∙ ap (λ (rows : Rows). entries_redone false newer.header.base newer.entries.items rows) start
    ∙ redone C changes newer.header.base newer.entries.items have
