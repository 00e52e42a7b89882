-- A log that was closed leaves the rows that it left before.
use Rattle.std.proofs.Common.{◌≡◌, ◌∙◌, ◌∷◌, ◌++◌, ℕ, Bool, true, false, List, [], ap, refl, sym, if◌then◌else◌}
use Rattle.mt_types.specs.Rows.{Rows}
use Rattle.mt_frame.specs.declared.entry.Entry.{Entry}
use Rattle.mt_frame.specs.declared.entry.Entry.TheVariants.{Header, Commits as Group, Rows as Listed, Sealed, Closed}
use Rattle.mt_frame.specs.declared.entry.LogHeader.{LogHeader}
use Rattle.mt_replay.specs.Reading.{counted, seals_next}
use Rattle.mt_replay.specs.Redo.{entries_redone, entry_redone, number_after}
use Rattle.mt_folder.specs.Kept.{rows_after}

-- no seal comes next because of it
seals_same : (entries : List Entry) (n : ℕ) → seals_next (entries ++ Closed n ∷ []) ≡ seals_next entries
seals_same [] n = refl
seals_same (Header header ∷ entries) n = seals_same entries n
seals_same (Group commits ∷ entries) n = seals_same entries n
seals_same (Listed part ∷ entries) n = seals_same entries n
seals_same (Sealed count ∷ entries) n = refl
seals_same (Closed number ∷ entries) n = refl

chosen : (b : Bool) (e : Entry) (xs ys : List Entry) → (if b then e ∷ (xs ++ ys) else (xs ++ ys)) ≡ (if b then e ∷ xs else xs) ++ ys
chosen true e xs ys = refl
chosen false e xs ys = refl

-- the same entries count
counted_same : (entries : List Entry) (n : ℕ) → counted (entries ++ Closed n ∷ []) ≡ counted entries ++ Closed n ∷ []
counted_same [] n = refl
counted_same (Header header ∷ entries) n = ap (λ (l : List Entry). Header header ∷ l) (counted_same entries n)
counted_same (Group commits ∷ entries) n = ap (λ (l : List Entry). Group commits ∷ l) (counted_same entries n)
counted_same (Listed part ∷ entries) n =
    ap (λ (b : Bool). if b then Listed part ∷ counted (entries ++ Closed n ∷ []) else counted (entries ++ Closed n ∷ [])) (seals_same entries n)
    ∙ ap (λ (l : List Entry). if seals_next entries then Listed part ∷ l else l) (counted_same entries n)
    ∙ chosen (seals_next entries) (Listed part) (counted entries) (Closed n ∷ [])
counted_same (Sealed count ∷ entries) n = ap (λ (l : List Entry). Sealed count ∷ l) (counted_same entries n)
counted_same (Closed number ∷ entries) n = ap (λ (l : List Entry). Closed number ∷ l) (counted_same entries n)

redone_same : (b : ℕ) (entries : List Entry) (n : ℕ) (rows : Rows) → entries_redone true b (entries ++ Closed n ∷ []) rows ≡ entries_redone true b entries rows
redone_same b [] n rows = refl
redone_same b (entry ∷ entries) n rows = redone_same (number_after b (entry ∷ [])) entries n (entry_redone true b entry rows)

pub closed_same : (header : LogHeader) (entries : List Entry) (n : ℕ) (before : Rows) → rows_after header entries before ≡ rows_after header (entries ++ Closed n ∷ []) before
closed_same header entries n before =
    sym (ap (λ (l : List Entry). entries_redone true header.base l before) (counted_same entries n) ∙ redone_same header.base (counted entries) n before)
