-- The rows that a sealed log leaves after the commits that follow its seal.
use Rattle.std.proofs.Common.{◌≡◌, ◌∙◌, ◌++◌, ◌∷◌, ◌+◌, ◌-◌, ℕ, zero, suc, Bool, true, false, List, [], length, take, drop, refl, sym, ap, arith, append_assoc, length-append}
use Rattle.std.specs.FinMap.{empty}
use Rattle.std.proofs.Math.Seq.{take-append_seam}
use Rattle.std.proofs.lemmas.List.{take-append-drop, length-take, drop_at, drop-drop}
use Rattle.mt_types.specs.Rows.{Rows, after}
use Rattle.mt_types.specs.declared.row.Change.{Change}
use Rattle.mt_frame.specs.declared.entry.Entry.{Entry}
use Rattle.mt_frame.specs.declared.entry.Entry.TheVariants.{Header, Commits as Group, Rows as Listed, Sealed, Closed}
use Rattle.mt_frame.specs.declared.entry.LogHeader.{LogHeader}
use Rattle.mt_frame.specs.declared.entry.Record.{Record}
use Rattle.mt_replay.specs.Replay.{records_in, records_of}
use Rattle.mt_replay.specs.Redo.{records_redone, entry_redone, entries_redone, number_after}
use Rattle.mt_replay.specs.Reading.{counted, seals_next}
use Rattle.mt_replay.specs.RedoLaws.{HaveCommits, CommitsAreRedone}
use Rattle.mt_replay.proofs.EntryLemmas.{records-append}
use Rattle.mt_replay.proofs.FollowLemmas.{number-cons}
use Rattle.mt_replay.proofs.ReadingLemmas.{records-counted}
use Rattle.mt_folder.specs.Kept.{rows_after}
use Rattle.mt_folder_laws.specs.Grown.{AreCommits, IsSealed}
use Rattle.mt_folder_laws.proofs.CopiedLemmas.{either_of, number-append}
use Rattle.mt_folder_laws.proofs.FrontLemmas.{have_front}

-- ---- what counts of them
unsealed : (entries : List Entry) → AreCommits entries → seals_next entries ≡ false
unsealed [] are = refl
unsealed (Header header ∷ entries) are = absurd are
unsealed (Group commits ∷ entries) are = unsealed entries are
unsealed (Listed part ∷ entries) are = absurd are
unsealed (Sealed count ∷ entries) are = absurd are
unsealed (Closed number ∷ entries) are = absurd are

seals_next-append : (xs ys : List Entry) → seals_next ys ≡ false → seals_next (xs ++ ys) ≡ seals_next xs
seals_next-append [] ys none = none
seals_next-append (Header header ∷ xs) ys none = seals_next-append xs ys none
seals_next-append (Group commits ∷ xs) ys none = seals_next-append xs ys none
seals_next-append (Listed part ∷ xs) ys none = seals_next-append xs ys none
seals_next-append (Sealed count ∷ xs) ys none = refl
seals_next-append (Closed number ∷ xs) ys none = refl

counted-append : (xs ys : List Entry) → seals_next ys ≡ false → counted (xs ++ ys) ≡ counted xs ++ counted ys
counted-append [] ys none = refl
counted-append (Header header ∷ xs) ys none = ap (λ (l : List Entry). Header header ∷ l) (counted-append xs ys none)
counted-append (Group commits ∷ xs) ys none = ap (λ (l : List Entry). Group commits ∷ l) (counted-append xs ys none)
counted-append (Listed part ∷ xs) ys none =
    either_of (seals_next (xs ++ ys)) (seals_next xs) (Listed part) (counted (xs ++ ys)) (counted xs) (counted ys) (seals_next-append xs ys none) (counted-append xs ys none)
counted-append (Sealed count ∷ xs) ys none = ap (λ (l : List Entry). Sealed count ∷ l) (counted-append xs ys none)
counted-append (Closed number ∷ xs) ys none = ap (λ (l : List Entry). Closed number ∷ l) (counted-append xs ys none)

all_counted : (entries : List Entry) → AreCommits entries → counted entries ≡ entries
all_counted [] are = refl
all_counted (Header header ∷ entries) are = absurd are
all_counted (Group commits ∷ entries) are = ap (λ (l : List Entry). Group commits ∷ l) (all_counted entries are)
all_counted (Listed part ∷ entries) are = absurd are
all_counted (Sealed count ∷ entries) are = absurd are
all_counted (Closed number ∷ entries) are = absurd are

-- ---- what they make of rows
redone-append : (b : Bool) (n : ℕ) (xs ys : List Entry) (rows : Rows) → entries_redone b n (xs ++ ys) rows ≡ entries_redone b (number_after n xs) ys (entries_redone b n xs rows)
redone-append b n [] ys rows = let none : n ≡ n + 0 = omega arith in ap (λ (k : ℕ). entries_redone b k ys rows) none
redone-append b n (x ∷ xs) ys rows =
    redone-append b (number_after n (x ∷ [])) xs ys (entry_redone b n x rows)
    ∙ ap (λ (k : ℕ). entries_redone b k ys (entries_redone b n (x ∷ xs) rows)) (number-cons n x xs)

without_parts : (n : ℕ) (entries : List Entry) (rows : Rows) → AreCommits entries → entries_redone true n entries rows ≡ entries_redone false n entries rows
without_parts n [] rows are = refl
without_parts n (Header header ∷ entries) rows are = absurd are
without_parts n (Group commits ∷ entries) rows are = without_parts (number_after n (Group commits ∷ [])) entries (records_redone n commits.records rows) are
without_parts n (Listed part ∷ entries) rows are = absurd are
without_parts n (Sealed count ∷ entries) rows are = absurd are
without_parts n (Closed number ∷ entries) rows are = absurd are

-- ---- their first ones
pub commits_front : (j : ℕ) (entries : List Entry) → AreCommits entries → AreCommits (take j entries)
commits_front zero entries are = tt
commits_front (suc j) [] are = tt
commits_front (suc j) (Header header ∷ entries) are = absurd are
commits_front (suc j) (Group commits ∷ entries) are = commits_front j entries are
commits_front (suc j) (Listed part ∷ entries) are = absurd are
commits_front (suc j) (Sealed count ∷ entries) are = absurd are
commits_front (suc j) (Closed number ∷ entries) are = absurd are

pub commits-append : (xs ys : List Entry) → AreCommits xs → AreCommits ys → AreCommits (xs ++ ys)
commits-append [] ys are more = more
commits-append (Header header ∷ xs) ys are more = absurd are
commits-append (Group commits ∷ xs) ys are more = commits-append xs ys are more
commits-append (Listed part ∷ xs) ys are more = absurd are
commits-append (Sealed count ∷ xs) ys are more = absurd are
commits-append (Closed number ∷ xs) ys are more = absurd are

-- THE ROWS after the first of them
pub grown_rows : CommitsAreRedone → (C : ℕ) (changes : List Change) (header : LogHeader) (first later : List Entry) (j : ℕ) → IsSealed C changes header first later
    → rows_after header (first ++ take j later) empty ≡ after C (take (number_after header.base (first ++ take j later)) changes)
grown_rows redone C changes header first later j sealed =
    let ys = take j later in
    let are = commits_front j later sealed.more in
    let n = number_after header.base first in
    let same : number_after header.base (counted first) ≡ n = ap (λ (rs : List Record). header.base + length rs) (records-counted first) in
    ap (λ (l : List Entry). entries_redone true header.base l empty) (counted-append first ys (unsealed ys are) ∙ ap (λ (l : List Entry). counted first ++ l) (all_counted ys are))
    ∙ redone-append true header.base (counted first) ys empty
    ∙ ap (λ (k : ℕ). entries_redone true k ys (rows_after header first empty)) same
    ∙ ap (entries_redone true n ys) sealed.rows
    ∙ without_parts n ys (after C (take n changes)) are
    ∙ redone C changes n ys (have_front C changes n j later sealed.commits)
    ∙ ap (λ (k : ℕ). after C (take k changes)) (sym (number-append header.base first ys))

-- ---- a front as long as these entries begins with them
pub take_over : (xs ys : List Entry) (k : ℕ) → take (length xs + k) (xs ++ ys) ≡ xs ++ take k ys
take_over [] ys k = let none : 0 + k ≡ k = omega arith in ap (λ (j : ℕ). take j ys) none
take_over (x ∷ xs) ys k = let more : suc (length xs) + k ≡ suc (length xs + k) = omega arith in ap (λ (j : ℕ). take j (x ∷ (xs ++ ys))) more ∙ ap (λ (l : List Entry). x ∷ l) (take_over xs ys k)

pub front_over : (xs ys more : List Entry) (count : ℕ) → take count (xs ++ ys) ≡ xs ++ more → take count (xs ++ ys) ≡ xs ++ take (count - length xs) ys
front_over xs ys more count is =
    let long : length (take count (xs ++ ys)) ≡ length xs + length more = ap length is ∙ length-append xs more in
    let least : length xs + (count - length xs) ≡ count = omega (arith, long, length-take count (xs ++ ys)) in
    ap (λ (j : ℕ). take j (xs ++ ys)) (sym least) ∙ take_over xs ys (count - length xs)

-- ---- the commits of later entries follow those of the first
pub have_later : (C : ℕ) (changes : List Change) (b : ℕ) (xs ys : List Entry) → HaveCommits C changes b (xs ++ ys) → HaveCommits C changes (number_after b xs) ys
have_later C changes b xs ys have =
    let first = records_in xs in
    let rest = records_in ys in
    let all = records_of C changes in
    let n = number_after b (xs ++ ys) - b in
    let parts : first ++ rest ≡ take n (drop b all) = sym (records-append xs ys) ∙ have in
    let whole : drop b all ≡ first ++ (rest ++ drop n (drop b all)) =
    sym (take-append-drop n (drop b all)) ∙ ap (λ (l : List Record). l ++ drop n (drop b all)) (sym parts) ∙ append_assoc first rest (drop n (drop b all)) in
    let after_first : drop (length first) (drop b all) ≡ rest ++ drop n (drop b all) = ap (drop (length first)) whole ∙ drop_at first (rest ++ drop n (drop b all)) (length first) refl in
    let place : drop (number_after b xs) all ≡ drop (length first) (drop b all) = sym (drop-drop (length first) b all) in
    let long : length rest ≡ number_after (number_after b xs) ys - number_after b xs = omega arith in
    sym (take-append_seam rest (drop n (drop b all))) ∙ ap (take (length rest)) (sym (place ∙ after_first)) ∙ ap (λ (k : ℕ). take k (drop (number_after b xs) all)) long
