-- What counts of a log: its commits are those of the log, and its rows are made front by front, each up to a seal or a
-- closed frame.
use Rattle.std.proofs.Common.{◌≡◌, ◌≤◌, ◌⊎◌, ℕ, ◌+◌, ◌∙◌, ◌++◌, ◌∷◌, Bool, true, false, List, [], None, length, take, drop, refl, ap, sym, subst, arith, ◌-◌, ◌<◌, if◌then◌else◌, length-append}
use Rattle.std.specs.List.{list_any}
use Rattle.std.proofs.lemmas.List.{take-append-drop}
use Rattle.mt_types.specs.Rows.{Rows, after}
use Rattle.mt_frame.specs.declared.entry.Entry.{Entry}
use Rattle.mt_frame.specs.declared.entry.Entry.TheVariants.{Header, Commits as Group, Rows as Listed, Sealed, Closed}
use Rattle.mt_frame.specs.declared.entry.Part.{Part}
use Rattle.mt_frame.specs.declared.entry.Record.{Record}
use Rattle.mt_replay.specs.Replay.{records_in, records_of}
use Rattle.mt_replay.specs.Redo.{records_redone, entry_redone, entries_redone, is_seal, number_after}
use Rattle.mt_replay.specs.RedoLaws.{HaveCommits, HadBetween, AllListRows, SomeNames}
use Rattle.mt_replay.specs.Reading.{seals_next, counted, front_length, RowsAreRead}
use Rattle.mt_replay.proofs.EntryLemmas.{records-append}
use Rattle.mt_replay.proofs.FollowLemmas.{number-cons}
use Rattle.mt_replay.proofs.RedoLemmas.{rows_are_redone}

-- ---- the commits
records_either : (b : Bool) (part : Part) (entries : List Entry) → records_in (if b then Listed part ∷ entries else entries) ≡ records_in entries
records_either true part entries = refl
records_either false part entries = refl

pub records-counted : (entries : List Entry) → records_in (counted entries) ≡ records_in entries
records-counted [] = refl
records-counted (Header header ∷ entries) = records-counted entries
records-counted (Group commits ∷ entries) = ap (λ (rs : List Record). commits.records ++ rs) (records-counted entries)
records-counted (Listed part ∷ entries) = records_either (seals_next entries) part (counted entries) ∙ records-counted entries
records-counted (Sealed count ∷ entries) = records-counted entries
records-counted (Closed number ∷ entries) = records-counted entries

-- so the law of the rows that are done again is about what counts
pub rows_are_read : RowsAreRead
rows_are_read C changes b entries have lists covered =
    let same : records_in entries ≡ records_in (counted entries) = sym (records-counted entries) in
    let last : number_after b entries ≡ number_after b (counted entries) = ap (λ (rs : List Record). b + length rs) same in
    let commits : HaveCommits C changes b (counted entries) = subst (λ (rs : List Record). rs ≡ take (b + length rs - b) (drop b (records_of C changes))) same have in
    rows_are_redone C changes b (counted entries) commits
    (subst (λ (m : ℕ). AllListRows C changes b m (counted entries)) last lists)
    (subst (λ (m : ℕ). (key : List ℕ) → SomeNames (counted entries) key ⊎ HadBetween C changes b m key None) last covered)
    ∙ ap (λ (m : ℕ). after C (take m changes)) (sym last)

-- ---- the rows, front by front
redone_more : (b : Bool) (n : ℕ) (entry : Entry) (entries more : List Entry) (rows : Rows) → entries_redone true (number_after (number_after n (entry ∷ [])) entries) more (entries_redone b n (entry ∷ entries) rows) ≡ entries_redone true (number_after n (entry ∷ entries)) more (entries_redone b n (entry ∷ entries) rows)
redone_more b n entry entries more rows = ap (λ (k : ℕ). entries_redone true k more (entries_redone b n (entry ∷ entries) rows)) (number-cons n entry entries)

redone_either : (b : Bool) (n : ℕ) (part : Part) (entries : List Entry) (rows : Rows) → entries_redone true n (if b then Listed part ∷ entries else entries) rows ≡ entries_redone true (number_after n (Listed part ∷ [])) entries (entry_redone b n (Listed part) rows)
redone_either true n part entries rows = refl
redone_either false n part entries rows =
    let same : n ≡ n + 0 = omega arith in
    ap (λ (k : ℕ). entries_redone true k entries rows) same

redone_front : (n : ℕ) (entries : List Entry) (rows : Rows) → entries_redone true n (counted entries) rows ≡ entries_redone true (number_after n (take (front_length entries) entries)) (counted (drop (front_length entries) entries)) (entries_redone (seals_next entries) n (take (front_length entries) entries) rows)
redone_front n [] rows = refl
redone_front n (Header header ∷ entries) rows =
    redone_front (number_after n (Header header ∷ [])) entries rows
    ∙ redone_more (seals_next entries) n (Header header) (take (front_length entries) entries) (counted (drop (front_length entries) entries)) rows
redone_front n (Group commits ∷ entries) rows =
    redone_front (number_after n (Group commits ∷ [])) entries (records_redone n commits.records rows)
    ∙ redone_more (seals_next entries) n (Group commits) (take (front_length entries) entries) (counted (drop (front_length entries) entries)) rows
redone_front n (Listed part ∷ entries) rows =
    redone_either (seals_next entries) n part (counted entries) rows
    ∙ redone_front (number_after n (Listed part ∷ [])) entries (entry_redone (seals_next entries) n (Listed part) rows)
    ∙ redone_more (seals_next entries) n (Listed part) (take (front_length entries) entries) (counted (drop (front_length entries) entries)) rows
redone_front n (Sealed count ∷ entries) rows = refl
redone_front n (Closed number ∷ entries) rows = refl

-- a seal that comes next ends the front
seal_in_front : (entries : List Entry) → list_any is_seal (take (front_length entries) entries) ≡ seals_next entries
seal_in_front [] = refl
seal_in_front (Header header ∷ entries) = seal_in_front entries
seal_in_front (Group commits ∷ entries) = seal_in_front entries
seal_in_front (Listed part ∷ entries) = seal_in_front entries
seal_in_front (Sealed count ∷ entries) = refl
seal_in_front (Closed number ∷ entries) = refl

-- the front is some of the entries
pub front_within : (entries : List Entry) → front_length entries ≤ length entries
front_within [] = omega arith
front_within (Header header ∷ entries) = omega (arith, front_within entries)
front_within (Group commits ∷ entries) = omega (arith, front_within entries)
front_within (Listed part ∷ entries) = omega (arith, front_within entries)
front_within (Sealed count ∷ entries) = omega arith
front_within (Closed number ∷ entries) = omega arith

pub front_some : (entries : List Entry) → 0 < length entries → 0 < front_length entries
front_some [] some = absurd (omega (arith, some))
front_some (Header header ∷ entries) some = omega arith
front_some (Group commits ∷ entries) some = omega arith
front_some (Listed part ∷ entries) some = omega arith
front_some (Sealed count ∷ entries) some = omega arith
front_some (Closed number ∷ entries) some = omega arith

-- the commits of the front, and then those after it
pub number_split : (n k : ℕ) (entries front later : List Entry) → front ≡ take k entries → later ≡ drop k entries → number_after (number_after n front) later ≡ number_after n entries
number_split n k entries front later is_front is_later =
    let whole : front ++ later ≡ entries = ap (λ (xs : List Entry). xs ++ later) is_front ∙ ap (λ (xs : List Entry). take k entries ++ xs) is_later ∙ take-append-drop k entries in
    let parts : length (records_in entries) ≡ length (records_in front ++ records_in later) = ap (λ (xs : List Entry). length (records_in xs)) (sym whole) ∙ ap length (records-append front later) in
    let sum : length (records_in front ++ records_in later) ≡ length (records_in front) + length (records_in later) = length-append (records_in front) (records_in later) in
    omega (arith, parts, sum)

-- what counts is the front, its parts only if it ends with a seal, and what counts of the entries after it
pub front_done : (n k : ℕ) (entries front later : List Entry) (rows : Rows) → k ≡ front_length entries → front ≡ take k entries → later ≡ drop k entries → entries_redone true n (counted entries) rows ≡ entries_redone true (number_after n front) (counted later) (entries_redone (list_any is_seal front) n front rows)
front_done n k entries front later rows len is_front is_later =
    let first : take (front_length entries) entries ≡ front = ap (λ (j : ℕ). take j entries) (sym len) ∙ sym is_front in
    let others : drop (front_length entries) entries ≡ later = ap (λ (j : ℕ). drop j entries) (sym len) ∙ sym is_later in
    redone_front n entries rows
    ∙ ap (λ (b : Bool). entries_redone true (number_after n (take (front_length entries) entries)) (counted (drop (front_length entries) entries)) (entries_redone b n (take (front_length entries) entries) rows)) (sym (seal_in_front entries))
    ∙ ap (λ (xs : List Entry). entries_redone true (number_after n xs) (counted (drop (front_length entries) entries)) (entries_redone (list_any is_seal xs) n xs rows)) first
    ∙ ap (λ (xs : List Entry). entries_redone true (number_after n front) (counted xs) (entries_redone (list_any is_seal front) n front rows)) others
