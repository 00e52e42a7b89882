-- Parts of a checkpoint, one after the other: what they list counts when a seal follows.
use Rattle.std.proofs.Common.{◌≡◌, ◌∙◌, ◌++◌, ◌∷◌, ◌+◌, ◌≤◌, ◌⊎◌, ℕ, Bool, true, false, List, [], length, take, refl, sym, ap, subst, arith, if◌then◌else◌, Option, inl, inr, length-append}
use Rattle.std.specs.Prelude.{None, Some}
use Rattle.std.specs.List.{AllByRecursion}
use Rattle.std.specs.FinMap.{empty}
use Rattle.mt_types.specs.Rows.{after}
use Rattle.mt_types.specs.declared.row.Change.{Change}
use Rattle.mt_types.specs.declared.row.Row.{Row}
use Rattle.mt_frame.specs.declared.entry.Entry.{Entry}
use Rattle.mt_frame.specs.declared.entry.Entry.TheVariants.{Header, Commits as Group, Rows as Listed, Sealed, Closed}
use Rattle.mt_frame.specs.declared.entry.LogHeader.{LogHeader}
use Rattle.mt_frame.specs.declared.entry.Part.{Part}
use Rattle.mt_frame.specs.declared.entry.Record.{Record}
use Rattle.mt_replay.specs.Replay.{records_in}
use Rattle.mt_replay.specs.Redo.{number_after}
use Rattle.mt_replay.specs.Reading.{counted, seals_next}
use Rattle.mt_replay.specs.RedoLaws.{HaveCommits, HadBetween, ListsRows, AllListRows, SomeNames}
use Rattle.mt_replay.proofs.EntryLemmas.{records-append}
use Rattle.mt_replay.proofs.FollowLemmas.{number-cons}
use Rattle.mt_replay.proofs.ReadingLemmas.{rows_are_read}
use Rattle.mt_folder.specs.Kept.{rows_after}
use Rattle.mt_folder_laws.specs.Copied.{seals_later, counted_later, AreCopied}

-- ---- which parts count
pub seals_later-append : (xs ys : List Entry) → seals_later ys ≡ true → seals_later (xs ++ ys) ≡ seals_later xs
seals_later-append [] ys is = is
seals_later-append (Header header ∷ xs) ys is = seals_later-append xs ys is
seals_later-append (Group commits ∷ xs) ys is = seals_later-append xs ys is
seals_later-append (Listed part ∷ xs) ys is = seals_later-append xs ys is
seals_later-append (Sealed count ∷ xs) ys is = refl
seals_later-append (Closed number ∷ xs) ys is = refl

either : (b : Bool) (e : Entry) (xs ys : List Entry) → (if b then e ∷ (xs ++ ys) else (xs ++ ys)) ≡ (if b then e ∷ xs else xs) ++ ys
either true e xs ys = refl
either false e xs ys = refl

pub either_of : (a b : Bool) (e : Entry) (whole xs ys : List Entry) → a ≡ b → whole ≡ xs ++ ys → (if a then e ∷ whole else whole) ≡ (if b then e ∷ xs else xs) ++ ys
either_of a b e whole xs ys same parts =
    ap (λ (c : Bool). if c then e ∷ whole else whole) same ∙ ap (λ (l : List Entry). if b then e ∷ l else l) parts ∙ either b e xs ys

pub counted_later-append : (xs ys : List Entry) → seals_later ys ≡ true → counted_later (xs ++ ys) ≡ counted_later xs ++ counted_later ys
counted_later-append [] ys is = refl
counted_later-append (Header header ∷ xs) ys is = ap (λ (l : List Entry). Header header ∷ l) (counted_later-append xs ys is)
counted_later-append (Group commits ∷ xs) ys is = ap (λ (l : List Entry). Group commits ∷ l) (counted_later-append xs ys is)
counted_later-append (Listed part ∷ xs) ys is =
    either_of (seals_later (xs ++ ys)) (seals_later xs) (Listed part) (counted_later (xs ++ ys)) (counted_later xs) (counted_later ys) (seals_later-append xs ys is) (counted_later-append xs ys is)
counted_later-append (Sealed count ∷ xs) ys is = ap (λ (l : List Entry). Sealed count ∷ l) (counted_later-append xs ys is)
counted_later-append (Closed number ∷ xs) ys is = ap (λ (l : List Entry). Closed number ∷ l) (counted_later-append xs ys is)

seals_next-later : (xs ys : List Entry) → seals_next ys ≡ true → seals_next (xs ++ ys) ≡ seals_later xs
seals_next-later [] ys is = is
seals_next-later (Header header ∷ xs) ys is = seals_next-later xs ys is
seals_next-later (Group commits ∷ xs) ys is = seals_next-later xs ys is
seals_next-later (Listed part ∷ xs) ys is = seals_next-later xs ys is
seals_next-later (Sealed count ∷ xs) ys is = refl
seals_next-later (Closed number ∷ xs) ys is = refl

-- with the seal they count
pub counted-later : (xs ys : List Entry) → seals_next ys ≡ true → counted (xs ++ ys) ≡ counted_later xs ++ counted ys
counted-later [] ys is = refl
counted-later (Header header ∷ xs) ys is = ap (λ (l : List Entry). Header header ∷ l) (counted-later xs ys is)
counted-later (Group commits ∷ xs) ys is = ap (λ (l : List Entry). Group commits ∷ l) (counted-later xs ys is)
counted-later (Listed part ∷ xs) ys is =
    either_of (seals_next (xs ++ ys)) (seals_later xs) (Listed part) (counted (xs ++ ys)) (counted_later xs) (counted ys) (seals_next-later xs ys is) (counted-later xs ys is)
counted-later (Sealed count ∷ xs) ys is = ap (λ (l : List Entry). Sealed count ∷ l) (counted-later xs ys is)
counted-later (Closed number ∷ xs) ys is = ap (λ (l : List Entry). Closed number ∷ l) (counted-later xs ys is)

-- ---- they have the same commits
records_either : (b : Bool) (part : Part) (entries : List Entry) → records_in (if b then Listed part ∷ entries else entries) ≡ records_in entries
records_either true part entries = refl
records_either false part entries = refl

pub records_later : (entries : List Entry) → records_in (counted_later entries) ≡ records_in entries
records_later [] = refl
records_later (Header header ∷ entries) = records_later entries
records_later (Group commits ∷ entries) = ap (λ (rs : List Record). commits.records ++ rs) (records_later entries)
records_later (Listed part ∷ entries) = records_either (seals_later entries) part (counted_later entries) ∙ records_later entries
records_later (Sealed count ∷ entries) = records_later entries
records_later (Closed number ∷ entries) = records_later entries

pub number_later : (n : ℕ) (entries : List Entry) → number_after n (counted_later entries) ≡ number_after n entries
number_later n entries = ap (λ (rs : List Record). n + length rs) (records_later entries)

pub number-append : (n : ℕ) (xs ys : List Entry) → number_after n (xs ++ ys) ≡ number_after (number_after n xs) ys
number-append n xs ys =
    let parts : length (records_in (xs ++ ys)) ≡ length (records_in xs ++ records_in ys) = ap length (records-append xs ys) in
    let sum : length (records_in xs ++ records_in ys) ≡ length (records_in xs) + length (records_in ys) = length-append (records_in xs) (records_in ys) in
    omega (arith, parts, sum)

-- ---- what is listed, and what was between
pub had_more : (C : ℕ) (changes : List Change) (n m more : ℕ) (key : List ℕ) (row : Option Row) → m ≤ more → HadBetween C changes n m key row → HadBetween C changes n more key row
had_more C changes n m more key row le (j, from, to, is) = (j, from, omega (arith, to, le), is)

pairs_more : (C : ℕ) (changes : List Change) (n m more : ℕ) (pairs : List (List ℕ × Row)) → m ≤ more → AllByRecursion (λ pair. HadBetween C changes n m pair.0 (Some pair.1)) pairs → AllByRecursion (λ pair. HadBetween C changes n more pair.0 (Some pair.1)) pairs
pairs_more C changes n m more [] le all = tt
pairs_more C changes n m more (pair ∷ pairs) le all = (had_more C changes n m more pair.0 (Some pair.1) le all.0, pairs_more C changes n m more pairs le all.1)

lists_more : (C : ℕ) (changes : List Change) (n m more : ℕ) (entry : Entry) → m ≤ more → ListsRows C changes n m entry → ListsRows C changes n more entry
lists_more C changes n m more (Header header) le lists = tt
lists_more C changes n m more (Group commits) le lists = tt
lists_more C changes n m more (Listed part) le lists = pairs_more C changes n m more part.rows le lists
lists_more C changes n m more (Sealed count) le lists = tt
lists_more C changes n m more (Closed number) le lists = tt

all_more : (C : ℕ) (changes : List Change) (n m more : ℕ) (entries : List Entry) → m ≤ more → AllListRows C changes n m entries → AllListRows C changes n more entries
all_more C changes n m more [] le all = tt
all_more C changes n m more (entry ∷ entries) le all =
    (lists_more C changes n m more entry le all.0, all_more C changes (number_after n (entry ∷ [])) m more entries le all.1)

pub all-append : (C : ℕ) (changes : List Change) (n m : ℕ) (xs ys : List Entry) → AllListRows C changes n m xs → AllListRows C changes (number_after n xs) m ys → AllListRows C changes n m (xs ++ ys)
all-append C changes n m [] ys all more = let none : n + 0 ≡ n = omega arith in subst (λ (k : ℕ). AllListRows C changes k m ys) none more
all-append C changes n m (x ∷ xs) ys all more =
    (all.0, all-append C changes (number_after n (x ∷ [])) m xs ys all.1 (subst (λ (k : ℕ). AllListRows C changes k m ys) (sym (number-cons n x xs)) more))

pub some_left : (xs ys : List Entry) (key : List ℕ) → SomeNames xs key → SomeNames (xs ++ ys) key
some_left [] ys key some = absurd some
some_left (x ∷ xs) ys key some = elim some [
  | inl here ↦ inl here
  | inr later ↦ inr (some_left xs ys key later)
]

pub some_right : (xs ys : List Entry) (key : List ℕ) → SomeNames ys key → SomeNames (xs ++ ys) key
some_right [] ys key some = some
some_right (x ∷ xs) ys key some = inr (some_right xs ys key some)

-- ---- one more entry that a seal counts: what was copied still counts, and so does what it lists itself
pub copied_next : (C : ℕ) (changes : List Change) (base : ℕ) (entries : List Entry) (entry : Entry) (Covers More : List ℕ → Type 0)
    → seals_later (entry ∷ []) ≡ true → counted_later (entry ∷ []) ≡ entry ∷ []
    → ListsRows C changes (number_after base entries) (number_after base (entries ++ entry ∷ [])) entry
    → ((key : List ℕ) → More key → Covers key ⊎ (SomeNames (entry ∷ []) key ⊎ HadBetween C changes base (number_after base (entries ++ entry ∷ [])) key None))
    → AreCopied C changes base entries Covers → AreCopied C changes base (entries ++ entry ∷ []) More
copied_next C changes base entries entry Covers More seals counts lists covers copied =
    let next = entries ++ entry ∷ [] in
    let m = number_after base entries in
    let more = number_after base next in
    let le : m ≤ more = omega (arith, number-append base entries (entry ∷ [])) in
    let parts : counted_later next ≡ counted_later entries ++ entry ∷ [] =
    counted_later-append entries (entry ∷ []) seals ∙ ap (λ (l : List Entry). counted_later entries ++ l) counts in
    let same : number_after base (counted_later entries) ≡ m = number_later base entries in
    record {
      listed = subst (AllListRows C changes base more) (sym parts)
          (all-append C changes base more (counted_later entries) (entry ∷ []) (all_more C changes base m more (counted_later entries) le copied.listed)
          (subst (λ (k : ℕ). AllListRows C changes k more (entry ∷ [])) (sym same) (lists, tt)));
      others = λ key within. elim (covers key within) [
        | inl before ↦ elim (copied.others key before) [
          | inl names ↦ inl (subst (λ (l : List Entry). SomeNames l key) (sym parts) (some_left (counted_later entries) (entry ∷ []) key names))
          | inr none ↦ inr (had_more C changes base m more key None le none)
        ]
        | inr now ↦ elim now [
          | inl names ↦ inl (subst (λ (l : List Entry). SomeNames l key) (sym parts) (some_right (counted_later entries) (entry ∷ []) key names))
          | inr none ↦ inr none
        ]
      ];
    }

-- ---- THE SEAL: if the rows of all keys were copied, the log leaves the rows after its last commit
pub sealed_rows : (C : ℕ) (changes : List Change) (header : LogHeader) (entries : List Entry) (count : ℕ) (Covers : List ℕ → Type 0) → HaveCommits C changes header.base (entries ++ Sealed count ∷ []) → ((key : List ℕ) → Covers key)
    → AreCopied C changes header.base entries Covers → rows_after header (entries ++ Sealed count ∷ []) empty ≡ after C (take (number_after header.base (entries ++ Sealed count ∷ [])) changes)
sealed_rows C changes header entries count Covers have all copied =
    let base = header.base in
    let whole = entries ++ Sealed count ∷ [] in
    let seals : counted whole ≡ counted_later entries ++ Sealed count ∷ [] = counted-later entries (Sealed count ∷ []) refl in
    let m = number_after base entries in
    let more = number_after base whole in
    let le : m ≤ more = omega (arith, number-append base entries (Sealed count ∷ [])) in
    rows_are_read C changes base whole have
    (subst (AllListRows C changes base more) (sym seals)
    (all-append C changes base more (counted_later entries) (Sealed count ∷ []) (all_more C changes base m more (counted_later entries) le copied.listed) (tt, tt)))
    (λ key. elim (copied.others key (all key)) [
      | inl names ↦ inl (subst (λ (l : List Entry). SomeNames l key) (sym seals) (some_left (counted_later entries) (Sealed count ∷ []) key names))
      | inr none ↦ inr (had_more C changes base m more key None le none)
    ])
