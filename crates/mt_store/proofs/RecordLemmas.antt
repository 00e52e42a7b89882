-- The records of a log's entries: of its first entries, and with one entry more.
use Rattle.std.proofs.Common.{◌≡◌, ℕ, zero, suc, ◌≤◌, ◌+◌, ◌∙◌, ◌++◌, ◌∷◌, List, [], length, map, take, drop, ap, sym, refl, subst, arith}
use Rattle.std.proofs.lemmas.List.{append-nil, length-append, length-drop, length-map, take-append-drop}
use Rattle.std.specs.List.{drop-map, take-map}
use Rattle.mt_types.specs.declared.row.Change.{Change}
use Rattle.mt_commit.specs.Logged.{deltas_of}
use Rattle.mt_commit.proofs.DeltaLemmas.{deltas_of-length}
use Rattle.mt_types.specs.declared.row.Delta.{Delta}
use Rattle.mt_frame.specs.declared.entry.Entry.{Entry}
use Rattle.mt_frame.specs.declared.entry.Entry.TheVariants.{Header, Commits as Group, Rows as Listed, Sealed, Closed}
use Rattle.mt_frame.specs.declared.entry.LogHeader.{LogHeader}
use Rattle.mt_frame.specs.declared.entry.Record.{Record}
use Rattle.mt_journal.specs.declared.position.Position.{Position}
use Rattle.mt_journal.specs.Appending.{with_commits}
use Rattle.mt_journal.specs.Keeping.{Survives}
use Rattle.mt_journal.specs.Log.{last_number}
use Rattle.mt_replay.specs.Replay.{record_of, records_in, records_of}
use Rattle.mt_replay.proofs.EntryLemmas.{records-append}
use Rattle.mt_store.specs.Stored.{Recovers}

-- ---- lists
-- the first of a list that has a front, as many as that has
take_front : {A : Type 0} (front rest : List A) → take (length front) (front ++ rest) ≡ front
take_front [] rest = refl
take_front (x ∷ front) rest = ap (λ xs. x ∷ xs) (take_front front rest)

-- a front of a front
take_twice : {A : Type 0} (m n : ℕ) (xs : List A) → m ≤ n → take m (take n xs) ≡ take m xs
take_twice zero n xs less = refl
take_twice (suc m) zero xs less = absurd (omega (arith, less))
take_twice (suc m) (suc n) [] less = refl
take_twice (suc m) (suc n) (x ∷ xs) less = ap (λ ys. x ∷ ys) (take_twice m n xs (omega (arith, less)))

-- and some more of a list
take_more_of : {A : Type 0} (n m : ℕ) (xs : List A) → n ≤ length xs → take n xs ++ take m (drop n xs) ≡ take (n + length (take m (drop n xs))) xs
take_more_of zero m xs within =
    let same : 0 + length (take m xs) ≡ length (take m xs) = omega arith in
    sym (ap (λ (k : ℕ). take k xs) same ∙ (ap (take (length (take m xs))) (sym (take-append-drop m xs)) ∙ take_front (take m xs) (drop m xs)))
take_more_of (suc n) m [] within = absurd (omega (arith, within))
take_more_of (suc n) m (x ∷ xs) within =
    let same : suc n + length (take m (drop n xs)) ≡ suc (n + length (take m (drop n xs))) = omega arith in
    ap (λ ys. x ∷ ys) (take_more_of n m xs (omega (arith, within))) ∙ sym (ap (λ (k : ℕ). take k (x ∷ xs)) same)

pub few_taken : {A : Type 0} (n : ℕ) (xs : List A) → length (take n xs) ≤ length xs
few_taken zero xs = omega arith
few_taken (suc n) [] = omega arith
few_taken (suc n) (x ∷ xs) = let less = few_taken n xs in omega (arith, less)

-- ---- records of entries
-- they are as many as the number of the last commit says
pub last_counts : (n : ℕ) (entries : List Entry) → last_number n entries ≡ n + length (records_in entries)
last_counts n [] = omega arith
last_counts n (Header header ∷ entries) = last_counts n entries
last_counts n (Group commits ∷ entries) =
    let rest = last_counts (n + length commits.records) entries in
    let all = length-append commits.records (records_in entries) in
    omega (arith, rest, all)
last_counts n (Listed part ∷ entries) = last_counts n entries
last_counts n (Sealed count ∷ entries) = last_counts n entries
last_counts n (Closed number ∷ entries) = last_counts n entries

-- those of the first entries are the first
front_records : (k : ℕ) (entries : List Entry) → records_in (take k entries) ≡ take (length (records_in (take k entries))) (records_in entries)
front_records k entries =
    let front : List Record = records_in (take k entries) in
    let parts : records_in entries ≡ front ++ records_in (drop k entries) = ap records_in (sym (take-append-drop k entries)) ∙ records-append (take k entries) (drop k entries) in
    sym (ap (take (length front)) parts ∙ take_front front (records_in (drop k entries)))

-- ---- what is found after a crash
-- of a log that has the first n commits
pub recovers : (C : ℕ) (changes : List Change) (header : LogHeader) (entries : List Entry) (durable n : ℕ) (left : List ℕ) → header.base ≡ 0 → header.columns ≡ C → n ≤ length changes → records_in entries ≡ take n (records_of C changes) → length (records_in entries) ≡ n → Survives header entries durable left → Recovers C changes durable left
recovers C changes header entries durable n left base columns within written long s =
    let front : List Record = records_in (take s.count entries) in
    let few : length front ≤ length (records_in entries) = subst (λ (rs : List Record). length rs ≤ length (records_in entries)) (sym (front_records s.count entries)) (few_taken (length front) (records_in entries)) in
    let last = last_counts header.base (take s.count entries) in
    let kept = s.kept in
    record {
      header = header;
      own = record { columns = columns; base = base };
      entries = take s.count entries;
      log = s.log;
      count = length front;
      within = omega (arith, few, long, within);
      kept = omega (arith, last, kept, base);
      records = front_records s.count entries ∙ (ap (take (length front)) written ∙ take_twice (length front) n (records_of C changes) (omega (arith, few, long)));
    }

pub records_of-length : (C : ℕ) (changes : List Change) → length (records_of C changes) ≡ length changes
records_of-length C changes = length-map (deltas_of C changes) record_of ∙ deltas_of-length C changes

-- the records of the next deltas are the next records
pub next_records : (C : ℕ) (commits : List Change) (limit n : ℕ) (deltas : List Delta) (records : List Record) → deltas ≡ take limit (drop n (deltas_of C commits)) → records ≡ map record_of deltas → records ≡ take limit (drop n (records_of C commits))
next_records C commits limit n deltas records fed made =
    made ∙ (ap (map record_of) fed ∙ (sym (take-map record_of limit (drop n (deltas_of C commits))) ∙ ap (take limit) (sym (drop-map record_of n (deltas_of C commits)))))

-- ---- the log with the next commits
module _ (C : ℕ) (changes : List Change) (header : LogHeader) (entries : List Entry) (at : Position) (limit : ℕ) (deltas : List Delta) (base : header.base ≡ 0) (newest : at.newest ≡ last_number header.base entries) (within : at.newest ≤ length changes) (written : records_in entries ≡ take at.newest (records_of C changes))
    (fed : deltas ≡ take limit (drop at.newest (deltas_of C changes))) (records : List Record) (made : records ≡ map record_of deltas) where
  as_many : length (records_of C changes) ≡ length changes
  as_many = records_of-length C changes

  next : records ≡ take limit (drop at.newest (records_of C changes))
  next = next_records C changes limit at.newest deltas records fed made

  pub longer : records_in (with_commits at records entries) ≡ take (at.newest + length records) (records_of C changes)
  longer =
      let few : at.newest ≤ length (records_of C changes) = omega (arith, within, as_many) in
      records-append entries (Group (record { first = at.newest + 1; durable = at.durable; records = records }) ∷ [])
      ∙ (ap (λ (rs : List Record). records_in entries ++ rs) (append-nil records)
      ∙ (ap (λ (rs : List Record). rs ++ records) written ∙ (ap (λ (rs : List Record). take at.newest (records_of C changes) ++ rs) next
      ∙ (take_more_of at.newest limit (records_of C changes) few ∙ ap (λ (rs : List Record). take (at.newest + length rs) (records_of C changes)) (sym next)))))

  pub still_within : at.newest + length records ≤ length changes
  still_within =
      let less = few_taken limit (drop at.newest (records_of C changes)) in
      let left = length-drop at.newest (records_of C changes) in
      let count = ap (λ (rs : List Record). length rs) next in
      omega (arith, less, left, count, as_many, within)

  long : length (records_in (with_commits at records entries)) ≡ at.newest + length records
  long =
      let both = ap (λ (rs : List Record). length rs) (records-append entries (Group (record { first = at.newest + 1; durable = at.durable; records = records }) ∷ [])) in
      let all = length-append (records_in entries) (records ++ []) in
      let none = ap (λ (rs : List Record). length rs) (append-nil records) in
      let old = last_counts header.base entries in
      omega (arith, both, all, none, old, newest, base)

  pub recovers_longer : (durable : ℕ) (left : List ℕ) → header.columns ≡ C → Survives header (with_commits at records entries) durable left → Recovers C changes durable left
  recovers_longer durable left columns s = recovers C changes header (with_commits at records entries) durable (at.newest + length records) left base columns still_within longer long s

-- ---- the log as it is
pub recovers_as_it_is : (C : ℕ) (changes : List Change) (header : LogHeader) (entries : List Entry) (at : Position) → header.base ≡ 0 → header.columns ≡ C → at.newest ≡ last_number header.base entries → at.newest ≤ length changes → records_in entries ≡ take at.newest (records_of C changes) → (durable : ℕ) (left : List ℕ) → Survives header entries durable left → Recovers C changes durable left
recovers_as_it_is C changes header entries at base columns newest within written durable left s =
    let old = last_counts header.base entries in
    recovers C changes header entries durable at.newest left base columns within written (omega (arith, old, newest, base)) s
