-- Commits that follow others, as many, which made the same rows: what they leave is the same.
use Rattle.std.proofs.Common.{◌≡◌, ◌∙◌, ◌++◌, ◌∷◌, ◌+◌, ◌-◌, ◌≤◌, ℕ, suc, List, [], length, map, take, drop, refl, sym, ap, subst, arith, append_assoc, inl, inr}
use Rattle.std.proofs.lemmas.Bool.Decides.{leb_tells}
use Rattle.std.specs.FinMap.{empty}
use Rattle.std.proofs.lemmas.List.{append-nil, drop_at, drop-drop, drop-map, length-take, take-append-drop, drop-append-le, drop_all, take_all, take_at, take-map}
use Rattle.mt_types.specs.Rows.{Rows, after, after_change, after_from}
use Rattle.mt_types.specs.declared.row.Change.{Change}
use Rattle.mt_types.specs.declared.row.Delta.{Delta}
use Rattle.mt_commit.specs.Logged.{deltas_from, deltas_of, delta_made}
use Rattle.mt_commit.proofs.DeltaLemmas.{deltas_of-length}
use Rattle.mt_replay.specs.Replay.{record_of, records_of}
use Rattle.mt_types.specs.declared.row.Row.{Row}
use Rattle.mt_frame.specs.declared.entry.Record.{Record}
use Rattle.mt_promise.specs.Alone.{IsRangeOfMap}
use Rattle.mt_replay.proofs.ReplayLemmas.{records_taken}
use Rattle.mt_folder_log.specs.Folder.{AreNext}
use Rattle.mt_folder_log.specs.Made.{AreFirstOf}

deltas_from-append : (C n : ℕ) (rows : Rows) (xs ys : List Change) → deltas_from C n rows (xs ++ ys) ≡ deltas_from C n rows xs ++ deltas_from C (n + length xs) (after_from C n rows xs) ys
deltas_from-append C n rows [] ys = let none : n ≡ n + 0 = omega arith in ap (λ (k : ℕ). deltas_from C k rows ys) none
deltas_from-append C n rows (x ∷ xs) ys =
    let then = after_change C (n + 1) x rows in
    let long : n + 1 + length xs ≡ n + suc (length xs) = omega arith in
    ap (λ (ds : List Delta). delta_made C (n + 1) x rows ∷ ds)
    (deltas_from-append C (n + 1) then xs ys ∙ ap (λ (k : ℕ). deltas_from C (n + 1) then xs ++ deltas_from C k (after_from C (n + 1) then xs) ys) long)

after_from-append : (C n : ℕ) (rows : Rows) (xs ys : List Change) → after_from C n rows (xs ++ ys) ≡ after_from C (n + length xs) (after_from C n rows xs) ys
after_from-append C n rows [] ys = let none : n ≡ n + 0 = omega arith in ap (λ (k : ℕ). after_from C k rows ys) none
after_from-append C n rows (x ∷ xs) ys =
    let then = after_change C (n + 1) x rows in
    let long : n + 1 + length xs ≡ n + suc (length xs) = omega arith in
    after_from-append C (n + 1) then xs ys ∙ ap (λ (k : ℕ). after_from C k (after_from C (n + 1) then xs) ys) long

past : {A : Type 0} (n : ℕ) (xs ys : List A) → length xs ≤ n → drop n (xs ++ ys) ≡ drop (n - length xs) ys
past n xs ys le =
    let parts : n ≡ length xs + (n - length xs) = omega (arith, le) in
    ap (λ (k : ℕ). drop k (xs ++ ys)) parts ∙ sym (drop-drop (n - length xs) (length xs) (xs ++ ys)) ∙ ap (drop (n - length xs)) (drop_at xs ys (length xs) refl)

module _ (C : ℕ) (changes commits : List Change) (made : AreFirstOf C changes commits) where
  number : 0 + length made.loaded ≡ 0 + length made.before
  number = omega (arith, made.as_many)

  -- the rows are those after as many of the changes
  pub rows_made : after C commits ≡ after C (take (length commits) changes)
  rows_made =
      ap (after C) made.commits_are ∙ after_from-append C 0 empty made.loaded made.more
      ∙ ap (λ (k : ℕ). after_from C k (after C made.loaded) made.more) number
      ∙ ap (λ (rows : Rows). after_from C (0 + length made.before) rows made.more) made.same_rows
      ∙ sym (after_from-append C 0 empty made.before made.more) ∙ ap (after C) (sym made.changes_are)

  rest_same : deltas_from C (0 + length made.loaded) (after C made.loaded) made.more ≡ deltas_from C (0 + length made.before) (after C made.before) made.more
  rest_same =
      ap (λ (k : ℕ). deltas_from C k (after C made.loaded) made.more) number
      ∙ ap (λ (rows : Rows). deltas_from C (0 + length made.before) rows made.more) made.same_rows

  deltas_same : (n : ℕ) → length made.before ≤ n → drop n (deltas_of C (made.loaded ++ made.more)) ≡ drop n (deltas_of C (made.before ++ made.more))
  deltas_same n le =
      let a = deltas_of C made.loaded in
      let b = deltas_of C made.before in
      let one = deltas_of-length C made.loaded in
      let two = deltas_of-length C made.before in
      let less : n - length a ≡ n - length b = omega (arith, one, two, made.as_many) in
      ap (drop n) (deltas_from-append C 0 empty made.loaded made.more)
      ∙ past n a (deltas_from C (0 + length made.loaded) (after C made.loaded) made.more) (omega (arith, one, made.as_many, le))
      ∙ ap (drop (n - length a)) rest_same
      ∙ ap (λ (k : ℕ). drop k (deltas_from C (0 + length made.before) (after C made.before) made.more)) less
      ∙ sym (past n b (deltas_from C (0 + length made.before) (after C made.before) made.more) (omega (arith, two, le)))
      ∙ ap (drop n) (sym (deltas_from-append C 0 empty made.before made.more))

  -- and so are the records of the commits after it was opened
  pub records_made : (n : ℕ) → length made.before ≤ n → drop n (records_of C commits) ≡ drop n (records_of C (take (length commits) changes))
  records_made n le =
      let mine = deltas_of C (made.loaded ++ made.more) in
      let theirs = deltas_of C (made.before ++ made.more) in
      ap (λ (cs : List Change). drop n (records_of C cs)) made.commits_are
      ∙ drop-map record_of n mine ∙ ap (map record_of) (deltas_same n le) ∙ sym (drop-map record_of n theirs)
      ∙ ap (λ (cs : List Change). drop n (records_of C cs)) (sym made.changes_are)

-- ---- the next of them
-- some of the items after the first n, of the first k
front_of : {A : Type 0} (most n k : ℕ) (xs : List A) → take most (drop n (take k xs)) ≡ take (length (take most (drop n (take k xs)))) (drop n xs)
front_of {A} most n k xs = elim (leb_tells n (length (take k xs))) [
  | inl within ↦
      let a = take k xs in
      let b = drop k xs in
      let some = take most (drop n a) in
      let dropped : drop n xs ≡ drop n a ++ b = ap (drop n) (sym (take-append-drop k xs)) ∙ drop-append-le n a b within.1 in
      let parts : drop n xs ≡ some ++ (drop most (drop n a) ++ b) =
      dropped ∙ ap (λ (l : List A). l ++ b) (sym (take-append-drop most (drop n a))) ∙ append_assoc some (drop most (drop n a)) b in
      sym (take_at some (drop most (drop n a) ++ b) (length some) refl) ∙ ap (take (length some)) (sym parts)
  | inr beyond ↦
      let none : take most (drop n (take k xs)) ≡ [] = ap (take most) (drop_all n (take k xs) (omega (arith, beyond.1))) ∙ take_all most [] (omega arith) in
      none ∙ ap (λ (l : List A). take (length l) (drop n xs)) (sym none)
]

module _ (C : ℕ) (changes commits : List Change) (n : ℕ) (made : AreFirstOf C changes commits) where
  -- what the next commits left, at most some number of them, is what the next changes do
  pub next_records : (most : ℕ) → length made.before ≤ n → AreNext C changes n (map record_of (take most (drop n (deltas_of C commits))))
  next_records most opened =
      let all = records_of C changes in
      let left = map record_of (take most (drop n (deltas_of C commits))) in
      let own : drop n (records_of C commits) ≡ drop n (take (length commits) all) =
      records_made C changes commits made n opened ∙ ap (drop n) (sym (records_taken C (length commits) changes)) in
      let is : left ≡ take most (drop n (take (length commits) all)) =
      sym (ap (take most) (drop-map record_of n (deltas_of C commits)) ∙ take-map record_of most (drop n (deltas_of C commits))) ∙ ap (take most) own in
      is ∙ front_of most n (length commits) all ∙ ap (λ (l : List Record). take (length l) (drop n all)) (sym is)

  -- if there are no more, the rows are those after all of them
  pub next_rows : (start : List ℕ) (most : ℕ) (pairs : List (List ℕ × Row)) → n ≡ length commits → IsRangeOfMap (after C commits) [] start most pairs → IsRangeOfMap (after C (take n changes)) [] start most pairs
  next_rows start most pairs all range =
      subst (λ (map : Rows). IsRangeOfMap map [] start most pairs) (rows_made C changes commits made ∙ ap (λ (k : ℕ). after C (take k changes)) (sym all)) range

-- ---- how it begins: with rows that the first n changes made
abbrev pub BeginsAt : ℕ → List Change → List Change → ℕ → Type 0
BeginsAt C changes commits n = (made : AreFirstOf C changes commits) × (length made.before ≡ n)

pub made_of : (C : ℕ) (changes commits : List Change) (n : ℕ) → length commits ≡ n → n ≤ length changes → after C commits ≡ after C (take n changes) → BeginsAt C changes commits n
made_of C changes commits n long within rows =
    let front : length (take n changes) ≡ n = omega (arith, length-take n changes, within) in (
      record {
        loaded = commits;
        before = take n changes;
        more = [];
        commits_are = sym (append-nil commits);
        changes_are = ap (λ (k : ℕ). take k changes) long ∙ sym (append-nil (take n changes));
        as_many = long ∙ sym front;
        same_rows = rows;
      },
      front,
    )

-- or with none
pub made_none : (C : ℕ) (changes commits : List Change) → length commits ≡ 0 → BeginsAt C changes commits 0
made_none C changes [] none = (record { loaded = []; before = []; more = []; commits_are = refl; changes_are = refl; as_many = refl; same_rows = refl }, refl)
made_none C changes (c ∷ cs) none = absurd (omega (arith, none))
