-- A range of a map has one answer: two lists that answer it are the same list.
use Rattle.std.proofs.Common.{◌≡◌, ◌<◌, ◌+◌, ◌-◌, ◌⊎◌, ℕ, suc, true, cond, List, [], ◌∷◌, length, Some, refl, ap, sym, ◌∙◌, subst, inl, inr, arith}
use Rattle.std.specs.Prelude.{All, Any, count_by, IsTrue, IsSome, is_some}
use Rattle.std.specs.Cmp.{first_so, second_so, IsTotalOrder}
use Rattle.std.specs.Cmp.Lexicographic.{nat_list_cmp_total}
use Rattle.std.specs.FinMap as fin
use Rattle.std.specs.FinMap.{get, is_sorted}
use Rattle.std.specs.FinMap.Entries.{below_all}
use Rattle.std.specs.Ordering.{is_eq, is_lt, is_le, is_ge, ordering_reverse}
use Rattle.std.specs.declared.cmp.Ordering.{Ordering}
use Rattle.std.specs.declared.cmp.Ordering.TheVariants.{Less, Equal, Greater}
use Rattle.std.proofs.lemmas.Bool.{false≢true}
use Rattle.std.proofs.lemmas.List.Elements.{All-head, All-tail, All-cons}
use Rattle.std.proofs.lemmas.List.Sums.{sum_by-cons}
use Rattle.mt_types.specs.Keys.{key_cmp}
use Rattle.mt_types.specs.Ranges.{IsRangeAnswer}
use Rattle.mt_types.specs.Rows.{Rows, shown}
use Rattle.mt_types.specs.declared.row.Row.{Row}
use Rattle.mt_types.proofs.RangeLemmas.{is_of}
use Rattle.mt_promise.specs.Alone.{ShowsRow, IsRangeOfMap}

-- the order of keys is total
key_order : IsTotalOrder key_cmp
key_order = nat_list_cmp_total

-- keys that compare as equal are the same key
key_apart : fin.IsAntisymmetric key_cmp
key_apart = fin.slice_cmp-IsAntisymmetric fin.nat_cmp-IsAntisymmetric

-- an answer that passes the test is `Less`
less_of : (o : Ordering) → is_lt o ≡ true → o ≡ Less
less_of Less e = refl
less_of Equal e = absurd (false≢true e)
less_of Greater e = absurd (false≢true e)

-- two keys compared the other way round
turned : (k q : List ℕ) (o : Ordering) → key_cmp k q ≡ o → key_cmp q k ≡ ordering_reverse o
turned k q o e = key_order.antisymm q k ∙ ap ordering_reverse e

-- how often a pair is counted, by how the key compares with the pair's key
abbrev counts_as : Ordering → ℕ
counts_as o = cond (is_eq o) 1 0

-- the first pair is counted, and then the rest
count-cons : {V : Type 0} (key : List ℕ) (o : Ordering) (pair : List ℕ × V) (pairs : List (List ℕ × V)) → key_cmp key pair.0 ≡ o
    → (n : ℕ) × (n ≡ counts_as o) × (count_by (is_of key) (pair ∷ pairs) ≡ n + count_by (is_of key) pairs)
count-cons {V} key o pair pairs e =
    (counts_as (key_cmp key pair.0), ap counts_as e, sum_by-cons (λ (p : List ℕ × V). counts_as (key_cmp key p.0)) pair pairs)

-- a key that is before all the pairs is the key of none
none_below : {V : Type 0} (key k : List ℕ) → key_cmp key k ≡ Less → (pairs : List (List ℕ × V)) → below_all key_cmp k pairs ≡ true
    → count_by (is_of key) pairs ≡ 0
none_below key k before [] below = refl
none_below key k before (pair ∷ pairs) below =
    let next = less_of (key_cmp k pair.0) (first_so (is_lt (key_cmp k pair.0)) (below_all key_cmp k pairs) below) in
    let later = none_below key k before pairs (second_so (is_lt (key_cmp k pair.0)) (below_all key_cmp k pairs) below) in
    let split = count-cons key Less pair pairs (key_order.trans key k pair.0 before next) in
    omega (arith, later, split.1, split.2)

-- Below, an answer holds values of any type.

-- a right answer, each of whose keys had a row throughout
record Answers {V : Type 0} (Stood : List ℕ → V → Type 0) (Throughout : List ℕ → Type 0) (start : List ℕ) (limit : ℕ)
    (pairs : List (List ℕ × V)) : Type 0 where
  right : IsRangeAnswer Stood Throughout start limit pairs
  each : All (λ pair. Throughout pair.0) pairs

-- a key that had a row throughout is not before the first pair
not_before : {V : Type 0} (Stood : List ℕ → V → Type 0) (Throughout : List ℕ → Type 0) (start : List ℕ) (limit : ℕ) (pair : List ℕ × V) (pairs : List (List ℕ × V))
    → IsRangeAnswer Stood Throughout start limit (pair ∷ pairs)
    → (key : List ℕ) → is_ge (key_cmp key start) ≡ true → Throughout key → key_cmp key pair.0 ≡ Less → ⊥
not_before Stood Throughout start limit pair pairs right key from there before =
    let once = right.once key from there (inr (0, pair, omega arith, refl, ap is_le before)) in
    let none = none_below key pair.0 before pairs (first_so (below_all key_cmp pair.0 pairs) (is_sorted key_cmp pairs) right.rises) in
    let split = count-cons key Less pair pairs before in
    omega (arith, once, none, split.1, split.2)

-- the first key of an answer is not before the first key of another
firsts_meet : {V : Type 0} (Stood : List ℕ → V → Type 0) (Throughout : List ℕ → Type 0) (start : List ℕ) (limit : ℕ) (a b : List ℕ × V) (xs ys : List (List ℕ × V))
    → Answers Stood Throughout start limit (a ∷ xs) → Answers Stood Throughout start limit (b ∷ ys) → key_cmp a.0 b.0 ≡ Less → ⊥
firsts_meet {V} Stood Throughout start limit a b xs ys one other =
    not_before Stood Throughout start limit b ys other.right a.0
    (All-head (λ (p : List ℕ × V). is_ge (key_cmp p.0 start) ≡ true) a xs one.right.from_start)
    (All-head (λ (p : List ℕ × V). Throughout p.0) a xs one.each)

-- if an answer is empty, no other answer has a pair
both_empty : {V : Type 0} (Stood : List ℕ → V → Type 0) (Throughout : List ℕ → Type 0) (start : List ℕ) (limit : ℕ) (pair : List ℕ × V) (pairs : List (List ℕ × V))
    → Answers Stood Throughout start limit [] → Answers Stood Throughout start limit (pair ∷ pairs) → ⊥
both_empty {V} Stood Throughout start limit pair pairs none some =
    let few = some.right.few in
    let from = All-head (λ (p : List ℕ × V). is_ge (key_cmp p.0 start) ≡ true) pair pairs some.right.from_start in
    let there = All-head (λ (p : List ℕ × V). Throughout p.0) pair pairs some.each in
    let once = none.right.once pair.0 from there (inl (omega (arith, few))) in
    omega (arith, once)

-- the key had a row throughout, and is after another key
abbrev IsLater : (List ℕ → Type 0) → List ℕ → List ℕ → Type 0
IsLater Throughout first key = Throughout key × (key_cmp first key ≡ Less)

-- without its first pair, an answer is right for the keys after the first, with a limit of one less
rest_is_right : {V : Type 0} (Stood : List ℕ → V → Type 0) (Throughout : List ℕ → Type 0) (start : List ℕ) (limit : ℕ) (pair : List ℕ × V) (pairs : List (List ℕ × V))
    → IsRangeAnswer Stood Throughout start limit (pair ∷ pairs)
    → IsRangeAnswer Stood (IsLater Throughout pair.0) start (limit - 1) pairs
rest_is_right {V} Stood Throughout start limit pair pairs right = record {
  rises = second_so (below_all key_cmp pair.0 pairs) (is_sorted key_cmp pairs) right.rises;
  from_start = All-tail (λ (p : List ℕ × V). is_ge (key_cmp p.0 start) ≡ true) pair pairs right.from_start;
  few = (let few = right.few in omega (arith, few));
  stood = All-tail (λ (p : List ℕ × V). Stood p.0 p.1) pair pairs right.stood;
  once = λ key from there room.
      let whole : (length (pair ∷ pairs) < limit) ⊎ Any (λ p. IsTrue (is_le (key_cmp key p.0))) (pair ∷ pairs) =
      (elim room [
        | inl below ↦ inl (omega (arith, below))
        | inr any ↦ inr (suc any.0, any.1, omega (arith, any.2), any.3, any.4)
      ]) in
      let once = right.once key from there.0 whole in
      let split = count-cons key Greater pair pairs (turned pair.0 key Less there.1) in
      omega (arith, once, split.1, split.2);
}

-- the keys after the first had a row throughout, and are after it
rest_are_later : {V : Type 0} (Throughout : List ℕ → Type 0) (k : List ℕ) (pairs : List (List ℕ × V)) → below_all key_cmp k pairs ≡ true
    → All (λ pair. Throughout pair.0) pairs → All (λ pair. IsLater Throughout k pair.0) pairs
rest_are_later Throughout k [] below each = λ i d h. absurd (omega (arith, h))
rest_are_later {V} Throughout k (pair ∷ pairs) below each =
    let next = less_of (key_cmp k pair.0) (first_so (is_lt (key_cmp k pair.0)) (below_all key_cmp k pairs) below) in
    let there = All-head (λ (p : List ℕ × V). Throughout p.0) pair pairs each in
    let later = All-tail (λ (p : List ℕ × V). Throughout p.0) pair pairs each in
    All-cons (λ (p : List ℕ × V). IsLater Throughout k p.0) pair pairs (there, next)
    (rest_are_later Throughout k pairs (second_so (is_lt (key_cmp k pair.0)) (below_all key_cmp k pairs) below) later)

-- so an answer without its first pair is one again
rest_answers : {V : Type 0} (Stood : List ℕ → V → Type 0) (Throughout : List ℕ → Type 0) (start : List ℕ) (limit : ℕ) (pair : List ℕ × V) (pairs : List (List ℕ × V))
    → Answers Stood Throughout start limit (pair ∷ pairs) → Answers Stood (IsLater Throughout pair.0) start (limit - 1) pairs
rest_answers {V} Stood Throughout start limit pair pairs whole = record {
  right = rest_is_right Stood Throughout start limit pair pairs whole.right;
  each = rest_are_later Throughout pair.0 pairs (first_so (below_all key_cmp pair.0 pairs) (is_sorted key_cmp pairs) whole.right.rises)
      (All-tail (λ (p : List ℕ × V). Throughout p.0) pair pairs whole.each);
}

-- if each key has one value, two answers are the same list
answers_once : {V : Type 0} (Stood : List ℕ → V → Type 0) (Throughout : List ℕ → Type 0) (start : List ℕ) (limit : ℕ)
    → ((key : List ℕ) (v w : V) → Stood key v → Stood key w → v ≡ w) → (one other : List (List ℕ × V))
    → Answers Stood Throughout start limit one → Answers Stood Throughout start limit other → one ≡ other
answers_once Stood Throughout start limit alike [] [] one other = refl
answers_once Stood Throughout start limit alike [] (b ∷ ys) one other = absurd (both_empty Stood Throughout start limit b ys one other)
answers_once Stood Throughout start limit alike (a ∷ xs) [] one other = absurd (both_empty Stood Throughout start limit a xs other one)
answers_once {V} Stood Throughout start limit alike (a ∷ xs) (b ∷ ys) one other =
    elim (key_cmp a.0 b.0) as (λ o. key_cmp a.0 b.0 ≡ o → a ∷ xs ≡ b ∷ ys) [
      | Less ↦ λ e. absurd (firsts_meet Stood Throughout start limit a b xs ys one other e)
      | Equal ↦ λ e.
          let key = key_apart a.0 b.0 e in
          let stood : Stood b.0 a.1 = subst (λ (k : List ℕ). Stood k a.1) key (All-head (λ (p : List ℕ × V). Stood p.0 p.1) a xs one.right.stood) in
          let value = alike b.0 a.1 b.1 stood (All-head (λ (p : List ℕ × V). Stood p.0 p.1) b ys other.right.stood) in
          let same : a ≡ b = ap (λ (k : List ℕ). (k, a.1)) key ∙ ap (λ (v : V). (b.0, v)) value in
          let other_from_a = subst (λ (p : List ℕ × V). Answers Stood Throughout start limit (p ∷ ys)) (sym same) other in
          let rest = answers_once Stood (IsLater Throughout a.0) start (limit - 1) alike xs ys
          (rest_answers Stood Throughout start limit a xs one) (rest_answers Stood Throughout start limit a ys other_from_a) in
          ap (λ (p : List ℕ × V). p ∷ xs) same ∙ ap (λ (ps : List (List ℕ × V)). b ∷ ps) rest
      | Greater ↦ λ e. absurd (firsts_meet Stood Throughout start limit b a ys xs other one (turned a.0 b.0 Greater e))
    ] refl

-- a key's row in a map is one, and so is what is shown of it
shown_once : (map : Rows) (asked key : List ℕ) (v w : Row) → ShowsRow map asked key v → ShowsRow map asked key w → v ≡ w
shown_once map asked key v w one other =
    let had : get map key ≡ Some one.0 = one.1 in
    let had_also : get map key ≡ Some other.0 = other.1 in
    let row : one.0 ≡ other.0 = cc in
    one.2 ∙ ap (shown asked) row ∙ sym other.2

-- the map has a row of each key of an answer
answers_of_map : (map : Rows) (asked start : List ℕ) (limit : ℕ) (pairs : List (List ℕ × Row))
    → IsRangeOfMap map asked start limit pairs → Answers (ShowsRow map asked) (λ key. IsSome (get map key)) start limit pairs
answers_of_map map asked start limit pairs is_right = record {
  right = is_right;
  each = λ i d below. ap is_some (is_right.stood i d below).1;
}

-- a range of a map has one answer
pub range_once : (map : Rows) (asked start : List ℕ) (limit : ℕ) (one other : List (List ℕ × Row))
    → IsRangeOfMap map asked start limit one → IsRangeOfMap map asked start limit other → one ≡ other
range_once map asked start limit one other is_right other_is_right =
    answers_once (ShowsRow map asked) (λ key. IsSome (get map key)) start limit (shown_once map asked) one other
    (answers_of_map map asked start limit one is_right) (answers_of_map map asked start limit other other_is_right)
