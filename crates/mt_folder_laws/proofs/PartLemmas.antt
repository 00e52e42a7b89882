-- One more part of a checkpoint: which keys it covers, and what it lists.
use Rattle.std.proofs.Common.{◌≡◌, ◌∙◌, ◌++◌, ◌∷◌, ◌-◌, ◌<◌, ◌≤◌, ◌⊎◌, ℕ, zero, suc, Bool, true, false, cond, List, [], length, map, take, refl, sym, ap, subst, arith, inl, inr, IsTrue, Option, Some, None}
use Rattle.std.specs.Prelude.{nat_lt, unwrap_or, count_by, Any, Contains, IsSome, slice_get, slice_index_or}
use Rattle.std.specs.FinMap.{get}
use Rattle.std.specs.List.{AllByRecursion}
use Rattle.std.specs.Option.{option_map, option_or}
use Rattle.std.specs.Ordering.{is_eq, is_ge, is_le}
use Rattle.std.specs.declared.cmp.Ordering.{Ordering}
use Rattle.std.specs.declared.cmp.Ordering.TheVariants.{Less, Equal, Greater}
use Rattle.std.proofs.lemmas.Bool.{false≢true, cases_Bool}
use Rattle.std.proofs.lemmas.Bool.Decides.{Decides-ltb}
use Rattle.std.proofs.lemmas.List.Sums.{sum_by-cons}
use Rattle.mt_types.specs.Keys.{key_cmp}
use Rattle.mt_types.specs.Rows.{Rows, after}
use Rattle.mt_types.specs.declared.row.Change.{Change}
use Rattle.mt_types.specs.declared.row.Row.{Row}
use Rattle.mt_types.proofs.MapLemmas.{key_apart}
use Rattle.mt_types.proofs.RangeLemmas.{is_of}
use Rattle.mt_promise.specs.Alone.{IsRangeOfMap}
use Rattle.mt_frame.specs.declared.entry.Entry.{Entry}
use Rattle.mt_frame.specs.declared.entry.Entry.TheVariants.{Rows as Listed}
use Rattle.mt_frame.specs.declared.entry.Part.{Part}
use Rattle.mt_replay.specs.Redo.{number_after}
use Rattle.mt_replay.specs.RedoLaws.{HadBetween, ListsRows}
use Rattle.mt_folder_laws.specs.Copied.{AreCopied, Covers}
use Rattle.mt_folder_laws.proofs.CopiedLemmas.{copied_next, number-append}

abbrev one_if : Bool → ℕ
one_if b = cond b 1 0

equal_of : (o : Ordering) → is_eq o ≡ true → o ≡ Equal
equal_of Less e = absurd (false≢true e)
equal_of Equal e = refl
equal_of Greater e = absurd (false≢true e)

-- a key that is counted is among those of the pairs
among : {V : Type 0} (key : List ℕ) (pairs : List (List ℕ × V)) → count_by (is_of key) pairs ≡ 1 → Contains (map (λ (pair : List ℕ × V). pair.0) pairs) key
among key [] one = absurd (omega (arith, one))
among {V} key (pair ∷ pairs) one = elim (cases_Bool (is_of key pair)) [
  | inl here ↦ (0, omega arith, sym (key_apart key pair.0 (equal_of (key_cmp key pair.0) here)))
  | inr other ↦
      let none : one_if (is_of key pair) ≡ 0 = ap (λ (b : Bool). one_if b) other in
      let later = among key pairs (omega (arith, one, none, sum_by-cons (λ (p : List ℕ × V). one_if (is_of key p)) pair pairs)) in
      (suc later.0, omega (arith, later.1), later.2)
]

some_or_none : (o : Option Row) → IsSome o ⊎ (o ≡ None)
some_or_none None = inr refl
some_or_none (Some row) = inl refl

-- a key of the range is listed, or has no row
module _ (rows : Rows) (start : List ℕ) (limit : ℕ) (pairs : List (List ℕ × Row)) (range : IsRangeOfMap rows [] start limit pairs) where
  listed_or_none : (key : List ℕ) → IsTrue (is_ge (key_cmp key start)) → (length pairs < limit) ⊎ Any (λ pair. IsTrue (is_le (key_cmp key pair.0))) pairs
      → Contains (map (λ (pair : List ℕ × Row). pair.0) pairs) key ⊎ (get rows key ≡ None)
  listed_or_none key from within = elim (some_or_none (get rows key)) [
    | inl some ↦ inl (among key pairs (range.once key from some within))
    | inr none ↦ inr none
  ]

order_cases : (o : Ordering) → IsTrue (is_ge o) ⊎ (o ≡ Less)
order_cases Less = inr refl
order_cases Equal = inl refl
order_cases Greater = inl refl

no_key_before : (key : List ℕ) → key_cmp key [] ≡ Less → ⊥
no_key_before [] less = cc
no_key_before (x ∷ xs) less = cc

-- the last pair
last_of : (pairs : List (List ℕ × Row)) (i : ℕ) (key : List ℕ) → option_map (λ (pair : List ℕ × Row). pair.0) (slice_get pairs i) ≡ Some key → (pair : List ℕ × Row) × (i < length pairs) × (slice_index_or pairs i pair ≡ pair) × (pair.0 ≡ key)
last_of [] i key is = cc
last_of (pair ∷ pairs) zero key is = (pair, omega arith, refl, cc)
last_of (pair ∷ pairs) (suc i) key is = let later = last_of pairs i key is in (later.0, omega (arith, later.1), later.2, later.3)

abbrev end_key : List (List ℕ × Row) → Option (List ℕ)
end_key pairs = option_map (λ (pair : List ℕ × Row). pair.0) (slice_get pairs (length pairs - 1))

within_last : (pairs : List (List ℕ × Row)) (key last : List ℕ) → end_key pairs ≡ Some last → IsTrue (is_le (key_cmp key last)) → Any (λ (pair : List ℕ × Row). IsTrue (is_le (key_cmp key pair.0))) pairs
within_last pairs key last is le =
    let found = last_of pairs (length pairs - 1) last is in
    (length pairs - 1, found.0, found.1, found.2, subst (λ (k : List ℕ). IsTrue (is_le (key_cmp key k))) (sym found.3) le)

-- ---- what it lists
all_of : (P : List ℕ × Row → Type 0) (pairs : List (List ℕ × Row)) → ((k : ℕ) (d : List ℕ × Row) → k < length pairs → P (slice_index_or pairs k d)) → AllByRecursion P pairs
all_of P [] all = tt
all_of P (pair ∷ pairs) all = (all 0 pair (omega arith), all_of P pairs (λ k d lt. all (suc k) d (omega (arith, lt))))

lists_part : (C : ℕ) (changes : List Change) (n m : ℕ) (start : List ℕ) (limit : ℕ) (pairs : List (List ℕ × Row)) → n ≤ m → IsRangeOfMap (after C (take n changes)) [] start limit pairs
    → AllByRecursion (λ pair. HadBetween C changes n m pair.0 (Some pair.1)) pairs
lists_part C changes n m start limit pairs le range =
    all_of (λ (pair : List ℕ × Row). HadBetween C changes n m pair.0 (Some pair.1)) pairs
    (λ k d lt. let stood = range.stood k d lt in (n, omega arith, le, stood.1 ∙ ap Some (sym stood.2)))

-- ---- which keys it covers
module _ (C : ℕ) (changes : List Change) (base n m limit : ℕ) (pairs : List (List ℕ × Row)) (first : base ≤ n) (le : n ≤ m) where
  abbrev Named : List ℕ → Type 0
  Named key = Contains (map (λ (pair : List ℕ × Row). pair.0) pairs) key ⊎ HadBetween C changes base m key None

  named : (start key : List ℕ) → IsRangeOfMap (after C (take n changes)) [] start limit pairs → IsTrue (is_ge (key_cmp key start)) → (length pairs < limit) ⊎ Any (λ (pair : List ℕ × Row). IsTrue (is_le (key_cmp key pair.0))) pairs → Named key
  named start key range from within = elim (listed_or_none (after C (take n changes)) start limit pairs range key from within) [
    | inl names ↦ inl names
    | inr none ↦ inr (n, first, le, none)
  ]

  -- after the key from which on the part is: all of them if it isn't full, and else up to its last
  after_start : (start : List ℕ) (last : Option (List ℕ)) (has_all is_last : Bool) (end : Option (List ℕ)) (key : List ℕ) → is_last ≡ nat_lt (length pairs) limit → end ≡ end_key pairs → IsRangeOfMap (after C (take n changes)) [] start limit pairs
      → IsTrue (is_ge (key_cmp key start)) → Covers (option_or end last) is_last key → Covers last has_all key ⊎ Named key
  after_start start last has_all true end key whole is range from covers = inr (named start key range from (inl ((Decides-ltb (length pairs) limit).0 (sym whole))))
  after_start start last has_all false (Some up) key whole is range from covers = inr (named start key range from (inr (within_last pairs key up (sym is) covers)))
  after_start start None true false None key whole is range from covers = inl tt
  after_start start None false false None key whole is range from covers = absurd covers
  after_start start (Some up) true false None key whole is range from covers = inl tt
  after_start start (Some up) false false None key whole is range from covers = inl covers

  pub covered : (last : Option (List ℕ)) (has_all is_last : Bool) (end : Option (List ℕ)) (start key : List ℕ) → start ≡ unwrap_or last [] → is_last ≡ nat_lt (length pairs) limit → end ≡ end_key pairs → IsRangeOfMap (after C (take n changes)) [] start limit pairs
      → Covers (option_or end last) is_last key → Covers last has_all key ⊎ Named key
  covered None has_all is_last end start key begins whole is range covers = elim (order_cases (key_cmp key start)) [
    | inl from ↦ after_start start None has_all is_last end key whole is range from covers
    | inr less ↦ absurd (no_key_before key (subst (λ (k : List ℕ). key_cmp key k ≡ Less) begins less))
  ]
  covered (Some up) true is_last end start key begins whole is range covers = inl tt
  covered (Some up) false is_last end start key begins whole is range covers = elim (order_cases (key_cmp key start)) [
    | inl from ↦ after_start start (Some up) false is_last end key whole is range from covers
    | inr less ↦ inl (ap is_le (subst (λ (k : List ℕ). key_cmp key k ≡ Less) begins less))
  ]

-- THE NEXT PART: what was copied with it
pub copied_part : (C : ℕ) (changes : List Change) (base n limit : ℕ) (entries : List Entry) (part : Part) (last : Option (List ℕ)) (has_all is_last : Bool) (end : Option (List ℕ)) (start : List ℕ)
    → n ≡ number_after base entries → start ≡ unwrap_or last [] → is_last ≡ nat_lt (length part.rows) limit → end ≡ end_key part.rows → IsRangeOfMap (after C (take n changes)) [] start limit part.rows
    → AreCopied C changes base entries (Covers last has_all) → AreCopied C changes base (entries ++ Listed part ∷ []) (Covers (option_or end last) is_last)
copied_part C changes base n limit entries part last has_all is_last end start at begins whole is range copied =
    let m = number_after base (entries ++ Listed part ∷ []) in
    let least : base ≤ n = omega (arith, at) in
    let le : n ≤ m = omega (arith, at, number-append base entries (Listed part ∷ [])) in
    copied_next C changes base entries (Listed part) (Covers last has_all) (Covers (option_or end last) is_last) refl refl
    (subst (λ (k : ℕ). ListsRows C changes k m (Listed part)) at (lists_part C changes n m start limit part.rows le range))
    (λ key covers. elim (covered C changes base n m limit part.rows least le last has_all is_last end start key begins whole is range covers) [
      | inl before ↦ inl before
      | inr now ↦ elim now [
        | inl names ↦ inr (inl (inl names))
        | inr none ↦ inr (inr none)
      ]
    ])
    copied
