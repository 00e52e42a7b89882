-- Words and numbers, byte by byte.
use Rattle.std.proofs.Common.{◌≡◌, ◌≢◌, ℕ, zero, suc, ◌<◌, ◌+◌, ◌-◌, ◌*◌, List, [], ◌∷◌, ◌++◌, append_assoc, length, cond, eqb, nat_le, true, false, Bool, ◌&&◌, get_or, take, drop, refl, ap, sym, ◌∙◌, arith, Option, None, Some, eq-eqb, ne_eqb, rules}
use Rattle.std.proofs.lemmas.Bool.Decides.{nat_tests}
use Rattle.std.proofs.Math.Seq.{drop-cons}
use Rattle.std.specs.List.{onto_first}
use Rattle.std.specs.Option.{MatchOption}
use Rattle.std.proofs.lemmas.Option.{MatchOption-at_some, MatchOption-at_none}
use Rattle.mt_script.specs.declared.fault.LineError.{LineError}
use Rattle.mt_script.specs.declared.fault.LineError.TheVariants.{Memory, Bad}
use Rattle.mt_script.specs.Words.{Fails, ◌>>=◌, word_at, last_from, last_word_at, digits_from, number_of, at_most, each, parts}

module _ (stop : ℕ) where
  pub word_at_stop : (xs : List ℕ) (i : ℕ) → i < length xs → ((k : ℕ) → k < i → get_or xs k 0 ≢ stop) → get_or xs i 0 ≡ stop → word_at stop xs ≡ Some (take i xs, drop (suc i) xs)
  word_at_stop [] i within before here = absurd (omega arith)
  word_at_stop (x ∷ xs) zero within before here = ap (λ t. cond t (Some ([], xs)) (word_at stop xs >>= λ y. Some (x ∷ y.0, y.1))) (eq-eqb x stop here)
  word_at_stop (x ∷ xs) (suc i) within before here =
      ap (λ t. cond t (Some ([], xs)) (word_at stop xs >>= λ y. Some (x ∷ y.0, y.1))) (ne_eqb x stop (before 0 (omega arith)))
      ∙ ap (λ o. o >>= λ y. Some (x ∷ y.0, y.1)) (word_at_stop xs i (omega arith) (λ k h. before (suc k) (omega arith)) here)

  pub word_at_none : (xs : List ℕ) → ((k : ℕ) → k < length xs → get_or xs k 0 ≢ stop) → word_at stop xs ≡ None
  word_at_none [] before = refl
  word_at_none (x ∷ xs) before =
      ap (λ t. cond t (Some ([], xs)) (word_at stop xs >>= λ y. Some (x ∷ y.0, y.1))) (ne_eqb x stop (before 0 (omega arith)))
      ∙ ap (λ o. o >>= λ y. Some (x ∷ y.0, y.1)) (word_at_none xs (λ k h. before (suc k) (omega arith)))

  pub last_word_at_none : (xs : List ℕ) → ((k : ℕ) → k < length xs → get_or xs k 0 ≢ stop) → last_word_at stop xs ≡ None
  last_word_at_none [] before = refl
  last_word_at_none (x ∷ xs) before =
      ap (last_from stop x xs) (last_word_at_none xs (λ k h. before (suc k) (omega arith)))
      ∙ ap (λ t. cond t (Some ([], xs)) None) (ne_eqb x stop (before 0 (omega arith)))

  pub last_word_at_stop : (xs : List ℕ) (i : ℕ) → i < length xs → ((k : ℕ) → i < k → k < length xs → get_or xs k 0 ≢ stop) → get_or xs i 0 ≡ stop
      → last_word_at stop xs ≡ Some (take i xs, drop (suc i) xs)
  last_word_at_stop [] i within behind here = absurd (omega arith)
  last_word_at_stop (x ∷ xs) zero within behind here =
      ap (last_from stop x xs) (last_word_at_none xs (λ k h. behind (suc k) (omega arith) (omega arith)))
      ∙ ap (λ t. cond t (Some ([], xs)) None) (eq-eqb x stop here)
  last_word_at_stop (x ∷ xs) (suc i) within behind here =
      ap (last_from stop x xs) (last_word_at_stop xs i (omega arith) (λ k h w. behind (suc k) (omega arith) (omega arith)) here)

leb_over : (n most : ℕ) → most < n → nat_le n most ≡ false
leb_over n most over = search (rules, nat_tests)

-- more digits make no number smaller
pub too_large : (most n : ℕ) (cs : List ℕ) → most < n → at_most most (digits_from n cs) ≡ None
too_large most n [] over = ap (λ t. cond t (Some n) None) (leb_over n most over)
too_large most n (c ∷ cs) over = elim (nat_le 48 c && nat_le c 57) as (λ t. at_most most (cond t (digits_from (n * 10 + (c - 48)) cs) None) ≡ None) [ true ↦ too_large most (n * 10 + (c - 48)) cs (omega arith) | false ↦ refl ]

over_next : (most n c : ℕ) (cs : List ℕ) → most < n * 10 + (c - 48) → at_most most (digits_from n (c ∷ cs)) ≡ None
over_next most n c cs over = elim (nat_le 48 c && nat_le c 57) as (λ t. at_most most (cond t (digits_from (n * 10 + (c - 48)) cs) None) ≡ None) [ true ↦ too_large most (n * 10 + (c - 48)) cs over | false ↦ refl ]

-- a digit makes the number too large
pub over_at : (most n i : ℕ) (word : List ℕ) → number_of most word ≡ at_most most (digits_from n (drop i word)) → i < length word → most < n * 10 + (get_or word i 0 - 48) → number_of most word ≡ None
over_at most n i word so_far within over =
    so_far ∙ ap (λ l. at_most most (digits_from n l)) (drop-cons word i 0 within) ∙ over_next most n (get_or word i 0) (drop (suc i) word) over

-- read, with these before it
abbrev pub with_front : {A : Type 0} → List A → Option (List A) → Option (List A)
with_front front read = read >>= λ xs. Some (front ++ xs)

parts-cut : (stop : ℕ) (text : List ℕ) → MatchOption {T = List ℕ × List ℕ} (word_at stop text) (parts stop text ≡ text ∷ []) (λ x. parts stop text ≡ x.0 ∷ parts stop x.1)
parts-cut stop [] = refl
parts-cut stop (b ∷ bs) = parts_at stop b bs (eqb b stop) (word_at stop bs) (parts-cut stop bs)
  where
    parts_at : (stop b : ℕ) (bs : List ℕ) (t : Bool) (found : Option (List ℕ × List ℕ)) → MatchOption {T = List ℕ × List ℕ} found (parts stop bs ≡ bs ∷ []) (λ x. parts stop bs ≡ x.0 ∷ parts stop x.1)
        → MatchOption {T = List ℕ × List ℕ} (cond t (Some ([], bs)) (found >>= λ x. Some (b ∷ x.0, x.1))) (cond t ([] ∷ parts stop bs) (onto_first b (parts stop bs)) ≡ (b ∷ bs) ∷ []) (λ x. cond t ([] ∷ parts stop bs) (onto_first b (parts stop bs)) ≡ x.0 ∷ parts stop x.1)
    parts_at stop b bs true found more = refl
    parts_at stop b bs false None more = ap (onto_first b) more
    parts_at stop b bs false (Some x) more = ap (onto_first b) more

parts_some : (stop : ℕ) (text word rest : List ℕ) → word_at stop text ≡ Some (word, rest) → parts stop text ≡ word ∷ parts stop rest
parts_some stop text word rest found = MatchOption-at_some (parts stop text ≡ text ∷ []) (λ x. parts stop text ≡ x.0 ∷ parts stop x.1) (word, rest) found (parts-cut stop text)

parts_none : (stop : ℕ) (text : List ℕ) → word_at stop text ≡ None → parts stop text ≡ text ∷ []
parts_none stop text found = MatchOption-at_none (parts stop text ≡ text ∷ []) (λ x. parts stop text ≡ x.0 ∷ parts stop x.1) found (parts-cut stop text)

-- A loop over parts that reads each of them: read is what is read of all, front what was read so far.
module _ (stop : ℕ) {A : Type 0} (f : List ℕ → Option A) (read : Option (List A)) (front : List A) (text : List ℕ) (so_far : read ≡ with_front front (each f (parts stop text))) where
  pub part_more : (word rest : List ℕ) (x : A) (new : List A) → word_at stop text ≡ Some (word, rest) → f word ≡ Some x → new ≡ front ++ x ∷ [] → read ≡ with_front new (each f (parts stop rest))
  part_more word rest x new found at pushed =
      so_far ∙ ap (λ ps. with_front front (each f ps)) (parts_some stop text word rest found)
      ∙ ap (λ o. with_front front (o >>= λ y. each f (parts stop rest) >>= λ ys. Some (y ∷ ys))) at ∙ joined (each f (parts stop rest)) ∙ ap (λ l. with_front l (each f (parts stop rest))) (sym pushed)
    where
      joined : (o : Option (List A)) → with_front front (o >>= λ ys. Some (x ∷ ys)) ≡ with_front (front ++ x ∷ []) o
      joined None = refl
      joined (Some ys) = ap Some (sym (append_assoc front (x ∷ []) ys))

  pub part_fails : (word rest : List ℕ) (e : LineError) → word_at stop text ≡ Some (word, rest) → Fails e (f word) → Fails e read
  part_fails word rest Memory found at = tt
  part_fails word rest Bad found at =
      so_far ∙ ap (λ ps. with_front front (each f ps)) (parts_some stop text word rest found)
      ∙ ap (λ o. with_front front (o >>= λ y. each f (parts stop rest) >>= λ ys. Some (y ∷ ys))) at

  pub part_last : (x : A) (new : List A) → word_at stop text ≡ None → f text ≡ Some x → new ≡ front ++ x ∷ [] → read ≡ Some new
  part_last x new found at pushed =
      so_far ∙ ap (λ ps. with_front front (each f ps)) (parts_none stop text found)
      ∙ ap (λ o. with_front front (o >>= λ y. Some (y ∷ []))) at ∙ ap Some (sym pushed)

  pub last_fails : (e : LineError) → word_at stop text ≡ None → Fails e (f text) → Fails e read
  last_fails Memory found at = tt
  last_fails Bad found at =
      so_far ∙ ap (λ ps. with_front front (each f ps)) (parts_none stop text found)
      ∙ ap (λ o. with_front front (o >>= λ y. Some (y ∷ []))) at
