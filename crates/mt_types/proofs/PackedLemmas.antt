-- Packed columns are read back as they were.
use Rattle.std.proofs.Common.{◌≡◌, ℕ, suc, ◌+◌, ◌<◌, ◌≤◌, true, false, List, [], ◌∷◌, ◌++◌, map, length, take, drop, get_or, refl, ap, sym, ◌∙◌, inl, inr, subst, arith}
use Rattle.std.specs.Prelude.{nat_eq, ◌==◌}
use Rattle.std.specs.List.{AllByRecursion}
use Rattle.std.specs.Cmp.Lexicographic.{pointwise, pointwise_decides, bytes_decides}
use Rattle.std.proofs.lemmas.Bool.{cases_Bool, false≢true}
use Rattle.std.proofs.Math.Numerals.{add-one}
use Rattle.std.proofs.Math.Seq.{drop-cons, take-append_seam, drop-append_seam}
use Rattle.std.proofs.lemmas.List.{length-append, append_assoc, append-nil, nil_from_length, length-drop, get_or-append-add}
use Rattle.mt_types.specs.Packed.{cut, unpacked, packed, pieces, ArePackable}
use Rattle.mt_types.specs.Rows.{new_bytes, new_columns, chosen}

cut-pieces : (columns : List (List ℕ)) → cut (length columns) (pieces columns) ≡ columns
unfolding cut
cut-pieces [] = refl
cut-pieces (column ∷ columns) =
    λ t. take-append_seam column (pieces columns) t
    ∷ (ap (cut (length columns)) (drop-append_seam column (pieces columns)) ∙ cut-pieces columns) t

pub unpacked-packed : (columns : List (List ℕ)) → unpacked (packed columns) ≡ columns
unfolding unpacked
unpacked-packed columns = cut-pieces columns

-- bytes that were packed hold what was packed
pub packed_holds : (columns : List (List ℕ)) (bytes : List ℕ) → bytes ≡ packed columns → bytes ≡ packed (unpacked bytes)
packed_holds columns bytes e = e ∙ ap packed (sym (ap unpacked e ∙ unpacked-packed columns))

pub unpacked_of : (columns : List (List ℕ)) (bytes : List ℕ) → bytes ≡ packed columns → unpacked bytes ≡ columns
unpacked_of columns bytes e = ap unpacked e ∙ unpacked-packed columns

columns_decide : (xs ys : List (List ℕ)) → (pointwise (pointwise nat_eq) xs ys ≡ true → xs ≡ ys) × (xs ≡ ys → pointwise (pointwise nat_eq) xs ys ≡ true)
columns_decide = pointwise_decides bytes_decides

-- bytes are the same where the columns are
pub same_columns : (a b : List ℕ) → a ≡ packed (unpacked a) → b ≡ packed (unpacked b) → pointwise nat_eq a b ≡ pointwise (pointwise nat_eq) (unpacked a) (unpacked b)
same_columns a b p q =
    elim (cases_Bool (pointwise nat_eq a b)) [
      | inl same ↦ same ∙ sym ((columns_decide (unpacked a) (unpacked b)).1 (ap unpacked ((bytes_decides a b).0 same)))
      | inr other ↦ elim (cases_Bool (pointwise (pointwise nat_eq) (unpacked a) (unpacked b))) [
        | inl same ↦
            let e : a ≡ b = p ∙ ap packed ((columns_decide (unpacked a) (unpacked b)).0 same) ∙ sym q in
            absurd (false≢true (sym other ∙ (bytes_decides a b).1 e))
        | inr differ ↦ other ∙ sym differ
      ]
    ]

-- the pieces from a number on: the first, and the others
pub next_piece : (columns : List (List ℕ)) (i : ℕ) (rest : List ℕ) → i < length columns → rest ≡ pieces (drop i columns) → (0 < length rest) × (get_or rest 0 0 < length rest) × (take (get_or rest 0 0) (drop 1 rest) ≡ get_or columns i []) × (drop (get_or rest 0 0) (drop 1 rest) ≡ pieces (drop (i + 1) columns))
next_piece columns i rest h e =
    let column = get_or columns i [] in
    let more = pieces (drop (i + 1) columns) in
    let next : drop i columns ≡ column ∷ drop (i + 1) columns = rw add-one (drop-cons columns i [] h) in
    let split : rest ≡ length column ∷ (column ++ more) = e ∙ ap pieces next in
    let size : length rest ≡ suc (length (column ++ more)) = ap length split in
    let first : get_or rest 0 0 ≡ length column = ap (λ b. get_or b 0 0) split in
    let two = length-append column more in (
      omega (arith, size),
      omega (arith, size, first, two),
      ap (λ b. take (get_or b 0 0) (drop 1 b)) split ∙ take-append_seam column more,
      ap (λ b. drop (get_or b 0 0) (drop 1 b)) split ∙ drop-append_seam column more,
    )

-- a put takes and leaves as many columns
pub length-new_columns : (sets : List (ℕ × List ℕ)) (i : ℕ) (columns : List (List ℕ)) → length (new_columns sets i columns) ≡ length columns
length-new_columns sets i [] = refl
length-new_columns sets i (column ∷ columns) = ap suc (length-new_columns sets (i + 1) columns)

-- what is begun with a count
pub put_start : (sets : List (ℕ × List ℕ)) (columns : List (List ℕ)) (count : ℕ) (none items : List ℕ) → none ≡ [] → items ≡ none ++ count ∷ [] → count ≡ length columns → items ++ pieces (new_columns sets 0 columns) ≡ packed (new_columns sets 0 columns)
put_start sets columns count none items empty e n =
    ap (λ l. l ++ pieces (new_columns sets 0 columns)) (e ∙ ap (λ l. l ++ count ∷ []) empty)
    ∙ ap (λ k. k ∷ pieces (new_columns sets 0 columns)) (n ∙ sym (length-new_columns sets 0 columns))

-- one more column
pub put_step : (sets : List (ℕ × List ℕ)) (columns : List (List ℕ)) (i : ℕ) (items after old bytes total : List ℕ) → i < length columns → old ≡ get_or columns i [] → bytes ≡ new_bytes sets i old → after ≡ items ++ length bytes ∷ bytes → items ++ pieces (new_columns sets i (drop i columns)) ≡ total → after ++ pieces (new_columns sets (i + 1) (drop (i + 1) columns)) ≡ total
put_step sets columns i items after old bytes total h is new e so_far =
    let others = new_columns sets (i + 1) (drop (i + 1) columns) in
    let next : drop i columns ≡ get_or columns i [] ∷ drop (i + 1) columns = rw add-one (drop-cons columns i [] h) in
    ap (λ l. l ++ pieces others) e
    ∙ append_assoc items (length bytes ∷ bytes) (pieces others)
    ∙ ap (λ b. items ++ pieces (b ∷ others)) (new ∙ ap (new_bytes sets i) is)
    ∙ ap (λ l. items ++ pieces (new_columns sets i l)) (sym next)
    ∙ so_far

-- nothing is left
pub put_end : (sets : List (ℕ × List ℕ)) (columns : List (List ℕ)) (i : ℕ) (items total : List ℕ) → length columns ≤ i → items ++ pieces (new_columns sets i (drop i columns)) ≡ total → items ≡ total
put_end sets columns i items total h so_far =
    let none : drop i columns ≡ [] = nil_from_length (drop i columns) (length-drop i columns ∙ omega arith) in
    sym (append-nil items) ∙ ap (λ l. items ++ pieces (new_columns sets i l)) (sym none) ∙ so_far

pub list_end : {A : Type 0} (f : A → List ℕ) (xs : List A) (i : ℕ) (items total : List ℕ) → length xs ≤ i → items ++ pieces (map f (drop i xs)) ≡ total → items ≡ total
list_end f xs i items total h so_far =
    let none : drop i xs ≡ [] = nil_from_length (drop i xs) (length-drop i xs ∙ omega arith) in
    sym (append-nil items) ∙ ap (λ l. items ++ pieces (map f l)) (sym none) ∙ so_far

pub parts_end : (parts : List (List ℕ)) (i : ℕ) (items total : List ℕ) → length parts ≤ i → items ++ pieces (drop i parts) ≡ total → items ≡ total
parts_end parts i items total h so_far =
    let none : drop i parts ≡ [] = nil_from_length (drop i parts) (length-drop i parts ∙ omega arith) in
    sym (append-nil items) ∙ ap (λ l. items ++ pieces l) (sym none) ∙ so_far

-- some columns are asked for
pub chosen_some : (asked : List ℕ) (columns : List (List ℕ)) → false ≡ (length asked == 0) → chosen asked columns ≡ map (λ k. get_or columns k []) asked
chosen_some [] columns h = absurd (false≢true h)
chosen_some (k ∷ ks) columns h = refl

-- what an iterator has of columns that are still to come
pub pieces_are : (columns : List (List ℕ)) (left : ℕ) (rest : List ℕ) → left ≡ length columns → rest ≡ pieces columns → cut left rest ≡ columns
pieces_are columns left rest n e = ap (λ k. cut k rest) n ∙ ap (cut (length columns)) e ∙ cut-pieces columns

pub pieces_hold : (columns : List (List ℕ)) (left : ℕ) (rest : List ℕ) → left ≡ length columns → rest ≡ pieces columns → (rest ≡ pieces (cut left rest)) × (length (cut left rest) ≡ left)
pieces_hold columns left rest n e =
    let are = pieces_are columns left rest n e in
    (e ∙ ap pieces (sym are), ap length are ∙ sym n)

-- each length among pieces is one of their bytes
pieces-packable : (columns : List (List ℕ)) → ((i : ℕ) → get_or (pieces columns) i 0 < 256) → AllByRecursion (λ column. length column < 256) columns
pieces-packable [] reads = tt
pieces-packable (column ∷ columns) reads = (
  reads 0,
  pieces-packable columns (λ i. subst (λ (byte : ℕ). byte < 256) (get_or-append-add column (pieces columns) i 0) (reads (suc (length column + i)))),
)

pub packable_from_reads : (columns : List (List ℕ)) → ((i : ℕ) → get_or (packed columns) i 0 < 256) → ArePackable columns
packable_from_reads columns reads = (reads 0, pieces-packable columns (λ i. reads (suc i)))
