-- Columns, each with its number: one more of them.
use Rattle.std.proofs.Common.{◌≡◌, ℕ, zero, suc, ◌<◌, ◌+◌, ◌∙◌, ◌++◌, ◌∷◌, List, [], length, take, slice_index_or, ap, sym, arith}
use Rattle.std.proofs.lemmas.List.{map-append}
use Rattle.mt_asked.specs.declared.borrowed.Set.{Set}
use Rattle.mt_asked.specs.Borrowed.{set_of, sets_of}
use Rattle.mt_replay.specs.Replay.{numbered}

pub numbered_more : (i n : ℕ) (columns : List (List ℕ)) → n < length columns → numbered i (take (n + 1) columns) ≡ numbered i (take n columns) ++ ((i + n, slice_index_or columns n []) ∷ [])
numbered_more i n [] less = absurd (omega (arith, less))
numbered_more i zero (column ∷ columns) less =
    let same : i ≡ i + 0 = omega arith in
    ap (λ (k : ℕ). (k, column) ∷ []) same
numbered_more i (suc n) (column ∷ columns) less =
    let one : suc n + 1 ≡ suc (n + 1) = omega arith in
    let same : i + 1 + n ≡ i + suc n = omega arith in
    ap (λ (k : ℕ). numbered i (take k (column ∷ columns))) one
    ∙ (ap (λ (rest : List (ℕ × List ℕ)). (i, column) ∷ rest) (numbered_more (i + 1) n columns (omega (arith, less)))
    ∙ ap (λ (k : ℕ). (i, column) ∷ (numbered (i + 1) (take n columns) ++ ((k, slice_index_or columns n []) ∷ []))) same)

pub set_more : (sets : List Set) (set : Set) (n : ℕ) (columns : List (List ℕ)) → sets_of sets ≡ numbered 0 (take n columns) → n < length columns → set.column ≡ n → set.bytes.now ≡ slice_index_or columns n [] → sets_of (sets ++ (set ∷ [])) ≡ numbered 0 (take (n + 1) columns)
set_more sets set n columns so_far less column bytes =
    let own : 0 + n ≡ n = omega arith in
    let one : set_of set ≡ (0 + n, slice_index_or columns n []) = ap (λ (k : ℕ). (k, set.bytes.now)) (column ∙ sym own) ∙ ap (λ (bs : List ℕ). (0 + n, bs)) bytes in
    map-append set_of sets (set ∷ [])
    ∙ (ap (λ (xs : List (ℕ × List ℕ)). xs ++ (set_of set ∷ [])) so_far
    ∙ (ap (λ (x : ℕ × List ℕ). numbered 0 (take n columns) ++ (x ∷ [])) one ∙ sym (numbered_more 0 n columns less)))
