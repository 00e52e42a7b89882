-- Beginnings of one list.
use Rattle.std.proofs.Common.{◌≡◌, ◌≤◌, ◌<◌, nat_le, Bool, true, false, MatchBool, List, [], ◌∷◌, length, refl, sym, arith}
use Rattle.std.proofs.lemmas.Bool.Decides.{nat_tests}
use mathlib.Core.List.{IsPrefix}
use Rattle.mt_types.specs.declared.row.Delta.{Delta}
use Rattle.mt_publish.specs.Marks.{StartsWith}

-- of two beginnings of one list the shorter begins the longer
pub prefix_shorter : {A : Type 0} (xs ys zs : List A) → IsPrefix xs zs → IsPrefix ys zs → length xs ≤ length ys → IsPrefix xs ys
prefix_shorter [] ys zs p q le = (ys, refl)
prefix_shorter (x ∷ xs) [] zs p q le = absurd (omega arith)
prefix_shorter (x ∷ xs) (y ∷ ys) [] p q le = absurd (cc (p.1))
prefix_shorter (x ∷ xs) (y ∷ ys) (z ∷ zs) p q le =
    let heads : x ≡ y = cc (p.1, q.1) in
    let rest = prefix_shorter xs ys zs (p.0, cc (p.1)) (q.0, cc (q.1)) (omega arith) in
    (rest.0, cc (heads, rest.1))

-- a beginning as long as the whole is the whole
pub prefix_whole : {A : Type 0} (xs ys : List A) → IsPrefix xs ys → length ys ≤ length xs → xs ≡ ys
prefix_whole [] [] p le = refl
prefix_whole [] (y ∷ ys) p le = absurd (omega arith)
prefix_whole (x ∷ xs) [] p le = absurd (cc (p.1))
prefix_whole (x ∷ xs) (y ∷ ys) p le =
    let rest = prefix_whole xs ys (p.0, cc (p.1)) (omega arith) in cc (p.1, rest)

starts_with : (list start : List Delta) → IsPrefix start list → StartsWith list start
starts_with list start p = (p.0, sym p.1)

covers : (list start whole : List Delta) → IsPrefix list whole → IsPrefix start whole → (b : Bool) → nat_le (length start) (length list) ≡ b
    → MatchBool b (StartsWith list start) (StartsWith start list × (length list < length start))
covers list start whole p q true is = starts_with list start (prefix_shorter start list whole q p (grind (arith, nat_tests)))
covers list start whole p q false is =
    let less : length list < length start = grind (arith, nat_tests) in
    (starts_with start list (prefix_shorter list start whole p q (omega arith)), less)

-- of two beginnings of one chain the first begins with the second, or is shorter and begins it
pub covered : (list start whole : List Delta) → IsPrefix list whole → IsPrefix start whole
    → MatchBool (nat_le (length start) (length list)) (StartsWith list start) (StartsWith start list × (length list < length start))
covered list start whole p q = covers list start whole p q (nat_le (length start) (length list)) refl
