-- Keys that are compared, and bytes that are read as a number.
use Rattle.std.proofs.Common.{◌≡◌, ℕ, suc, ◌+◌, ◌*◌, ◌^◌, ◌<◌, ◌≤◌, List, [], ◌∷◌, Some, refl, ap, ◌∙◌, add-one, arith}
use Rattle.std.proofs.Math.Nat.{pow-suc, pow-le-pow_right}
use Rattle.std.specs.Ordering.{nat_cmp, partial_ordering_then, ordering_then}
use Rattle.std.specs.declared.cmp.Ordering.{Ordering}
use Rattle.std.specs.declared.cmp.Ordering.TheVariants.{Less}
use Rattle.std.specs.Cmp.Lexicographic.{slice_cmp, slice_partial_cmp}

then-Some : (first rest : Ordering) → partial_ordering_then (Some first) (Some rest) ≡ Some (ordering_then first rest)
then-Some Less rest = refl
then-Some _ rest = refl

-- bytes are always comparable
pub partial-total : (xs ys : List ℕ) → slice_partial_cmp (λ x y. Some (nat_cmp x y)) xs ys ≡ Some (slice_cmp nat_cmp xs ys)
partial-total [] [] = refl
partial-total [] (y ∷ ys) = refl
partial-total (x ∷ xs) [] = refl
partial-total (x ∷ xs) (y ∷ ys) = ap (partial_ordering_then (Some (nat_cmp x y))) (partial-total xs ys) ∙ then-Some (nat_cmp x y) (slice_cmp nat_cmp xs ys)

-- one more byte
pub next_small : (number index byte : ℕ) → number < 256 ^ index → byte < 256 → number * 256 + byte < 256 ^ (index + 1)
next_small number index byte h b =
    let e : 256 ^ suc index ≡ 256 ^ index * 256 = pow-suc 256 index in rw add-one (omega arith)

-- a number of at most eight bytes is below this number
pub few_bytes : (index : ℕ) → index ≤ 8 → 256 ^ index ≤ 2 ^ 64
few_bytes index h = let cap : 256 ^ index ≤ 256 ^ 8 = pow-le-pow_right (omega arith) h in omega arith
