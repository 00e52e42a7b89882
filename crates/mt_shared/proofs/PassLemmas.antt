-- One more pass.
use Rattle.std.proofs.Common.{ℕ, ◌+◌, ◌≡◌, List, [], ◌∷◌, ◌++◌, Bool, false, length, subst, arith}
use Rattle.mt_shared.specs.Passes.{PassView, IsNewPass, AreNewFrom, ComesFirst}

pub one_more : (traced : Bool) (n : ℕ) (passes : List PassView) (p : PassView) → AreNewFrom traced n passes → IsNewPass traced (n + length passes) p → AreNewFrom traced n (passes ++ p ∷ [])
one_more traced n [] p are new = (let e : n + 0 ≡ n = omega arith in subst (λ (k : ℕ). IsNewPass traced k p) e new, tt)
one_more traced n (q ∷ passes) p are new =
    (are.0, one_more traced (n + 1) passes p are.1 (let e : n + length (q ∷ passes) ≡ n + 1 + length passes = omega arith in subst (λ (k : ℕ). IsNewPass traced k p) e new))

pub one_more_after : (n : ℕ) (passes : List PassView) (p : PassView) → ComesFirst n passes → IsNewPass false (1 + length passes) p → ComesFirst n (passes ++ p ∷ [])
one_more_after n [] p are new = absurd are
one_more_after n (q ∷ passes) p are new =
    (are.0, one_more false 2 passes p are.1 (let e : 1 + length (q ∷ passes) ≡ 2 + length passes = omega arith in subst (λ (k : ℕ). IsNewPass false k p) e new))
