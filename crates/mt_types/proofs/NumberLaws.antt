-- The number and the detail of a refusal tell which it is; so does the number of a rule of tidies.
use Rattle.std.proofs.Common.{◌≡◌, ℕ, zero, suc, Bool, true, false, cond, eqb, Some, None, refl, subst, ap, sym}
use Rattle.std.specs.Prelude.{unwrap_or}
use Rattle.std.proofs.lemmas.Bool.{eqb-true}
use Rattle.mt_types.specs.declared.refusal.Refusal.{Refusal}
use Rattle.mt_types.specs.declared.refusal.Refusal.TheVariants.{NoMemory, KeyTooLong, BadColumn, ColumnTooLong, BadLimit, ArenaFull, FeedFull, TooManyCalls, NoSuchCall, TooManyViews, NoSuchView, Behind, BadRange, Spent, WrongPass, OtherVersion}
use Rattle.mt_types.specs.declared.event.TidyRule.{TidyRule}
use Rattle.mt_types.specs.declared.event.TidyRule.TheVariants.{Nothing, EmptyBorder, LoneChild, LoneRootChild, EmptyLayer}
use Rattle.mt_types.specs.RefusalNumbers.{refusal_number, refusal_detail, refusal_of, if_no_detail}
use Rattle.mt_types.specs.TidyNumbers.{tidy_number, tidy_of}

-- the refusal of the number and the detail of a refusal is that refusal
pub refusal_back : (r : Refusal) → refusal_of (refusal_number r) (unwrap_or (refusal_detail r) 0) ≡ Some r
unfolding refusal_of
refusal_back NoMemory = refl
refusal_back _ = refl

some_same : {A : Type 0} (x y : A) → Some x ≡ Some y → x ≡ y
some_same x y e = cc

abbrev Has : ℕ → ℕ → Refusal → Type 0
Has number detail r = (refusal_number r ≡ number) × (unwrap_or (refusal_detail r) 0 ≡ detail)

chosen : (b : Bool) (x r : Refusal) → cond b (Some x) None ≡ Some r → (b ≡ true) × (x ≡ r)
chosen true x r e = (refl, cc)
chosen false x r e = absurd cc

no_detail_has : (x : Refusal) → refusal_detail x ≡ None → (d : ℕ) (r : Refusal) → if_no_detail x d ≡ Some r → Has (refusal_number x) d r
no_detail_has x none d r e =
    let p = chosen (eqb d 0) x r e in
    let is_zero : d ≡ 0 = eqb-true _ _ p.0 in
    subst (Has (refusal_number x) d) p.1 (refl, rw (none, is_zero) refl)

detail_has : (x : Refusal) (d : ℕ) → unwrap_or (refusal_detail x) 0 ≡ d → (r : Refusal) → Some x ≡ Some r → Has (refusal_number x) d r
detail_has x d is_detail r e = subst (Has (refusal_number x) d) (some_same x r e) (refl, is_detail)

-- a refusal of this number and detail has them
pub refusal_has : (n d : ℕ) (r : Refusal) → refusal_of n d ≡ Some r → (refusal_number r ≡ n) × (unwrap_or (refusal_detail r) 0 ≡ d)
unfolding refusal_of
refusal_has zero = λ d r e. absurd cc
refusal_has (suc zero) = no_detail_has NoMemory refl
refusal_has (suc (suc zero)) = no_detail_has KeyTooLong refl
refusal_has (suc (suc (suc zero))) = no_detail_has BadColumn refl
refusal_has (suc (suc (suc (suc zero)))) = no_detail_has ColumnTooLong refl
refusal_has (suc (suc (suc (suc (suc zero))))) = no_detail_has BadLimit refl
refusal_has (suc (suc (suc (suc (suc (suc zero)))))) = no_detail_has ArenaFull refl
refusal_has (suc (suc (suc (suc (suc (suc (suc zero))))))) = λ d. detail_has (FeedFull d) d refl
refusal_has (suc (suc (suc (suc (suc (suc (suc (suc zero)))))))) = no_detail_has TooManyCalls refl
refusal_has (suc (suc (suc (suc (suc (suc (suc (suc (suc zero))))))))) = no_detail_has NoSuchCall refl
refusal_has (suc (suc (suc (suc (suc (suc (suc (suc (suc (suc zero)))))))))) = no_detail_has TooManyViews refl
refusal_has (suc (suc (suc (suc (suc (suc (suc (suc (suc (suc (suc zero))))))))))) = no_detail_has NoSuchView refl
refusal_has (suc (suc (suc (suc (suc (suc (suc (suc (suc (suc (suc (suc zero)))))))))))) = λ d. detail_has (Behind d) d refl
refusal_has (suc (suc (suc (suc (suc (suc (suc (suc (suc (suc (suc (suc (suc zero))))))))))))) = no_detail_has BadRange refl
refusal_has (suc (suc (suc (suc (suc (suc (suc (suc (suc (suc (suc (suc (suc (suc zero)))))))))))))) = no_detail_has Spent refl
refusal_has (suc (suc (suc (suc (suc (suc (suc (suc (suc (suc (suc (suc (suc (suc (suc zero))))))))))))))) = no_detail_has WrongPass refl
refusal_has (suc (suc (suc (suc (suc (suc (suc (suc (suc (suc (suc (suc (suc (suc (suc (suc zero)))))))))))))))) = λ d. detail_has (OtherVersion d) d refl
refusal_has (suc (suc (suc (suc (suc (suc (suc (suc (suc (suc (suc (suc (suc (suc (suc (suc (suc n))))))))))))))))) = λ d r e. absurd cc

-- the rule of the number of a rule is that rule
pub tidy_back : (rule : TidyRule) → tidy_of (tidy_number rule) ≡ Some rule
unfolding tidy_of
tidy_back Nothing = refl
tidy_back _ = refl

-- a rule of this number has it
pub tidy_has : (n : ℕ) (rule : TidyRule) → tidy_of n ≡ Some rule → tidy_number rule ≡ n
unfolding tidy_of
tidy_has zero rule e = ap tidy_number (some_same rule Nothing (sym e))
tidy_has (suc zero) rule e = ap tidy_number (some_same rule EmptyBorder (sym e))
tidy_has (suc (suc zero)) rule e = ap tidy_number (some_same rule LoneChild (sym e))
tidy_has (suc (suc (suc zero))) rule e = ap tidy_number (some_same rule LoneRootChild (sym e))
tidy_has (suc (suc (suc (suc zero)))) rule e = ap tidy_number (some_same rule EmptyLayer (sym e))
tidy_has (suc (suc (suc (suc (suc n))))) rule e = absurd cc
