-- Receipts judged one after the other: marks of what they claim, and the first that breaks a rule.
use Rattle.std.proofs.Common.{◌≡◌, ◌≢◌, ◌≤◌, ◌<◌, ℕ, zero, suc, ◌+◌, ◌-◌, Bool, true, false, List, [], ◌∷◌, ◌++◌, take, length, get_or, set, Some, None, refl, ap, sym, ◌∙◌, subst, arith, inl, inr, ◌⊎◌, get_or-set_same, get_or-set_other}
use Rattle.std.specs.Prelude.{slice_get, Result, Ok, Err, All, OnOk, IfErr}
use Rattle.std.proofs.Math.ListN.{length-set}
use Rattle.std.proofs.lemmas.Bool.Decides.{eqb_tells}
use Rattle.std.proofs.lemmas.Option.{slice_get_within, slice_get-get_or}
use Rattle.mt_types.specs.declared.row.Delta.{Delta}
use Rattle.mt_check.specs.declared.receipt.Receipt.{Receipt}
use Rattle.mt_check.specs.declared.fault.Rule.{Rule}
use Rattle.mt_check.specs.declared.fault.Fault.{Fault}
use Rattle.mt_check.specs.Receipts.{IsSound, IsSoundLog, claim, IsClaimed, ClaimsAgain, NoneClaimsAgain}
use Rattle.mt_check.specs.Faults.{ReceiptBreaks, DeltaBreaks, IsSmallest, AreClean, IsFirstFault, IsFirstReceiptFault, IsWantOfMemory}
use Rattle.mt_check.specs.Judging.{AreClaims, AreRight}
use Rattle.mt_check.proofs.JudgeLemmas.{sound_unbroken}

at_front : {X : Type 0} (xs : List X) (y x : X) (i : ℕ) → slice_get xs i ≡ Some x → slice_get (xs ++ y ∷ []) i ≡ Some x
at_front [] y x i e = cc
at_front (z ∷ xs) y x zero e = e
at_front (z ∷ xs) y x (suc i) e = at_front xs y x i e

at_last : {X : Type 0} (xs : List X) (y : X) → slice_get (xs ++ y ∷ []) (length xs) ≡ Some y
at_last [] y = refl
at_last (z ∷ xs) y = at_last xs y

front_or_last : {X : Type 0} (xs : List X) (y x : X) (i : ℕ) → slice_get (xs ++ y ∷ []) i ≡ Some x → (slice_get xs i ≡ Some x) ⊎ (x ≡ y)
front_or_last [] y x zero e = inr (let same : y ≡ x = cc in sym same)
front_or_last [] y x (suc i) e = cc
front_or_last (z ∷ xs) y x zero e = inl e
front_or_last (z ∷ xs) y x (suc i) e = front_or_last xs y x i e

claimed_more : (receipts : List Receipt) (r : Receipt) (number : ℕ) → IsClaimed (receipts ++ r ∷ []) number → IsClaimed receipts number ⊎ (claim r ≡ Some number)
claimed_more receipts r number c =
    elim (front_or_last receipts r c.1 c.0 c.2) [
      | inl front ↦ inl (c.0, c.1, front, c.3)
      | inr last_one ↦ inr (ap claim (sym last_one) ∙ c.3)
    ]

claimed_before : (receipts : List Receipt) (r : Receipt) (number : ℕ) → IsClaimed receipts number → IsClaimed (receipts ++ r ∷ []) number
claimed_before receipts r number c = (c.0, c.1, at_front receipts r c.1 c.0 c.2, c.3)

-- the number that a receipt claims is marked
pub marked : (receipts : List Receipt) (r : Receipt) (marks : List Bool) (n : ℕ) → claim r ≡ Some n → 0 < n → n ≤ length marks → AreClaims receipts marks
    → AreClaims (receipts ++ r ∷ []) (set marks (n - 1) true)
marked receipts r marks n e above upto were number low high =
    let size : length (set marks (n - 1) true) ≡ length marks = length-set marks (n - 1) true in
    elim (eqb_tells number n) [
      | inl p ↦
          let here : number - 1 ≡ n - 1 = ap (λ (k : ℕ). k - 1) p.1 in
          let below : n - 1 < length marks = omega arith in
          let same : get_or (set marks (n - 1) true) (n - 1) false ≡ true = get_or-set_same marks (n - 1) true false below in (
            λ _. (length receipts, r, at_last receipts r, e ∙ ap Some (sym p.1)),
            λ _. ap (λ (k : ℕ). get_or (set marks (n - 1) true) k false) here ∙ same,
          )
      | inr p ↦
          let ne = p.1 in
          let apart : number - 1 ≢ n - 1 = λ f. ne (omega (arith, f)) in
          let same : get_or (set marks (n - 1) true) (number - 1) false ≡ get_or marks (number - 1) false = get_or-set_other marks (n - 1) (number - 1) true false apart in
          let was = were number low (omega (arith, size, high)) in (
            λ t. claimed_before receipts r number (was.0 (sym same ∙ t)),
            λ c. elim (claimed_more receipts r number c) [
              | inl before ↦ same ∙ was.1 before
              | inr claims ↦ let both : n ≡ number = cc in absurd (ne (sym both))
            ],
          )
    ]

-- a receipt that claims nothing
pub unmarked : (receipts : List Receipt) (r : Receipt) (marks : List Bool) → claim r ≡ None → AreClaims receipts marks → AreClaims (receipts ++ r ∷ []) marks
unmarked receipts r marks e were number low high =
    let was = were number low high in (
      λ t. claimed_before receipts r number (was.0 t),
      λ c. elim (claimed_more receipts r number c) [
        | inl before ↦ was.1 before
        | inr claims ↦ cc
      ],
    )

take_next : (receipts : List Receipt) (i : ℕ) (r : Receipt) → slice_get receipts i ≡ Some r → take (suc i) receipts ≡ take i receipts ++ r ∷ []
take_next [] i r e = cc
take_next (x ∷ receipts) zero r e = let same : x ≡ r = cc in ap (λ (y : Receipt). y ∷ []) same
take_next (x ∷ receipts) (suc i) r e = ap (λ (rs : List Receipt). x ∷ rs) (take_next receipts i r e)

-- the marks of one receipt more
pub claims_more : (receipts : List Receipt) (i : ℕ) (r : Receipt) (marks : List Bool) → slice_get receipts i ≡ Some r → AreClaims (take i receipts ++ r ∷ []) marks → AreClaims (take (i + 1) receipts) marks
claims_more receipts i r marks at h =
    let next : i + 1 ≡ suc i = omega arith in
    subst (λ (rs : List Receipt). AreClaims rs marks) (sym (ap (λ (n : ℕ). take n receipts) next ∙ take_next receipts i r at)) h

-- one receipt more is right
pub right_more : (C : ℕ) (deltas : List Delta) (receipts : List Receipt) (i : ℕ) (r : Receipt) → AreRight C deltas receipts i → slice_get receipts i ≡ Some r → IsSound C deltas r
    → (ClaimsAgain (take i receipts) r → ⊥) → AreRight C deltas receipts (i + 1)
right_more C deltas receipts i r right at sound once j s below found =
    elim (eqb_tells j i) [
      | inl p ↦
          let here : slice_get receipts i ≡ Some s = subst (λ (k : ℕ). slice_get receipts k ≡ Some s) p.1 found in
          let same : r ≡ s = cc in
          subst (λ (k : ℕ). IsSound C deltas s × (ClaimsAgain (take k receipts) s → ⊥)) (sym p.1)
          (subst (λ (x : Receipt). IsSound C deltas x × (ClaimsAgain (take i receipts) x → ⊥)) same (sound, once))
      | inr p ↦ right j s (let apart = p.1 in omega (arith, apart)) found
    ]

right_clean : (C : ℕ) (deltas : List Delta) (receipts : List Receipt) (i : ℕ) → AreRight C deltas receipts i → AreClean (ReceiptBreaks C deltas) receipts i
right_clean C deltas receipts i right j r rule below at broken =
    let fine = right j r below at in
    sound_unbroken C deltas (take j receipts) r rule fine.0 fine.1 broken

-- the first receipt that breaks a rule
pub first_broken : (C : ℕ) (deltas : List Delta) (receipts : List Receipt) (i : ℕ) (r : Receipt) (rule : Rule) → AreRight C deltas receipts i → slice_get receipts i ≡ Some r
    → IsSmallest (ReceiptBreaks C deltas (take i receipts) r) rule → IsFirstFault (ReceiptBreaks C deltas) receipts (record { index = i + 1; rule = rule })
first_broken C deltas receipts i r rule right at small =
    let place : i + 1 - 1 ≡ i = omega arith in
    record {
      line = r;
      there = omega arith;
      at = ap (slice_get receipts) place ∙ at;
      smallest = subst (λ (p : ℕ). IsSmallest (ReceiptBreaks C deltas (take p receipts) r) rule) (sym place) small;
      first = subst (λ (p : ℕ). AreClean (ReceiptBreaks C deltas) receipts p) (sym place) (right_clean C deltas receipts i right);
    }

-- what a run through all receipts says
pub all_sound : (C : ℕ) (deltas : List Delta) (receipts : List Receipt) (r : Result (Unit {0}) Fault) → OnOk r (AreRight C deltas receipts (length receipts)) → OnOk r (All (IsSound C deltas) receipts)
all_sound C deltas receipts (Ok done) right = λ k d h. (right k (get_or receipts k d) h (slice_get-get_or receipts k d h)).0
all_sound C deltas receipts (Err fault) right = tt

pub none_again : (C : ℕ) (deltas : List Delta) (receipts : List Receipt) (r : Result (Unit {0}) Fault) → OnOk r (AreRight C deltas receipts (length receipts)) → OnOk r (NoneClaimsAgain receipts)
none_again C deltas receipts (Ok done) right = λ i x at. (right i x (slice_get_within receipts i x at) at).1
none_again C deltas receipts (Err fault) right = tt

pub whole_log : (deltas : List Delta) (r : Result (Unit {0}) Fault) → IsSoundLog deltas → OnOk r (IsSoundLog deltas)
whole_log deltas (Ok done) sound = sound
whole_log deltas (Err fault) sound = tt

pub first_fault : (C : ℕ) (deltas : List Delta) (receipts : List Receipt) (r : Result (Unit {0}) Fault) → IsSoundLog deltas
    → IfErr r (λ fault. IsWantOfMemory fault ⊎ IsFirstFault (ReceiptBreaks C deltas) receipts fault)
    → IfErr r (λ fault. IsWantOfMemory fault ⊎ IsFirstFault DeltaBreaks deltas fault ⊎ IsFirstReceiptFault C deltas receipts fault)
first_fault C deltas receipts (Ok done) sound h = tt
first_fault C deltas receipts (Err fault) sound h = elim h [ inl memory ↦ inl memory | inr broken ↦ inr (inr (sound, broken)) ]
