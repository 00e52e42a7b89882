-- How often each number is among the holders.
use Rattle.std.proofs.Common.{◌≡◌, ℕ, suc, ◌+◌, ◌-◌, ◌<◌, ◌≤◌, ◌≢◌, true, false, cond, List, [], ◌∷◌, ap, sym, refl, ◌∙◌, inl, inr, arith}
use Rattle.std.specs.Prelude.{nat_le, ◌==◌}
use Rattle.std.specs.List.{AllByRecursion}
use Rattle.std.proofs.lemmas.Bool.Decides.{eqb_tells}
use Rattle.std.proofs.lemmas.List.Sums.{sum_by-cons}
use Rattle.mt_types.specs.Numbers.{least}
use Rattle.mt_commit.specs.Holders.{with_holder, without_holder}
use Rattle.mt_commit.specs.Laws.{times_held, PinningCounts, UnpinningCounts, CountedIsHeld, LeastIsByCounts}
use Rattle.mt_commit.proofs.LogLemmas.{least_within, least_from, least_below}

-- whether a is b, as a number
abbrev one_if : ℕ → ℕ → ℕ
one_if a b = cond (a == b) 1 0

times-cons : (number holder : ℕ) (holders : List ℕ) → times_held number (holder ∷ holders) ≡ one_if holder number + times_held number holders
times-cons number holder holders = sum_by-cons (λ h. one_if h number) holder holders

pub pinning_counts : PinningCounts
pinning_counts pinned number [] = omega arith
pinning_counts pinned number (holder ∷ holders) =
    let k = pinning_counts pinned number holders in
    let first = times-cons number pinned (holder ∷ holders) in
    let old = times-cons number holder holders in
    let new = times-cons number holder (with_holder pinned holders) in
    elim (nat_le pinned holder) as (λ b. times_held number (cond b (pinned ∷ holder ∷ holders) (holder ∷ with_holder pinned holders))
    ≡ times_held number (holder ∷ holders) + one_if pinned number) [
      | true ↦ let e : times_held number (pinned ∷ holder ∷ holders) ≡ times_held number (holder ∷ holders) + one_if pinned number = omega arith in e
      | false ↦ let e : times_held number (holder ∷ with_holder pinned holders) ≡ times_held number (holder ∷ holders) + one_if pinned number = omega arith in e
    ]

-- the holder that is found is the number
found_one : (unpinned number holder rest : ℕ) → holder ≡ unpinned → rest ≡ one_if holder number + rest - one_if unpinned number
found_one unpinned number holder rest e = let same : one_if holder number ≡ one_if unpinned number = ap (λ h. one_if h number) e in omega arith

-- the number is not a holder that differs from it
other_one : (unpinned number holder rest less : ℕ) → holder ≢ unpinned → less ≡ rest - one_if unpinned number
    → one_if holder number + less ≡ one_if holder number + rest - one_if unpinned number
other_one unpinned number holder rest less ne e =
    elim (eqb_tells unpinned number) [
      | inl p ↦ elim (eqb_tells holder number) [
        | inl q ↦ absurd (ne (q.1 ∙ sym p.1))
        | inr q ↦ let none : one_if holder number ≡ 0 = ap (λ b. cond b 1 0) q.0 in omega arith
      ]
      | inr p ↦ let none : one_if unpinned number ≡ 0 = ap (λ b. cond b 1 0) p.0 in omega arith
    ]

pub unpinning_counts : UnpinningCounts
unpinning_counts unpinned number [] = omega arith
unpinning_counts unpinned number (holder ∷ holders) =
    let k = unpinning_counts unpinned number holders in
    elim (eqb_tells holder unpinned) [
      | inl p ↦
          ap (λ b. times_held number (cond b holders (holder ∷ without_holder unpinned holders))) p.0
          ∙ found_one unpinned number holder (times_held number holders) p.1
          ∙ ap (λ n. n - one_if unpinned number) (sym (times-cons number holder holders))
      | inr p ↦
          ap (λ b. times_held number (cond b holders (holder ∷ without_holder unpinned holders))) p.0
          ∙ times-cons number holder (without_holder unpinned holders)
          ∙ other_one unpinned number holder (times_held number holders) (times_held number (without_holder unpinned holders)) p.1 k
          ∙ ap (λ n. n - one_if unpinned number) (sym (times-cons number holder holders))
    ]

pub counted_is_held : CountedIsHeld
counted_is_held number [] h = absurd (omega arith)
counted_is_held number (holder ∷ holders) h =
    elim (eqb_tells holder number) [
      | inl p ↦ (0, omega arith, p.1)
      | inr p ↦
          let none : one_if holder number ≡ 0 = ap (λ b. cond b 1 0) p.0 in
          let rest = counted_is_held number holders (omega (arith, times-cons number holder holders)) in
          (suc rest.0, omega (arith, rest.1), rest.2)
    ]

-- a bound of the numbers that are held is one of the holders
bound_from_counts : (low : ℕ) (holders : List ℕ) → ((number : ℕ) → 0 < times_held number holders → low ≤ number) → AllByRecursion (λ n. low ≤ n) holders
bound_from_counts low [] h = tt
bound_from_counts low (holder ∷ holders) h =
    let one : one_if holder holder ≡ 1 = elim (eqb_tells holder holder) [ inl p ↦ ap (λ b. cond b 1 0) p.0 | inr p ↦ absurd (p.1 refl) ] in
    (h holder (omega (arith, times-cons holder holder holders)), bound_from_counts low holders (λ n held. h n (omega (arith, held, times-cons n holder holders))))

bound_of_counted : (low : ℕ) (holders : List ℕ) → AllByRecursion (λ n. low ≤ n) holders → (number : ℕ) → 0 < times_held number holders → low ≤ number
bound_of_counted low [] all number h = absurd (omega arith)
bound_of_counted low (holder ∷ holders) all number h =
    elim (eqb_tells holder number) [
      | inl p ↦ let bound = all.0 in omega (arith, p.1, bound)
      | inr p ↦ let none : one_if holder number ≡ 0 = ap (λ b. cond b 1 0) p.0 in bound_of_counted low holders all.1 number (omega (arith, times-cons number holder holders))
    ]

least_upto : (most : ℕ) (holders others : List ℕ) → ((number : ℕ) → times_held number holders ≡ times_held number others) → least most holders ≤ least most others
least_upto most holders others same =
    least_from (least most holders) most others (least_within most holders)
    (bound_from_counts (least most holders) others (λ n held.
    bound_of_counted (least most holders) holders (least_below most holders) n (omega (arith, same n, held))))

pub least_is_by_counts : LeastIsByCounts
least_is_by_counts most holders others same =
    omega (arith, least_upto most holders others same, least_upto most others holders (λ n. sym (same n)))
