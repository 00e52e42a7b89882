-- How many events a run counts.
use Rattle.std.proofs.Common.{arith, ap, ◌≡◌, ◌+◌, ◌≤◌, ◌<◌, ◌∙◌, ℕ, refl, Bool, true, false, ◌||◌, eqb, ◌⊎◌, inl, inr, suc}
use Rattle.std.specs.Prelude.{max, min}
use Rattle.std.proofs.lemmas.Bool.{eq-eqb}
use Rattle.std.proofs.lemmas.Bool.Decides.{leb_tells}
use Rattle.mt_types.specs.Numbers.{greatest_number}
use Rattle.mt_types.specs.declared.event.Event.{Event}
use Rattle.mt_types.specs.declared.event.Outcome.{Outcome}
use Rattle.mt_shared.specs.Passes.{PassView, IsTold}

-- ---- how many events a run counts
pub told_events : (p : PassView) (e : Event) (o : Outcome) (q : PassView) → IsTold p e o q → q.events ≤ p.events + 1
told_events p e o q told = elim told [
  | inl unmade ↦ (let same = ap (λ (x : PassView). x.events) unmade.1 in omega (arith, same))
  | inr made ↦ (let more = made.0.events in omega (arith, more))
]

or_true : (b : Bool) → (b || true) ≡ true
or_true true = refl
or_true false = refl

-- a run after which the call continues at once has made all the events that it may, or no more can be counted
pub runs_fully : (here there most room least steps : ℕ) → least ≡ min most room → (room ≡ 0 → ⊥) → (steps < least → ⊥) → steps ≤ max 1 least → (here + room ≡ greatest_number) ⊎ (there + room ≡ greatest_number)
    → (there + most ≤ there + steps) ⊎ ((eqb (here + steps) greatest_number || eqb (there + steps) greatest_number) ≡ true)
runs_fully here there most room least steps is some long few at = elim (leb_tells most steps) [
  | inl enough ↦ inl (let e = enough.1 in omega (arith, e))
  | inr short ↦ inr (spent (all short.1) at)
]
  where
    -- it has made as many as there was room for
    all : steps < most → steps ≡ room
    all short = elim (leb_tells (suc steps) least) [
      | inl less ↦ absurd (long less.1)
      | inr more ↦ elim (leb_tells 1 room) [
        | inl one ↦ (let a = more.1 in let b = one.1 in omega (arith, short, few, is, a, b))
        | inr none ↦ absurd (some (let a = none.1 in omega (arith, a)))
      ]
    ]

    spent : steps ≡ room → (here + room ≡ greatest_number) ⊎ (there + room ≡ greatest_number) → (eqb (here + steps) greatest_number || eqb (there + steps) greatest_number) ≡ true
    spent same (inl e) = ap (λ (b : Bool). b || eqb (there + steps) greatest_number) (eq-eqb (here + steps) greatest_number (ap (λ (n : ℕ). here + n) same ∙ e))
    spent same (inr e) = ap (λ (b : Bool). eqb (here + steps) greatest_number || b) (eq-eqb (there + steps) greatest_number (ap (λ (n : ℕ). there + n) same ∙ e)) ∙ or_true (eqb (here + steps) greatest_number)
