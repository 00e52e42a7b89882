-- Histories and commits that grow by one.
use Rattle.std.proofs.Common.{◌≡◌, ◌≤◌, ◌+◌, ℕ, suc, List, [], ◌∷◌, ◌++◌, length, ◌∙◌, ap, refl, arith, inl, inr}
use Rattle.mt_types.specs.declared.row.Change.{Change}
use Rattle.mt_types.specs.Rows.{Rows, after, after_from, after_change}
use Rattle.mt_promise.specs.History.{History, Moment, moment, Sometime, Throughout, GoesOn}
use Rattle.mt_types.specs.declared.event.Event.{Event}
use Rattle.mt_types.specs.declared.event.Outcome.{Outcome}

-- one more commit
pub after_from-append : (C n : ℕ) (rows : Rows) (cs : List Change) (c : Change)
    → after_from C n rows (cs ++ c ∷ []) ≡ after_change C (n + length cs + 1) c (after_from C n rows cs)
after_from-append C n rows [] c = let e : n + 1 ≡ n + 0 + 1 = omega arith in ap (λ k. after_change C k c rows) e
after_from-append C n rows (d ∷ cs) c =
    let e : n + 1 + length cs + 1 ≡ n + suc (length cs) + 1 = omega arith in
    after_from-append C (n + 1) (after_change C (n + 1) d rows) cs c
    ∙ ap (λ k. after_change C k c (after_from C (n + 1) (after_change C (n + 1) d rows) cs)) e

pub after-append : (C : ℕ) (cs : List Change) (c : Change) → after C (cs ++ c ∷ []) ≡ after_change C (length cs + 1) c (after C cs)
after-append C cs c =
    let e : 0 + length cs + 1 ≡ length cs + 1 = omega arith in
    after_from-append C 0 _ cs c ∙ ap (λ k. after_change C k c (after C cs)) e

-- what is so now is so at some moment
pub Sometime-here : (began : ℕ) (P : Moment → Type 0) (h : History) → began ≤ length h → P (moment h) → Sometime began P h
Sometime-here began P [] b p = (b, p)
Sometime-here began P (x ∷ h) b p = inl (b, p)

-- what is so throughout is so now
pub Throughout-here : (began : ℕ) (P : Moment → Type 0) (h : History) → began ≤ length h → Throughout began P h → P (moment h)
Throughout-here began P [] b t = t b
Throughout-here began P (x ∷ h) b t = t.0 b

-- nothing is so at some moment that is so at none
pub Throughout-not : (began : ℕ) (P : Moment → Type 0) (h : History) → Throughout began (λ m. P m → ⊥) h → Sometime began P h → ⊥
Throughout-not began P [] t s = t s.0 s.1
Throughout-not began P (x ∷ h) t s = elim s [ inl p ↦ t.0 p.0 p.1 | inr p ↦ Throughout-not began P h t.1 p ]

-- the same by an end of the history: what had happened by then
pub Sometime-end : (began : ℕ) (P : Moment → Type 0) (h : History) → Sometime began P h
    → (newer past : History) × (h ≡ newer ++ past) × (began ≤ length past) × P (moment past)
Sometime-end began P [] s = ([], [], refl, s.0, s.1)
Sometime-end began P (x ∷ h) s =
    elim s [
      | inl p ↦ ([], x ∷ h, refl, p.0, p.1)
      | inr p ↦ let r = Sometime-end began P h p in (x ∷ r.0, r.1, ap (λ (t : History). x ∷ t) r.2, r.3, r.4)
    ]

pub happened_is : (h : History) → (moment h).happened ≡ length h
happened_is [] = refl
happened_is (x ∷ h) = refl

-- one more event
pub GoesOn-append : (past h : History) (es : List Event) (os : List Outcome) (e : Event) (o : Outcome) (opens : ℕ)
    → GoesOn past es os h → GoesOn past (es ++ e ∷ []) (os ++ o ∷ []) (record { event = e; outcome = o; opens = opens } ∷ h)
GoesOn-append past h [] [] e o opens g = (opens, ap (λ (t : History). record { event = e; outcome = o; opens = opens } ∷ t) g)
GoesOn-append past h (d ∷ es) (p ∷ os) e o opens g = (g.0, GoesOn-append _ h es os e o opens g.1)
GoesOn-append past h [] (p ∷ os) e o opens g = absurd g
GoesOn-append past h (d ∷ es) [] e o opens g = absurd g

-- there are as many outcomes as events
pub GoesOn-length : (past h : History) (es : List Event) (os : List Outcome) → GoesOn past es os h → length os ≡ length es
GoesOn-length past h [] [] g = refl
GoesOn-length past h (d ∷ es) (p ∷ os) g = ap (λ n. suc n) (GoesOn-length _ h es os g.1)
GoesOn-length past h [] (p ∷ os) g = absurd g
GoesOn-length past h (d ∷ es) [] g = absurd g
