-- The list of open calls: what is in it after a change, and the sum of a number of each call.
use Rattle.std.proofs.Common.{ℕ, ◌≡◌, ◌≢◌, ◌≤◌, ◌+◌, ◌⊎◌, inl, inr, [], ◌∷◌, ◌++◌, Some, refl, sym, ap, subst, ◌∙◌, arith}
use Rattle.std.proofs.lemmas.Bool.Decides.{eqb_tells}
use Rattle.mt_chart.specs.Tree.{Among, first, later}
use Rattle.mt_chart.proofs.Entries.{among_cases}
use Rattle.mt_index.specs.declared.calls.Call.{Call}
use Rattle.mt_works.specs.Works.{held}
use Rattle.mt_works.specs.declared.work.Work.{Work}
use Rattle.mt_index.specs.Calls.{call_at, with_changed, with_work, without, total, BeganInOrder}
use Rattle.mt_index.proofs.NumberLemmas.{Entries, found-here, found-there, changed-here, changed-there, without-here, without-there}

abbrev pub reserves : Call → ℕ
reserves call = (held call.work).reserves

-- ---- a call of the list is changed, or ends
module _ (n : ℕ) (kept : Call) where
  -- what is in it then was in it before, or is the changed call
  pub among_changed : (change : Call → Call) (ks : Entries) → call_at n ks ≡ Some kept → (j : ℕ × Call) → Among j (with_changed change n ks) → Among j ks ⊎ (j ≡ (n, change kept))
  among_changed change [] at j i = elim i [ ]
  among_changed change (k ∷ ks) at j i = elim (eqb_tells k.0 n) [
    | inl p ↦ elim (among_cases j (k.0, change k.1) ks (subst (λ (l : Entries). Among j l) (changed-here n k ks p.0 change) i)) [
      | inl e ↦ inr (e ∙ (ap (λ (m : ℕ). (m, change k.1)) p.1 ∙ ap (λ (c : Call). (n, change c)) (found-here n k ks p.0 kept at)))
      | inr more ↦ inl (later more)
    ]
    | inr p ↦ elim (among_cases j k (with_changed change n ks) (subst (λ (l : Entries). Among j l) (changed-there n k ks p.0 change) i)) [
      | inl e ↦ inl (subst (λ (z : ℕ × Call). Among z (k ∷ ks)) (sym e) first)
      | inr more ↦ elim (among_changed change ks (found-there n k ks p.0 kept at) j more) [ inl old ↦ inl (later old) | inr new ↦ inr new ]
    ]
  ]

  pub among_new : (change : Call → Call) (ks : Entries) → call_at n ks ≡ Some kept → Among (n, change kept) (with_changed change n ks)
  among_new change [] at = absurd (cc)
  among_new change (k ∷ ks) at = elim (eqb_tells k.0 n) [
    | inl p ↦ (let new : (k.0, change k.1) ≡ (n, change kept) = ap (λ (m : ℕ). (m, change k.1)) p.1 ∙ ap (λ (c : Call). (n, change c)) (found-here n k ks p.0 kept at) in
        subst (λ (l : Entries). Among (n, change kept) l) (sym (changed-here n k ks p.0 change)) (subst (λ (z : ℕ × Call). Among z ((k.0, change k.1) ∷ ks)) new first))
    | inr p ↦ subst (λ (l : Entries). Among (n, change kept) l) (sym (changed-there n k ks p.0 change)) (later (among_new change ks (found-there n k ks p.0 kept at)))
  ]

  pub among_at : (ks : Entries) → call_at n ks ≡ Some kept → Among (n, kept) ks
  among_at [] at = absurd (cc)
  among_at (k ∷ ks) at = elim (eqb_tells k.0 n) [
    | inl p ↦ (let same : k ≡ (n, kept) = ap (λ (m : ℕ). (m, k.1)) p.1 ∙ ap (λ (c : Call). (n, c)) (found-here n k ks p.0 kept at) in
        subst (λ (z : ℕ × Call). Among z (k ∷ ks)) same first)
    | inr p ↦ later (among_at ks (found-there n k ks p.0 kept at))
  ]

  -- the sum of a number of each
  pub total_changed : (f : Call → ℕ) (change : Call → Call) (ks : Entries) → call_at n ks ≡ Some kept → total f (with_changed change n ks) + f kept ≡ total f ks + f (change kept)
  total_changed f change [] at = absurd (cc)
  total_changed f change (k ∷ ks) at = elim (eqb_tells k.0 n) [
    | inl p ↦ (let list = ap (total f) (changed-here n k ks p.0 change) in let same = found-here n k ks p.0 kept at in
        let old = ap f same in let new = ap (λ (c : Call). f (change c)) same in omega (arith, list, old, new))
    | inr p ↦ (let list = ap (total f) (changed-there n k ks p.0 change) in
        let rest = total_changed f change ks (found-there n k ks p.0 kept at) in omega (arith, list, rest))
  ]

  pub total_without : (f : Call → ℕ) (ks : Entries) → call_at n ks ≡ Some kept → total f (without n ks) + f kept ≡ total f ks
  total_without f [] at = absurd (cc)
  total_without f (k ∷ ks) at = elim (eqb_tells k.0 n) [
    | inl p ↦ (let list = ap (total f) (without-here n k ks p.0) in let old = ap f (found-here n k ks p.0 kept at) in omega (arith, list, old))
    | inr p ↦ (let list = ap (total f) (without-there n k ks p.0) in let rest = total_without f ks (found-there n k ks p.0 kept at) in omega (arith, list, rest))
  ]

-- ---- what stays in the list
module _ (n : ℕ) where
  pub among_kept : (change : Call → Call) (ks : Entries) (k : ℕ × Call) → Among k ks → k.0 ≢ n → Among k (with_changed change n ks)
  among_kept change [] k i ne = elim i [ ]
  among_kept change (j ∷ ks) k i ne = elim (eqb_tells j.0 n) [
    | inl p ↦ subst (λ (l : Entries). Among k l) (sym (changed-here n j ks p.0 change))
        (elim (among_cases k j ks i) [ inl e ↦ absurd (ne (ap (λ (z : ℕ × Call). z.0) e ∙ p.1)) | inr more ↦ later more ])
    | inr p ↦ subst (λ (l : Entries). Among k l) (sym (changed-there n j ks p.0 change))
        (elim (among_cases k j ks i) [ inl e ↦ subst (λ (z : ℕ × Call). Among z (j ∷ with_changed change n ks)) (sym e) first | inr more ↦ later (among_kept change ks k more ne) ])
  ]

  pub among_left : (ks : Entries) (k : ℕ × Call) → Among k ks → k.0 ≢ n → Among k (without n ks)
  among_left [] k i ne = elim i [ ]
  among_left (j ∷ ks) k i ne = elim (eqb_tells j.0 n) [
    | inl p ↦ subst (λ (l : Entries). Among k l) (sym (without-here n j ks p.0))
        (elim (among_cases k j ks i) [ inl e ↦ absurd (ne (ap (λ (z : ℕ × Call). z.0) e ∙ p.1)) | inr more ↦ more ])
    | inr p ↦ subst (λ (l : Entries). Among k l) (sym (without-there n j ks p.0))
        (elim (among_cases k j ks i) [ inl e ↦ subst (λ (z : ℕ × Call). Among z (j ∷ without n ks)) (sym e) first | inr more ↦ later (among_left ks k more ne) ])
  ]

  -- nothing new is in it after one has ended
  pub among_without : (ks : Entries) (j : ℕ × Call) → Among j (without n ks) → Among j ks
  among_without [] j i = elim i [ ]
  among_without (k ∷ ks) j i = elim (eqb_tells k.0 n) [
    | inl p ↦ later (subst (λ (l : Entries). Among j l) (without-here n k ks p.0) i)
    | inr p ↦ elim (among_cases j k (without n ks) (subst (λ (l : Entries). Among j l) (without-there n k ks p.0) i)) [
      | inl e ↦ subst (λ (z : ℕ × Call). Among z (k ∷ ks)) (sym e) first
      | inr more ↦ later (among_without ks j more)
    ]
  ]

-- what is at the number of a call that is changed
pub changed_at : (change : Call → Call) (n : ℕ) (kept new : Call) (ks : Entries) → call_at n ks ≡ Some kept → call_at n (with_changed change n ks) ≡ Some new → new ≡ change kept
changed_at change n kept new [] at now = absurd (cc)
changed_at change n kept new (k ∷ ks) at now = elim (eqb_tells k.0 n) [
  | inl p ↦ sym (found-here n (k.0, change k.1) ks p.0 new (ap (call_at n) (sym (changed-here n k ks p.0 change)) ∙ now)) ∙ ap change (found-here n k ks p.0 kept at)
  | inr p ↦ changed_at change n kept new ks (found-there n k ks p.0 kept at) (found-there n k (with_changed change n ks) p.0 new (ap (call_at n) (sym (changed-there n k ks p.0 change)) ∙ now))
]

-- a call that is changed and then ends has ended
pub without_changed : (change : Call → Call) (n : ℕ) (ks : Entries) → without n (with_changed change n ks) ≡ without n ks
without_changed change n [] = refl
without_changed change n (k ∷ ks) = elim (eqb_tells k.0 n) [
  | inl p ↦ ap (without n) (changed-here n k ks p.0 change) ∙ without-here n (k.0, change k.1) ks p.0 ∙ sym (without-here n k ks p.0)
  | inr p ↦ ap (without n) (changed-there n k ks p.0 change) ∙ without-there n k (with_changed change n ks) p.0
      ∙ ap (λ (l : Entries). k ∷ l) (without_changed change n ks) ∙ sym (without-there n k ks p.0)
]

-- ---- one call more, at the end
pub among_append : (ks : Entries) (new j : ℕ × Call) → Among j (ks ++ new ∷ []) → Among j ks ⊎ (j ≡ new)
among_append [] new j i = elim (among_cases j new [] i) [ inl e ↦ inr e | inr more ↦ elim more [ ] ]
among_append (k ∷ ks) new j i = elim (among_cases j k (ks ++ new ∷ []) i) [
  | inl e ↦ inl (subst (λ (z : ℕ × Call). Among z (k ∷ ks)) (sym e) first)
  | inr more ↦ elim (among_append ks new j more) [ inl old ↦ inl (later old) | inr e ↦ inr e ]
]

pub total_append : (f : Call → ℕ) (ks : Entries) (new : ℕ × Call) → total f (ks ++ new ∷ []) ≡ total f ks + f new.1
total_append f [] new = omega arith
total_append f (k ∷ ks) new = let rest = total_append f ks new in omega (arith, rest)

pub among_before : (ks : Entries) (new k : ℕ × Call) → Among k ks → Among k (ks ++ new ∷ [])
among_before [] new k i = elim i [ ]
among_before (j ∷ ks) new k first = first
among_before (j ∷ ks) new k (later i) = later (among_before ks new k i)

-- ---- the epochs in which the calls began rise with their numbers
order_weaker : (least lower : ℕ) (ks : Entries) → lower ≤ least → BeganInOrder least ks → BeganInOrder lower ks
order_weaker least lower [] less order = tt
order_weaker least lower (k ∷ ks) less order = (let from = order.0 in omega (arith, less, from), order.1)

pub order_append : (least : ℕ) (ks : Entries) (new : ℕ × Call) → BeganInOrder least ks → least ≤ new.1.epoch → ((k : ℕ × Call) → Among k ks → k.1.epoch ≤ new.1.epoch) → BeganInOrder least (ks ++ new ∷ [])
order_append least [] new order from all = (from, tt)
order_append least (k ∷ ks) new order from all = (order.0, order_append k.1.epoch ks new order.1 (all k first) (λ j i. all j (later i)))

pub order_changed : (work : Work) (n least : ℕ) (ks : Entries) → BeganInOrder least ks → BeganInOrder least (with_changed (with_work work) n ks)
order_changed work n least [] order = tt
order_changed work n least (k ∷ ks) order = elim (eqb_tells k.0 n) [
  | inl p ↦ subst (λ (l : Entries). BeganInOrder least l) (sym (changed-here n k ks p.0 (with_work work))) order
  | inr p ↦ subst (λ (l : Entries). BeganInOrder least l) (sym (changed-there n k ks p.0 (with_work work))) (order.0, order_changed work n k.1.epoch ks order.1)
]

pub order_without : (n least : ℕ) (ks : Entries) → BeganInOrder least ks → BeganInOrder least (without n ks)
order_without n least [] order = tt
order_without n least (k ∷ ks) order = elim (eqb_tells k.0 n) [
  | inl p ↦ subst (λ (l : Entries). BeganInOrder least l) (sym (without-here n k ks p.0)) (order_weaker k.1.epoch least ks order.0 order.1)
  | inr p ↦ subst (λ (l : Entries). BeganInOrder least l) (sym (without-there n k ks p.0)) (order.0, order_without n k.1.epoch ks order.1)
]

pub order_from : (least : ℕ) (ks : Entries) → BeganInOrder least ks → (k : ℕ × Call) → Among k ks → least ≤ k.1.epoch
order_from least [] order k i = elim i [ ]
order_from least (e ∷ ks) order k first = order.0
order_from least (e ∷ ks) order k (later i) = let from = order.0 in let rest = order_from e.1.epoch ks order.1 k i in omega (arith, from, rest)
