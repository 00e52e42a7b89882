-- A walk over keys and pairs in order is one that gives each pair and misses no key.
use Rattle.std.proofs.Common.{◌≡◌, ℕ, Bool, true, false, ◌&&◌, ◌||◌, List, [], ◌∷◌, refl, ap, sym, ◌∙◌, subst, inl, inr, ◌⊎◌}
use Rattle.std.specs.Ordering.{is_le, ordering_reverse}
use Rattle.std.specs.Cmp.{first_so, second_so}
use Rattle.std.specs.declared.cmp.Ordering.{Ordering}
use Rattle.std.specs.declared.cmp.Ordering.TheVariants.{Less, Equal, Greater}
use Rattle.std.proofs.lemmas.Cmp.{tied_itself}
use Rattle.std.proofs.lemmas.Bool.{false≢true, cases_Bool}
use Rattle.mt_types.specs.Keys.{key_cmp}
use Rattle.mt_types.specs.declared.row.Row.{Row}
use Rattle.mt_types.proofs.MapLemmas.{key_order, key_apart}
use Rattle.mt_check.specs.Ranges.{walks}

-- the key stands there with this
abbrev pub In : {X : Type 0} → List ℕ → X → List (List ℕ × X) → Type 0
In k x [] = ⊥
In k x (e ∷ es) = ((e.0 ≡ k) × (e.1 ≡ x)) ⊎ In k x es

-- the key is before all of them
abbrev pub Below : {X : Type 0} → List ℕ → List (List ℕ × X) → Type 0
Below {X} k es = (q : List ℕ) (x : X) → In q x es → key_cmp k q ≡ Less

abbrev pub Sorted : {X : Type 0} → List (List ℕ × X) → Type 0
Sorted [] = Unit {0}
Sorted (e ∷ es) = Below e.0 es × Sorted es

not_itself : (k : List ℕ) → key_cmp k k ≡ Less → ⊥
not_itself k e = let tie : key_cmp k k ≡ Equal = tied_itself key_order k in cc

not_both : (k q : List ℕ) → key_cmp k q ≡ Less → key_cmp q k ≡ Less → ⊥
not_both k q e f = not_itself k (key_order.trans k q k e f)

turned : (k q : List ℕ) → key_cmp k q ≡ Greater → key_cmp q k ≡ Less
turned k q e = key_order.antisymm q k ∙ ap ordering_reverse e

-- each pair is one of the keys, shown so; and no key that lacks no row is missing, but for those past the last pair
--     where the limit was met
pub record Good {V : Type 0} (lacks : V → Bool) (shows : V → Row → Bool) (full : Bool) (es : List (List ℕ × V)) (pairs : List (List ℕ × Row)) : Type 0 where
  pub sorted : Sorted pairs
  pub shown : (k : List ℕ) (r : Row) → In k r pairs → (v : V) × In k v es × (shows v r ≡ true)
  pub all : (k : List ℕ) (v : V) → In k v es → lacks v ≡ false
      → (full ≡ false) ⊎ ((q : List ℕ) × (r : Row) × In q r pairs × (is_le (key_cmp k q) ≡ true)) → (r : Row) × In k r pairs

order_cases : (o : Ordering) → (o ≡ Less) ⊎ ((o ≡ Equal) ⊎ (o ≡ Greater))
order_cases Less = inl refl
order_cases Equal = inr (inl refl)
order_cases Greater = inr (inr refl)

clash : {A : Type 0} (b : Bool) → b ≡ true → b ≡ false → A
clash b e f = absurd (false≢true (sym f ∙ e))

-- a walk that ends well is good
pub walked_well : {V : Type 0} (lacks : V → Bool) (shows : V → Row → Bool) (full : Bool) (es : List (List ℕ × V)) (pairs : List (List ℕ × Row)) → Sorted es
    → walks lacks shows full es pairs ≡ true → Good lacks shows full es pairs
walked_well lacks shows full [] [] s e = record { sorted = tt; shown = λ k r i. absurd i; all = λ k v i. absurd i }
walked_well lacks shows full [] (p ∷ ps) s e = absurd (false≢true e)
walked_well {V} lacks shows full (e ∷ es) [] s w =
    elim (cases_Bool full) [
      | inl yes_ ↦ record {
        sorted = tt;
        shown = λ k r i. absurd i;
        all = λ k v i l why. elim why [ inl f ↦ clash full yes_ f | inr q ↦ absurd q.2 ];
      }
      | inr no_ ↦
          let both : lacks e.1 && walks lacks shows full es [] ≡ true = subst (λ (b : Bool). b || (lacks e.1 && walks lacks shows full es []) ≡ true) no_ w in
          let lacking = first_so (lacks e.1) (walks lacks shows full es []) both in
          let rest = walked_well lacks shows full es [] s.1 (second_so (lacks e.1) (walks lacks shows full es []) both) in
          record {
            sorted = tt;
            shown = λ k r i. absurd i;
            all = λ k v i l why. elim i [
              | inl here ↦ clash (lacks e.1) lacking (ap lacks here.1 ∙ l)
              | inr there ↦ rest.all k v there l why
            ];
          }
    ]
walked_well {V} lacks shows full (e ∷ es) (p ∷ ps) s w =
    elim (order_cases (key_cmp e.0 p.0)) [
      | inl o ↦
          let both : lacks e.1 && walks lacks shows full es (p ∷ ps) ≡ true = rw o at w in
          let lacking = first_so (lacks e.1) (walks lacks shows full es (p ∷ ps)) both in
          let rest = walked_well lacks shows full es (p ∷ ps) s.1 (second_so (lacks e.1) (walks lacks shows full es (p ∷ ps)) both) in
          record {
            sorted = rest.sorted;
            shown = λ k r i. let g = rest.shown k r i in (g.0, inr g.1, g.2);
            all = λ k v i l why. elim i [
              | inl here ↦ clash (lacks e.1) lacking (ap lacks here.1 ∙ l)
              | inr there ↦ rest.all k v there l why
            ];
          }
      | inr later ↦ elim later [
        | inl o ↦
            let both : shows e.1 p.1 && walks lacks shows full es ps ≡ true = rw o at w in
            let showing = first_so (shows e.1 p.1) (walks lacks shows full es ps) both in
            let rest = walked_well lacks shows full es ps s.1 (second_so (shows e.1 p.1) (walks lacks shows full es ps) both) in
            let same : e.0 ≡ p.0 = key_apart e.0 p.0 o in
            record {
              sorted = (
                λ q r i. let g = rest.shown q r i in subst (λ (k : List ℕ). key_cmp k q ≡ Less) same (s.0 q g.0 g.1),
                rest.sorted,
              );
              shown = λ k r i. elim i [
                | inl here ↦ (e.1, inl (same ∙ here.0, refl), subst (λ (x : Row). shows e.1 x ≡ true) here.1 showing)
                | inr there ↦ let g = rest.shown k r there in (g.0, inr g.1, g.2)
              ];
              all = λ k v i l why. elim i [
                | inl here ↦ (p.1, inl (sym same ∙ here.0, refl))
                | inr there ↦
                    let still : (full ≡ false) ⊎ ((q : List ℕ) × (r : Row) × In q r ps × (is_le (key_cmp k q) ≡ true)) =
                    (elim why [
                      | inl f ↦ inl f
                      | inr g ↦ elim g.2 [
                        | inl at ↦
                            let after : key_cmp e.0 k ≡ Less = s.0 k v there in
                            let up_to : is_le (key_cmp k e.0) ≡ true = subst (λ (q : List ℕ). is_le (key_cmp k q) ≡ true) (sym (same ∙ at.0)) g.3 in
                            let greater : key_cmp k e.0 ≡ Greater = key_order.antisymm k e.0 ∙ ap ordering_reverse after in
                            absurd (false≢true (sym (ap is_le greater) ∙ up_to))
                        | inr more ↦ inr (g.0, g.1, more, g.3)
                      ]
                    ]) in
                    let found = rest.all k v there l still in (found.0, inr found.1)
              ];
            }
        | inr o ↦ absurd (false≢true (rw o at w))
      ]
    ]

both_so : (a b : Bool) → a ≡ true → b ≡ true → a && b ≡ true
both_so a b e f = rw e f

or_second : (a b : Bool) → b ≡ true → a || b ≡ true
or_second true b e = refl
or_second false b e = e

-- what is good walks well
pub good_walks : {V : Type 0} (lacks : V → Bool) (shows : V → Row → Bool) (full : Bool) (es : List (List ℕ × V)) (pairs : List (List ℕ × Row)) → Sorted es
    → Good lacks shows full es pairs → walks lacks shows full es pairs ≡ true
good_walks lacks shows full [] [] s g = refl
good_walks lacks shows full [] (p ∷ ps) s g = absurd (g.shown p.0 p.1 (inl (refl, refl))).1
good_walks {V} lacks shows full (e ∷ es) [] s g =
    elim (cases_Bool full) [
      | inl yes_ ↦ rw yes_
      | inr no_ ↦ or_second full _ (both_so (lacks e.1) (walks lacks shows full es [])
          (elim (cases_Bool (lacks e.1)) [
            | inl l ↦ l
            | inr l ↦ absurd (g.all e.0 e.1 (inl (refl, refl)) l (inl no_)).1
          ])
          (good_walks lacks shows full es [] s.1 (record { sorted = tt; shown = λ k r i. absurd i; all = λ k v i. g.all k v (inr i) })))
    ]
good_walks {V} lacks shows full (e ∷ es) (p ∷ ps) s g =
    elim (order_cases (key_cmp e.0 p.0)) [
      | inl o ↦
          let lacking : lacks e.1 ≡ true =
          (elim (cases_Bool (lacks e.1)) [
            | inl l ↦ l
            | inr l ↦
                let found = g.all e.0 e.1 (inl (refl, refl)) l (inr (p.0, p.1, inl (refl, refl), ap is_le o)) in
                elim found.1 [
                  | inl here ↦ absurd (not_itself e.0 (subst (λ (q : List ℕ). key_cmp e.0 q ≡ Less) here.0 o))
                  | inr there ↦ absurd (not_both e.0 p.0 o (g.sorted.0 e.0 found.0 there))
                ]
          ]) in
          let rest : Good lacks shows full es (p ∷ ps) = record {
            sorted = g.sorted;
            shown = λ k r i.
                let f = g.shown k r i in
                elim f.1 [
                  | inl here ↦ elim i [
                    | inl first ↦ absurd (not_itself e.0 (subst (λ (q : List ℕ). key_cmp e.0 q ≡ Less) (first.0 ∙ sym here.0) o))
                    | inr there ↦
                        let after : key_cmp p.0 k ≡ Less = g.sorted.0 k r there in
                        absurd (not_both e.0 p.0 o (subst (λ (q : List ℕ). key_cmp p.0 q ≡ Less) (sym here.0) after))
                  ]
                  | inr there ↦ (f.0, there, f.2)
                ];
            all = λ k v i. g.all k v (inr i);
          } in
          rw o (both_so (lacks e.1) _ lacking (good_walks lacks shows full es (p ∷ ps) s.1 rest))
      | inr later ↦ elim later [
        | inl o ↦
            let same : e.0 ≡ p.0 = key_apart e.0 p.0 o in
            let first = g.shown p.0 p.1 (inl (refl, refl)) in
            let showing : shows e.1 p.1 ≡ true =
            (elim first.1 [
              | inl here ↦ subst (λ (v : V). shows v p.1 ≡ true) (sym here.1) first.2
              | inr there ↦ absurd (not_itself e.0 (subst (λ (q : List ℕ). key_cmp e.0 q ≡ Less) (sym same) (s.0 p.0 first.0 there)))
            ]) in
            let rest : Good lacks shows full es ps = record {
              sorted = g.sorted.1;
              shown = λ k r i.
                  let f = g.shown k r (inr i) in
                  elim f.1 [
                    | inl here ↦ absurd (not_itself p.0 (subst (λ (q : List ℕ). key_cmp p.0 q ≡ Less) (sym here.0 ∙ same) (g.sorted.0 k r i)))
                    | inr there ↦ (f.0, there, f.2)
                  ];
              all = λ k v i l why.
                  let still : (full ≡ false) ⊎ ((q : List ℕ) × (r : Row) × In q r (p ∷ ps) × (is_le (key_cmp k q) ≡ true)) =
                  (elim why [ inl f ↦ inl f | inr h ↦ inr (h.0, h.1, inr h.2, h.3) ]) in
                  let found = g.all k v (inr i) l still in
                  elim found.1 [
                    | inl here ↦ absurd (not_itself e.0 (subst (λ (q : List ℕ). key_cmp e.0 q ≡ Less) (sym here.0 ∙ sym same) (s.0 k v i)))
                    | inr there ↦ (found.0, there)
                  ];
            } in
            rw o (both_so (shows e.1 p.1) _ showing (good_walks lacks shows full es ps s.1 rest))
        | inr o ↦
            let before = turned e.0 p.0 o in
            let first = g.shown p.0 p.1 (inl (refl, refl)) in
            elim first.1 [
              | inl here ↦ absurd (not_itself p.0 (subst (λ (q : List ℕ). key_cmp p.0 q ≡ Less) here.0 before))
              | inr there ↦ absurd (not_both p.0 e.0 before (s.0 p.0 first.0 there))
            ]
      ]
    ]
