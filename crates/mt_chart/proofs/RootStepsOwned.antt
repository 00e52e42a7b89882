-- Each node keeps one owner when a root is bypassed or made, and when the new half of an interior is posted.
use Rattle.std.proofs.Common.{ℕ, suc, ◌≡◌, ◌≢◌, ◌⊎◌, inl, inr, List, [], ◌∷◌, Option, Some, None, Bool, true, false, refl, sym, ap, ◌∙◌, subst}
use Rattle.mt_chart.specs.Tree.{HeadNode, PlainChild, InteriorNode, head, interior, Arena, Among, first, later}
use Rattle.mt_chart.specs.Chart.{on, gone, top, at_level, Spot, spot, Chart, OnHead, IsTree, Changes, Owns, by_head, by_interior, Owned, NoChildTwice}
use Rattle.mt_chart.proofs.Basics.{same_number}
use Rattle.mt_chart.proofs.Owners.{owned_shrink, owned_adopt, interior_owns, head_owns, owner_moves}
use Rattle.mt_chart.proofs.InteriorSteps.{owner_place}
use Rattle.mt_chart.proofs.Ownership.{owned_root, owned_go, owned_half, owned_children, owned_rest, fresh_unowned, unposted_unowned}

-- the head `h` names the one child of its root `c`, which goes
abbrev Pair : (ℕ → ℕ → Type 0) → ℕ → ℕ → ℕ → ℕ → Type 0
Pair twins h c i j = twins i j ⊎ (((i ≡ h) × (j ≡ c)) ⊎ ((i ≡ c) × (j ≡ h)))

pub root_bypass_owned : (arena new : Arena) (chart more : Chart) (twins : ℕ → ℕ → Type 0) → Owned arena chart twins → (h : ℕ) (q : List ℕ) (t t' : HeadNode) → OnHead chart h q → arena h ≡ Some (head t) → Changes arena new h (Some (head t')) →
    (c g : ℕ) (xc : InteriorNode) (only : PlainChild) (now : ℕ) → chart c ≡ Some (spot (at_level (suc g)) q 0 (on true)) → arena c ≡ Some (interior xc) → xc.children ≡ only ∷ [] → t'.root ≡ only.number →
    Changes chart more c (Some (spot (at_level (suc g)) q 0 (gone now))) → ((j : ℕ) → twins c j → ⊥) → Owned new more twins
root_bypass_owned arena new chart more twins w h q t t' at_h there change c g xc only now at_c there_c one_child root charted alone =
    owned_go new chart more (Pair twins h c) twins mid c g q 0 now charted keep
  where
    wide : Owned arena chart (Pair twins h c)
    wide = owned_shrink arena chart twins (Pair twins h c) w (λ i j d x y p. inr (inl p))

    c_owns : Owns arena chart c t'.root
    c_owns = by_interior g q 0 true xc only at_c there_c (rw one_child first) (sym root)

    pair : (j : ℕ) → (c ≡ j) ⊎ twins c j → Pair twins h c h j × Pair twins h c j h
    pair j (inl e) = (inr (inl (refl, sym e)), inr (inr (sym e, refl)))
    pair j (inr p) = absurd (alone j p)

    mid : Owned new chart (Pair twins h c)
    mid = owned_root arena new chart (Pair twins h c) wide h q t t' at_h there change (inr (λ j o. pair j (w.one_owner c j t'.root c_owns o)))

    keep : (j k : ℕ) → j ≢ c → k ≢ c → Pair twins h c j k → twins j k
    keep j k n n' (inl p) = p
    keep j k n n' (inr (inl p)) = absurd (n' p.1)
    keep j k n n' (inr (inr p)) = absurd (n p.0)

-- nobody owns the new half `c` of `i`: not itself, since its children were known
pub half_unowned : (arena : Arena) (chart more : Chart) → IsTree arena chart → (i f : ℕ) (q : List ℕ) (m : ℕ) (y : Bool) (x : InteriorNode) → chart i ≡ Some (spot (at_level (suc f)) q m (on y)) → arena i ≡ Some (interior x) →
    (c l : ℕ) (xc : InteriorNode) → chart c ≡ None → arena c ≡ Some (interior xc) → Changes chart more c (Some (spot (at_level (suc f)) q l (on true))) → ((d : PlainChild) → Among d xc.children → Among d x.children) →
    (k : ℕ) → Owns arena more k c → ⊥
half_unowned arena chart more tree i f q m y x at_i there c l xc fresh filled charted part k o = pick (same_number k c)
  where
    pick : (k ≡ c) ⊎ (k ≢ c) → ⊥
    pick (inl e) = let (d, n, r) = interior_owns arena more c f q l true xc c charted.now filled (subst (λ (u : ℕ). Owns arena more u c) e o) in
        fresh_unowned arena chart tree c fresh i (by_interior f q m y x d at_i there (part d n) r)
    pick (inr e) = fresh_unowned arena chart tree c fresh k (owner_moves arena arena chart more k c refl (charted.rest k e) o)

-- the new half `c` of `i` is posted in `j`
pub half_posted_owned : (arena new : Arena) (chart more : Chart) (some twins : ℕ → ℕ → Type 0) → IsTree arena chart → Owned arena chart some → ((j k : ℕ) → some j k → twins j k) →
    (i f : ℕ) (q : List ℕ) (m : ℕ) (y : Bool) (x : InteriorNode) → chart i ≡ Some (spot (at_level (suc f)) q m (on y)) → arena i ≡ Some (interior x) →
    (c l : ℕ) (xc : InteriorNode) → chart c ≡ None → arena c ≡ Some (interior xc) → Changes chart more c (Some (spot (at_level (suc f)) q l (on true))) → NoChildTwice xc.children → ((d : PlainChild) → Among d xc.children → Among d x.children) →
    ((j : ℕ) → (j ≡ i) ⊎ some j i → twins c j × twins j c) →
    (j g v : ℕ) (z : Bool) (xj xj' : InteriorNode) → chart j ≡ Some (spot (at_level (suc g)) q v (on z)) → arena j ≡ Some (interior xj) → Changes arena new j (Some (interior xj')) → NoChildTwice xj'.children →
    ((d : PlainChild) → Among d xj'.children → (d ≡ record { low = l; number = c; level = suc f }) ⊎ Among d xj.children) → Owned new more twins
half_posted_owned arena new chart more some twins tree w wider i f q m y x at_i there c l xc fresh filled charted once part pair j g v z xj xj' at_j there_j change once_j sub =
    owned_children arena new more twins half j g q v z xj xj' (charted.rest j (λ e. let u : chart j ≡ chart c = ap chart e in let n = fresh in let k : ◌≡◌ {A = Option Spot} None (Some (spot (at_level (suc g)) q v (on z))) = sym n ∙ (sym u ∙ at_j) in cc) ∙ at_j) there_j change once_j
    (λ d k. go d (sub d k))
  where
    half : Owned arena more twins
    half = owned_half arena chart more some twins w wider i f q m y x at_i there c l xc filled charted once part pair

    unowned : (k : ℕ) → Owns arena more k c → ⊥
    unowned = half_unowned arena chart more tree i f q m y x at_i there c l xc fresh filled charted part

    go : (d : PlainChild) → (d ≡ record { low = l; number = c; level = suc f }) ⊎ Among d xj.children → Among d xj.children ⊎ ((k : ℕ) → Owns arena more k d.number → twins j k × twins k j)
    go d (inl e) = inr (λ k o. absurd (unowned k (subst (λ (u : ℕ). Owns arena more k u) (ap (λ u. u.number) e) o)))
    go d (inr n) = inl n

-- the border `c`, which nobody named, may be named from now on
module _ (arena : Arena) (chart more : Chart) (c : ℕ) (q : List ℕ) (l : ℕ) (charted : Changes chart more c (Some (spot (at_level 0) q l (on true)))) where
  pub permitted_owned : (twins : ℕ → ℕ → Type 0) → Owned arena chart twins → Owned arena more twins
  permitted_owned twins owned = owned_rest arena arena chart more twins owned (λ j z p v y g ne. (sym (charted.rest j (λ e. ne (let u : more j ≡ more c = ap more e in let w = charted.now in cc))), refl))

  pub permitted_unowned : IsTree arena chart → chart c ≡ Some (spot (at_level 0) q l (on false)) → (j : ℕ) → Owns arena more j c → ⊥
  permitted_unowned tree at_c j o = pick (same_number j c)
    where
      pick : (j ≡ c) ⊎ (j ≢ c) → ⊥
      pick (inl e) = let (z, p, v, y, g, ne) = owner_place arena more j c o in ne (let u : more j ≡ more c = ap more e in let w = charted.now in cc)
      pick (inr e) = unposted_unowned arena chart tree c 0 q l at_c j (owner_moves arena arena chart more j c refl (charted.rest j e) o)

-- a new root `x` over the old root and `c`, which nobody named
module _ (arena new : Arena) (chart next : Chart) (twins : ℕ → ℕ → Type 0) (tree : IsTree arena chart) (owned : Owned arena chart twins)
    (h : ℕ) (q : List ℕ) (t t' : HeadNode) (at_h : OnHead chart h q) (there : arena h ≡ Some (head t)) (change : Changes arena new h (Some (head t')))
    (c k l x f : ℕ) (node : InteriorNode) (at_c : chart c ≡ Some (spot (at_level k) q l (on true))) (c_unowned : (j : ℕ) → Owns arena chart j c → ⊥) (fresh : chart x ≡ None) (filled : arena x ≡ Some (interior node))
    (charted : Changes chart next x (Some (spot (at_level (suc f)) q 0 (on true))))
    (children : node.children ≡ (record { low = 0; number = t.root; level = t.level }) ∷ ((record { low = l; number = c; level = k }) ∷ [])) (once : NoChildTwice node.children) (root : t'.root ≡ x)
    (alone : (j : ℕ) → twins j h → ⊥) where
  -- what `x` names
  named : (d : ℕ) → Owns arena next x d → (t.root ≡ d) ⊎ (c ≡ d)
  named d o = let (v, n, e) = interior_owns arena next x f q 0 true node d charted.now filled o in which v e (subst (λ (u : List PlainChild). Among v u) children n)
    where
      which : (v : PlainChild) → v.number ≡ d → Among v ((record { low = 0; number = t.root; level = t.level }) ∷ ((record { low = l; number = c; level = k }) ∷ [])) → (t.root ≡ d) ⊎ (c ≡ d)
      which v e first = inl e
      which v e (later first) = inr e
      which v e (later (later n)) = elim n [ ]

  x_unowned : (j : ℕ) → Owns arena next j x → ⊥
  x_unowned j o = pick (same_number j x)
    where
      self : (t.root ≡ x) ⊎ (c ≡ x) → ⊥
      self (inl e) = fresh_unowned arena chart tree x fresh h (by_head q t at_h there e)
      self (inr e) = let u : chart c ≡ chart x = ap chart e in let w : ◌≡◌ {A = Option Spot} None (Some (spot (at_level k) q l (on true))) = sym fresh ∙ (sym u ∙ at_c) in cc

      pick : (j ≡ x) ⊎ (j ≢ x) → ⊥
      pick (inl e) = self (named x (subst (λ (u : ℕ). Owns arena next u x) e o))
      pick (inr e) = fresh_unowned arena chart tree x fresh j (owner_moves arena arena chart next j x refl (charted.rest j e) o)

  rooted : Owned arena next (Pair twins h x)
  rooted = owned_adopt arena arena chart next twins (Pair twins h x) x owned (λ j k p. inl p)
      (λ j d ne o. owner_moves arena arena chart next j d refl (charted.rest j ne) o)
      (λ d o. inr (λ j o'. pair d j o' (named d o)))
      (λ n k p v z y g e. kids n k p v z y g e (same_number n x))
    where
      twin : (j : ℕ) → (j ≡ h) ⊎ twins j h → Pair twins h x x j × Pair twins h x j x
      twin j (inl e) = (inr (inr (refl, e)), inr (inl (e, refl)))
      twin j (inr p) = absurd (alone j p)

      pair : (d j : ℕ) → Owns arena chart j d → (t.root ≡ d) ⊎ (c ≡ d) → Pair twins h x x j × Pair twins h x j x
      pair d j o (inl e) = twin j (owned.one_owner j h d o (by_head q t at_h there e))
      pair d j o (inr e) = absurd (c_unowned j (subst (λ (u : ℕ). Owns arena chart j u) (sym e) o))

      kids : (n k : ℕ) (p : List ℕ) (v : ℕ) (z : Bool) (y : InteriorNode) → next n ≡ Some (spot (at_level (suc k)) p v (on z)) → arena n ≡ Some (interior y) → (n ≡ x) ⊎ (n ≢ x) → NoChildTwice y.children
      kids n k p v z y g e (inl i) = let s : arena n ≡ arena x = ap arena i in let same : node ≡ y = cc in subst (λ (d : InteriorNode). NoChildTwice d.children) same once
      kids n k p v z y g e (inr i) = owned.once n k p v z y (sym (charted.rest n i) ∙ g) e

  next_h : OnHead next h q
  next_h = charted.rest h (λ e. let u : chart h ≡ chart x = ap chart e in let k : ◌≡◌ {A = Option Spot} None (Some (spot top q 0 (on true))) = sym fresh ∙ (sym u ∙ at_h) in cc) ∙ at_h

  x_not_h : x ≢ h
  x_not_h e = let u : next x ≡ next h = ap next e in let v = next_h in let w = charted.now in let s : top ≡ at_level (suc f) = cc in cc

  pub new_root_owned : Owned new next twins
  new_root_owned = owned_shrink new next (Pair twins h x) twins renamed fewer
    where
      renamed : Owned new next (Pair twins h x)
      renamed = owned_root arena new next (Pair twins h x) rooted h q t t' next_h there change (inr (λ j o. absurd (x_unowned j (subst (λ (u : ℕ). Owns arena next j u) root o))))

      -- the head owns `x` alone, and `x` doesn't own itself
      both : (d : ℕ) → Owns new next h d → Owns new next x d → ⊥
      both d o o' = x_unowned x (owner_moves arena new next next x x (change.rest x x_not_h) refl (subst (λ (u : ℕ). Owns new next x u) (sym (head_owns new next h q t' d next_h change.now o) ∙ root) o'))

      fewer : (i j d : ℕ) → Owns new next i d → Owns new next j d → Pair twins h x i j → (i ≡ j) ⊎ twins i j
      fewer i j d o o' (inl p) = inr p
      fewer i j d o o' (inr (inl p)) = absurd (both d (subst (λ (u : ℕ). Owns new next u d) p.0 o) (subst (λ (u : ℕ). Owns new next u d) p.1 o'))
      fewer i j d o o' (inr (inr p)) = absurd (both d (subst (λ (u : ℕ). Owns new next u d) p.1 o') (subst (λ (u : ℕ). Owns new next u d) p.0 o))
