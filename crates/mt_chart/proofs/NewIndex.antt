-- A new index: head 0 and one empty border. So the invariant can be met.
use Rattle.std.proofs.Common.{ℕ, zero, suc, ◌≡◌, ◌≢◌, ◌<◌, inl, inr, List, [], Option, Some, None, Bool, true, false, refl, sym, ap, ◌∙◌, subst, arith}
use Rattle.std.proofs.lemmas.Bool.{cases_eq, eq-eqb, ne_eqb}
use Rattle.mt_chart.specs.Tree.{Right, HeadNode, BorderNode, PlainNode, head, border}
use Rattle.mt_chart.specs.NewIndex.{only_at, new_head, new_border, arena_of_two, new_arena, new_chart}
use Rattle.mt_chart.specs.Chart.{Dated, Standing, on, gone, top, at_level, spot, OnBorder, IsBorderNode, Hung, HeadAt, IsTree, Owned, Owns, by_head, by_interior, Named, MarkedHeads}

pub only_here : {A : Type 0} (at : ℕ) (value : A) (number : ℕ) → number ≡ at → only_at at value number ≡ Some value
only_here at value number e = rw (eq-eqb number at e) refl

pub only_elsewhere : {A : Type 0} (at : ℕ) (value : A) (number : ℕ) → number ≢ at → only_at at value number ≡ None
only_elsewhere at value number e = rw (ne_eqb number at e) refl

pub only_is : {A : Type 0} (at : ℕ) (value other : A) (number : ℕ) → only_at at value number ≡ Some other → (number ≡ at) × (value ≡ other)
only_is at value other number g = elim (cases_eq number at) [
  | inl e ↦ (e, (let w = sym (only_here at value number e) ∙ g in cc))
  | inr e ↦ absurd (let w = sym (only_elsewhere at value number e) ∙ g in cc)
]

-- the node of the border's number
pub at_root : (root : ℕ) (node : BorderNode) → 0 < root → arena_of_two root node root ≡ Some (border node)
at_root zero node h = elim h [ ]
at_root (suc k) node h = only_here (suc k) (border node) (suc k) refl

pub charted_root : (root : ℕ) → 0 < root → new_chart root root ≡ Some (spot (at_level 0) [] 0 (on true))
charted_root zero h = elim h [ ]
charted_root (suc k) h = only_here (suc k) (spot (at_level 0) [] 0 (on true)) (suc k) refl

only_border : (root n : ℕ) (p : List ℕ) (l : ℕ) (st : Standing) → new_chart root n ≡ Some (spot (at_level 0) p l st) → (n ≡ root) × (p ≡ []) × (l ≡ 0) × (st ≡ on true)
only_border root zero p l st g = absurd (let e : top ≡ at_level 0 = cc in cc)
only_border root (suc n) p l st g = let (e, f) = only_is root (spot (at_level 0) [] 0 (on true)) (spot (at_level 0) p l st) (suc n) g in (e, (cc), (let h : 0 ≡ l = cc in sym h), (cc))

only_head : (root n : ℕ) (p : List ℕ) (l : ℕ) (st : Standing) → new_chart root n ≡ Some (spot top p l st) → (n ≡ 0) × (p ≡ []) × (l ≡ 0) × (st ≡ on true)
only_head root zero p l st g = (refl, (cc), (let e : 0 ≡ l = cc in sym e), (cc))
only_head root (suc n) p l st g = absurd (let (e, f) = only_is root (spot (at_level 0) [] 0 (on true)) (spot top p l st) (suc n) g in let h : top ≡ at_level 0 = cc in cc)

no_interior : (root n k : ℕ) (p : List ℕ) (l : ℕ) (st : Standing) → new_chart root n ≡ Some (spot (at_level (suc k)) p l st) → ⊥
no_interior root zero k p l st g = let e : top ≡ at_level (suc k) = cc in cc
no_interior root (suc n) k p l st g =
    let (e, f) = only_is root (spot (at_level 0) [] 0 (on true)) (spot (at_level (suc k)) p l st) (suc n) g in
    let h : at_level 0 ≡ at_level (suc k) = cc in let i : 0 ≡ suc k = cc in omega arith

not_gone : (e : ℕ) → gone e ≡ on true → ⊥
not_gone e h = cc

new_ok : (root : ℕ) → IsBorderNode (new_chart root) [] new_border
new_ok root = record {
  apart = (λ e f i j x y. elim i [ ]);
  from_low = (λ e i. elim i [ ]);
  to_right = (λ e i. elim i [ ]);
  links = (λ s h i. elim i [ ]);
  right = (λ r e. absurd (let k : ◌≡◌ {A = Option Right} None (Some r) = e in cc));
  empty = (λ e. refl);
}

module _ (root : ℕ) (positive : 0 < root) where
  is_new : (n : ℕ) (p : List ℕ) (b : BorderNode) → OnBorder (new_arena root) (new_chart root) n p b → (n ≡ root) × (p ≡ []) × (b ≡ new_border)
  is_new n p b o = let (e, f, g, h) = only_border root n p b.low (on o.posted) o.place in
      (e, f, (let i = ap (new_arena root) e ∙ at_root root new_border positive in let k : ◌≡◌ {A = Option PlainNode} (Some (border new_border)) (Some (border b)) = sym i ∙ o.node in let w : border new_border ≡ border b = cc in let v : new_border ≡ b = cc in sym v))

  head_at : (h : ℕ) (p : List ℕ) (l : ℕ) (y : Bool) → (h ≡ 0) × (p ≡ []) × (l ≡ 0) × (on y ≡ on true) → HeadAt (new_arena root) (new_chart root) h p l y
  head_at h p l y (e, f, g, i) = record {
    low = g;
    posted = (cc);
    node = new_head root;
    is_node = ap (new_arena root) e;
    root = charted_root root positive ∙ ap (λ (q : List ℕ). Some (spot (at_level 0) q 0 (on true))) (sym f);
  }

  pub new_tree : IsTree (new_arena root) (new_chart root)
  new_tree = record {
    layer_0 = refl;
    heads = (λ h p l y g. head_at h p l y (only_head root h p l (on y) g));
    borders = (λ n p l y g. let (e, f, z, i) = only_border root n p l (on y) g in (new_border, ap (new_arena root) e ∙ at_root root new_border positive, sym z));
    each_border = (λ n p b o. let (e, f, g) = is_new n p b o in rw (f, g) (new_ok root));
    interiors = (λ n k p l st g. absurd (no_interior root n k p l st g));
    gone_heads = (λ h p l e g. absurd (not_gone e ((only_head root h p l (gone e) g).3)));
    gone_borders = (λ n p l e g. absurd (not_gone e ((only_border root n p l (gone e) g).3)));
    from_left = (λ n p b o. let (e, f, g) = is_new n p b o in inl (ap (λ z. z.low) g));
    in_layer = (λ n p b o. let (e, f, g) = is_new n p b o in (0, ap (λ (q : List ℕ). Some (spot top q 0 (on true))) (sym f)));
    hung = (λ h p g. let (e, f, z, i) = only_head root h p 0 (on true) g in subst (λ (q : List ℕ). Hung (new_arena root) (new_chart root) h q) (sym f) e);
    disjoint = (λ n m p b c o o' le be. let (e, f, g) = is_new n p b o in let (e', f', g') = is_new m p c o' in e ∙ sym e');
  }

pub new_owned : (root : ℕ) → Owned (new_arena root) (new_chart root) (λ i j. ⊥)
new_owned root = record { one_owner = (λ i j c x y. inl (owner i c x ∙ sym (owner j c y))); once = (λ n k p l y t g e. absurd (no_interior root n k p l (on y) g)) }
  where
    owner : (i c : ℕ) → Owns (new_arena root) (new_chart root) i c → i ≡ 0
    owner i c (by_head p t g e f) = (only_head root i p 0 (on true) g).0
    owner i c (by_interior k p l y node child g e m f) = absurd (no_interior root i k p l (on y) g)

pub new_named : (root : ℕ) → 0 < root → Named (new_arena root) (new_chart root)
new_named root positive n zero p l y g = let (e, f, z, i) = only_border root n p l (on y) g in inr (0, by_head [] (new_head root) refl refl (sym e))
new_named root positive n (suc k) p l y g = absurd (no_interior root n k p l (on y) g)

pub new_marked : (root : ℕ) → MarkedHeads (new_arena root) (new_chart root)
new_marked root n p t g there deleted =
    let first : n ≡ 0 = (only_head root n p 0 (on true) g).0 in
    let here : new_arena root n ≡ Some (head (new_head root)) = ap (new_arena root) first in
    let same : new_head root ≡ t = cc in
    absurd (let clash : false ≡ true = ap (λ (v : HeadNode). v.deleted) same ∙ deleted in cc)

pub new_dated : (root : ℕ) → Dated (new_chart root) 0
new_dated root n role p l e g = absurd (go n g)
  where
    go : (m : ℕ) → new_chart root m ≡ Some (spot role p l (gone e)) → ⊥
    go zero h = let c : on true ≡ gone e = cc in cc
    go (suc m) h = let (i, f) = only_is root (spot (at_level 0) [] 0 (on true)) (spot role p l (gone e)) (suc m) h in let c : on true ≡ gone e = cc in cc

-- the node of a border that is on
pub new_stands : (root : ℕ) → 0 < root → (n : ℕ) (p : List ℕ) (b : BorderNode) → OnBorder (new_arena root) (new_chart root) n p b → b ≡ new_border
new_stands root positive n p b o = (is_new root positive n p b o).2
