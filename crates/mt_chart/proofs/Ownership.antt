-- Ownership through the steps that publish: a new layer, the new half of an interior, a new root, a bypassed root; and
-- through the steps by which nobody becomes an owner.
use Rattle.std.proofs.Common.{ℕ, suc, ◌≡◌, ◌≢◌, ◌⊎◌, inl, inr, List, Option, Some, None, Bool, true, false, refl, sym, ap, ◌∙◌, subst, arith}
use Rattle.mt_chart.specs.Tree.{HeadNode, PlainChild, InteriorNode, head, interior, Arena, Among}
use Rattle.mt_chart.specs.Chart.{on, gone, Role, top, at_level, Spot, spot, Chart, OnHead, IsTree, Changes, Owns, by_head, by_interior, Owned, NoChildTwice}
use Rattle.mt_chart.proofs.Basics.{same_number}
use Rattle.mt_chart.proofs.Reach.{children_on, on_child}
use Rattle.mt_chart.proofs.Owners.{owned_less, owned_adopt, interior_owns, head_owns, owner_moves}
use Rattle.mt_chart.proofs.InteriorSteps.{owner_place}

-- what is owned stands where the chart says, and may be named
pub owned_place : (arena : Arena) (chart : Chart) → IsTree arena chart → (j c : ℕ) → Owns arena chart j c → (k : ℕ) × (p : List ℕ) × (l : ℕ) × (chart c ≡ Some (spot (at_level k) p l (on true)))
owned_place arena chart tree j c (by_head p t g e r) =
    let u = tree.heads j p 0 true g in
    let same : u.node ≡ t = (let w : arena j ≡ Some (head u.node) = u.is_node in cc) in
    let root : chart t.root ≡ Some (spot (at_level t.level) p 0 (on true)) = rw same at u.root in (t.level, p, 0, ap chart (sym r) ∙ root)
owned_place arena chart tree j c (by_interior k p l y node d g e n r) =
    let w = children_on arena chart tree j k p l y node g e in
    let (lt, pl) = on_child chart y p (suc k) d (w.each d n) in (d.level, p, d.low, ap chart (sym r) ∙ pl)

-- nobody owns what the chart does not know, or what is on and may not be named, or what is gone
pub fresh_unowned : (arena : Arena) (chart : Chart) → IsTree arena chart → (c : ℕ) → chart c ≡ None → (j : ℕ) → Owns arena chart j c → ⊥
fresh_unowned arena chart tree c fresh j o = let (k, p, l, g) = owned_place arena chart tree j c o in let e : ◌≡◌ {A = Option Spot} None (Some (spot (at_level k) p l (on true))) = sym fresh ∙ g in cc

pub unposted_unowned : (arena : Arena) (chart : Chart) → IsTree arena chart → (c k : ℕ) (p : List ℕ) (l : ℕ) → chart c ≡ Some (spot (at_level k) p l (on false)) → (j : ℕ) → Owns arena chart j c → ⊥
unposted_unowned arena chart tree c k p l at_c j o = let (k', p', l', g) = owned_place arena chart tree j c o in let e : on false ≡ on true = cc in let f : false ≡ true = cc in (cc)

-- only borders and what is not on stand otherwise under the new arena and chart: unlink, hide a link, free, mark what is gone
pub owned_rest : (arena new : Arena) (chart more : Chart) (twins : ℕ → ℕ → Type 0) → Owned arena chart twins →
    ((j : ℕ) (r : Role) (p : List ℕ) (l : ℕ) (y : Bool) → more j ≡ Some (spot r p l (on y)) → r ≢ at_level 0 → (chart j ≡ more j) × (new j ≡ arena j)) → Owned new more twins
owned_rest arena new chart more twins w same = owned_less arena new chart more twins w
    (λ j c o. let (r, p, l, y, g, ne) = owner_place new more j c o in let (e, f) = same j r p l y g ne in owner_moves arena new chart more j c f (sym e) o)
    (λ n k p l y t g e. let (u, v) = same n (at_level (suc k)) p l y g (λ z. let s : suc k ≡ 0 = cc in absurd (omega arith)) in w.once n k p l y t (u ∙ g) (sym v ∙ e))

-- the new head `t` of a new layer owns its border `r`; its place was not known before
pub owned_layer : (arena new : Arena) (chart more : Chart) (twins : ℕ → ℕ → Type 0) → IsTree arena chart → Owned arena chart twins → (t r : ℕ) (h : HeadNode) (p : List ℕ) → chart r ≡ None →
    OnHead more t p → new t ≡ Some (head h) → h.root ≡ r →
    ((j : ℕ) (z : Role) (q : List ℕ) (l : ℕ) (y : Bool) → j ≢ t → more j ≡ Some (spot z q l (on y)) → z ≢ at_level 0 → (chart j ≡ more j) × (new j ≡ arena j)) → Owned new more twins
owned_layer arena new chart more twins tree w t r h p fresh at_t there root same =
    owned_adopt arena new chart more twins twins t w (λ j k x. x)
    (λ j c ne o. let (z, q, l, y, g, nb) = owner_place new more j c o in let (e, f) = same j z q l y ne g nb in owner_moves arena new chart more j c f (sym e) o)
    (λ c o. inr (λ j o'. absurd (fresh_unowned arena chart tree r fresh j (subst (λ (v : ℕ). Owns arena chart j v) (sym (head_owns new more t p h c at_t there o) ∙ root) o'))))
    (λ n k q l y x g e. let ne : n ≢ t = (λ v. let s : more n ≡ more t = ap more v in let u = at_t in let c : at_level (suc k) ≡ top = cc in cc) in
    let (u, v) = same n (at_level (suc k)) q l y ne g (λ z. let s : suc k ≡ 0 = cc in absurd (omega arith)) in w.once n k q l y x (u ∙ g) (sym v ∙ e))

-- the new half `c` of the interior `i` is published: it and `i` are twins
pub owned_half : (arena : Arena) (chart more : Chart) (some twins : ℕ → ℕ → Type 0) → Owned arena chart some → ((j k : ℕ) → some j k → twins j k) →
    (i f : ℕ) (q : List ℕ) (m : ℕ) (y : Bool) (x : InteriorNode) → chart i ≡ Some (spot (at_level (suc f)) q m (on y)) → arena i ≡ Some (interior x) →
    (c l : ℕ) (xc : InteriorNode) → arena c ≡ Some (interior xc) → Changes chart more c (Some (spot (at_level (suc f)) q l (on true))) → NoChildTwice xc.children → ((d : PlainChild) → Among d xc.children → Among d x.children) →
    ((j : ℕ) → (j ≡ i) ⊎ some j i → twins c j × twins j c) → Owned arena more twins
owned_half arena chart more some twins w wider i f q m y x at_i there c l xc filled charted once part pair =
    owned_adopt arena arena chart more some twins c w wider
    (λ j d ne o. owner_moves arena arena chart more j d refl (charted.rest j ne) o)
    (λ d o. let (k, n, r) = interior_owns arena more c f q l true xc d charted.now filled o in
    inr (λ j o'. pair j (w.one_owner j i d o' (by_interior f q m y x k at_i there (part k n) r))))
    (λ n k p v z t g e. go n k p v z t g e (same_number n c))
  where
    go : (n k : ℕ) (p : List ℕ) (v : ℕ) (z : Bool) (t : InteriorNode) → more n ≡ Some (spot (at_level (suc k)) p v (on z)) → arena n ≡ Some (interior t) → (n ≡ c) ⊎ (n ≢ c) → NoChildTwice t.children
    go n k p v z t g e (inl h) = let s : arena n ≡ arena c = ap arena h in let same : xc ≡ t = cc in subst (λ (d : InteriorNode). NoChildTwice d.children) same once
    go n k p v z t g e (inr h) = w.once n k p v z t (sym (charted.rest n h) ∙ g) e

-- an interior takes other children, each its own before or owned by nobody but twins: a posting, the half that is kept
pub owned_children : (arena new : Arena) (chart : Chart) (twins : ℕ → ℕ → Type 0) → Owned arena chart twins →
    (i f : ℕ) (q : List ℕ) (m : ℕ) (y : Bool) (x x' : InteriorNode) → chart i ≡ Some (spot (at_level (suc f)) q m (on y)) → arena i ≡ Some (interior x) → Changes arena new i (Some (interior x')) → NoChildTwice x'.children →
    ((d : PlainChild) → Among d x'.children → Among d x.children ⊎ ((j : ℕ) → Owns arena chart j d.number → twins i j × twins j i)) → Owned new chart twins
owned_children arena new chart twins w i f q m y x x' at_i there change once sub =
    owned_adopt arena new chart chart twins twins i w (λ j k t. t)
    (λ j d ne o. owner_moves arena new chart chart j d (change.rest j ne) refl o)
    (λ d o. let (k, n, r) = interior_owns new chart i f q m y x' d at_i change.now o in mine d k r (sub k n))
    (λ n k p l z t g e. go n k p l z t g e (same_number n i))
  where
    mine : (d : ℕ) (k : PlainChild) → k.number ≡ d → Among k x.children ⊎ ((j : ℕ) → Owns arena chart j k.number → twins i j × twins j i) → Owns arena chart i d ⊎ ((j : ℕ) → Owns arena chart j d → twins i j × twins j i)
    mine d k r (inl n) = inl (by_interior f q m y x k at_i there n r)
    mine d k r (inr h) = inr (λ j o. h j (subst (λ (v : ℕ). Owns arena chart j v) (sym r) o))

    go : (n k : ℕ) (p : List ℕ) (l : ℕ) (z : Bool) (t : InteriorNode) → chart n ≡ Some (spot (at_level (suc k)) p l (on z)) → new n ≡ Some (interior t) → (n ≡ i) ⊎ (n ≢ i) → NoChildTwice t.children
    go n k p l z t g e (inl h) = let s : new n ≡ new i = ap new h in let v = change.now in let same : x' ≡ t = cc in subst (λ (d : InteriorNode). NoChildTwice d.children) same once
    go n k p l z t g e (inr h) = w.once n k p l z t g (sym (change.rest n h) ∙ e)

-- a head names another root, which nobody owned but twins of the head, or marks itself
pub owned_root : (arena new : Arena) (chart : Chart) (twins : ℕ → ℕ → Type 0) → Owned arena chart twins → (h : ℕ) (q : List ℕ) (t t' : HeadNode) → OnHead chart h q → arena h ≡ Some (head t) → Changes arena new h (Some (head t')) →
    (t.root ≡ t'.root) ⊎ ((j : ℕ) → Owns arena chart j t'.root → twins h j × twins j h) → Owned new chart twins
owned_root arena new chart twins w h q t t' at_h there change sub =
    owned_adopt arena new chart chart twins twins h w (λ j k x. x)
    (λ j d ne o. owner_moves arena new chart chart j d (change.rest j ne) refl o)
    (λ d o. mine d (head_owns new chart h q t' d at_h change.now o) sub)
    (λ n k p l z x g e. w.once n k p l z x g (sym (change.rest n (λ v. let s : chart n ≡ chart h = ap chart v in let u = at_h in let c : at_level (suc k) ≡ top = cc in cc)) ∙ e))
  where
    mine : (d : ℕ) → t'.root ≡ d → (t.root ≡ t'.root) ⊎ ((j : ℕ) → Owns arena chart j t'.root → twins h j × twins j h) → Owns arena chart h d ⊎ ((j : ℕ) → Owns arena chart j d → twins h j × twins j h)
    mine d r (inl e) = inl (by_head q t at_h there (e ∙ r))
    mine d r (inr f) = inr (λ j o. f j (subst (λ (v : ℕ). Owns arena chart j v) (sym r) o))

-- an interior goes: its pairs are forgotten
pub owned_go : (arena : Arena) (chart more : Chart) (some twins : ℕ → ℕ → Type 0) → Owned arena chart some → (c f : ℕ) (q : List ℕ) (l e : ℕ) → Changes chart more c (Some (spot (at_level (suc f)) q l (gone e))) →
    ((j k : ℕ) → j ≢ c → k ≢ c → some j k → twins j k) → Owned arena more twins
owned_go arena chart more some twins w c f q l e charted keep = record {
  one_owner = (λ j k d o o'. go j k (not_c j d o) (not_c k d o') (w.one_owner j k d (was j d o) (was k d o')));
  once = (λ n k p v z t g h. w.once n k p v z t (sym (charted.rest n (λ i. let s : more n ≡ more c = ap more i in let u = charted.now in let r : on z ≡ gone e = cc in cc)) ∙ g) h);
}
  where
    not_c : (j d : ℕ) → Owns arena more j d → j ≢ c
    not_c j d o i = let (r, p, v, y, g, ne) = owner_place arena more j d o in let s : more j ≡ more c = ap more i in let u = charted.now in let z : on y ≡ gone e = cc in cc

    was : (j d : ℕ) → Owns arena more j d → Owns arena chart j d
    was j d o = owner_moves arena arena chart more j d refl (charted.rest j (not_c j d o)) o

    go : (j k : ℕ) → j ≢ c → k ≢ c → (j ≡ k) ⊎ some j k → (j ≡ k) ⊎ twins j k
    go j k n n' (inl i) = inl i
    go j k n n' (inr t) = inr (keep j k n n' t)
