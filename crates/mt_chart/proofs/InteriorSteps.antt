-- Whole steps on interiors, made of the small changes: a child is dropped, a border is posted, an interior is bypassed.
use Rattle.std.proofs.Common.{ℕ, suc, ◌≡◌, ◌≢◌, ◌<◌, ◌⊎◌, ◌↔◌, inl, inr, List, [], ◌∷◌, Some, Bool, true, false, refl, sym, ap, ◌∙◌, subst, arith}
use Rattle.mt_slice.specs.Place.{Place}
use Rattle.mt_types.specs.declared.row.Row.{Row}
use Rattle.mt_chart.specs.Tree.{PlainChild, InteriorNode, head, interior, Arena, Among, first, Has}
use Rattle.mt_chart.specs.Chart.{Standing, on, gone, Role, top, at_level, Spot, spot, Chart, IsChild, AreChildren, FirstLow, IsTree, Changes, Dated, Owns, by_head, by_interior, Owned, NoChildTwice}
use Rattle.mt_chart.proofs.Basics.{same_number}
use Rattle.mt_chart.proofs.Reach.{children_on, on_child}
use Rattle.mt_chart.proofs.SmallChanges.{permit, take_children, leave}
use Rattle.mt_chart.proofs.Owners.{same_borders_content, owned_less, owned_adopt, only_owner, interior_owns, owner_moves}

-- an owner is no border and is on
pub owner_place : (arena : Arena) (chart : Chart) (j d : ℕ) → Owns arena chart j d → (r : Role) × (p : List ℕ) × (l : ℕ) × (y : Bool) × (chart j ≡ Some (spot r p l (on y))) × (r ≢ at_level 0)
owner_place arena chart j d (by_head p t g e r) = (top, p, 0, true, g, λ w. cc)
owner_place arena chart j d (by_interior k p l y node child g e m r) = (at_level (suc k), p, l, y, g, λ w. let z : suc k ≡ 0 = cc in absurd (omega arith))

-- the interior `i` and a change of it
module _ (arena new : Arena) (chart more : Chart) (tree : IsTree arena chart) (twins : ℕ → ℕ → Type 0) (owned : Owned arena chart twins)
    (i f : ℕ) (q : List ℕ) (m : ℕ) (y : Bool) (x x' : InteriorNode) (at_i : chart i ≡ Some (spot (at_level (suc f)) q m (on y))) (there : arena i ≡ Some (interior x))
    (change : Changes arena new i (Some (interior x'))) (low : x'.low ≡ m) (level : x'.level ≡ suc f) (leftmost : FirstLow m x'.children) (once : NoChildTwice x'.children) where
  children_once : (c : ℕ) (s : Spot) → Changes chart more c (Some s) → ((k : ℕ) (p : List ℕ) (l : ℕ) (z : Bool) → s ≢ spot (at_level (suc k)) p l (on z)) →
      (n k : ℕ) (p : List ℕ) (l : ℕ) (z : Bool) (t : InteriorNode) → more n ≡ Some (spot (at_level (suc k)) p l (on z)) → new n ≡ Some (interior t) → NoChildTwice t.children
  children_once c s charted ne n k p l z t g e = go (same_number n i) (same_number n c)
    where
      go : (n ≡ i) ⊎ (n ≢ i) → (n ≡ c) ⊎ (n ≢ c) → NoChildTwice t.children
      go (inl h) _ = let w : new n ≡ new i = ap new h in let v = change.now in let same : x' ≡ t = cc in subst (λ (d : InteriorNode). NoChildTwice d.children) same once
      go (inr h) (inl j) = absurd (ne k p l z (let w : more n ≡ more c = ap more j in let v = charted.now in cc))
      go (inr h) (inr j) = owned.once n k p l z t (sym (charted.rest n j) ∙ g) (sym (change.rest n h) ∙ e)

  border_agree : (n : ℕ) (p : List ℕ) (l : ℕ) (st : Standing) → chart n ≡ Some (spot (at_level 0) p l st) → new n ≡ arena n
  border_agree n p l st g = change.rest n (λ e. let w : chart n ≡ chart i = ap chart e in let v = at_i in let c : at_level 0 ≡ at_level (suc f) = cc in let c' : 0 ≡ suc f = cc in omega arith)

  -- an empty border is dropped from the interior that led to it
  module _ (c : ℕ) (p : List ℕ) (l : ℕ) (at_c : chart c ≡ Some (spot (at_level 0) p l (on true))) (charted : Changes chart more c (Some (spot (at_level 0) p l (on false))))
      (owns : Owns arena chart i c) (alone : (j : ℕ) → twins j i → ⊥) (sub : (d : PlainChild) → Among d x'.children ↔ (Among d x.children × (d.number ≢ c))) where
    drop_mid : IsTree new chart
    drop_mid = let w = children_on arena chart tree i f q m y x at_i there in
        take_children arena chart tree new i f q m y x' at_i change low level (record { leftmost = leftmost; each = (λ d k. w.each d ((sub d).0 k).0) })

    nobody : (j : ℕ) → Owns new chart j c → ⊥
    nobody j o = go (same_number j i)
      where
        go : (j ≡ i) ⊎ (j ≢ i) → ⊥
        go (inl e) = let (d, k, n) = interior_owns new chart i f q m y x' c at_i change.now (subst (λ (v : ℕ). Owns new chart v c) e o) in ((sub d).0 k).1 n
        go (inr e) = e (only_owner arena chart twins owned i c owns alone j (owner_moves arena new chart chart j c (change.rest j e) refl o))

    pub child_dropped_tree : IsTree new more
    child_dropped_tree = permit new chart drop_mid more c p l true false at_c charted (inr nobody)

    pub child_dropped_content : (k : Place) (w : Row) → Has new k w ↔ Has arena k w
    child_dropped_content = same_borders_content arena new chart tree drop_mid border_agree

    pub child_dropped_owned : Owned new more twins
    child_dropped_owned = owned_less arena new chart more twins owned owner (children_once c (spot (at_level 0) p l (on false)) charted (λ k p' l' z e. let w : 0 ≡ suc k = (let v : at_level 0 ≡ at_level (suc k) = cc in cc) in omega arith))
      where
        owner : (j d : ℕ) → Owns new more j d → Owns arena chart j d
        owner j d o = go (same_number j i) (same_number j c)
          where
            go : (j ≡ i) ⊎ (j ≢ i) → (j ≡ c) ⊎ (j ≢ c) → Owns arena chart j d
            go _ (inl e) = let (r, p', l', z, g, ne) = owner_place new more j d o in absurd (ne (let w : more j ≡ more c = ap more e in let v = charted.now in cc))
            go (inl e) (inr e') =
                let g : more i ≡ Some (spot (at_level (suc f)) q m (on y)) = charted.rest i (λ h. e' (e ∙ h)) ∙ at_i in
                let (k, n, r) = interior_owns new more i f q m y x' d g change.now (subst (λ (v : ℕ). Owns new more v d) e o) in
                subst (λ (v : ℕ). Owns arena chart v d) (sym e) (by_interior f q m y x k at_i there ((sub k).0 n).0 r)
            go (inr e) (inr e') = owner_moves arena new chart more j d (change.rest j e) (charted.rest j e') o

  -- a new border, which nobody names, is posted in the interior
  module _ (c : ℕ) (l : ℕ) (at_c : chart c ≡ Some (spot (at_level 0) q l (on false))) (charted : Changes chart more c (Some (spot (at_level 0) q l (on true))))
      (sub : (d : PlainChild) → Among d x'.children → (d ≡ record { low = l; number = c; level = 0 }) ⊎ Among d x.children) where
    more_i : more i ≡ Some (spot (at_level (suc f)) q m (on y))
    more_i = charted.rest i (λ e. let w : chart i ≡ chart c = ap chart e in let v = at_c in let z = at_i in let u : at_level (suc f) ≡ at_level 0 = cc in let t : suc f ≡ 0 = cc in omega arith) ∙ at_i

    permitted : IsTree arena more
    permitted = permit arena chart tree more c q l false true at_c charted (inl refl)

    pub border_posted_tree : IsTree new more
    border_posted_tree = let w = children_on arena more permitted i f q m y x more_i there in
        take_children arena more permitted new i f q m y x' more_i change low level (record { leftmost = leftmost; each = (λ d k. go d (w.each) (sub d k)) })
      where
        go : (d : PlainChild) → ((e : PlainChild) → Among e x.children → IsChild more (on y) q (suc f) e) → (d ≡ record { low = l; number = c; level = 0 }) ⊎ Among d x.children → IsChild more (on y) q (suc f) d
        go d each (inl e) = subst (λ (v : PlainChild). IsChild more (on y) q (suc f) v) (sym e) (record { standing = on true; lower = (omega arith); place = charted.now; may = refl })
        go d each (inr k) = each d k

    pub border_posted_content : (k : Place) (w : Row) → Has new k w ↔ Has arena k w
    border_posted_content = same_borders_content arena new more permitted border_posted_tree (λ n p v st g. change.rest n (λ e. let w : more n ≡ more i = ap more e in let z = more_i in let u : at_level 0 ≡ at_level (suc f) = cc in let t : 0 ≡ suc f = cc in omega arith))

    pub border_posted_owned : Owned new more twins
    border_posted_owned = owned_adopt arena new chart more twins twins i owned (λ j k t. t)
        (λ j d ne o. owner_moves arena new chart more j d (change.rest j ne) (charted.rest j (λ e. let (r, p', l', z, g, not) = owner_place new more j d o in not (let w : more j ≡ more c = ap more e in let v = charted.now in cc))) o)
        (λ d o. let (k, n, r) = interior_owns new more i f q m y x' d more_i change.now o in mine d k r (sub k n))
        (children_once c (spot (at_level 0) q l (on true)) charted (λ k p' l' z e. let w : 0 ≡ suc k = (let v : at_level 0 ≡ at_level (suc k) = cc in cc) in omega arith))
      where
        -- what a node that is on names may be named; the new border may not be
        unnamed : (j : ℕ) → Owns arena chart j c → ⊥
        unnamed j (by_head p' t g e r) = let u = tree.heads j p' 0 true g in
            let same : u.node ≡ t = (let w : arena j ≡ Some (head u.node) = u.is_node in cc) in
            let root : chart t.root ≡ Some (spot (at_level t.level) p' 0 (on true)) = rw same at u.root in
            let w : chart t.root ≡ chart c = ap chart r in let v = at_c in let s : on true ≡ on false = cc in let t' : true ≡ false = cc in (cc)
        unnamed j (by_interior k p' l' z node d g e n r) =
            let w = children_on arena chart tree j k p' l' z node g e in
            let (lt, pl) = on_child chart z p' (suc k) d (w.each d n) in
            let w' : chart d.number ≡ chart c = ap chart r in let v = at_c in let s : on true ≡ on false = cc in let t' : true ≡ false = cc in (cc)

        mine : (d : ℕ) (k : PlainChild) → k.number ≡ d → (k ≡ record { low = l; number = c; level = 0 }) ⊎ Among k x.children → Owns arena chart i d ⊎ ((j : ℕ) → Owns arena chart j d → twins i j × twins j i)
        mine d k r (inl e) = inr (λ j o. absurd (unnamed j (subst (λ (v : ℕ). Owns arena chart j v) (sym r ∙ ap (λ v. v.number) e) o)))
        mine d k r (inr n) = inl (by_interior f q m y x k at_i there n r)

  -- the interior `c` with one child is bypassed: `i` names that child in its place
  module _ (c g l : ℕ) (z : Bool) (xc : InteriorNode) (only : PlainChild) (now : ℕ) (dated : Dated chart now) (at_c : chart c ≡ Some (spot (at_level (suc g)) q l (on z))) (there_c : arena c ≡ Some (interior xc))
      (locked : xc.locked ≡ true) (one_child : xc.children ≡ only ∷ []) (charted : Changes chart more c (Some (spot (at_level (suc g)) q l (gone now))))
      (entry : PlainChild) (entry_in : Among entry x.children) (entry_c : entry.number ≡ c) (alone : (j : ℕ) → twins j i → ⊥) (alone_c : (j : ℕ) → twins c j ⊎ twins j c → ⊥)
      (sub : (d : PlainChild) → Among d x'.children → (d ≡ only) ⊎ (Among d x.children × (d.number ≢ c))) where
    owns_c : Owns arena chart i c
    owns_c = by_interior f q m y x entry at_i there entry_in entry_c

    lower : g < f
    lower = let w = children_on arena chart tree i f q m y x at_i there in let (lt, pl) = on_child chart y q (suc f) entry (w.each entry entry_in) in
        let k : chart entry.number ≡ chart c = ap chart entry_c in let v = at_c in let s : at_level entry.level ≡ at_level (suc g) = cc in let s' : entry.level ≡ suc g = cc in omega arith

    only_ok : IsChild chart (on z) q (suc g) only
    only_ok = let w : AreChildren chart (on z) q l (suc g) (only ∷ []) = rw one_child at (children_on arena chart tree c g q l z xc at_c there_c) in w.each only first

    only_not_c : only.number ≢ c
    only_not_c e = let (lt, pl) = on_child chart z q (suc g) only only_ok in let k : chart only.number ≡ chart c = ap chart e in let v = at_c in
        let s : at_level only.level ≡ at_level (suc g) = cc in let s' : only.level ≡ suc g = cc in omega arith

    c_not_i : c ≢ i
    c_not_i e = let k : chart c ≡ chart i = ap chart e in let v = at_c in let v' = at_i in let s : at_level (suc g) ≡ at_level (suc f) = cc in let s' : suc g ≡ suc f = cc in let h = lower in omega arith

    bypass_mid : IsTree new chart
    bypass_mid = let w = children_on arena chart tree i f q m y x at_i there in
        take_children arena chart tree new i f q m y x' at_i change low level (record { leftmost = leftmost; each = (λ d k. go d w.each (sub d k)) })
      where
        go : (d : PlainChild) → ((e : PlainChild) → Among e x.children → IsChild chart (on y) q (suc f) e) → (d ≡ only) ⊎ (Among d x.children × (d.number ≢ c)) → IsChild chart (on y) q (suc f) d
        go d each (inl e) = let k = only_ok in let h = lower in let lt : only.level < suc g = k.lower in
            subst (λ (v : PlainChild). IsChild chart (on y) q (suc f) v) (sym e) (record { standing = k.standing; lower = (omega arith); place = k.place; may = k.may })
        go d each (inr k) = each d k.0

    bypass_nobody : (j : ℕ) → Owns new chart j c → ⊥
    bypass_nobody j o = go (same_number j i)
      where
        child : (d : PlainChild) → d.number ≡ c → (d ≡ only) ⊎ (Among d x.children × (d.number ≢ c)) → ⊥
        child d n (inl e) = only_not_c (ap (λ v. v.number) (sym e) ∙ n)
        child d n (inr k) = k.1 n

        go : (j ≡ i) ⊎ (j ≢ i) → ⊥
        go (inl e) = let (d, k, n) = interior_owns new chart i f q m y x' c at_i change.now (subst (λ (v : ℕ). Owns new chart v c) e o) in child d n (sub d k)
        go (inr e) = e (only_owner arena chart twins owned i c owns_c alone j (owner_moves arena new chart chart j c (change.rest j e) refl o))

    pub bypass_tree : IsTree new more
    bypass_tree = leave new chart bypass_mid more c g q l z xc now dated at_c (change.rest c c_not_i ∙ there_c) locked charted bypass_nobody

    pub bypass_content : (k : Place) (w : Row) → Has new k w ↔ Has arena k w
    bypass_content = same_borders_content arena new chart tree bypass_mid border_agree

    pub bypass_owned : Owned new more twins
    bypass_owned = record {
      one_owner = (λ j k d o o'. one j k d (not_c j d o) (not_c k d o') (was j d o) (was k d o'));
      once = children_once c (spot (at_level (suc g)) q l (gone now)) charted (λ k p' l' w e. let s : gone now ≡ on w = cc in cc);
    }
      where
        not_c : (j d : ℕ) → Owns new more j d → j ≢ c
        not_c j d o e = let (r, p', l', w, h, ne) = owner_place new more j d o in let k : more j ≡ more c = ap more e in let v = charted.now in let s : on w ≡ gone now = cc in cc

        was : (j d : ℕ) → Owns new more j d → Owns arena chart j d ⊎ ((j ≡ i) × Owns arena chart c d)
        was j d o = go (same_number j i)
          where
            child : (k : PlainChild) → k.number ≡ d → j ≡ i → (k ≡ only) ⊎ (Among k x.children × (k.number ≢ c)) → Owns arena chart j d ⊎ ((j ≡ i) × Owns arena chart c d)
            child k r e (inl h) = inr (e, by_interior g q l z xc only at_c there_c (rw one_child first) (ap (λ v. v.number) (sym h) ∙ r))
            child k r e (inr n) = inl (subst (λ (v : ℕ). Owns arena chart v d) (sym e) (by_interior f q m y x k at_i there n.0 r))

            go : (j ≡ i) ⊎ (j ≢ i) → Owns arena chart j d ⊎ ((j ≡ i) × Owns arena chart c d)
            go (inl e) =
                let h : more i ≡ Some (spot (at_level (suc f)) q m (on y)) = charted.rest i (λ w. c_not_i (sym w)) ∙ at_i in
                let (k, n, r) = interior_owns new more i f q m y x' d h change.now (subst (λ (v : ℕ). Owns new more v d) e o) in child k r e (sub k n)
            go (inr e) = inl (owner_moves arena new chart more j d (change.rest j e) (charted.rest j (not_c j d o)) o)

        with_c : (k d : ℕ) → k ≢ c → Owns arena chart c d → Owns arena chart k d → ⊥
        with_c k d ne o o' = go (owned.one_owner c k d o o')
          where
            go : (c ≡ k) ⊎ twins c k → ⊥
            go (inl e) = ne (sym e)
            go (inr t) = alone_c k (inl t)

        one : (j k d : ℕ) → j ≢ c → k ≢ c → Owns arena chart j d ⊎ ((j ≡ i) × Owns arena chart c d) → Owns arena chart k d ⊎ ((k ≡ i) × Owns arena chart c d) → (j ≡ k) ⊎ twins j k
        one j k d n n' (inl o) (inl o') = owned.one_owner j k d o o'
        one j k d n n' (inl o) (inr o') = absurd (with_c j d n o'.1 o)
        one j k d n n' (inr o) (inl o') = absurd (with_c k d n' o.1 o')
        one j k d n n' (inr o) (inr o') = inl (o.0 ∙ sym o'.0)
