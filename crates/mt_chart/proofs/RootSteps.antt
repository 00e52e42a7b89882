-- The remaining whole steps: a root is bypassed, a new root, the split of an interior, a head is marked.
use Rattle.std.proofs.Common.{ℕ, suc, ◌≡◌, ◌≢◌, ◌<◌, ◌⊎◌, ◌↔◌, inl, inr, List, [], ◌∷◌, Option, Some, None, Bool, true, refl, sym, ap, ◌∙◌, subst, arith}
use Rattle.mt_slice.specs.Place.{Place}
use Rattle.mt_types.specs.declared.row.Row.{Row}
use Rattle.mt_chart.specs.Tree.{HeadNode, PlainChild, InteriorNode, head, interior, Arena, Among, first, later, Has}
use Rattle.mt_chart.specs.Chart.{Standing, on, gone, top, at_level, Spot, spot, Chart, OnHead, IsChild, AreChildren, FirstLow, IsTree, Changes, Dated, Owns, by_head, Owned}
use Rattle.mt_chart.proofs.Basics.{same_number}
use Rattle.mt_chart.proofs.Reach.{children_on, on_child}
use Rattle.mt_chart.proofs.SmallChanges.{take_children, take_root, publish, leave}
use Rattle.mt_chart.proofs.Owners.{same_borders_content, only_owner, head_owns, owner_moves}

-- the root of a head that is on
pub head_root : (arena : Arena) (chart : Chart) → IsTree arena chart → (h : ℕ) (q : List ℕ) (t : HeadNode) → OnHead chart h q → arena h ≡ Some (head t) → chart t.root ≡ Some (spot (at_level t.level) q 0 (on true))
head_root arena chart tree h q t at_h there =
    let u = tree.heads h q 0 true at_h in
    let same : u.node ≡ t = (let w : arena h ≡ Some (head u.node) = u.is_node in cc) in
    rw same at u.root

-- a change of the head `h`
module _ (arena new : Arena) (chart : Chart) (tree : IsTree arena chart) (h : ℕ) (q : List ℕ) (t t' : HeadNode) (at_h : OnHead chart h q) (there : arena h ≡ Some (head t)) (change : Changes arena new h (Some (head t'))) where
  agree_border : (n : ℕ) (p : List ℕ) (l : ℕ) (st : Standing) → chart n ≡ Some (spot (at_level 0) p l st) → new n ≡ arena n
  agree_border n p l st g = change.rest n (λ e. let w : chart n ≡ chart h = ap chart e in let v = at_h in let c : at_level 0 ≡ top = cc in cc)

  -- a head with the same root: it is locked, unlocked or marked deleted
  module _ (root : t'.root ≡ t.root) (level : t'.level ≡ t.level) where
    pub mark_head_tree : IsTree new chart
    mark_head_tree = take_root arena chart tree new h q t' at_h change (rw (root, level) (head_root arena chart tree h q t at_h there))

    pub mark_head_content : (k : Place) (w : Row) → Has new k w ↔ Has arena k w
    mark_head_content = same_borders_content arena new chart tree mark_head_tree agree_border

  -- the root, an interior with one child, is bypassed
  module _ (more : Chart) (twins : ℕ → ℕ → Type 0) (owned : Owned arena chart twins) (c g : ℕ) (xc : InteriorNode) (only : PlainChild) (now : ℕ) (dated : Dated chart now)
      (is_root : t.root ≡ c) (at_c : chart c ≡ Some (spot (at_level (suc g)) q 0 (on true))) (there_c : arena c ≡ Some (interior xc)) (locked : xc.locked ≡ true) (one_child : xc.children ≡ only ∷ [])
      (charted : Changes chart more c (Some (spot (at_level (suc g)) q 0 (gone now)))) (root : t'.root ≡ only.number) (level : t'.level ≡ only.level) (alone : (j : ℕ) → twins j h → ⊥) where
    children_of_c : AreChildren chart (on true) q 0 (suc g) (only ∷ [])
    children_of_c = rw one_child at (children_on arena chart tree c g q 0 true xc at_c there_c)

    only_at : (only.level < suc g) × (chart only.number ≡ Some (spot (at_level only.level) q 0 (on true)))
    only_at = let w = children_of_c in let (lt, pl) = on_child chart true q (suc g) only (w.each only first) in let z : only.low ≡ 0 = w.leftmost in
        (lt, subst (λ (v : ℕ). chart only.number ≡ Some (spot (at_level only.level) q v (on true))) z pl)

    only_not_c : only.number ≢ c
    only_not_c e = let (lt, pl) = only_at in let k : chart only.number ≡ chart c = ap chart e in let v = at_c in
        let s : at_level only.level ≡ at_level (suc g) = cc in let s' : only.level ≡ suc g = cc in omega arith

    c_not_h : c ≢ h
    c_not_h e = let w : chart c ≡ chart h = ap chart e in let v = at_h in let v' = at_c in let s : top ≡ at_level (suc g) = cc in cc

    root_mid : IsTree new chart
    root_mid = take_root arena chart tree new h q t' at_h change (let w = only_at in rw (root, level) w.1)

    root_nobody : (j : ℕ) → Owns new chart j c → ⊥
    root_nobody j o = go (same_number j h)
      where
        go : (j ≡ h) ⊎ (j ≢ h) → ⊥
        go (inl e) = only_not_c (sym root ∙ head_owns new chart h q t' c at_h change.now (subst (λ (v : ℕ). Owns new chart v c) e o))
        go (inr e) = e (only_owner arena chart twins owned h c (by_head q t at_h there is_root) alone j (owner_moves arena new chart chart j c (change.rest j e) refl o))

    pub root_bypass_tree : IsTree new more
    root_bypass_tree = leave new chart root_mid more c g q 0 true xc now dated at_c (change.rest c c_not_h ∙ there_c) locked charted root_nobody

    pub root_bypass_content : (k : Place) (w : Row) → Has new k w ↔ Has arena k w
    root_bypass_content = same_borders_content arena new chart tree root_mid agree_border

  -- a new root `x`, which names the old root and `c`, of lower levels
  module _ (next : Chart) (c k l x f : ℕ) (node : InteriorNode) (at_c : chart c ≡ Some (spot (at_level k) q l (on true))) (fresh : chart x ≡ None) (filled : arena x ≡ Some (interior node))
      (charted : Changes chart next x (Some (spot (at_level (suc f)) q 0 (on true)))) (low : node.low ≡ 0) (node_level : node.level ≡ suc f) (below : t.level < suc f) (below_c : k < suc f)
      (children : node.children ≡ (record { low = 0; number = t.root; level = t.level }) ∷ ((record { low = l; number = c; level = k }) ∷ [])) (root : t'.root ≡ x) (level : t'.level ≡ suc f) where
    published : IsTree arena next
    published = publish arena chart tree next x f q 0 node fresh filled charted low node_level
        (rw children (record { leftmost = refl; each = each }))
      where
        each : (d : PlainChild) → Among d ((record { low = 0; number = t.root; level = t.level }) ∷ ((record { low = l; number = c; level = k }) ∷ [])) → IsChild chart (on true) q (suc f) d
        each d first = record { standing = on true; lower = below; place = head_root arena chart tree h q t at_h there; may = refl }
        each d (later first) = record { standing = on true; lower = below_c; place = at_c; may = refl }
        each d (later (later i)) = elim i [ ]

    next_h : OnHead next h q
    next_h = charted.rest h (λ e. let w : chart h ≡ chart x = ap chart e in let v = at_h in let n = fresh in let z : ◌≡◌ {A = Option Spot} None (Some (spot top q 0 (on true))) = cc in cc) ∙ at_h

    pub new_root_tree : IsTree new next
    new_root_tree = take_root arena next published new h q t' next_h change (rw (root, level) charted.now)

    pub new_root_content : (k : Place) (w : Row) → Has new k w ↔ Has arena k w
    new_root_content = same_borders_content arena new next published new_root_tree (λ n p v st g. change.rest n (λ e. let w : next n ≡ next h = ap next e in let z = next_h in let s : at_level 0 ≡ top = cc in cc))

-- the split of the interior `i`: the new one, `c`, has some of its children, and is posted in the interior `j`
module _ (arena new : Arena) (chart more : Chart) (tree : IsTree arena chart) (i f : ℕ) (q : List ℕ) (m : ℕ) (y : Bool) (x : InteriorNode) (at_i : chart i ≡ Some (spot (at_level (suc f)) q m (on y))) (there : arena i ≡ Some (interior x)) where
  -- the first half is kept
  module _ (x' : InteriorNode) (change : Changes arena new i (Some (interior x'))) (low : x'.low ≡ m) (level : x'.level ≡ suc f) (leftmost : FirstLow m x'.children) (sub : (d : PlainChild) → Among d x'.children → Among d x.children) where
    pub half_kept_tree : IsTree new chart
    half_kept_tree = let w = children_on arena chart tree i f q m y x at_i there in
        take_children arena chart tree new i f q m y x' at_i change low level (record { leftmost = leftmost; each = (λ d k. w.each d (sub d k)) })

    pub half_kept_content : (k : Place) (w : Row) → Has new k w ↔ Has arena k w
    half_kept_content = same_borders_content arena new chart tree half_kept_tree (λ n p l st g. change.rest n (λ e. let w : chart n ≡ chart i = ap chart e in let v = at_i in let c : at_level 0 ≡ at_level (suc f) = cc in let c' : 0 ≡ suc f = cc in omega arith))

  -- the new half comes to be known
  module _ (c : ℕ) (l : ℕ) (xc : InteriorNode) (fresh : chart c ≡ None) (filled : arena c ≡ Some (interior xc)) (charted : Changes chart more c (Some (spot (at_level (suc f)) q l (on true))))
      (low : xc.low ≡ l) (level : xc.level ≡ suc f) (leftmost : FirstLow l xc.children) (part : (d : PlainChild) → Among d xc.children → Among d x.children) where
    pub half_known_tree : IsTree arena more
    half_known_tree = publish arena chart tree more c f q l xc fresh filled charted low level (record { leftmost = leftmost; each = (λ d k. each d (part d k)) })
      where
        each : (d : PlainChild) → Among d x.children → IsChild chart (on true) q (suc f) d
        each d k = let w = children_on arena chart tree i f q m y x at_i there in let o = w.each d k in record { standing = o.standing; lower = o.lower; place = o.place; may = o.may }

    -- it is posted in `j`
    module _ (j g v : ℕ) (z : Bool) (xj xj' : InteriorNode) (at_j : chart j ≡ Some (spot (at_level (suc g)) q v (on z))) (there_j : arena j ≡ Some (interior xj)) (change : Changes arena new j (Some (interior xj'))) (above : f < g)
        (low_j : xj'.low ≡ v) (level_j : xj'.level ≡ suc g) (leftmost_j : FirstLow v xj'.children)
        (sub : (d : PlainChild) → Among d xj'.children → (d ≡ record { low = l; number = c; level = suc f }) ⊎ Among d xj.children) where
      more_j : more j ≡ Some (spot (at_level (suc g)) q v (on z))
      more_j = charted.rest j (λ e. let w : chart j ≡ chart c = ap chart e in let n = fresh in let o = at_j in let k : ◌≡◌ {A = Option Spot} None (Some (spot (at_level (suc g)) q v (on z))) = cc in cc) ∙ at_j

      pub half_posted_tree : IsTree new more
      half_posted_tree = let w = children_on arena more half_known_tree j g q v z xj more_j there_j in
          take_children arena more half_known_tree new j g q v z xj' more_j change low_j level_j (record { leftmost = leftmost_j; each = (λ d k. go d w.each (sub d k)) })
        where
          go : (d : PlainChild) → ((e : PlainChild) → Among e xj.children → IsChild more (on z) q (suc g) e) → (d ≡ record { low = l; number = c; level = suc f }) ⊎ Among d xj.children → IsChild more (on z) q (suc g) d
          go d each (inl e) = subst (λ (n : PlainChild). IsChild more (on z) q (suc g) n) (sym e) (record { standing = on true; lower = (omega arith); place = charted.now; may = refl })
          go d each (inr k) = each d k

      pub half_posted_content : (k : Place) (w : Row) → Has new k w ↔ Has arena k w
      half_posted_content = same_borders_content arena new more half_known_tree half_posted_tree (λ n p w st e. change.rest n (λ h. let s : more n ≡ more j = ap more h in let o = more_j in let u : at_level 0 ≡ at_level (suc g) = cc in let k : 0 ≡ suc g = cc in omega arith))
