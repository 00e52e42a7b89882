-- A change of one head or interior, `i`, by which one node, `c`, may come to stand otherwise: linked by a posting,
-- dropped, bypassed. The borders stay as they are.
use Rattle.std.proofs.Common.{ℕ, suc, ◌≡◌, ◌≢◌, ◌⊎◌, inl, inr, List, [], ◌∷◌, Some, None, Bool, true, sym, ap, ◌∙◌, subst}
use Rattle.mt_chart.specs.Tree.{HeadNode, BorderNode, PlainChild, InteriorNode, PlainNode, head, interior, Arena, Among}
use Rattle.mt_chart.specs.Chart.{Standing, on, gone, Role, top, at_level, Spot, spot, Chart, OnHead, OnBorder, MayName, IsChild, AreChildren, Hung, HeadAt, InteriorAt, IsTree, Changes}
use Rattle.mt_chart.proofs.Basics.{same_number}

module _ (arena new : Arena) (chart more : Chart) (tree : IsTree arena chart) (i : ℕ) (node_i : PlainNode) (change : Changes arena new i (Some node_i))
    (c k : ℕ) (p : List ℕ) (l : ℕ) (t : Standing) (charted : Changes chart more c (Some (spot (at_level k) p l t)))
    (place_same : (chart c ≡ None) ⊎ ((u : Standing) × (chart c ≡ Some (spot (at_level k) p l u))))
    (borders_on : k ≡ 0 → (y z : Bool) × (chart c ≡ Some (spot (at_level 0) p l (on y))) × (t ≡ on z))
    (no_border : (q : List ℕ) (m : ℕ) (st : Standing) → chart i ≢ Some (spot (at_level 0) q m st))
    (new_head : (q : List ℕ) (m : ℕ) (y : Bool) → chart i ≡ Some (spot top q m (on y)) → HeadAt new more i q m y)
    (new_gone : (q : List ℕ) (m e : ℕ) → chart i ≡ Some (spot top q m (gone e)) → (h : HeadNode) × (new i ≡ Some (head h)) × (h.deleted ≡ true))
    (new_interior : (f : ℕ) (q : List ℕ) (m : ℕ) (st : Standing) → i ≢ c → chart i ≡ Some (spot (at_level (suc f)) q m st) → InteriorAt new more i f q m st)
    (new_c : (f : ℕ) → k ≡ suc f → InteriorAt new more c f p l t)
    (others : (j f : ℕ) (q : List ℕ) (m : ℕ) (st : Standing) (x : InteriorNode) (d : PlainChild) → j ≢ i → j ≢ c → chart j ≡ Some (spot (at_level (suc f)) q m st) →
    arena j ≡ Some (interior x) → Among d x.children → IsChild chart st q (suc f) d → d.number ≡ c → MayName st t)
    (roots : (h : ℕ) (q : List ℕ) (x : HeadNode) → h ≢ i → OnHead chart h q → arena h ≡ Some (head x) → x.root ≡ c → t ≡ on true) where
  more_at : (m : ℕ) (x : Spot) → more m ≡ Some x → ((m ≡ c) × (x ≡ spot (at_level k) p l t)) ⊎ ((m ≢ c) × (chart m ≡ Some x))
  more_at m x g = go (same_number m c)
    where
      go : (m ≡ c) ⊎ (m ≢ c) → ((m ≡ c) × (x ≡ spot (at_level k) p l t)) ⊎ ((m ≢ c) × (chart m ≡ Some x))
      go (inl e) = inl (e, (let w : more m ≡ more c = ap more e in let v = charted.now in cc))
      go (inr e) = inr (e, sym (charted.rest m e) ∙ g)

  -- a place of the chart is one of the new chart, perhaps with the new standing
  step_place : (m : ℕ) (x : Role) (q : List ℕ) (v : ℕ) (st : Standing) → chart m ≡ Some (spot x q v st) →
      ((m ≡ c) × (x ≡ at_level k) × (more m ≡ Some (spot x q v t))) ⊎ ((m ≢ c) × (more m ≡ Some (spot x q v st)))
  step_place m x q v st g = go (same_number m c)
    where
      at_c : m ≡ c → (chart c ≡ None) ⊎ ((u : Standing) × (chart c ≡ Some (spot (at_level k) p l u))) → (x ≡ at_level k) × (more m ≡ Some (spot x q v t))
      at_c e (inl f) = absurd (let w : chart m ≡ chart c = ap chart e in cc)
      at_c e (inr (u, f)) = let w : chart m ≡ chart c = ap chart e in
          let s : spot x q v st ≡ spot (at_level k) p l u = cc in
          let s1 : x ≡ at_level k = cc in let s2 : q ≡ p = cc in let s3 : v ≡ l = cc in
          (s1, rw (e, s1, s2, s3) charted.now)

      go : (m ≡ c) ⊎ (m ≢ c) → ((m ≡ c) × (x ≡ at_level k) × (more m ≡ Some (spot x q v t))) ⊎ ((m ≢ c) × (more m ≡ Some (spot x q v st)))
      go (inl e) = let w = at_c e place_same in inl (e, w.0, w.1)
      go (inr e) = inr (e, charted.rest m e ∙ g)

  top_kept : (h : ℕ) (q : List ℕ) (v : ℕ) (st : Standing) → chart h ≡ Some (spot top q v st) → more h ≡ Some (spot top q v st)
  top_kept h q v st g = go (step_place h top q v st g)
    where
      go : ((h ≡ c) × (top ≡ at_level k) × (more h ≡ Some (spot top q v t))) ⊎ ((h ≢ c) × (more h ≡ Some (spot top q v st))) → more h ≡ Some (spot top q v st)
      go (inl (e, f, w)) = absurd (let z : top ≡ at_level k = f in cc)
      go (inr (e, w)) = w

  top_was : (h : ℕ) (q : List ℕ) (v : ℕ) (st : Standing) → more h ≡ Some (spot top q v st) → chart h ≡ Some (spot top q v st)
  top_was h q v st g = go (more_at h (spot top q v st) g)
    where
      go : ((h ≡ c) × (spot top q v st ≡ spot (at_level k) p l t)) ⊎ ((h ≢ c) × (chart h ≡ Some (spot top q v st))) → chart h ≡ Some (spot top q v st)
      go (inl (e, f)) = absurd (let z : top ≡ at_level k = cc in cc)
      go (inr (e, w)) = w

  not_i : (m : ℕ) (q : List ℕ) (v : ℕ) (st : Standing) → chart m ≡ Some (spot (at_level 0) q v st) → new m ≡ arena m
  not_i m q v st g = change.rest m (λ e. no_border q v st (ap chart (sym e) ∙ g))

  border_was : (m : ℕ) (q : List ℕ) (v : ℕ) (y : Bool) → more m ≡ Some (spot (at_level 0) q v (on y)) → (z : Bool) × (chart m ≡ Some (spot (at_level 0) q v (on z)))
  border_was m q v y g = go (more_at m (spot (at_level 0) q v (on y)) g)
    where
      go : ((m ≡ c) × (spot (at_level 0) q v (on y) ≡ spot (at_level k) p l t)) ⊎ ((m ≢ c) × (chart m ≡ Some (spot (at_level 0) q v (on y)))) → (z : Bool) × (chart m ≡ Some (spot (at_level 0) q v (on z)))
      go (inl (e, f)) = let z : k ≡ 0 = cc in let (u, w, s, r) = borders_on z in
          let s2 : p ≡ q = cc in let s3 : l ≡ v = cc in (u, ap chart e ∙ subst (λ (d : List ℕ). chart c ≡ Some (spot (at_level 0) d v (on u))) s2 (subst (λ (d : ℕ). chart c ≡ Some (spot (at_level 0) p d (on u))) s3 s))
      go (inr (e, w)) = (y, w)

  border_kept : (m : ℕ) (q : List ℕ) (v : ℕ) (y : Bool) → chart m ≡ Some (spot (at_level 0) q v (on y)) → (z : Bool) × (more m ≡ Some (spot (at_level 0) q v (on z)))
  border_kept m q v y g = go (step_place m (at_level 0) q v (on y) g)
    where
      go : ((m ≡ c) × (at_level 0 ≡ at_level k) × (more m ≡ Some (spot (at_level 0) q v t))) ⊎ ((m ≢ c) × (more m ≡ Some (spot (at_level 0) q v (on y)))) → (z : Bool) × (more m ≡ Some (spot (at_level 0) q v (on z)))
      go (inl (e, f, w)) = let z : k ≡ 0 = cc in let (u, s, x, r) = borders_on z in (s, subst (λ (d : Standing). more m ≡ Some (spot (at_level 0) q v d)) r w)
      go (inr (e, w)) = (y, w)

  gone_was : (m : ℕ) (q : List ℕ) (v e : ℕ) → more m ≡ Some (spot (at_level 0) q v (gone e)) → chart m ≡ Some (spot (at_level 0) q v (gone e))
  gone_was m q v e g = go (more_at m (spot (at_level 0) q v (gone e)) g)
    where
      go : ((m ≡ c) × (spot (at_level 0) q v (gone e) ≡ spot (at_level k) p l t)) ⊎ ((m ≢ c) × (chart m ≡ Some (spot (at_level 0) q v (gone e)))) → chart m ≡ Some (spot (at_level 0) q v (gone e))
      go (inl (h, f)) = absurd (let z : k ≡ 0 = cc in let w = borders_on z in let r : t ≡ on w.1 = w.3 in let s : gone e ≡ t = cc in cc)
      go (inr (h, w)) = w

  to_old : (m : ℕ) (q : List ℕ) (d : BorderNode) → OnBorder new more m q d → OnBorder arena chart m q d
  to_old m q d x = let (z, g) = border_was m q d.low x.posted x.place in record { posted = z; place = g; node = sym (not_i m q d.low (on z) g) ∙ x.node }

  to_new : (m : ℕ) (q : List ℕ) (d : BorderNode) → OnBorder arena chart m q d → OnBorder new more m q d
  to_new m q d x = let (z, g) = border_kept m q d.low x.posted x.place in record { posted = z; place = g; node = not_i m q d.low (on x.posted) x.place ∙ x.node }

  pub child_step : (st : Standing) (q : List ℕ) (f : ℕ) (d : PlainChild) → (d.number ≡ c → MayName st t) → IsChild chart st q f d → IsChild more st q f d
  child_step st q f d may x = go (step_place d.number (at_level d.level) q d.low x.standing x.place)
    where
      go : ((d.number ≡ c) × (at_level d.level ≡ at_level k) × (more d.number ≡ Some (spot (at_level d.level) q d.low t))) ⊎ ((d.number ≢ c) × (more d.number ≡ Some (spot (at_level d.level) q d.low x.standing))) → IsChild more st q f d
      go (inl (e, g, w)) = record { standing = t; lower = x.lower; place = w; may = may e }
      go (inr (e, w)) = record { standing = x.standing; lower = x.lower; place = w; may = x.may }

  pub children_step : (st : Standing) (q : List ℕ) (v f : ℕ) (cs : List PlainChild) → ((d : PlainChild) → Among d cs → IsChild chart st q f d → d.number ≡ c → MayName st t) → AreChildren chart st q v f cs → AreChildren more st q v f cs
  children_step st q v f cs may w = record { leftmost = w.leftmost; each = (λ d m. child_step st q f d (may d m (w.each d m)) (w.each d m)) }

  pub root_step : (r lev : ℕ) (q : List ℕ) → (r ≡ c → t ≡ on true) → chart r ≡ Some (spot (at_level lev) q 0 (on true)) → more r ≡ Some (spot (at_level lev) q 0 (on true))
  root_step r lev q may g = go (step_place r (at_level lev) q 0 (on true) g)
    where
      go : ((r ≡ c) × (at_level lev ≡ at_level k) × (more r ≡ Some (spot (at_level lev) q 0 t))) ⊎ ((r ≢ c) × (more r ≡ Some (spot (at_level lev) q 0 (on true)))) → more r ≡ Some (spot (at_level lev) q 0 (on true))
      go (inl (e, f, w)) = subst (λ (d : Standing). more r ≡ Some (spot (at_level lev) q 0 d)) (may e) w
      go (inr (e, w)) = w

  step_hung : (h : ℕ) (q : List ℕ) → Hung arena chart h q → Hung new more h q
  step_hung h [] e = e
  step_hung h (s ∷ q) (m, d, x, there) = (m, d, to_new m q d x, there)

  step_head : (h : ℕ) (q : List ℕ) (v : ℕ) (y : Bool) → chart h ≡ Some (spot top q v (on y)) → HeadAt new more h q v y
  step_head h q v y g = go (same_number h i)
    where
      go : (h ≡ i) ⊎ (h ≢ i) → HeadAt new more h q v y
      go (inl e) = subst (λ (d : ℕ). HeadAt new more d q v y) (sym e) (new_head q v y (ap chart (sym e) ∙ g))
      go (inr e) = let u = tree.heads h q v y g in
          let z : v ≡ 0 = u.low in let b : y ≡ true = u.posted in
          record { low = u.low; posted = u.posted; node = u.node; is_node = change.rest h e ∙ u.is_node; root = root_step u.node.root u.node.level q (λ f. roots h q u.node e (rw (z, b) at g) u.is_node f) u.root }

  step_interior : (m f : ℕ) (q : List ℕ) (v : ℕ) (st : Standing) → more m ≡ Some (spot (at_level (suc f)) q v st) → InteriorAt new more m f q v st
  step_interior m f q v st g = go (more_at m (spot (at_level (suc f)) q v st) g) (same_number m i)
    where
      go : ((m ≡ c) × (spot (at_level (suc f)) q v st ≡ spot (at_level k) p l t)) ⊎ ((m ≢ c) × (chart m ≡ Some (spot (at_level (suc f)) q v st))) → (m ≡ i) ⊎ (m ≢ i) → InteriorAt new more m f q v st
      go (inl (e, w)) _ =
          let z : k ≡ suc f = cc in let s2 : q ≡ p = cc in let s3 : v ≡ l = cc in let s4 : st ≡ t = cc in
          rw (e, s2, s3, s4) (new_c f z)
      go (inr (e, w)) (inl h) = subst (λ (d : ℕ). InteriorAt new more d f q v st) (sym h) (new_interior f q v st (λ x. e (h ∙ x)) (ap chart (sym h) ∙ w))
      go (inr (e, w)) (inr h) = let u = tree.interiors m f q v st w in
          record { node = u.node; is_node = change.rest m h ∙ u.is_node; low = u.low; level = u.level; ok = kids u.node u.is_node u.ok; locked_till_deleted = u.locked_till_deleted }
        where
          kids : (x : InteriorNode) → arena m ≡ Some (interior x) → (((e : ℕ) × (st ≡ gone e)) × (x.deleted ≡ true)) ⊎ AreChildren chart st q v (suc f) x.children → (((e : ℕ) × (st ≡ gone e)) × (x.deleted ≡ true)) ⊎ AreChildren more st q v (suc f) x.children
          kids x r (inl s) = inl s
          kids x r (inr s) = inr (children_step st q v (suc f) x.children (λ d j ck b. others m f q v st x d h e w r j ck b) s)

  step_gone_head : (h : ℕ) (q : List ℕ) (v e : ℕ) → chart h ≡ Some (spot top q v (gone e)) → (x : HeadNode) × (new h ≡ Some (head x)) × (x.deleted ≡ true)
  step_gone_head h q v e g = go (same_number h i)
    where
      go : (h ≡ i) ⊎ (h ≢ i) → (x : HeadNode) × (new h ≡ Some (head x)) × (x.deleted ≡ true)
      go (inl f) = let (x, u, w) = new_gone q v e (ap chart (sym f) ∙ g) in (x, ap new f ∙ u, w)
      go (inr f) = let (x, u, w) = tree.gone_heads h q v e g in (x, change.rest h f ∙ u, w)

  pub step_tree : IsTree new more
  step_tree = record {
    layer_0 = top_kept 0 [] 0 (on true) tree.layer_0;
    heads = (λ h q v y g. step_head h q v y (top_was h q v (on y) g));
    borders = (λ m q v y g. let (z, w) = border_was m q v y g in let (d, e, f) = tree.borders m q v z w in (d, not_i m q v (on z) w ∙ e, f));
    each_border = (λ m q d x. let ok = tree.each_border m q d (to_old m q d x) in
        record {
          apart = ok.apart;
          from_low = ok.from_low;
          to_right = ok.to_right;
          links = (λ s h e. top_kept h (s ∷ q) 0 (on true) (ok.links s h e));
          right = (λ r e. let (u, y, v) = ok.right r e in let (z, w) = border_kept r.number q r.low y v in (u, z, w));
          empty = ok.empty;
        });
    interiors = step_interior;
    gone_heads = (λ h q v e g. step_gone_head h q v e (top_was h q v (gone e) g));
    gone_borders = (λ m q v e g. let w = gone_was m q v e g in let (d, x, y) = tree.gone_borders m q v e w in (d, not_i m q v (gone e) w ∙ x, y));
    from_left = (λ m q d x. left m q d (tree.from_left m q d (to_old m q d x)));
    in_layer = (λ m q d x. let (h, g) = tree.in_layer m q d (to_old m q d x) in (h, top_kept h q 0 (on true) g));
    hung = (λ h q g. step_hung h q (tree.hung h q (top_was h q 0 (on true) g)));
    disjoint = (λ m n q d e x y le be. tree.disjoint m n q d e (to_old m q d x) (to_old n q e y) le be);
  }
    where
      left : (m : ℕ) (q : List ℕ) (d : BorderNode) → (d.low ≡ 0) ⊎ ((j : ℕ) × (f : BorderNode) × OnBorder arena chart j q f × (f.right ≡ Some (record { low = d.low; number = m }))) →
          (d.low ≡ 0) ⊎ ((j : ℕ) × (f : BorderNode) × OnBorder new more j q f × (f.right ≡ Some (record { low = d.low; number = m })))
      left m q d (inl z) = inl z
      left m q d (inr (j, f, y, e)) = inr (j, f, to_new j q f y, e)
