-- The small changes of which each step on heads and interiors is made: either the arena changes and the chart stays,
-- or the chart changes and the arena stays.
use Rattle.std.proofs.Common.{ℕ, suc, ◌≡◌, ◌≢◌, ◌<◌, ◌⊎◌, inl, inr, List, [], Some, None, Bool, true, refl, sym, ap, ◌∙◌, subst, arith}
use Rattle.mt_chart.specs.Tree.{HeadNode, PlainChild, InteriorNode, PlainNode, head, interior, Arena, Among}
use Rattle.mt_chart.specs.Chart.{Standing, on, gone, Role, top, at_level, Spot, spot, Chart, OnHead, MayName, IsChild, AreChildren, HeadAt, IsTree, Changes, Dated, Owns, by_head, by_interior}
use Rattle.mt_chart.proofs.Basics.{same_number}
use Rattle.mt_chart.proofs.TreeStep.{step_tree}

-- children under a chart in which one node stands otherwise
pub child_moves : (chart more : Chart) (c k : ℕ) (p : List ℕ) (l : ℕ) (u t : Standing) → Changes chart more c (Some (spot (at_level k) p l t)) → chart c ≡ Some (spot (at_level k) p l u) →
    (st st' : Standing) (q : List ℕ) (f : ℕ) (d : PlainChild) → (d.number ≡ c → MayName st' t) → ((v : Standing) → MayName st v → MayName st' v) → IsChild chart st q f d → IsChild more st' q f d
child_moves chart more c k p l u t charted at_c st st' q f d may weaker x = go (same_number d.number c)
  where
    go : (d.number ≡ c) ⊎ (d.number ≢ c) → IsChild more st' q f d
    go (inl e) =
        let w : chart d.number ≡ chart c = ap chart e in let z = x.place in
        let s1 : at_level d.level ≡ at_level k = cc in let s2 : q ≡ p = cc in let s3 : d.low ≡ l = cc in
        record { standing = t; lower = x.lower; place = rw (e, s1, s2, s3) charted.now; may = may e }
    go (inr e) = record { standing = x.standing; lower = x.lower; place = charted.rest d.number e ∙ x.place; may = weaker x.standing x.may }

pub children_fresh : (chart more : Chart) (c : ℕ) (s : Spot) → chart c ≡ None → Changes chart more c (Some s) →
    (st : Standing) (q : List ℕ) (l f : ℕ) (cs : List PlainChild) → AreChildren chart st q l f cs → AreChildren more st q l f cs
children_fresh chart more c s fresh charted st q l f cs w = record {
  leftmost = w.leftmost;
  each = (λ d m. let x = w.each d m in
      record {
        standing = x.standing;
        lower = x.lower;
        may = x.may;
        place = charted.rest d.number (λ e. let z = x.place in let k : chart d.number ≡ chart c = ap chart e in cc) ∙ x.place;
      });
}

same_chart : (chart : Chart) (c : ℕ) (s : Spot) → chart c ≡ Some s → Changes chart chart c (Some s)
same_chart chart c s g = record { now = g; rest = (λ m ne. refl) }

same_arena : (arena : Arena) (i : ℕ) (x : PlainNode) → arena i ≡ Some x → Changes arena arena i (Some x)
same_arena arena i x g = record { now = g; rest = (λ m ne. refl) }

interior_not : (k : ℕ) → at_level (suc k) ≢ at_level 0
interior_not k e = let z : suc k ≡ 0 = cc in omega arith

-- a child whose place is known has its standing
named : (chart : Chart) (st : Standing) (q : List ℕ) (f : ℕ) (d : PlainChild) (c k : ℕ) (p : List ℕ) (l : ℕ) (u : Standing) → IsChild chart st q f d → d.number ≡ c → chart c ≡ Some (spot (at_level k) p l u) → MayName st u
named chart st q f d c k p l u y n at_c =
    let pl = y.place in let k' : chart d.number ≡ chart c = ap chart n in
    let s : y.standing ≡ u = cc in subst (λ (v : Standing). MayName st v) s y.may

module _ (arena : Arena) (chart : Chart) (tree : IsTree arena chart) where
  no_top : (i : ℕ) (r : Role) (q : List ℕ) (m : ℕ) (st st' : Standing) (q' : List ℕ) (m' : ℕ) (k : ℕ) → chart i ≡ Some (spot (at_level k) q m st) → chart i ≡ Some (spot top q' m' st') → ⊥
  no_top i r q m st st' q' m' k g h = let z : top ≡ at_level k = cc in cc

  -- a border that no head or interior names, or is to be named, may come to be named, or not to be
  pub permit : (more : Chart) (c : ℕ) (p : List ℕ) (l : ℕ) (y z : Bool) → chart c ≡ Some (spot (at_level 0) p l (on y)) → Changes chart more c (Some (spot (at_level 0) p l (on z))) →
      (z ≡ true) ⊎ ((j : ℕ) → Owns arena chart j c → ⊥) → IsTree arena more
  permit more c p l y z at_c charted lawful =
      let h0 = tree.heads 0 [] 0 true tree.layer_0 in
      step_tree arena arena chart more tree 0 (head h0.node) (same_arena arena 0 (head h0.node) h0.is_node) c 0 p l (on z) charted (inr (on y, at_c))
      (λ e. (y, z, at_c, refl)) (λ q m st g. let i = tree.layer_0 in let w : top ≡ at_level 0 = cc in cc)
      (λ q m w g. let u = tree.heads 0 q m w g in record { low = u.low; posted = u.posted; node = u.node; is_node = u.is_node; root = root u.node q m w g u })
      (λ q m e g. let i = tree.layer_0 in absurd (let w : on true ≡ gone e = cc in cc))
      (λ f q m st ne g. absurd (let i = tree.layer_0 in let w : top ≡ at_level (suc f) = cc in cc))
      (λ f e. absurd (omega arith))
      (λ j f q m st x d ne ne' g e i ck n. others j f q m st x d g e i n lawful)
      (λ h q x ne g e n. roots h q x g e n lawful)
    where
      root : (t : HeadNode) (q : List ℕ) (m : ℕ) (w : Bool) → chart 0 ≡ Some (spot top q m (on w)) → (u : HeadAt arena chart 0 q m w) → more u.node.root ≡ Some (spot (at_level u.node.level) q 0 (on true))
      root t q m w g u = go (same_number u.node.root c) lawful
        where
          go : (u.node.root ≡ c) ⊎ (u.node.root ≢ c) → (z ≡ true) ⊎ ((j : ℕ) → Owns arena chart j c → ⊥) → more u.node.root ≡ Some (spot (at_level u.node.level) q 0 (on true))
          go (inl e) (inl zt) = let k : chart u.node.root ≡ chart c = ap chart e in let r = u.root in
              let s1 : at_level u.node.level ≡ at_level 0 = cc in let s2 : q ≡ p = cc in let s3 : l ≡ 0 = cc in
              let now : more c ≡ Some (spot (at_level 0) p l (on z)) = charted.now in rw (e, s1, s2) (rw (zt, s3) at now)
          go (inl e) (inr none) = let z0 : m ≡ 0 = u.low in let w0 : w ≡ true = u.posted in absurd (none 0 (by_head q u.node (rw (z0, w0) at g) u.is_node e))
          go (inr ne) _ = charted.rest u.node.root ne ∙ u.root

      others : (j f : ℕ) (q : List ℕ) (m : ℕ) (st : Standing) (x : InteriorNode) (d : PlainChild) → chart j ≡ Some (spot (at_level (suc f)) q m st) → arena j ≡ Some (interior x) → Among d x.children → d.number ≡ c →
          (z ≡ true) ⊎ ((j : ℕ) → Owns arena chart j c → ⊥) → MayName st (on z)
      others j f q m (on w) x d g e i n (inl zt) = ap on zt
      others j f q m (on w) x d g e i n (inr none) = absurd (none j (by_interior f q m w x d g e i n))
      others j f q m (gone h) x d g e i n _ = tt

      roots : (h : ℕ) (q : List ℕ) (x : HeadNode) → OnHead chart h q → arena h ≡ Some (head x) → x.root ≡ c → (z ≡ true) ⊎ ((j : ℕ) → Owns arena chart j c → ⊥) → on z ≡ on true
      roots h q x g e n (inl zt) = ap on zt
      roots h q x g e n (inr none) = absurd (none h (by_head q x g e n))

  -- an interior that is on gets other children; its place stays
  pub take_children : (new : Arena) (i f : ℕ) (q : List ℕ) (m : ℕ) (y : Bool) (x : InteriorNode) → chart i ≡ Some (spot (at_level (suc f)) q m (on y)) → Changes arena new i (Some (interior x)) →
      x.low ≡ m → x.level ≡ suc f → AreChildren chart (on y) q m (suc f) x.children → IsTree new chart
  take_children new i f q m y x at_i change low level children =
      step_tree arena new chart chart tree i (interior x) change i (suc f) q m (on y) (same_chart chart i (spot (at_level (suc f)) q m (on y)) at_i) (inr (on y, at_i))
      (λ e. absurd (omega arith)) (λ q' m' st g. interior_not f (cc))
      (λ q' m' w g. absurd (no_top i top q m (on y) (on w) q' m' (suc f) at_i g)) (λ q' m' e g. absurd (no_top i top q m (on y) (gone e) q' m' (suc f) at_i g))
      (λ f' q' m' st ne g. absurd (ne refl))
      (λ f' e. let k : f ≡ f' = omega arith in let lev : x.level ≡ suc f' = cc in
      record { node = x; is_node = change.now; low = low; level = lev; ok = inr (subst (λ (v : ℕ). AreChildren chart (on y) q m v x.children) e children); locked_till_deleted = (λ h w. absurd (let z : on y ≡ gone h = w in cc)) })
      (λ j f' q' m' st z d ne ne' g e h ck n. named chart st q' (suc f') d i (suc f) q m (on y) ck n at_i)
      (λ h q' z ne g e n. let u = tree.heads h q' 0 true g in
      let same : u.node ≡ z = (let w : arena h ≡ Some (head u.node) = u.is_node in cc) in
      let r : chart z.root ≡ Some (spot (at_level z.level) q' 0 (on true)) = rw same at u.root in let k : chart z.root ≡ chart i = ap chart n in cc)

  -- a head that is on gets another root, or is marked
  pub take_root : (new : Arena) (h : ℕ) (q : List ℕ) (t : HeadNode) → OnHead chart h q → Changes arena new h (Some (head t)) →
      chart t.root ≡ Some (spot (at_level t.level) q 0 (on true)) → IsTree new chart
  take_root new h q t at_h change root =
      step_tree arena new chart chart tree h (head t) change t.root t.level q 0 (on true) (same_chart chart t.root (spot (at_level t.level) q 0 (on true)) root) (inr (on true, root))
      (λ e. (true, true, (let k : t.level ≡ 0 = e in subst (λ (v : ℕ). chart t.root ≡ Some (spot (at_level v) q 0 (on true))) k root), refl))
      (λ q' m' st g. no_top h top q' m' st (on true) q 0 0 g at_h)
      (λ q' m' w g. let s2 : q ≡ q' = cc in record { low = (cc); posted = (let z : on w ≡ on true = cc in cc); node = t; is_node = change.now; root = subst (λ (v : List ℕ). chart t.root ≡ Some (spot (at_level t.level) v 0 (on true))) s2 root })
      (λ q' m' e g. absurd (let z : on true ≡ gone e = cc in cc))
      (λ f q' m' st ne g. absurd (no_top h top q' m' st (on true) q 0 (suc f) g at_h))
      (λ f e. let g : chart t.root ≡ Some (spot (at_level (suc f)) q 0 (on true)) = subst (λ (v : ℕ). chart t.root ≡ Some (spot (at_level v) q 0 (on true))) e root in
      let u = tree.interiors t.root f q 0 (on true) g in
      record { node = u.node; is_node = change.rest t.root (λ n. no_top t.root top q 0 (on true) (on true) q 0 (suc f) g (ap chart n ∙ at_h)) ∙ u.is_node; low = u.low; level = u.level; ok = u.ok; locked_till_deleted = u.locked_till_deleted })
      (λ j f q' m' st z d ne ne' g e i ck n. always st) (λ h' q' z ne g e n. refl)
    where
      always : (st : Standing) → MayName st (on true)
      always (on w) = refl
      always (gone e) = tt

  -- a filled interior that no one names is published, for heads and interiors to name
  pub publish : (more : Chart) (c f : ℕ) (p : List ℕ) (l : ℕ) (x : InteriorNode) → chart c ≡ None → arena c ≡ Some (interior x) → Changes chart more c (Some (spot (at_level (suc f)) p l (on true))) →
      x.low ≡ l → x.level ≡ suc f → AreChildren chart (on true) p l (suc f) x.children → IsTree arena more
  publish more c f p l x fresh there charted low level children =
      let h0 = tree.heads 0 [] 0 true tree.layer_0 in
      step_tree arena arena chart more tree 0 (head h0.node) (same_arena arena 0 (head h0.node) h0.is_node) c (suc f) p l (on true) charted (inl fresh)
      (λ e. absurd (omega arith)) (λ q m st g. let i = tree.layer_0 in let w : top ≡ at_level 0 = cc in cc)
      (λ q m w g. let u = tree.heads 0 q m w g in record {
        low = u.low;
        posted = u.posted;
        node = u.node;
        is_node = u.is_node;
        root = charted.rest u.node.root (λ e. let z = u.root in let k : chart u.node.root ≡ chart c = ap chart e in cc) ∙ u.root;
      })
      (λ q m e g. let i = tree.layer_0 in absurd (let w : on true ≡ gone e = cc in cc))
      (λ f' q m st ne g. absurd (let i = tree.layer_0 in let w : top ≡ at_level (suc f') = cc in cc))
      (λ f' e. let lev : x.level ≡ suc f' = cc in record {
        node = x;
        is_node = there;
        low = low;
        level = lev;
        ok = inr (children_fresh chart more c (spot (at_level (suc f)) p l (on true)) fresh charted (on true) p l (suc f') x.children (subst (λ (v : ℕ). AreChildren chart (on true) p l v x.children) e children));
        locked_till_deleted = (λ h w. absurd (let z : on true ≡ gone h = w in cc));
      })
      (λ j f' q m st z d ne ne' g e i ck n. always st) (λ h q z ne g e n. refl)
    where
      always : (st : Standing) → MayName st (on true)
      always (on w) = refl
      always (gone e) = tt

  -- a locked interior that nothing on names any more goes
  pub leave : (more : Chart) (c f : ℕ) (p : List ℕ) (l : ℕ) (y : Bool) (x : InteriorNode) (now : ℕ) → Dated chart now → chart c ≡ Some (spot (at_level (suc f)) p l (on y)) → arena c ≡ Some (interior x) → x.locked ≡ true →
      Changes chart more c (Some (spot (at_level (suc f)) p l (gone now))) → ((j : ℕ) → Owns arena chart j c → ⊥) → IsTree arena more
  leave more c f p l y x now dated at_c there locked charted none =
      let h0 = tree.heads 0 [] 0 true tree.layer_0 in
      step_tree arena arena chart more tree 0 (head h0.node) (same_arena arena 0 (head h0.node) h0.is_node) c (suc f) p l (gone now) charted (inr (on y, at_c))
      (λ e. absurd (omega arith)) (λ q m st g. let i = tree.layer_0 in let w : top ≡ at_level 0 = cc in cc)
      (λ q m w g. let u = tree.heads 0 q m w g in record {
        low = u.low;
        posted = u.posted;
        node = u.node;
        is_node = u.is_node;
        root = charted.rest u.node.root (λ e. let z0 : m ≡ 0 = u.low in let w0 : w ≡ true = u.posted in none 0 (by_head q u.node (rw (z0, w0) at g) u.is_node e)) ∙ u.root;
      })
      (λ q m e g. let i = tree.layer_0 in absurd (let w : on true ≡ gone e = cc in cc))
      (λ f' q m st ne g. absurd (let i = tree.layer_0 in let w : top ≡ at_level (suc f') = cc in cc))
      (λ f' e. let u = tree.interiors c f p l (on y) at_c in
      let same : u.node ≡ x = (let z : arena c ≡ Some (interior u.node) = u.is_node in cc) in
      let lev : u.node.level ≡ suc f = u.level in let lev' : x.level ≡ u.node.level = ap (λ v. v.level) (sym same) in
      let low : x.low ≡ l = rw same at u.low in
      let level : x.level ≡ suc f' = cc in
      record {
        node = x;
        is_node = there;
        low = low;
        level = level;
        ok = inr (subst (λ (v : ℕ). AreChildren more (gone now) p l v x.children) e (children (rw same at u.ok)));
        locked_till_deleted = (λ h w. inr locked);
      })
      (λ j f' q m st z d ne ne' g e i ck n. others j f' q m st z d g e i n) (λ h q z ne g e n. absurd (none h (by_head q z g e n)))
    where
      others : (j f' : ℕ) (q : List ℕ) (m : ℕ) (st : Standing) (z : InteriorNode) (d : PlainChild) → chart j ≡ Some (spot (at_level (suc f')) q m st) → arena j ≡ Some (interior z) → Among d z.children → d.number ≡ c → MayName st (gone now)
      others j f' q m (on w) z d g e i n = absurd (none j (by_interior f' q m w z d g e i n))
      others j f' q m (gone h) z d g e i n = dated j (at_level (suc f')) q m h g

      weaker : (v : Standing) → MayName (on y) v → MayName (gone now) v
      weaker (on w) _ = tt
      weaker (gone h) e = absurd (let z : gone h ≡ on true = e in cc)

      -- no child is the interior itself: its level is smaller
      children : (((e : ℕ) × (on y ≡ gone e)) × (x.deleted ≡ true)) ⊎ AreChildren chart (on y) p l (suc f) x.children → AreChildren more (gone now) p l (suc f) x.children
      children (inl e) = absurd (let z : on y ≡ gone e.0.0 = e.0.1 in cc)
      children (inr w) = record {
        leftmost = w.leftmost;
        each = (λ d i.
            child_moves chart more c (suc f) p l (on y) (gone now) charted at_c (on y) (gone now) p (suc f) d
            (λ e. let z = w.each d i in let pl = z.place in let k : chart d.number ≡ chart c = ap chart e in let lt : d.level < suc f = z.lower in
            absurd (let s : at_level d.level ≡ at_level (suc f) = cc in let s' : d.level ≡ suc f = cc in omega arith)) weaker (w.each d i));
      }

  -- an interior that is gone is marked deleted
  pub mark_gone : (new : Arena) (i f : ℕ) (q : List ℕ) (m e : ℕ) (x : InteriorNode) → chart i ≡ Some (spot (at_level (suc f)) q m (gone e)) → Changes arena new i (Some (interior x)) →
      x.low ≡ m → x.level ≡ suc f → x.deleted ≡ true → IsTree new chart
  mark_gone new i f q m e x at_i change low level deleted =
      step_tree arena new chart chart tree i (interior x) change i (suc f) q m (gone e) (same_chart chart i (spot (at_level (suc f)) q m (gone e)) at_i) (inr (gone e, at_i))
      (λ z. absurd (omega arith)) (λ q' m' st g. interior_not f (cc))
      (λ q' m' w g. absurd (no_top i top q m (gone e) (on w) q' m' (suc f) at_i g)) (λ q' m' h g. absurd (no_top i top q m (gone e) (gone h) q' m' (suc f) at_i g))
      (λ f' q' m' st ne g. absurd (ne refl))
      (λ f' z. let lev : x.level ≡ suc f' = cc in
      record { node = x; is_node = change.now; low = low; level = lev; ok = inl ((e, refl), deleted); locked_till_deleted = (λ h w. inl deleted) })
      (λ j f' q' m' st z d ne ne' g w h ck n. named chart st q' (suc f') d i (suc f) q m (gone e) ck n at_i)
      (λ h q' z ne g w n. let u = tree.heads h q' 0 true g in
      let same : u.node ≡ z = (let v : arena h ≡ Some (head u.node) = u.is_node in cc) in
      let r : chart z.root ≡ Some (spot (at_level z.level) q' 0 (on true)) = rw same at u.root in let k : chart z.root ≡ chart i = ap chart n in cc)
