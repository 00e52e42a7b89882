-- A layer is taken out: the border `n` hides its link to the head `t`, which is marked deleted, and whose root is the
-- one border `r`, empty and marked deleted.
use Rattle.std.proofs.Common.{ℕ, suc, ◌≡◌, ◌≢◌, ◌<◌, ◌≤◌, ◌⊎◌, ◌↔◌, inl, inr, List, [], ◌∷◌, Option, Some, None, Bool, true, refl, sym, ap, ◌∙◌, subst, arith}
use Rattle.mt_slice.specs.Place.{Place, under}
use Rattle.mt_types.specs.declared.row.Row.{Row}
use Rattle.mt_chart.specs.Tree.{link, PlainEntry, Right, HeadNode, BorderNode, PlainChild, InteriorNode, head, border, interior, Arena, Among, first, Below, no_right, Has}
use Rattle.mt_chart.specs.Chart.{Standing, on, gone, Role, top, at_level, Spot, spot, Chart, OnHead, OnBorder, IsBorderNode, MayName, IsChild, AreChildren, Hung, InteriorAt, IsTree, Stored, Later, went, Changes, Evolves, Dated, Owns, by_interior, Owned}
use Rattle.mt_chart.proofs.Basics.{same_number}
use Rattle.mt_chart.proofs.HeldNodes.{later_same}
use Rattle.mt_chart.proofs.Reach.{same_border, stored, has}
use Rattle.mt_chart.proofs.Keys.{same_slice, link_holds_none}
use Rattle.mt_chart.proofs.Ownership.{owned_rest}

module _ (arena new : Arena) (chart more : Chart) (tree : IsTree arena chart) (n : ℕ) (p : List ℕ) (b b' : BorderNode) (o : OnBorder arena chart n p b) (change : Changes arena new n (Some (border b')))
    (s t r : ℕ) (h : HeadNode) (x : BorderNode) (on_t : OnHead chart t (s ∷ p)) (head_there : arena t ≡ Some (head h)) (h_deleted : h.deleted ≡ true)
    (on_r : OnBorder arena chart r (s ∷ p) x) (x_low : x.low ≡ 0) (x_right : x.right ≡ None) (x_entries : x.entries ≡ []) (x_deleted : x.deleted ≡ true)
    (only_head : (j : ℕ) → Owns arena chart j r → j ≡ t)
    (now : ℕ) (dated : Dated chart now)
    (t_goes : more t ≡ Some (spot top (s ∷ p) 0 (gone now))) (r_goes : more r ≡ Some (spot (at_level 0) (s ∷ p) 0 (gone now))) (rest : (m : ℕ) → m ≢ t → m ≢ r → more m ≡ chart m)
    (low : b'.low ≡ b.low) (right : b'.right ≡ b.right) (alive : b'.deleted ≡ b.deleted)
    (there : Among (record { slice = s; content = link t }) b.entries)
    (entries : (e : PlainEntry) → Among e b'.entries ↔ (Among e b.entries × (e ≢ record { slice = s; content = link t }))) where
  abbrev gone_link : PlainEntry
  gone_link = record { slice = s; content = link t }

  ok_n : IsBorderNode chart p b
  ok_n = tree.each_border n p b o

  r_place : chart r ≡ Some (spot (at_level 0) (s ∷ p) 0 (on on_r.posted))
  r_place = let g = on_r.place in rw x_low at g

  -- the layer's only border is `r`, its only head `t`
  only_r : (m : ℕ) (d : BorderNode) → OnBorder arena chart m (s ∷ p) d → m ≡ r
  only_r m d z = sym (tree.disjoint r m (s ∷ p) x d on_r z (rw x_low (omega arith)) (rw x_right no_right))

  -- a border with the link to `t` is `n`
  only_n : (m : ℕ) (q : List ℕ) (d : BorderNode) (v : ℕ) → OnBorder arena chart m q d → Among (record { slice = v; content = link t }) d.entries → (m ≡ n) × (q ≡ p) × (v ≡ s)
  only_n m q d v z i =
      let g = (tree.each_border m q d z).links v t i in let g' = on_t in
      let qs : v ∷ q ≡ s ∷ p = cc in let vs : v ≡ s = cc in let qp : q ≡ p = cc in
      (same_slice arena chart tree m n p d b (record { slice = v; content = link t }) gone_link (rw qp at z) o i there vs, qp, vs)

  only_t : (i : ℕ) → OnHead chart i (s ∷ p) → i ≡ t
  only_t i g =
      let (m, d, z, at) = tree.hung i (s ∷ p) g in
      let e : PlainEntry = record { slice = s; content = link i } in
      let mn : m ≡ n = same_slice arena chart tree m n p d b e gone_link z o at there refl in
      let db : d ≡ b = same_border arena m d b z.node (rw mn o.node) in
      let same : e ≡ gone_link = ok_n.apart e gone_link (subst (λ (w : BorderNode). Among e w.entries) db at) there refl refl in
      (let w : link i ≡ link t = ap (λ (w : PlainEntry). w.content) same in cc)

  more_at : (m : ℕ) (z : Spot) → more m ≡ Some z → ((m ≡ t) × (z ≡ spot top (s ∷ p) 0 (gone now))) ⊎ (((m ≡ r) × (z ≡ spot (at_level 0) (s ∷ p) 0 (gone now))) ⊎ ((m ≢ t) × (m ≢ r) × (chart m ≡ Some z)))
  more_at m z g = go (same_number m t) (same_number m r)
    where
      go : (m ≡ t) ⊎ (m ≢ t) → (m ≡ r) ⊎ (m ≢ r) → ((m ≡ t) × (z ≡ spot top (s ∷ p) 0 (gone now))) ⊎ (((m ≡ r) × (z ≡ spot (at_level 0) (s ∷ p) 0 (gone now))) ⊎ ((m ≢ t) × (m ≢ r) × (chart m ≡ Some z)))
      go (inl e) _ = inl (e, (let w : more m ≡ more t = ap more e in let v = t_goes in cc))
      go (inr e) (inl i) = inr (inl (i, (let w : more m ≡ more r = ap more i in let v = r_goes in cc)))
      go (inr e) (inr i) = inr (inr (e, i, sym (rest m e i) ∙ g))

  -- what is on under the new chart is on as before
  on_was : (m : ℕ) (z : Role) (q : List ℕ) (v : ℕ) (y : Bool) → more m ≡ Some (spot z q v (on y)) → (m ≢ t) × (m ≢ r) × (chart m ≡ Some (spot z q v (on y)))
  on_was m z q v y g = go (more_at m (spot z q v (on y)) g)
    where
      go : ((m ≡ t) × (spot z q v (on y) ≡ spot top (s ∷ p) 0 (gone now))) ⊎ (((m ≡ r) × (spot z q v (on y) ≡ spot (at_level 0) (s ∷ p) 0 (gone now))) ⊎ ((m ≢ t) × (m ≢ r) × (chart m ≡ Some (spot z q v (on y))))) → (m ≢ t) × (m ≢ r) × (chart m ≡ Some (spot z q v (on y)))
      go (inl (e, f)) = absurd (let w : on y ≡ gone now = cc in cc)
      go (inr (inl (e, f))) = absurd (let w : on y ≡ gone now = cc in cc)
      go (inr (inr w)) = w

  top_not : top ≢ at_level 0
  top_not e = cc

  interior_not : (k : ℕ) → at_level (suc k) ≢ at_level 0
  interior_not k e = let z : suc k ≡ 0 = cc in omega arith

  same_node : (m : ℕ) (z : Role) (q : List ℕ) (v : ℕ) (st : Standing) → z ≢ at_level 0 → chart m ≡ Some (spot z q v st) → new m ≡ arena m
  same_node m z q v st ne g = change.rest m (λ e. ne (let w : chart m ≡ chart n = ap chart e in let d = o.place in cc))

  n_not_t : n ≢ t
  n_not_t e = top_not (let w : chart n ≡ chart t = ap chart e in let d = o.place in let d' = on_t in cc)

  n_not_r : n ≢ r
  n_not_r e = longer (let w : chart n ≡ chart r = ap chart e in let d = o.place in let d' = on_r.place in let k : p ≡ s ∷ p = cc in ap size k)
    where
      size : List ℕ → ℕ
      size [] = 0
      size (v ∷ q) = suc (size q)

      longer : size p ≡ suc (size p) → ⊥
      longer e = omega arith

  now_n : OnBorder new more n p b'
  now_n = let g : more n ≡ Some (spot (at_level 0) p b.low (on o.posted)) = rest n n_not_t n_not_r ∙ o.place in
      record { posted = o.posted; place = rw low g; node = change.now }

  was : (m : ℕ) (q : List ℕ) (d : BorderNode) → OnBorder new more m q d → (m ≢ r) × (((m ≡ n) × (q ≡ p) × (d ≡ b')) ⊎ ((m ≢ n) × OnBorder arena chart m q d))
  was m q d z = let (e, e', g) = on_was m (at_level 0) q d.low z.posted z.place in (e', go g (same_number m n))
    where
      go : chart m ≡ Some (spot (at_level 0) q d.low (on z.posted)) → (m ≡ n) ⊎ (m ≢ n) → ((m ≡ n) × (q ≡ p) × (d ≡ b')) ⊎ ((m ≢ n) × OnBorder arena chart m q d)
      go g (inl i) = inl (i, (let w = o.place in let k : chart m ≡ chart n = ap chart i in cc), same_border new n d b' (rw i at z.node) change.now)
      go g (inr i) = inr (i, record { posted = z.posted; place = g; node = sym (change.rest m i) ∙ z.node })

  border_not_t : (m : ℕ) (q : List ℕ) (d : BorderNode) → OnBorder arena chart m q d → m ≢ t
  border_not_t m q d z e = top_not (let w : chart m ≡ chart t = ap chart e in let d = z.place in let d' = on_t in cc)

  kept : (m : ℕ) (q : List ℕ) (d : BorderNode) → OnBorder arena chart m q d → m ≢ r → m ≢ n → OnBorder new more m q d
  kept m q d z ne ne' = record { posted = z.posted; place = rest m (border_not_t m q d z) ne ∙ z.place; node = change.rest m ne' ∙ z.node }

  at_n : (m : ℕ) (q : List ℕ) (d : BorderNode) → OnBorder arena chart m q d → m ≡ n → (q ≡ p) × (d ≡ b)
  at_n m q d z e = ((let w = o.place in let w' = z.place in let k : chart m ≡ chart n = ap chart e in cc), same_border arena n d b (rw e at z.node) o.node)

  at_r : (m : ℕ) (q : List ℕ) (d : BorderNode) → OnBorder arena chart m q d → m ≡ r → (q ≡ s ∷ p) × (d ≡ x)
  at_r m q d z e = ((let w = on_r.place in let w' = z.place in let k : chart m ≡ chart r = ap chart e in cc), same_border arena r d x (rw e at z.node) on_r.node)

  head_kept : (i : ℕ) (q : List ℕ) → OnHead chart i q → i ≢ t → OnHead more i q
  head_kept i q g ne = rest i ne (λ e. top_not (let w : chart i ≡ chart r = ap chart e in let d = on_r.place in cc)) ∙ g

  -- a right link does not lead to `r`, a link entry but the hidden one not to `t`
  old_ok : (m : ℕ) (q : List ℕ) (d : BorderNode) → OnBorder arena chart m q d → m ≢ r → (c : BorderNode) → c.low ≡ d.low → c.right ≡ d.right → c.deleted ≡ d.deleted →
      ((e : PlainEntry) → Among e c.entries → Among e d.entries) → ((v : ℕ) → Among (record { slice = v; content = link t }) c.entries → ⊥) → (c.deleted ≡ true → c.entries ≡ []) → IsBorderNode more q c
  old_ok m q d z ne c lows rights dels sub not_t empty = let ok = tree.each_border m q d z in
      record {
        apart = (λ e f i j. ok.apart e f (sub e i) (sub f j));
        from_low = (λ e i. rw lows (ok.from_low e (sub e i)));
        to_right = (λ e i. rw rights (ok.to_right e (sub e i)));
        links = (λ v i at. head_kept i (v ∷ q) (ok.links v i (sub (record { slice = v; content = link i }) at)) (λ e. not_t v (subst (λ (w : ℕ). Among (record { slice = v; content = link w }) c.entries) e at)));
        right = (λ w e. let (lt, y, g) = ok.right w (sym rights ∙ e) in
            let (d', z', k) = border_at w.number q w.low y g in
            (rw lows lt, y, rest w.number (border_not_t w.number q d' z') (λ f. ne (sym (let (u, v) = at_r w.number q d' z' f in sym (only_r m d (subst (λ (l : List ℕ). OnBorder arena chart m l d) u z))))) ∙ g));
        empty = empty;
      }
    where
      border_at : (m : ℕ) (q : List ℕ) (l : ℕ) (y : Bool) → chart m ≡ Some (spot (at_level 0) q l (on y)) → (d : BorderNode) × OnBorder arena chart m q d × (d.low ≡ l)
      border_at m q l y g = let (d, i, j) = tree.borders m q l y g in let k : l ≡ d.low = sym j in (d, record { posted = y; place = rw k at g; node = i }, j)

  drop_interior : (m k : ℕ) (q : List ℕ) (v : ℕ) (st : Standing) → chart m ≡ Some (spot (at_level (suc k)) q v st) → InteriorAt new more m k q v st
  drop_interior m k q v st g =
      let w = tree.interiors m k q v st g in
      record { node = w.node; is_node = same_node m (at_level (suc k)) q v st (interior_not k) g ∙ w.is_node; low = w.low; level = w.level; ok = go w.node w.is_node w.ok; locked_till_deleted = w.locked_till_deleted }
    where
      may : (st : Standing) → chart m ≡ Some (spot (at_level (suc k)) q v st) → (node : InteriorNode) → arena m ≡ Some (interior node) → (d : PlainChild) → Among d node.children → d.number ≡ r → MayName st (gone now)
      may (on y) g node e d i f = absurd (let j : m ≡ t = only_head m (by_interior k q v y node d g e i f) in let w : chart m ≡ chart t = ap chart j in let d' = on_t in let c : at_level (suc k) ≡ top = cc in cc)
      may (gone e) g node _ d i f = dated m (at_level (suc k)) q v e g

      child : (node : InteriorNode) → arena m ≡ Some (interior node) → (d : PlainChild) → Among d node.children → IsChild chart st q (suc k) d → IsChild more st q (suc k) d
      child node e d i c = pick (same_number d.number r)
        where
          pick : (d.number ≡ r) ⊎ (d.number ≢ r) → IsChild more st q (suc k) d
          pick (inl f) =
              let w : chart d.number ≡ chart r = ap chart f in let z = r_place in let z' = c.place in
              let s1 : at_level d.level ≡ at_level 0 = cc in let s2 : q ≡ s ∷ p = cc in let s3 : d.low ≡ 0 = cc in
              record { standing = gone now; lower = c.lower; place = rw (f, s1, s2, s3) r_goes; may = may st g node e d i f }
          pick (inr f) = record {
            standing = c.standing;
            lower = c.lower;
            may = c.may;
            place = rest d.number (λ j. let w : chart d.number ≡ chart t = ap chart j in let z = on_t in let z' = c.place in let y : at_level d.level ≡ top = cc in cc) f ∙ c.place;
          }

      go : (node : InteriorNode) → arena m ≡ Some (interior node) → (((e : ℕ) × (st ≡ gone e)) × (node.deleted ≡ true)) ⊎ AreChildren chart st q v (suc k) node.children → (((e : ℕ) × (st ≡ gone e)) × (node.deleted ≡ true)) ⊎ AreChildren more st q v (suc k) node.children
      go node e (inl f) = inl f
      go node e (inr f) = inr (record { leftmost = f.leftmost; each = (λ d i. child node e d i (f.each d i)) })

  drop_hung : (i : ℕ) (q : List ℕ) → i ≢ t → Hung arena chart i q → Hung new more i q
  drop_hung i [] ne e = e
  drop_hung i (v ∷ q) ne (m, d, z, at) = go (same_number m r) (same_number m n)
    where
      e : PlainEntry
      e = record { slice = v; content = link i }

      none : Among e [] → ⊥
      none f = elim f [ ]

      go : (m ≡ r) ⊎ (m ≢ r) → (m ≡ n) ⊎ (m ≢ n) → Hung new more i (v ∷ q)
      go (inl f) _ = let w = at_r m q d z f in absurd (none (rw x_entries at (subst (λ (c : BorderNode). Among e c.entries) w.1 at)))
      go (inr f) (inl g) = let w = at_n m q d z g in (
        n,
        b',
        subst (λ (l : List ℕ). OnBorder new more n l b') (sym w.0) now_n,
        (entries e).1 (subst (λ (c : BorderNode). Among e c.entries) w.1 at, λ k. ne (let c : link i ≡ link t = ap (λ (w : PlainEntry). w.content) k in cc)),
      )
      go (inr f) (inr g) = (m, d, kept m q d z f g, at)

  pub layer_dropped_tree : IsTree new more
  layer_dropped_tree = record {
    layer_0 = head_kept 0 [] tree.layer_0 (λ e. let w : chart 0 ≡ chart t = ap chart e in let d = tree.layer_0 in let d' = on_t in let k : ◌≡◌ {A = List ℕ} [] (s ∷ p) = cc in cc);
    heads = (λ i q v y g. let (e, e', g') = on_was i top q v y g in let u = tree.heads i q v y g' in
        record {
          low = u.low;
          posted = u.posted;
          node = u.node;
          is_node = same_node i top q v (on y) top_not g' ∙ u.is_node;
          root = rest u.node.root (λ j. let w : chart u.node.root ≡ chart t = ap chart j in let z = on_t in let z' = u.root in let c : at_level u.node.level ≡ top = cc in cc)
              (λ j. let w : chart u.node.root ≡ chart r = ap chart j in let z = r_place in let z' = u.root in let s2 : q ≡ s ∷ p = cc in let v0 : v ≡ 0 = u.low in let y1 : y ≡ true = u.posted in
              e (only_t i (rw (v0, y1, s2) at g'))) ∙ u.root;
        });
    borders = (λ m q v y g. let (e, e', g') = on_was m (at_level 0) q v y g in spots m q v y g' (same_number m n));
    each_border = (λ m q d z. pick_ok m q d (was m q d z));
    interiors = (λ m k q v st g. inner m k q v st (more_at m (spot (at_level (suc k)) q v st) g));
    gone_heads = (λ i q v e g. gone_top i q v e (more_at i (spot top q v (gone e)) g));
    gone_borders = (λ m q v e g. gone_one m q v e (more_at m (spot (at_level 0) q v (gone e)) g));
    from_left = (λ m q d z. lefts m q d (was m q d z));
    in_layer = (λ m q d z. layer m q d (was m q d z));
    hung = (λ i q g. let (e, e', g') = on_was i top q 0 true g in drop_hung i q e (tree.hung i q g'));
    disjoint = (λ i j q d e z w le be. one i j q d e le be (was i q d z) (was j q e w));
  }
    where
      spots : (m : ℕ) (q : List ℕ) (v : ℕ) (y : Bool) → chart m ≡ Some (spot (at_level 0) q v (on y)) → (m ≡ n) ⊎ (m ≢ n) → (d : BorderNode) × (new m ≡ Some (border d)) × (d.low ≡ v)
      spots m q v y g (inl e) = (b', ap new e ∙ change.now, low ∙ (let w = o.place in let k : chart m ≡ chart n = ap chart e in cc))
      spots m q v y g (inr e) = let (d, w, z) = tree.borders m q v y g in (d, change.rest m e ∙ w, z)

      n_empty : b'.deleted ≡ true → b'.entries ≡ []
      n_empty e = none b'.entries (λ f i. let w : b.entries ≡ [] = ok_n.empty (sym alive ∙ e) in nothing f (rw w at ((entries f).0 i).0))
        where
          nothing : (f : PlainEntry) → Among f [] → ⊥
          nothing f i = elim i [ ]

          none : (es : List PlainEntry) → ((f : PlainEntry) → Among f es → ⊥) → es ≡ []
          none [] k = refl
          none (f ∷ es) k = absurd (k f first)

      pick_ok : (m : ℕ) (q : List ℕ) (d : BorderNode) → (m ≢ r) × (((m ≡ n) × (q ≡ p) × (d ≡ b')) ⊎ ((m ≢ n) × OnBorder arena chart m q d)) → IsBorderNode more q d
      pick_ok m q d (ne, inl (e, u, v)) = rw (u, v) (old_ok n p b o n_not_r b' low right alive (λ f i. ((entries f).0 i).0)
          (λ w i. let z = (entries (record { slice = w; content = link t })).0 i in z.1 (let k = only_n n p b w o z.0 in ap (λ (l : ℕ). record { slice = l; content = link t }) k.2)) n_empty)
      pick_ok m q d (ne, inr (e, z)) = old_ok m q d z ne d refl refl refl (λ f i. i) (λ v i. e (only_n m q d v z i).0) ((tree.each_border m q d z).empty)

      inner : (m k : ℕ) (q : List ℕ) (v : ℕ) (st : Standing) → ((m ≡ t) × (spot (at_level (suc k)) q v st ≡ spot top (s ∷ p) 0 (gone now))) ⊎ (((m ≡ r) × (spot (at_level (suc k)) q v st ≡ spot (at_level 0) (s ∷ p) 0 (gone now))) ⊎ ((m ≢ t) × (m ≢ r) × (chart m ≡ Some (spot (at_level (suc k)) q v st)))) → InteriorAt new more m k q v st
      inner m k q v st (inl (e, g)) = absurd (let w : at_level (suc k) ≡ top = cc in cc)
      inner m k q v st (inr (inl (e, g))) = absurd (interior_not k (cc))
      inner m k q v st (inr (inr (e, e', g))) = drop_interior m k q v st g

      gone_top : (i : ℕ) (q : List ℕ) (v e : ℕ) → ((i ≡ t) × (spot top q v (gone e) ≡ spot top (s ∷ p) 0 (gone now))) ⊎ (((i ≡ r) × (spot top q v (gone e) ≡ spot (at_level 0) (s ∷ p) 0 (gone now))) ⊎ ((i ≢ t) × (i ≢ r) × (chart i ≡ Some (spot top q v (gone e))))) → (z : HeadNode) × (new i ≡ Some (head z)) × (z.deleted ≡ true)
      gone_top i q v e (inl (w, g)) = (h, ap new w ∙ change.rest t (λ f. n_not_t (sym f)) ∙ head_there, h_deleted)
      gone_top i q v e (inr (inl (w, g))) = absurd (let z : top ≡ at_level 0 = cc in cc)
      gone_top i q v e (inr (inr (w, w', g))) = let (z, u, k) = tree.gone_heads i q v e g in (z, same_node i top q v (gone e) top_not g ∙ u, k)

      gone_one : (m : ℕ) (q : List ℕ) (v e : ℕ) → ((m ≡ t) × (spot (at_level 0) q v (gone e) ≡ spot top (s ∷ p) 0 (gone now))) ⊎ (((m ≡ r) × (spot (at_level 0) q v (gone e) ≡ spot (at_level 0) (s ∷ p) 0 (gone now))) ⊎ ((m ≢ t) × (m ≢ r) × (chart m ≡ Some (spot (at_level 0) q v (gone e))))) → (z : BorderNode) × (new m ≡ Some (border z)) × (z.deleted ≡ true)
      gone_one m q v e (inl (w, g)) = absurd (let z : at_level 0 ≡ top = cc in cc)
      gone_one m q v e (inr (inl (w, g))) = (x, ap new w ∙ change.rest r (λ f. n_not_r (sym f)) ∙ on_r.node, x_deleted)
      gone_one m q v e (inr (inr (w, w', g))) = let (z, u, k) = tree.gone_borders m q v e g in
          (z, change.rest m (λ i. let c : chart m ≡ chart n = ap chart i in let l = o.place in let z : gone e ≡ on o.posted = cc in cc) ∙ u, k)

      old_left : (m : ℕ) (q : List ℕ) (l : ℕ) → m ≢ r → (l ≡ 0) ⊎ ((j : ℕ) × (d : BorderNode) × OnBorder arena chart j q d × (d.right ≡ Some (record { low = l; number = m }))) →
          (l ≡ 0) ⊎ ((j : ℕ) × (d : BorderNode) × OnBorder new more j q d × (d.right ≡ Some (record { low = l; number = m })))
      old_left m q l ne (inl z) = inl z
      old_left m q l ne (inr (j, d, z, e)) = inr (go (same_number j r) (same_number j n))
        where
          go : (j ≡ r) ⊎ (j ≢ r) → (j ≡ n) ⊎ (j ≢ n) → (j : ℕ) × (d : BorderNode) × OnBorder new more j q d × (d.right ≡ Some (record { low = l; number = m }))
          go (inl f) _ = let w = at_r j q d z f in absurd (let k : d.right ≡ x.right = ap (λ (c : BorderNode). c.right) w.1 in let k' = x_right in let c : ◌≡◌ {A = Option Right} None (Some (record { low = l; number = m })) = cc in cc)
          go (inr f) (inl g) = let w = at_n j q d z g in (n, b', subst (λ (z : List ℕ). OnBorder new more n z b') (sym w.0) now_n, right ∙ ap (λ z. z.right) (sym w.1) ∙ e)
          go (inr f) (inr g) = (j, d, kept j q d z f g, e)

      lefts : (m : ℕ) (q : List ℕ) (d : BorderNode) → (m ≢ r) × (((m ≡ n) × (q ≡ p) × (d ≡ b')) ⊎ ((m ≢ n) × OnBorder arena chart m q d)) →
          (d.low ≡ 0) ⊎ ((j : ℕ) × (e : BorderNode) × OnBorder new more j q e × (e.right ≡ Some (record { low = d.low; number = m })))
      lefts m q d (ne, inl (e, u, v)) = let k : d.low ≡ b.low = ap (λ z. z.low) v ∙ low in rw k (old_left m q b.low ne (rw (e, u) (tree.from_left n p b o)))
      lefts m q d (ne, inr (e, z)) = old_left m q d.low ne (tree.from_left m q d z)

      in_old : (m : ℕ) (q : List ℕ) (d : BorderNode) → OnBorder arena chart m q d → m ≢ r → (i : ℕ) × OnHead more i q
      in_old m q d z ne = let (i, g) = tree.in_layer m q d z in (
        i,
        head_kept i q g (λ e. ne (only_r m d
            (let w : chart i ≡ chart t = ap chart e in let c = on_t in let g' : chart i ≡ Some (spot top q 0 (on true)) = g in let s2 : q ≡ s ∷ p = cc in subst (λ (l : List ℕ). OnBorder arena chart m l d) s2 z))),
      )

      layer : (m : ℕ) (q : List ℕ) (d : BorderNode) → (m ≢ r) × (((m ≡ n) × (q ≡ p) × (d ≡ b')) ⊎ ((m ≢ n) × OnBorder arena chart m q d)) → (i : ℕ) × OnHead more i q
      layer m q d (ne, inl (e, u, v)) = subst (λ (l : List ℕ). (i : ℕ) × OnHead more i l) (sym u) (in_old n p b o n_not_r)
      layer m q d (ne, inr (e, z)) = in_old m q d z ne

      one : (i j : ℕ) (q : List ℕ) (d e : BorderNode) → d.low ≤ e.low → Below e.low d.right →
          (i ≢ r) × (((i ≡ n) × (q ≡ p) × (d ≡ b')) ⊎ ((i ≢ n) × OnBorder arena chart i q d)) →
          (j ≢ r) × (((j ≡ n) × (q ≡ p) × (e ≡ b')) ⊎ ((j ≢ n) × OnBorder arena chart j q e)) → i ≡ j
      one i j q d e le be (_, inl (i1, u, v)) (_, inl (j1, u', v')) = i1 ∙ sym j1
      one i j q d e le be (_, inl (i1, u, v)) (_, inr (j1, w)) = i1 ∙ tree.disjoint n j p b e o (rw u at w) (rw (ap (λ z. z.low) v ∙ low) at le) (rw (ap (λ z. z.right) v ∙ right) at be)
      one i j q d e le be (_, inr (i1, z)) (_, inl (j1, u', v')) = tree.disjoint i n p d b (rw u' at z) o (rw (ap (λ z. z.low) v' ∙ low) at le) (rw (ap (λ z. z.low) v' ∙ low) at be) ∙ sym j1
      one i j q d e le be (_, inr (i1, z)) (_, inr (j1, w)) = tree.disjoint i j q d e z w le be

  pub layer_dropped_content : (k : Place) (w : Row) → Has new k w ↔ Has arena k w
  layer_dropped_content k w = (λ i. has arena chart tree k w (back (stored new more layer_dropped_tree k w i)), λ i. has new more layer_dropped_tree k w (forth (stored arena chart tree k w i)))
    where
      none : (e : PlainEntry) → Among e [] → ⊥
      none e f = elim f [ ]

      back : Stored new more k w → Stored arena chart k w
      back z = go (was z.number z.prefix z.node z.on_border)
        where
          go : (z.number ≢ r) × (((z.number ≡ n) × (z.prefix ≡ p) × (z.node ≡ b')) ⊎ ((z.number ≢ n) × OnBorder arena chart z.number z.prefix z.node)) → Stored arena chart k w
          go (ne, inl (e, u, v)) = record {
            prefix = p;
            number = n;
            node = b;
            entry = z.entry;
            place = z.place;
            on_border = o;
            live = ((entries z.entry).0 (subst (λ (c : BorderNode). Among z.entry c.entries) v z.live)).0;
            holds = z.holds;
            is_key = subst (λ (l : List ℕ). k ≡ under l z.place) u z.is_key;
          }
          go (ne, inr (e, y)) = record { prefix = z.prefix; number = z.number; node = z.node; entry = z.entry; place = z.place; on_border = y; live = z.live; holds = z.holds; is_key = z.is_key }

      forth : Stored arena chart k w → Stored new more k w
      forth z = go (same_number z.number r) (same_number z.number n)
        where
          go : (z.number ≡ r) ⊎ (z.number ≢ r) → (z.number ≡ n) ⊎ (z.number ≢ n) → Stored new more k w
          go (inl e) _ = let v = at_r z.number z.prefix z.node z.on_border e in absurd (none z.entry (rw x_entries at (subst (λ (c : BorderNode). Among z.entry c.entries) v.1 z.live)))
          go (inr e) (inl f) = let v = at_n z.number z.prefix z.node z.on_border f in
              record {
                prefix = p;
                number = n;
                node = b';
                entry = z.entry;
                place = z.place;
                on_border = now_n;
                holds = z.holds;
                is_key = subst (λ (l : List ℕ). k ≡ under l z.place) v.0 z.is_key;
                live = (entries z.entry).1 (subst (λ (c : BorderNode). Among z.entry c.entries) v.1 z.live, λ i. link_holds_none z.entry s t z.place w i z.holds);
              }
          go (inr e) (inr f) = record { prefix = z.prefix; number = z.number; node = z.node; entry = z.entry; place = z.place; on_border = kept z.number z.prefix z.node z.on_border e f; live = z.live; holds = z.holds; is_key = z.is_key }

  pub layer_dropped_evolves : (begun : ℕ) → begun ≤ now → Evolves begun chart more
  layer_dropped_evolves begun le m z q v st g = go (same_number m t) (same_number m r)
    where
      go : (m ≡ t) ⊎ (m ≢ t) → (m ≡ r) ⊎ (m ≢ r) → ((w : Standing) × (more m ≡ Some (spot z q v w)) × Later begun st w) ⊎ ((e : ℕ) × (st ≡ gone e) × (e < begun))
      go (inl e) _ = let k : chart m ≡ chart t = ap chart e in let c = on_t in
          let s1 : z ≡ top = cc in let s2 : q ≡ s ∷ p = cc in let s3 : v ≡ 0 = cc in let s4 : on true ≡ st = cc in
          inl (gone now, rw (e, s1, s2, s3) t_goes, subst (λ (w : Standing). Later begun w (gone now)) s4 (went le))
      go (inr e) (inl f) = let k : chart m ≡ chart r = ap chart f in let c = r_place in
          let s1 : z ≡ at_level 0 = cc in let s2 : q ≡ s ∷ p = cc in let s3 : v ≡ 0 = cc in let s4 : on on_r.posted ≡ st = cc in
          inl (gone now, rw (f, s1, s2, s3) r_goes, subst (λ (w : Standing). Later begun w (gone now)) s4 (went le))
      go (inr e) (inr f) = inl (st, rest m e f ∙ g, later_same begun st)

  pub layer_dropped_owned : (twins : ℕ → ℕ → Type 0) → Owned arena chart twins → Owned new more twins
  layer_dropped_owned twins w = owned_rest arena new chart more twins w (λ j z q v y g ne. let (e, e', g') = on_was j z q v y g in (g' ∙ sym g, same_node j z q v (on y) ne g'))
