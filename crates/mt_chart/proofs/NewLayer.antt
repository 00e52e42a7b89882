-- A new layer: in the border `n` the row of a longer key gives place to a link to the head `t`, whose root, the border
-- `r`, has that row one layer deeper.
use Rattle.std.proofs.Common.{ℕ, suc, ◌≡◌, ◌≢◌, ◌≤◌, ◌⊎◌, ◌↔◌, inl, inr, List, [], ◌∷◌, Option, Some, None, Bool, true, false, refl, sym, ap, ◌∙◌, subst, arith}
use Rattle.mt_slice.specs.Place.{Place, deeper, under}
use Rattle.mt_types.specs.declared.row.Row.{Row}
use Rattle.mt_chart.specs.Tree.{long, link, PlainEntry, Right, HeadNode, BorderNode, head, border, Arena, Among, first, later, Below, no_right, HoldsRow, Has}
use Rattle.mt_chart.specs.Chart.{Standing, on, gone, Role, top, at_level, Spot, spot, Chart, OnHead, OnBorder, IsBorderNode, class, Apart, Hung, HeadAt, InteriorAt, IsTree, Stored, Changes, Evolves, Owned}
use Rattle.mt_chart.proofs.Basics.{same_number}
use Rattle.mt_chart.proofs.Reach.{same_border, stored, has}
use Rattle.mt_chart.proofs.Keys.{same_slice, link_holds_none}
use Rattle.mt_chart.proofs.Refit.{same_holds}
use Rattle.mt_chart.proofs.Split.{Knows, border_known, interior_known, known_evolves}
use Rattle.mt_chart.proofs.Ownership.{owned_layer}

module _ (arena new : Arena) (chart more : Chart) (tree : IsTree arena chart) (n : ℕ) (p : List ℕ) (b b' : BorderNode) (o : OnBorder arena chart n p b) (change : Changes arena new n (Some (border b')))
    (t r : ℕ) (h : HeadNode) (x : BorderNode) (head_filled : arena t ≡ Some (head h)) (border_filled : arena r ≡ Some (border x)) (apart_t_r : t ≢ r)
    (fresh_t : chart t ≡ None) (fresh_r : chart r ≡ None)
    (s : ℕ) (y : Place) (row : Row) (f : PlainEntry)
    (head_charted : more t ≡ Some (spot top (s ∷ p) 0 (on true))) (border_charted : more r ≡ Some (spot (at_level 0) (s ∷ p) 0 (on true)))
    (rest : (m : ℕ) → m ≢ t → m ≢ r → more m ≡ chart m)
    (low : b'.low ≡ b.low) (right : b'.right ≡ b.right) (alive : b'.deleted ≡ true → b'.entries ≡ [])
    (there : Among (record { slice = s; content = long y row }) b.entries)
    (entries : (e : PlainEntry) → Among e b'.entries ↔ ((e ≡ record { slice = s; content = link t }) ⊎ (Among e b.entries × (e ≢ record { slice = s; content = long y row }))))
    (root : h.root ≡ r) (level : h.level ≡ 0) (x_low : x.low ≡ 0) (x_right : x.right ≡ None) (x_alive : x.deleted ≡ false)
    (x_entries : x.entries ≡ f ∷ []) (f_holds : HoldsRow f.slice f.content y row) where
  abbrev old_entry : PlainEntry
  old_entry = record { slice = s; content = long y row }

  abbrev new_entry : PlainEntry
  new_entry = record { slice = s; content = link t }

  ok_n : IsBorderNode chart p b
  ok_n = tree.each_border n p b o

  known : Knows chart more
  known m z g = rest m (λ e. let k : chart m ≡ chart t = ap chart e in cc) (λ e. let k : chart m ≡ chart r = ap chart e in cc) ∙ g

  more_at : (m : ℕ) (z : Spot) → more m ≡ Some z → ((m ≡ t) × (z ≡ spot top (s ∷ p) 0 (on true))) ⊎ (((m ≡ r) × (z ≡ spot (at_level 0) (s ∷ p) 0 (on true))) ⊎ ((m ≢ t) × (m ≢ r) × (chart m ≡ Some z)))
  more_at m z g = go (same_number m t) (same_number m r)
    where
      go : (m ≡ t) ⊎ (m ≢ t) → (m ≡ r) ⊎ (m ≢ r) → ((m ≡ t) × (z ≡ spot top (s ∷ p) 0 (on true))) ⊎ (((m ≡ r) × (z ≡ spot (at_level 0) (s ∷ p) 0 (on true))) ⊎ ((m ≢ t) × (m ≢ r) × (chart m ≡ Some z)))
      go (inl e) _ = inl (e, (let w : more m ≡ more t = ap more e in let v = head_charted in cc))
      go (inr e) (inl i) = inr (inl (i, (let w : more m ≡ more r = ap more i in let v = border_charted in cc)))
      go (inr e) (inr i) = inr (inr (e, i, sym (rest m e i) ∙ g))

  t_not_n : t ≢ n
  t_not_n e = let k : chart t ≡ chart n = ap chart e in let g = o.place in cc

  r_not_n : r ≢ n
  r_not_n e = let k : chart r ≡ chart n = ap chart e in let g = o.place in cc

  same_node : (m : ℕ) (z : Role) (q : List ℕ) (v : ℕ) (st : Standing) → z ≢ at_level 0 → chart m ≡ Some (spot z q v st) → new m ≡ arena m
  same_node m z q v st ne g = change.rest m (λ e. ne (let w : chart m ≡ chart n = ap chart e in let d = o.place in cc))

  top_not : top ≢ at_level 0
  top_not e = cc

  interior_not : (k : ℕ) → at_level (suc k) ≢ at_level 0
  interior_not k e = let z : suc k ≡ 0 = cc in omega arith

  now_n : OnBorder new more n p b'
  now_n = let g : more n ≡ Some (spot (at_level 0) p b.low (on o.posted)) = known n (spot (at_level 0) p b.low (on o.posted)) o.place in
      record { posted = o.posted; place = rw low g; node = change.now }

  now_r : OnBorder new more r (s ∷ p) x
  now_r = record { posted = true; place = rw x_low border_charted; node = change.rest r r_not_n ∙ border_filled }

  -- the new layer had no border
  none_below : (m : ℕ) (d : BorderNode) → OnBorder arena chart m (s ∷ p) d → ⊥
  none_below m d z =
      let (i, g) = tree.in_layer m (s ∷ p) d z in
      let (j, c, w, at) = tree.hung i (s ∷ p) g in
      let e : PlainEntry = record { slice = s; content = link i } in
      let jn : j ≡ n = same_slice arena chart tree j n p c b e old_entry w o at there refl in
      let cb : c ≡ b = same_border arena j c b w.node (rw jn o.node) in
      let at' : Among e b.entries = subst (λ (z : BorderNode). Among e z.entries) cb at in
      let same : old_entry ≡ e = ok_n.apart old_entry e there at' refl refl in
      link_holds_none old_entry s i (deeper s y) row same (refl, refl)

  was : (m : ℕ) (q : List ℕ) (d : BorderNode) → OnBorder new more m q d →
      ((m ≡ r) × (q ≡ s ∷ p) × (d ≡ x)) ⊎ (((m ≡ n) × (q ≡ p) × (d ≡ b')) ⊎ ((m ≢ n) × OnBorder arena chart m q d))
  was m q d z = go (more_at m (spot (at_level 0) q d.low (on z.posted)) z.place) (same_number m n)
    where
      go : ((m ≡ t) × (spot (at_level 0) q d.low (on z.posted) ≡ spot top (s ∷ p) 0 (on true))) ⊎ (((m ≡ r) × (spot (at_level 0) q d.low (on z.posted) ≡ spot (at_level 0) (s ∷ p) 0 (on true))) ⊎ ((m ≢ t) × (m ≢ r) × (chart m ≡ Some (spot (at_level 0) q d.low (on z.posted))))) →
          (m ≡ n) ⊎ (m ≢ n) → ((m ≡ r) × (q ≡ s ∷ p) × (d ≡ x)) ⊎ (((m ≡ n) × (q ≡ p) × (d ≡ b')) ⊎ ((m ≢ n) × OnBorder arena chart m q d))
      go (inl (e, g)) _ = absurd (let w : at_level 0 ≡ top = cc in cc)
      go (inr (inl (e, g))) _ = inl (e, (cc), same_border new r d x (rw e at z.node) now_r.node)
      go (inr (inr (e, e', g))) (inl i) = inr (inl (i, (let w = o.place in let k : chart m ≡ chart n = ap chart i in cc), same_border new n d b' (rw i at z.node) change.now))
      go (inr (inr (e, e', g))) (inr i) = inr (inr (i, record { posted = z.posted; place = g; node = sym (change.rest m i) ∙ z.node }))

  kept : (m : ℕ) (q : List ℕ) (d : BorderNode) → OnBorder arena chart m q d → m ≢ n → OnBorder new more m q d
  kept m q d z ne = record { posted = z.posted; place = known m (spot (at_level 0) q d.low (on z.posted)) z.place; node = change.rest m ne ∙ z.node }

  at_n : (m : ℕ) (q : List ℕ) (d : BorderNode) → OnBorder arena chart m q d → m ≡ n → (q ≡ p) × (d ≡ b)
  at_n m q d z e = ((let w = o.place in let w' = z.place in let k : chart m ≡ chart n = ap chart e in cc), same_border arena n d b (rw e at z.node) o.node)

  -- of one slice and class, the new link stands for the old row
  new_apart : Apart b'.entries
  new_apart e g i j sl cl = go ((entries e).0 i) ((entries g).0 j)
    where
      go : (e ≡ new_entry) ⊎ (Among e b.entries × (e ≢ old_entry)) → (g ≡ new_entry) ⊎ (Among g b.entries × (g ≢ old_entry)) → e ≡ g
      go (inl u) (inl v) = u ∙ sym v
      go (inl u) (inr (v, ne)) = absurd (ne (sym (ok_n.apart old_entry g there v (sym (ap (λ z. z.slice) u) ∙ sl) (sym (ap (λ z. first_class z) u) ∙ cl))))
        where
          first_class : PlainEntry → ℕ
          first_class z = class z.content
      go (inr (u, ne)) (inl v) = absurd (ne (ok_n.apart e old_entry u there (sl ∙ ap (λ z. z.slice) v) (cl ∙ ap (λ (z : PlainEntry). class z.content) v)))
      go (inr (u, ne)) (inr (v, ne')) = ok_n.apart e g u v sl cl

  entry_at : (e : PlainEntry) → Among e b'.entries → (b.low ≤ e.slice) × Below e.slice b.right
  entry_at e i = go ((entries e).0 i)
    where
      go : (e ≡ new_entry) ⊎ (Among e b.entries × (e ≢ old_entry)) → (b.low ≤ e.slice) × Below e.slice b.right
      go (inl u) = let k : s ≡ e.slice = sym (ap (λ z. z.slice) u) in
          (subst (λ (z : ℕ). b.low ≤ z) k (ok_n.from_low old_entry there), subst (λ (z : ℕ). Below z b.right) k (ok_n.to_right old_entry there))
      go (inr (u, ne)) = (ok_n.from_low e u, ok_n.to_right e u)

  n_ok : IsBorderNode more p b'
  n_ok = record {
    apart = new_apart;
    from_low = (λ e i. rw low ((entry_at e i).0));
    to_right = (λ e i. rw right ((entry_at e i).1));
    links = (λ s' h' i. go s' h' ((entries (record { slice = s'; content = link h' })).0 i));
    right = (λ w e. let (u, z, v) = ok_n.right w (sym right ∙ e) in (rw low u, z, known w.number (spot (at_level 0) p w.low (on z)) v));
    empty = alive;
  }
    where
      go : (s' h' : ℕ) → (◌≡◌ {A = PlainEntry} (record { slice = s'; content = link h' }) new_entry) ⊎ (Among (record { slice = s'; content = link h' }) b.entries × ((record { slice = s'; content = link h' }) ≢ old_entry)) → OnHead more h' (s' ∷ p)
      go s' h' (inl e) = let u : s' ≡ s = ap (λ z. z.slice) e in let w : link h' ≡ link t = ap (λ z. z.content) e in let v : h' ≡ t = cc in rw (u, v) head_charted
      go s' h' (inr (i, ne)) = known h' (spot top (s' ∷ p) 0 (on true)) (ok_n.links s' h' i)

  r_ok : IsBorderNode more (s ∷ p) x
  r_ok = record {
    apart = (λ e g i j sl cl. the_one e i ∙ sym (the_one g j));
    from_low = (λ e i. rw x_low (omega arith));
    to_right = (λ e i. rw x_right no_right);
    links = (λ s' h' i. absurd (link_holds_none f s' h' y row (sym (the_one (record { slice = s'; content = link h' }) i)) f_holds));
    right = (λ w e. absurd (let k : ◌≡◌ {A = Option Right} None (Some w) = sym x_right ∙ e in cc));
    empty = (λ e. absurd (let k : true ≡ false = sym e ∙ x_alive in cc));
  }
    where
      only : (e : PlainEntry) → Among e (f ∷ []) → e ≡ f
      only e first = refl
      only e (later i) = elim i [ ]

      the_one : (e : PlainEntry) → Among e x.entries → e ≡ f
      the_one e i = only e (rw x_entries at i)

  make_hung : (i : ℕ) (q : List ℕ) → Hung arena chart i q → Hung new more i q
  make_hung i [] e = e
  make_hung i (s' ∷ q) (m, d, z, at) = go (same_number m n)
    where
      e : PlainEntry
      e = record { slice = s'; content = link i }

      go : (m ≡ n) ⊎ (m ≢ n) → Hung new more i (s' ∷ q)
      go (inl g) = let w = at_n m q d z g in (
        n,
        b',
        subst (λ (z : List ℕ). OnBorder new more n z b') (sym w.0) now_n,
        (entries e).1 (inr (subst (λ (z : BorderNode). Among e z.entries) w.1 at, λ k. link_holds_none old_entry s' i (deeper s y) row (sym k) (refl, refl))),
      )
      go (inr g) = (m, d, kept m q d z g, at)

  pub layer_made_tree : IsTree new more
  layer_made_tree = record {
    layer_0 = known 0 (spot top [] 0 (on true)) tree.layer_0;
    heads = (λ i q v z g. heads i q v z (more_at i (spot top q v (on z)) g));
    borders = (λ m q v z g. spots m q v z (more_at m (spot (at_level 0) q v (on z)) g) (same_number m n));
    each_border = (λ m q d z. pick_ok m q d (was m q d z));
    interiors = (λ m k q v st g. inner m k q v st (more_at m (spot (at_level (suc k)) q v st) g));
    gone_heads = (λ i q v e g. gone_top i q v e (more_at i (spot top q v (gone e)) g));
    gone_borders = (λ m q v e g. gone_one m q v e (more_at m (spot (at_level 0) q v (gone e)) g));
    from_left = (λ m q d z. lefts m q d (was m q d z));
    in_layer = (λ m q d z. layer m q d (was m q d z));
    hung = (λ i q g. hangs i q (more_at i (spot top q 0 (on true)) g));
    disjoint = (λ i j q d e z w le be. one i j q d e le be (was i q d z) (was j q e w));
  }
    where
      heads : (i : ℕ) (q : List ℕ) (v : ℕ) (z : Bool) → ((i ≡ t) × (spot top q v (on z) ≡ spot top (s ∷ p) 0 (on true))) ⊎ (((i ≡ r) × (spot top q v (on z) ≡ spot (at_level 0) (s ∷ p) 0 (on true))) ⊎ ((i ≢ t) × (i ≢ r) × (chart i ≡ Some (spot top q v (on z))))) → HeadAt new more i q v z
      heads i q v z (inl (e, g)) =
          let s2 : q ≡ s ∷ p = cc in let s4 : on z ≡ on true = cc in
          record { low = (cc); posted = (cc); node = h; is_node = ap new e ∙ change.rest t t_not_n ∙ head_filled; root = rw (root, level, s2) border_charted }
      heads i q v z (inr (inl (e, g))) = absurd (let w : top ≡ at_level 0 = cc in cc)
      heads i q v z (inr (inr (e, e', g))) = let u = tree.heads i q v z g in
          record { low = u.low; posted = u.posted; node = u.node; is_node = same_node i top q v (on z) top_not g ∙ u.is_node; root = known u.node.root (spot (at_level u.node.level) q 0 (on true)) u.root }

      spots : (m : ℕ) (q : List ℕ) (v : ℕ) (z : Bool) → ((m ≡ t) × (spot (at_level 0) q v (on z) ≡ spot top (s ∷ p) 0 (on true))) ⊎ (((m ≡ r) × (spot (at_level 0) q v (on z) ≡ spot (at_level 0) (s ∷ p) 0 (on true))) ⊎ ((m ≢ t) × (m ≢ r) × (chart m ≡ Some (spot (at_level 0) q v (on z))))) → (m ≡ n) ⊎ (m ≢ n) →
          (d : BorderNode) × (new m ≡ Some (border d)) × (d.low ≡ v)
      spots m q v z (inl (e, g)) _ = absurd (let w : at_level 0 ≡ top = cc in cc)
      spots m q v z (inr (inl (e, g))) _ = (x, ap new e ∙ now_r.node, x_low ∙ (let w : 0 ≡ v = cc in w))
      spots m q v z (inr (inr (e, e', g))) (inl i) = (b', ap new i ∙ change.now, low ∙ (let w = o.place in let k : chart m ≡ chart n = ap chart i in cc))
      spots m q v z (inr (inr (e, e', g))) (inr i) = let (d, u, w) = tree.borders m q v z g in (d, change.rest m i ∙ u, w)

      pick_ok : (m : ℕ) (q : List ℕ) (d : BorderNode) → ((m ≡ r) × (q ≡ s ∷ p) × (d ≡ x)) ⊎ (((m ≡ n) × (q ≡ p) × (d ≡ b')) ⊎ ((m ≢ n) × OnBorder arena chart m q d)) → IsBorderNode more q d
      pick_ok m q d (inl (e, u, v)) = rw (u, v) r_ok
      pick_ok m q d (inr (inl (e, u, v))) = rw (u, v) n_ok
      pick_ok m q d (inr (inr (e, z))) = border_known chart more q d known (tree.each_border m q d z)

      inner : (m k : ℕ) (q : List ℕ) (v : ℕ) (st : Standing) → ((m ≡ t) × (spot (at_level (suc k)) q v st ≡ spot top (s ∷ p) 0 (on true))) ⊎ (((m ≡ r) × (spot (at_level (suc k)) q v st ≡ spot (at_level 0) (s ∷ p) 0 (on true))) ⊎ ((m ≢ t) × (m ≢ r) × (chart m ≡ Some (spot (at_level (suc k)) q v st)))) → InteriorAt new more m k q v st
      inner m k q v st (inl (e, g)) = absurd (let w : at_level (suc k) ≡ top = cc in cc)
      inner m k q v st (inr (inl (e, g))) = absurd (interior_not k (cc))
      inner m k q v st (inr (inr (e, e', g))) = interior_known arena new chart more m k q v st known (same_node m (at_level (suc k)) q v st (interior_not k) g) (tree.interiors m k q v st g)

      gone_top : (i : ℕ) (q : List ℕ) (v e : ℕ) → ((i ≡ t) × (spot top q v (gone e) ≡ spot top (s ∷ p) 0 (on true))) ⊎ (((i ≡ r) × (spot top q v (gone e) ≡ spot (at_level 0) (s ∷ p) 0 (on true))) ⊎ ((i ≢ t) × (i ≢ r) × (chart i ≡ Some (spot top q v (gone e))))) → (z : HeadNode) × (new i ≡ Some (head z)) × (z.deleted ≡ true)
      gone_top i q v e (inl (w, g)) = absurd (let z : gone e ≡ on true = cc in cc)
      gone_top i q v e (inr (inl (w, g))) = absurd (let z : gone e ≡ on true = cc in cc)
      gone_top i q v e (inr (inr (w, w', g))) = let (z, u, k) = tree.gone_heads i q v e g in (z, same_node i top q v (gone e) top_not g ∙ u, k)

      gone_one : (m : ℕ) (q : List ℕ) (v e : ℕ) → ((m ≡ t) × (spot (at_level 0) q v (gone e) ≡ spot top (s ∷ p) 0 (on true))) ⊎ (((m ≡ r) × (spot (at_level 0) q v (gone e) ≡ spot (at_level 0) (s ∷ p) 0 (on true))) ⊎ ((m ≢ t) × (m ≢ r) × (chart m ≡ Some (spot (at_level 0) q v (gone e))))) → (z : BorderNode) × (new m ≡ Some (border z)) × (z.deleted ≡ true)
      gone_one m q v e (inl (w, g)) = absurd (let z : gone e ≡ on true = cc in cc)
      gone_one m q v e (inr (inl (w, g))) = absurd (let z : gone e ≡ on true = cc in cc)
      gone_one m q v e (inr (inr (w, w', g))) = let (z, u, k) = tree.gone_borders m q v e g in
          (z, change.rest m (λ i. let c : chart m ≡ chart n = ap chart i in let l = o.place in let z : gone e ≡ on o.posted = cc in cc) ∙ u, k)

      old_left : (m : ℕ) (q : List ℕ) (l : ℕ) → (l ≡ 0) ⊎ ((j : ℕ) × (d : BorderNode) × OnBorder arena chart j q d × (d.right ≡ Some (record { low = l; number = m }))) →
          (l ≡ 0) ⊎ ((j : ℕ) × (d : BorderNode) × OnBorder new more j q d × (d.right ≡ Some (record { low = l; number = m })))
      old_left m q l (inl z) = inl z
      old_left m q l (inr (j, d, z, e)) = inr (go (same_number j n))
        where
          go : (j ≡ n) ⊎ (j ≢ n) → (j : ℕ) × (d : BorderNode) × OnBorder new more j q d × (d.right ≡ Some (record { low = l; number = m }))
          go (inl g) = let w = at_n j q d z g in (n, b', subst (λ (z : List ℕ). OnBorder new more n z b') (sym w.0) now_n, right ∙ ap (λ z. z.right) (sym w.1) ∙ e)
          go (inr g) = (j, d, kept j q d z g, e)

      lefts : (m : ℕ) (q : List ℕ) (d : BorderNode) → ((m ≡ r) × (q ≡ s ∷ p) × (d ≡ x)) ⊎ (((m ≡ n) × (q ≡ p) × (d ≡ b')) ⊎ ((m ≢ n) × OnBorder arena chart m q d)) →
          (d.low ≡ 0) ⊎ ((j : ℕ) × (e : BorderNode) × OnBorder new more j q e × (e.right ≡ Some (record { low = d.low; number = m })))
      lefts m q d (inl (e, u, v)) = inl (ap (λ z. z.low) v ∙ x_low)
      lefts m q d (inr (inl (e, u, v))) = let k : d.low ≡ b.low = ap (λ z. z.low) v ∙ low in rw k (old_left m q b.low (rw (e, u) (tree.from_left n p b o)))
      lefts m q d (inr (inr (e, z))) = old_left m q d.low (tree.from_left m q d z)

      layer : (m : ℕ) (q : List ℕ) (d : BorderNode) → ((m ≡ r) × (q ≡ s ∷ p) × (d ≡ x)) ⊎ (((m ≡ n) × (q ≡ p) × (d ≡ b')) ⊎ ((m ≢ n) × OnBorder arena chart m q d)) → (i : ℕ) × OnHead more i q
      layer m q d (inl (e, u, v)) = (t, subst (λ (z : List ℕ). OnHead more t z) (sym u) head_charted)
      layer m q d (inr (inl (e, u, v))) = let (i, g) = tree.in_layer n p b o in (i, subst (λ (z : List ℕ). OnHead more i z) (sym u) (known i (spot top p 0 (on true)) g))
      layer m q d (inr (inr (e, z))) = let (i, g) = tree.in_layer m q d z in (i, known i (spot top q 0 (on true)) g)

      hangs : (i : ℕ) (q : List ℕ) → ((i ≡ t) × (spot top q 0 (on true) ≡ spot top (s ∷ p) 0 (on true))) ⊎ (((i ≡ r) × (spot top q 0 (on true) ≡ spot (at_level 0) (s ∷ p) 0 (on true))) ⊎ ((i ≢ t) × (i ≢ r) × (chart i ≡ Some (spot top q 0 (on true))))) → Hung new more i q
      hangs i q (inl (e, g)) = let s2 : q ≡ s ∷ p = cc in subst (λ (z : List ℕ). Hung new more i z) (sym s2) (subst (λ (z : ℕ). Hung new more z (s ∷ p)) (sym e) (n, b', now_n, (entries new_entry).1 (inl refl)))
      hangs i q (inr (inl (e, g))) = absurd (let w : top ≡ at_level 0 = cc in cc)
      hangs i q (inr (inr (e, e', g))) = make_hung i q (tree.hung i q g)

      one : (i j : ℕ) (q : List ℕ) (d e : BorderNode) → d.low ≤ e.low → Below e.low d.right →
          ((i ≡ r) × (q ≡ s ∷ p) × (d ≡ x)) ⊎ (((i ≡ n) × (q ≡ p) × (d ≡ b')) ⊎ ((i ≢ n) × OnBorder arena chart i q d)) →
          ((j ≡ r) × (q ≡ s ∷ p) × (e ≡ x)) ⊎ (((j ≡ n) × (q ≡ p) × (e ≡ b')) ⊎ ((j ≢ n) × OnBorder arena chart j q e)) → i ≡ j
      one i j q d e le be (inl (i1, u, v)) (inl (j1, u', v')) = i1 ∙ sym j1
      one i j q d e le be (inl (i1, u, v)) (inr (inl (j1, u', v'))) = absurd (none_below n b (subst (λ (z : List ℕ). OnBorder arena chart n z b) (sym u' ∙ u) o))
      one i j q d e le be (inl (i1, u, v)) (inr (inr (j1, w))) = absurd (none_below j e (rw u at w))
      one i j q d e le be (inr (inl (i1, u, v))) (inl (j1, u', v')) = absurd (none_below n b (subst (λ (z : List ℕ). OnBorder arena chart n z b) (sym u ∙ u') o))
      one i j q d e le be (inr (inl (i1, u, v))) (inr (inl (j1, u', v'))) = i1 ∙ sym j1
      one i j q d e le be (inr (inl (i1, u, v))) (inr (inr (j1, w))) = let k : b.low ≤ e.low = rw (ap (λ z. z.low) v ∙ low) at le in
          i1 ∙ tree.disjoint n j p b e o (rw u at w) k (rw (ap (λ z. z.right) v ∙ right) at be)
      one i j q d e le be (inr (inr (i1, z))) (inl (j1, u', v')) = absurd (none_below i d (rw u' at z))
      one i j q d e le be (inr (inr (i1, z))) (inr (inl (j1, u', v'))) = tree.disjoint i n p d b (rw u' at z) o (rw (ap (λ z. z.low) v' ∙ low) at le) (rw (ap (λ z. z.low) v' ∙ low) at be) ∙ sym j1
      one i j q d e le be (inr (inr (i1, z))) (inr (inr (j1, w))) = tree.disjoint i j q d e z w le be

  pub layer_made_evolves : (begun : ℕ) → Evolves begun chart more
  layer_made_evolves begun = known_evolves begun chart more known

  -- the content stays: the old row's key is the same key one layer deeper
  pub layer_made_content : (k : Place) (w : Row) → Has new k w ↔ Has arena k w
  layer_made_content k w = (λ i. has arena chart tree k w (back (stored new more layer_made_tree k w i)), λ i. has new more layer_made_tree k w (forth (stored arena chart tree k w i)))
    where
      only : (e : PlainEntry) → Among e (f ∷ []) → e ≡ f
      only e first = refl
      only e (later i) = elim i [ ]

      back : Stored new more k w → Stored arena chart k w
      back z = go (was z.number z.prefix z.node z.on_border)
        where
          in_n : z.prefix ≡ p → (z.entry ≡ new_entry) ⊎ (Among z.entry b.entries × (z.entry ≢ old_entry)) → Stored arena chart k w
          in_n u (inl e) = absurd (link_holds_none z.entry s t z.place w e z.holds)
          in_n u (inr (i, ne)) = record { prefix = p; number = n; node = b; entry = z.entry; place = z.place; on_border = o; live = i; holds = z.holds; is_key = subst (λ (q : List ℕ). k ≡ under q z.place) u z.is_key }

          go : ((z.number ≡ r) × (z.prefix ≡ s ∷ p) × (z.node ≡ x)) ⊎ (((z.number ≡ n) × (z.prefix ≡ p) × (z.node ≡ b')) ⊎ ((z.number ≢ n) × OnBorder arena chart z.number z.prefix z.node)) → Stored arena chart k w
          go (inl (e, u, v)) =
              let at_x : Among z.entry x.entries = subst (λ (d : BorderNode). Among z.entry d.entries) v z.live in
              let is_f : z.entry ≡ f = only z.entry (rw x_entries at at_x) in
              let (pl, rows) = same_holds f.slice f.content z.place y w row (subst (λ (d : PlainEntry). HoldsRow d.slice d.content z.place w) is_f z.holds) f_holds in
              record {
                prefix = p;
                number = n;
                node = b;
                entry = old_entry;
                place = deeper s y;
                on_border = o;
                live = there;
                holds = (refl, sym rows);
                is_key = subst (λ (d : Place). k ≡ under (s ∷ p) d) pl (subst (λ (q : List ℕ). k ≡ under q z.place) u z.is_key);
              }
          go (inr (inl (e, u, v))) = in_n u ((entries z.entry).0 (subst (λ (d : BorderNode). Among z.entry d.entries) v z.live))
          go (inr (inr (e, g))) = record { prefix = z.prefix; number = z.number; node = z.node; entry = z.entry; place = z.place; on_border = g; live = z.live; holds = z.holds; is_key = z.is_key }

      forth : Stored arena chart k w → Stored new more k w
      forth z = go (same_number z.number n)
        where
          moved : z.prefix ≡ p → (long z.place w ≡ long z.place w) → z.entry ≡ old_entry → Stored new more k w
          moved u _ e =
              let hold : HoldsRow s (long y row) z.place w = subst (λ (d : PlainEntry). HoldsRow d.slice d.content z.place w) e z.holds in
              record {
                prefix = s ∷ p;
                number = r;
                node = x;
                entry = f;
                place = y;
                on_border = now_r;
                live = rw x_entries first;
                holds = subst (λ (d : Row). HoldsRow f.slice f.content y d) hold.1 f_holds;
                is_key = subst (λ (d : Place). k ≡ under p d) hold.0 (subst (λ (q : List ℕ). k ≡ under q z.place) u z.is_key);
              }

          stays : z.prefix ≡ p → Among z.entry b.entries → z.entry ≢ old_entry → Stored new more k w
          stays u i ne = record { prefix = p; number = n; node = b'; entry = z.entry; place = z.place; on_border = now_n; live = (entries z.entry).1 (inr (i, ne)); holds = z.holds; is_key = subst (λ (q : List ℕ). k ≡ under q z.place) u z.is_key }

          go : (z.number ≡ n) ⊎ (z.number ≢ n) → Stored new more k w
          go (inl e) = let q = at_n z.number z.prefix z.node z.on_border e in
              let i : Among z.entry b.entries = subst (λ (d : BorderNode). Among z.entry d.entries) q.1 z.live in pick q.0 i (is_old z.entry z.place w z.holds)
            where
              is_old : (e : PlainEntry) (c : Place) (v : Row) → HoldsRow e.slice e.content c v → (class e.content ≡ 9) ⊎ (class e.content ≢ 9)
              is_old e c v _ = same_number (class e.content) 9

              pick : z.prefix ≡ p → Among z.entry b.entries → (class z.entry.content ≡ 9) ⊎ (class z.entry.content ≢ 9) → Stored new more k w
              pick u i (inr ne) = stays u i (λ q. ne (ap (λ (d : PlainEntry). class d.content) q))
              pick u i (inl c) = at (same_number z.entry.slice s)
                where
                  at : (z.entry.slice ≡ s) ⊎ (z.entry.slice ≢ s) → Stored new more k w
                  at (inl sl) = moved u refl (ok_n.apart z.entry old_entry i there sl c)
                  at (inr ne) = stays u i (λ q. ne (ap (λ (d : PlainEntry). d.slice) q))
          go (inr e) = record { prefix = z.prefix; number = z.number; node = z.node; entry = z.entry; place = z.place; on_border = kept z.number z.prefix z.node z.on_border e; live = z.live; holds = z.holds; is_key = z.is_key }

  pub layer_made_owned : (twins : ℕ → ℕ → Type 0) → Owned arena chart twins → Owned new more twins
  layer_made_owned twins w = owned_layer arena new chart more twins tree w t r h (s ∷ p) fresh_r head_charted (change.rest t t_not_n ∙ head_filled) root
      (λ j z q l y ne g nb. go j z q l y ne g nb (more_at j (spot z q l (on y)) g))
    where
      go : (j : ℕ) (z : Role) (q : List ℕ) (l : ℕ) (y : Bool) → j ≢ t → more j ≡ Some (spot z q l (on y)) → z ≢ at_level 0 →
          ((j ≡ t) × (spot z q l (on y) ≡ spot top (s ∷ p) 0 (on true))) ⊎ (((j ≡ r) × (spot z q l (on y) ≡ spot (at_level 0) (s ∷ p) 0 (on true))) ⊎ ((j ≢ t) × (j ≢ r) × (chart j ≡ Some (spot z q l (on y))))) →
          (chart j ≡ more j) × (new j ≡ arena j)
      go j z q l y ne g nb (inl (e, f)) = absurd (ne e)
      go j z q l y ne g nb (inr (inl (e, f))) = absurd (nb (cc))
      go j z q l y ne g nb (inr (inr (e, e', f))) = (f ∙ sym g, same_node j z q l (on y) nb f)
