-- A change of one border that keeps its low, its right link and its links.
use Rattle.std.proofs.Common.{ℕ, suc, ◌≡◌, ◌≢◌, ◌≤◌, ◌⊎◌, ◌↔◌, inl, inr, List, [], ◌∷◌, Some, Bool, true, refl, sym, ap, ◌∙◌, subst, arith}
use Rattle.mt_slice.specs.Place.{Place, under}
use Rattle.mt_types.specs.declared.row.Row.{Row}
use Rattle.mt_chart.specs.Tree.{PlainContent, short, long, link, PlainEntry, BorderNode, border, Arena, Among, Below, HoldsRow, Has}
use Rattle.mt_chart.specs.Chart.{Standing, on, gone, Role, top, at_level, spot, Chart, OnBorder, IsBorderNode, Apart, Hung, IsTree, Stored, Owns, by_head, by_interior, Owned, Changes}
use Rattle.mt_chart.proofs.Basics.{same_number}
use Rattle.mt_chart.proofs.Reach.{same_border, stored, has}
use Rattle.mt_chart.proofs.Keys.{one_place}

pub same_holds : (s : ℕ) (c : PlainContent) (x y : Place) (r w : Row) → HoldsRow s c x r → HoldsRow s c y w → (x ≡ y) × (r ≡ w)
same_holds s (short k t) x y r w h i = (h.0 ∙ sym i.0, sym h.1 ∙ i.1)
same_holds s (long z t) x y r w h i = (h.0 ∙ sym i.0, sym h.1 ∙ i.1)
same_holds s (link t) x y r w h i = elim h [ ]

module _ (arena new : Arena) (chart : Chart) (tree : IsTree arena chart) (n : ℕ) (p : List ℕ) (b b' : BorderNode) (o : OnBorder arena chart n p b) (change : Changes arena new n (Some (border b')))
    (low : b'.low ≡ b.low) where
  now_border : OnBorder new chart n p b'
  now_border = let g = o.place in record { posted = o.posted; place = (rw low g); node = change.now }

  -- a node that is no border is as before
  not_here : (m : ℕ) (x : Role) (q : List ℕ) (l : ℕ) (st : Standing) → x ≢ at_level 0 → chart m ≡ Some (spot x q l st) → new m ≡ arena m
  not_here m x q l st ne g = change.rest m (λ e. ne (let h : chart n ≡ Some (spot (at_level 0) p b.low (on o.posted)) = o.place in let k : chart m ≡ chart n = ap chart e in cc))

  top_not : top ≢ at_level 0
  top_not e = cc

  interior_not : (k : ℕ) → at_level (suc k) ≢ at_level 0
  interior_not k e = let h : suc k ≡ 0 = cc in omega arith

  -- what stood and what stands
  was : (m : ℕ) (q : List ℕ) (c : BorderNode) → OnBorder new chart m q c → ((m ≡ n) × (q ≡ p) × (c ≡ b')) ⊎ ((m ≢ n) × OnBorder arena chart m q c)
  was m q c x = go (same_number m n)
    where
      go : (m ≡ n) ⊎ (m ≢ n) → ((m ≡ n) × (q ≡ p) × (c ≡ b')) ⊎ ((m ≢ n) × OnBorder arena chart m q c)
      go (inl e) = inl (e, (let h = o.place in let h' = x.place in let k : chart m ≡ chart n = ap chart e in cc), same_border new n c b' (rw e at x.node) change.now)
      go (inr e) = inr (e, record { posted = x.posted; place = x.place; node = sym (change.rest m e) ∙ x.node })

  kept : (m : ℕ) (q : List ℕ) (c : BorderNode) → OnBorder arena chart m q c → ((m ≡ n) × (q ≡ p) × (c ≡ b)) ⊎ ((m ≢ n) × OnBorder new chart m q c)
  kept m q c x = go (same_number m n)
    where
      go : (m ≡ n) ⊎ (m ≢ n) → ((m ≡ n) × (q ≡ p) × (c ≡ b)) ⊎ ((m ≢ n) × OnBorder new chart m q c)
      go (inl e) = inl (e, (let h = o.place in let h' = x.place in let k : chart m ≡ chart n = ap chart e in cc), same_border arena n c b (rw e at x.node) o.node)
      go (inr e) = inr (e, record { posted = x.posted; place = x.place; node = change.rest m e ∙ x.node })

  on_not_gone : (y : Bool) (e : ℕ) → on y ≢ gone e
  on_not_gone y e q = cc

  module _ (right : b'.right ≡ b.right) (apart : Apart b'.entries) (from_low : (e : PlainEntry) → Among e b'.entries → b.low ≤ e.slice)
      (to_right : (e : PlainEntry) → Among e b'.entries → Below e.slice b.right)
      (links : (s h : ℕ) → Among (record { slice = s; content = link h }) b'.entries ↔ Among (record { slice = s; content = link h }) b.entries)
      (empty : b'.deleted ≡ true → b'.entries ≡ []) where
    to_old : (m : ℕ) (q : List ℕ) (c : BorderNode) → OnBorder new chart m q c → (d : BorderNode) × OnBorder arena chart m q d × (d.low ≡ c.low) × (d.right ≡ c.right)
    to_old m q c x = go (was m q c x)
      where
        go : ((m ≡ n) × (q ≡ p) × (c ≡ b')) ⊎ ((m ≢ n) × OnBorder arena chart m q c) → (d : BorderNode) × OnBorder arena chart m q d × (d.low ≡ c.low) × (d.right ≡ c.right)
        go (inl (e, f, g)) = (b, rw (e, f) o, sym low ∙ ap (λ z. z.low) (sym g), sym right ∙ ap (λ z. z.right) (sym g))
        go (inr (e, y)) = (c, y, refl, refl)

    to_new : (m : ℕ) (q : List ℕ) (c : BorderNode) → OnBorder arena chart m q c →
        (d : BorderNode) × OnBorder new chart m q d × (d.low ≡ c.low) × (d.right ≡ c.right) × ((s h : ℕ) → Among (record { slice = s; content = link h }) c.entries → Among (record { slice = s; content = link h }) d.entries)
    to_new m q c x = go (kept m q c x)
      where
        go : ((m ≡ n) × (q ≡ p) × (c ≡ b)) ⊎ ((m ≢ n) × OnBorder new chart m q c) →
            (d : BorderNode) × OnBorder new chart m q d × (d.low ≡ c.low) × (d.right ≡ c.right) × ((s h : ℕ) → Among (record { slice = s; content = link h }) c.entries → Among (record { slice = s; content = link h }) d.entries)
        go (inl (e, f, g)) = (
          b',
          rw (e, f) now_border,
          low ∙ ap (λ z. z.low) (sym g),
          right ∙ ap (λ z. z.right) (sym g),
          λ s h there. (links s h).1 (subst (λ (z : BorderNode). Among (record { slice = s; content = link h }) z.entries) g there),
        )
        go (inr (e, y)) = (c, y, refl, refl, λ s h there. there)

    now_ok : IsBorderNode chart p b'
    now_ok = let ok = tree.each_border n p b o in
        record {
          apart = apart;
          from_low = (λ e m. rw low (from_low e m));
          to_right = (λ e m. rw right (to_right e m));
          links = (λ s h m. ok.links s h ((links s h).0 m));
          right = (λ r e. let (x, y, z) = ok.right r (sym right ∙ e) in (rw low x, y, z));
          empty = empty;
        }

    pub refit : IsTree new chart
    refit = record {
      layer_0 = tree.layer_0;
      heads = (λ h q l y g. let u = tree.heads h q l y g in
          record { low = u.low; posted = u.posted; node = u.node; is_node = not_here h top q l (on y) top_not g ∙ u.is_node; root = u.root });
      borders = (λ m q l y g. let (c, e, f) = tree.borders m q l y g in
          let (d, x, u, v, w) = to_new m q c (let k : l ≡ c.low = sym f in record { posted = y; place = (rw k at g); node = e }) in (d, x.node, u ∙ f));
      each_border = (λ m q c x. pick_ok m q c x (was m q c x));
      interiors = (λ m k q l st g. let u = tree.interiors m k q l st g in
          record { node = u.node; is_node = not_here m (at_level (suc k)) q l st (interior_not k) g ∙ u.is_node; low = u.low; level = u.level; ok = u.ok; locked_till_deleted = u.locked_till_deleted });
      gone_heads = (λ h q l e g. let (t, u, v) = tree.gone_heads h q l e g in (t, not_here h top q l (gone e) top_not g ∙ u, v));
      gone_borders = (λ m q l e g. let (t, u, v) = tree.gone_borders m q l e g in (t, gone_elsewhere m q l e g ∙ u, v));
      from_left = (λ m q c x. let (d, y, u, v) = to_old m q c x in left m q c d u (tree.from_left m q d y));
      in_layer = (λ m q c x. let (d, y, u, v) = to_old m q c x in tree.in_layer m q d y);
      hung = (λ h q g. hang h q (tree.hung h q g));
      disjoint = (λ i j q c d x y le be. let (e, x', u, v) = to_old i q c x in let (f, y', w, z) = to_old j q d y in
          tree.disjoint i j q e f x' y' (rw (u, w) le) (rw (v, w) be));
    }
      where
        pick_ok : (m : ℕ) (q : List ℕ) (c : BorderNode) → OnBorder new chart m q c → ((m ≡ n) × (q ≡ p) × (c ≡ b')) ⊎ ((m ≢ n) × OnBorder arena chart m q c) → IsBorderNode chart q c
        pick_ok m q c x (inl (e, f, g)) = rw (f, g) now_ok
        pick_ok m q c x (inr (e, y)) = tree.each_border m q c y

        gone_elsewhere : (m : ℕ) (q : List ℕ) (l e : ℕ) → chart m ≡ Some (spot (at_level 0) q l (gone e)) → new m ≡ arena m
        gone_elsewhere m q l e g = change.rest m (λ h. on_not_gone o.posted e (let i : chart n ≡ Some (spot (at_level 0) p b.low (on o.posted)) = o.place in let k : chart m ≡ chart n = ap chart h in cc))

        left : (m : ℕ) (q : List ℕ) (c d : BorderNode) → d.low ≡ c.low → (d.low ≡ 0) ⊎ ((i : ℕ) × (f : BorderNode) × OnBorder arena chart i q f × (f.right ≡ Some (record { low = d.low; number = m }))) →
            (c.low ≡ 0) ⊎ ((i : ℕ) × (f : BorderNode) × OnBorder new chart i q f × (f.right ≡ Some (record { low = c.low; number = m })))
        left m q c d u (inl z) = inl (sym u ∙ z)
        left m q c d u (inr (i, f, x, e)) = let (f', x', v, w, t) = to_new i q f x in inr (i, f', x', w ∙ (rw u at e))

        hang : (h : ℕ) (q : List ℕ) → Hung arena chart h q → Hung new chart h q
        hang h [] e = e
        hang h (s ∷ q) (m, c, x, there) = let (d, y, u, v, w) = to_new m q c x in (m, d, y, w s h there)

    -- heads and interiors are as before
    pub refit_owned : (twins : ℕ → ℕ → Type 0) → Owned arena chart twins → Owned new chart twins
    refit_owned twins w = record {
      one_owner = (λ i j c x y. w.one_owner i j c (owner i c x) (owner j c y));
      once = (λ m k q l y t g e. w.once m k q l y t g (sym (not_here m (at_level (suc k)) q l (on y) (interior_not k) g) ∙ e));
    }
      where
        owner : (i c : ℕ) → Owns new chart i c → Owns arena chart i c
        owner i c (by_head q t g e f) = by_head q t g (sym (not_here i top q 0 (on true) top_not g) ∙ e) f
        owner i c (by_interior k q l y node child g e m f) = by_interior k q l y node child g (sym (not_here i (at_level (suc k)) q l (on y) (interior_not k) g) ∙ e) m f

    -- the content, entry by entry
    abbrev Here : Place → Row → Type 0
    Here k r = (e : PlainEntry) × (y : Place) × Among e b'.entries × HoldsRow e.slice e.content y r × (k ≡ under p y)

    abbrev Elsewhere : Place → Row → Type 0
    Elsewhere k r = (s : Stored arena chart k r) × (s.number ≢ n)

    at_new : (k : Place) (r : Row) → Has new k r → Here k r ⊎ Elsewhere k r
    at_new k r h = go (stored new chart refit k r h)
      where
        go : Stored new chart k r → ((e : PlainEntry) × (y : Place) × Among e b'.entries × HoldsRow e.slice e.content y r × (k ≡ under p y)) ⊎ ((s : Stored arena chart k r) × (s.number ≢ n))
        go s = split (was s.number s.prefix s.node s.on_border)
          where
            split : ((s.number ≡ n) × (s.prefix ≡ p) × (s.node ≡ b')) ⊎ ((s.number ≢ n) × OnBorder arena chart s.number s.prefix s.node) →
                ((e : PlainEntry) × (y : Place) × Among e b'.entries × HoldsRow e.slice e.content y r × (k ≡ under p y)) ⊎ ((s : Stored arena chart k r) × (s.number ≢ n))
            split (inl (e, f, g)) = inl (s.entry, s.place, subst (λ (z : BorderNode). Among s.entry z.entries) g s.live, s.holds, subst (λ (z : List ℕ). k ≡ under z s.place) f s.is_key)
            split (inr (e, x)) = inr (record { prefix = s.prefix; number = s.number; node = s.node; entry = s.entry; place = s.place; on_border = x; live = s.live; holds = s.holds; is_key = s.is_key }, e)

    here_has : (k : Place) (r : Row) → Here k r → Has new k r
    here_has k r (e, y, m, h, q) = has new chart refit k r (record { prefix = p; number = n; node = b'; entry = e; place = y; on_border = now_border; live = m; holds = h; is_key = q })

    elsewhere_has : (k : Place) (r : Row) → Elsewhere k r → Has new k r
    elsewhere_has k r (s, ne) = has new chart refit k r (record {
      prefix = s.prefix;
      number = s.number;
      node = s.node;
      entry = s.entry;
      place = s.place;
      on_border = record { posted = s.on_border.posted; place = s.on_border.place; node = change.rest s.number ne ∙ s.on_border.node };
      live = s.live;
      holds = s.holds;
      is_key = s.is_key;
    })

    elsewhere_had : (k : Place) (r : Row) → Elsewhere k r → Has arena k r
    elsewhere_had k r (s, ne) = has arena chart tree k r s

    old_here : (k : Place) (r : Row) → Has arena k r → ((e : PlainEntry) × (y : Place) × Among e b.entries × HoldsRow e.slice e.content y r × (k ≡ under p y)) ⊎ Elsewhere k r
    old_here k r h = go (stored arena chart tree k r h)
      where
        go : Stored arena chart k r → ((e : PlainEntry) × (y : Place) × Among e b.entries × HoldsRow e.slice e.content y r × (k ≡ under p y)) ⊎ ((s : Stored arena chart k r) × (s.number ≢ n))
        go s = split (kept s.number s.prefix s.node s.on_border)
          where
            split : ((s.number ≡ n) × (s.prefix ≡ p) × (s.node ≡ b)) ⊎ ((s.number ≢ n) × OnBorder new chart s.number s.prefix s.node) →
                ((e : PlainEntry) × (y : Place) × Among e b.entries × HoldsRow e.slice e.content y r × (k ≡ under p y)) ⊎ ((s : Stored arena chart k r) × (s.number ≢ n))
            split (inl (e, f, g)) = inl (s.entry, s.place, subst (λ (z : BorderNode). Among s.entry z.entries) g s.live, s.holds, subst (λ (z : List ℕ). k ≡ under z s.place) f s.is_key)
            split (inr (e, x)) = inr (s, e)

    had : (k : Place) (r : Row) (e : PlainEntry) (y : Place) → Among e b.entries → HoldsRow e.slice e.content y r → k ≡ under p y → Has arena k r
    had k r e y m h q = has arena chart tree k r (record { prefix = p; number = n; node = b; entry = e; place = y; on_border = o; live = m; holds = h; is_key = q })

    -- a key elsewhere is none of this border's
    elsewhere_differs : (k : Place) (r : Row) (e : PlainEntry) (y : Place) (r' : Row) → Elsewhere k r → Among e b.entries → HoldsRow e.slice e.content y r' → k ≢ under p y
    elsewhere_differs k r e y r' (s, ne) m h q =
        let w = one_place arena chart tree s.number n s.prefix p s.node b s.entry e s.place y r r' s.on_border o s.live m s.holds h (sym s.is_key ∙ q) in ne w.0

    -- nothing is shown or hidden
    pub content_same : ((e : PlainEntry) (y : Place) (r : Row) → HoldsRow e.slice e.content y r → Among e b'.entries ↔ Among e b.entries) →
        (k : Place) (r : Row) → Has new k r ↔ Has arena k r
    content_same same k r = (λ h. there (at_new k r h), λ h. back (old_here k r h))
      where
        there : Here k r ⊎ Elsewhere k r → Has arena k r
        there (inl (e, y, m, h, q)) = had k r e y ((same e y r h).0 m) h q
        there (inr x) = elsewhere_had k r x

        back : ((e : PlainEntry) × (y : Place) × Among e b.entries × HoldsRow e.slice e.content y r × (k ≡ under p y)) ⊎ Elsewhere k r → Has new k r
        back (inl (e, y, m, h, q)) = here_has k r (e, y, (same e y r h).1 m, h, q)
        back (inr x) = elsewhere_has k r x

    -- one entry is shown
    pub content_shown : (x : PlainEntry) (z : Place) (row : Row) → HoldsRow x.slice x.content z row →
        ((e : PlainEntry) → Among e b'.entries ↔ ((e ≡ x) ⊎ Among e b.entries)) →
        (k : Place) (r : Row) → Has new k r ↔ (((k ≡ under p z) × (r ≡ row)) ⊎ Has arena k r)
    content_shown x z row hx entries k r = (λ h. there (at_new k r h), back)
      where
        which : (e : PlainEntry) (y : Place) → HoldsRow e.slice e.content y r → k ≡ under p y → (e ≡ x) ⊎ Among e b.entries → ((k ≡ under p z) × (r ≡ row)) ⊎ Has arena k r
        which e y h q (inl w) = let (u, v) = same_holds x.slice x.content z y row r hx (subst (λ (f : PlainEntry). HoldsRow f.slice f.content y r) w h) in inl (q ∙ ap (under p) (sym u), sym v)
        which e y h q (inr m) = inr (had k r e y m h q)

        there : Here k r ⊎ Elsewhere k r → ((k ≡ under p z) × (r ≡ row)) ⊎ Has arena k r
        there (inl (e, y, m, h, q)) = which e y h q ((entries e).0 m)
        there (inr w) = inr (elsewhere_had k r w)

        again : ((e : PlainEntry) × (y : Place) × Among e b.entries × HoldsRow e.slice e.content y r × (k ≡ under p y)) ⊎ Elsewhere k r → Has new k r
        again (inl (e, y, m, h, q)) = here_has k r (e, y, (entries e).1 (inr m), h, q)
        again (inr w) = elsewhere_has k r w

        back : (((k ≡ under p z) × (r ≡ row)) ⊎ Has arena k r) → Has new k r
        back (inl (u, v)) = here_has k r (x, z, (entries x).1 (inl refl), subst (λ (w : Row). HoldsRow x.slice x.content z w) (sym v) hx, u)
        back (inr h) = again (old_here k r h)

    -- one entry is hidden
    pub content_hidden : (x : PlainEntry) (z : Place) (row : Row) → Among x b.entries → HoldsRow x.slice x.content z row →
        ((e : PlainEntry) → Among e b'.entries ↔ (Among e b.entries × (e ≢ x))) →
        (k : Place) (r : Row) → Has new k r ↔ (Has arena k r × (k ≢ under p z))
    content_hidden x z row mx hx entries k r = (λ h. there (at_new k r h), λ h. back (old_here k r h.0) h.1)
      where
        there : Here k r ⊎ Elsewhere k r → Has arena k r × (k ≢ under p z)
        there (inl (e, y, m, h, q)) = let w = (entries e).0 m in (
          had k r e y w.0 h q,
          λ f. w.1 (let v = one_place arena chart tree n n p p b b e x y z r row o o w.0 mx h hx (sym q ∙ f) in v.2),
        )
        there (inr w) = (elsewhere_had k r w, elsewhere_differs k r x z row w mx hx)

        back : ((e : PlainEntry) × (y : Place) × Among e b.entries × HoldsRow e.slice e.content y r × (k ≡ under p y)) ⊎ Elsewhere k r → k ≢ under p z → Has new k r
        back (inl (e, y, m, h, q)) ne = here_has k r (e, y, (entries e).1 (m, λ f. ne (q ∙ ap (under p) (sym (same_holds x.slice x.content z y row r hx (subst (λ (f : PlainEntry). HoldsRow f.slice f.content y r) f h)).0))), h, q)
        back (inr w) ne = elsewhere_has k r w

    -- the row of one entry is replaced
    pub content_set : (x x' : PlainEntry) (z : Place) (row row' : Row) → Among x b.entries → HoldsRow x.slice x.content z row → HoldsRow x'.slice x'.content z row' →
        ((e : PlainEntry) → Among e b'.entries ↔ ((e ≡ x') ⊎ (Among e b.entries × (e ≢ x)))) →
        (k : Place) (r : Row) → Has new k r ↔ (((k ≡ under p z) × (r ≡ row')) ⊎ (Has arena k r × (k ≢ under p z)))
    content_set x x' z row row' mx hx hx' entries k r = (λ h. there (at_new k r h), back)
      where
        which : (e : PlainEntry) (y : Place) → HoldsRow e.slice e.content y r → k ≡ under p y → (e ≡ x') ⊎ (Among e b.entries × (e ≢ x)) → ((k ≡ under p z) × (r ≡ row')) ⊎ (Has arena k r × (k ≢ under p z))
        which e y h q (inl w) = let (u, v) = same_holds x'.slice x'.content z y row' r hx' (subst (λ (f : PlainEntry). HoldsRow f.slice f.content y r) w h) in inl (q ∙ ap (under p) (sym u), sym v)
        which e y h q (inr (m, ne)) = inr (had k r e y m h q, λ f. ne (let v = one_place arena chart tree n n p p b b e x y z r row o o m mx h hx (sym q ∙ f) in v.2))

        there : Here k r ⊎ Elsewhere k r → ((k ≡ under p z) × (r ≡ row')) ⊎ (Has arena k r × (k ≢ under p z))
        there (inl (e, y, m, h, q)) = which e y h q ((entries e).0 m)
        there (inr w) = inr (elsewhere_had k r w, elsewhere_differs k r x z row w mx hx)

        again : ((e : PlainEntry) × (y : Place) × Among e b.entries × HoldsRow e.slice e.content y r × (k ≡ under p y)) ⊎ Elsewhere k r → k ≢ under p z → Has new k r
        again (inl (e, y, m, h, q)) ne = here_has k r (e, y, (entries e).1 (inr (m, λ f. ne (q ∙ ap (under p) (sym (same_holds x.slice x.content z y row r hx (subst (λ (f : PlainEntry). HoldsRow f.slice f.content y r) f h)).0)))), h, q)
        again (inr w) ne = elsewhere_has k r w

        back : (((k ≡ under p z) × (r ≡ row')) ⊎ (Has arena k r × (k ≢ under p z))) → Has new k r
        back (inl (u, v)) = here_has k r (x', z, (entries x').1 (inl refl), subst (λ (w : Row). HoldsRow x'.slice x'.content z w) (sym v) hx', u)
        back (inr (h, ne)) = again (old_here k r h) ne
