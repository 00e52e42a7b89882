-- A border that is marked deleted, and that no head or interior names, is taken out of its chain.
use Rattle.std.proofs.Common.{ℕ, suc, ◌≡◌, ◌≢◌, ◌<◌, ◌≤◌, ◌⊎◌, ◌↔◌, inl, inr, List, [], ◌∷◌, Some, Bool, true, false, refl, sym, ap, ◌∙◌, subst, arith}
use Rattle.mt_slice.specs.Place.{Place, under}
use Rattle.mt_types.specs.declared.row.Row.{Row}
use Rattle.mt_chart.specs.Tree.{link, PlainEntry, Right, BorderNode, PlainChild, InteriorNode, border, Arena, Among, Below, before_right, Has}
use Rattle.mt_chart.specs.Chart.{Standing, on, gone, Role, top, at_level, Spot, spot, Chart, OnHead, OnBorder, IsBorderNode, MayName, IsChild, AreChildren, Hung, InteriorAt, IsTree, Stored, Later, went, Changes, Evolves, Dated, Owned}
use Rattle.mt_chart.proofs.Basics.{same_number}
use Rattle.mt_chart.proofs.HeldNodes.{later_same}
use Rattle.mt_chart.proofs.Reach.{same_border, stored, has, below_less, low_is_below}
use Rattle.mt_chart.proofs.Ownership.{owned_rest}
use native.Mathlib.Decide.{dec_lt}

module _ (arena new : Arena) (chart more : Chart) (tree : IsTree arena chart) (n : ℕ) (p : List ℕ) (b b' : BorderNode) (o : OnBorder arena chart n p b) (change : Changes arena new n (Some (border b')))
    (u : ℕ) (x : BorderNode) (there : arena u ≡ Some (border x)) (dropped : chart u ≡ Some (spot (at_level 0) p x.low (on false))) (bare : x.entries ≡ []) (marked : x.deleted ≡ true)
    (now : ℕ) (dated : Dated chart now) (charted : Changes chart more u (Some (spot (at_level 0) p x.low (gone now))))
    (low : b'.low ≡ b.low) (same_entries : b'.entries ≡ b.entries) (was_right : b.right ≡ Some (record { low = x.low; number = u })) (right : b'.right ≡ x.right)
    (alive : b'.deleted ≡ b.deleted) where
  on_u : OnBorder arena chart u p x
  on_u = record { posted = false; place = dropped; node = there }

  ok_n : IsBorderNode chart p b
  ok_n = tree.each_border n p b o

  ok_u : IsBorderNode chart p x
  ok_u = tree.each_border u p x on_u

  lows : b.low < x.low
  lows = (ok_n.right (record { low = x.low; number = u }) was_right).0

  n_not_u : n ≢ u
  n_not_u e = let g = o.place in let k : chart n ≡ chart u = ap chart e in let w : b.low ≡ x.low = cc in let h = lows in omega arith

  more_at : (m : ℕ) (s : Spot) → more m ≡ Some s → ((m ≡ u) × (s ≡ spot (at_level 0) p x.low (gone now))) ⊎ ((m ≢ u) × (chart m ≡ Some s))
  more_at m s g = go (same_number m u)
    where
      go : (m ≡ u) ⊎ (m ≢ u) → ((m ≡ u) × (s ≡ spot (at_level 0) p x.low (gone now))) ⊎ ((m ≢ u) × (chart m ≡ Some s))
      go (inl e) = inl (e, (let w : more m ≡ more u = ap more e in let v = charted.now in cc))
      go (inr e) = inr (e, sym (charted.rest m e) ∙ g)

  -- all but `u` is where it was
  kept_spot : (m : ℕ) (s : Spot) → s ≢ spot (at_level 0) p x.low (on false) → chart m ≡ Some s → more m ≡ Some s
  kept_spot m s ne g = charted.rest m (λ e. ne (let w : chart m ≡ chart u = ap chart e in let d = dropped in cc)) ∙ g

  not_u : (m : ℕ) (s : Spot) → s ≢ spot (at_level 0) p x.low (gone now) → more m ≡ Some s → chart m ≡ Some s
  not_u m s ne g = go (more_at m s g)
    where
      go : ((m ≡ u) × (s ≡ spot (at_level 0) p x.low (gone now))) ⊎ ((m ≢ u) × (chart m ≡ Some s)) → chart m ≡ Some s
      go (inl (e, f)) = absurd (ne f)
      go (inr (e, f)) = f

  same_node : (m : ℕ) (r : Role) (q : List ℕ) (v : ℕ) (st : Standing) → r ≢ at_level 0 → chart m ≡ Some (spot r q v st) → new m ≡ arena m
  same_node m r q v st ne g = change.rest m (λ e. ne (let w : chart m ≡ chart n = ap chart e in let d = o.place in cc))

  top_not : top ≢ at_level 0
  top_not e = cc

  interior_not : (k : ℕ) → at_level (suc k) ≢ at_level 0
  interior_not k e = let h : suc k ≡ 0 = cc in omega arith

  now_n : OnBorder new more n p b'
  now_n = let g : more n ≡ Some (spot (at_level 0) p b.low (on o.posted)) = charted.rest n n_not_u ∙ o.place in
      record { posted = o.posted; place = rw low g; node = change.now }

  was : (m : ℕ) (q : List ℕ) (d : BorderNode) → OnBorder new more m q d → (m ≢ u) × (((m ≡ n) × (q ≡ p) × (d ≡ b')) ⊎ ((m ≢ n) × OnBorder arena chart m q d))
  was m q d y = go (more_at m (spot (at_level 0) q d.low (on y.posted)) y.place) (same_number m n)
    where
      go : ((m ≡ u) × (spot (at_level 0) q d.low (on y.posted) ≡ spot (at_level 0) p x.low (gone now))) ⊎ ((m ≢ u) × (chart m ≡ Some (spot (at_level 0) q d.low (on y.posted)))) → (m ≡ n) ⊎ (m ≢ n) →
          (m ≢ u) × (((m ≡ n) × (q ≡ p) × (d ≡ b')) ⊎ ((m ≢ n) × OnBorder arena chart m q d))
      go (inl (e, f)) _ = absurd (let z : on y.posted ≡ gone now = cc in cc)
      go (inr (e, f)) (inl g) = (e, inl (g, (let h = o.place in let k : chart m ≡ chart n = ap chart g in cc), same_border new n d b' (rw g at y.node) change.now))
      go (inr (e, f)) (inr g) = (e, inr (g, record { posted = y.posted; place = f; node = sym (change.rest m g) ∙ y.node }))

  kept : (m : ℕ) (q : List ℕ) (d : BorderNode) → OnBorder arena chart m q d → m ≢ u → m ≢ n → OnBorder new more m q d
  kept m q d y ne ne' = record { posted = y.posted; place = charted.rest m ne ∙ y.place; node = change.rest m ne' ∙ y.node }

  at_n : (m : ℕ) (q : List ℕ) (d : BorderNode) → OnBorder arena chart m q d → m ≡ n → (q ≡ p) × (d ≡ b)
  at_n m q d y e = ((let h = o.place in let h' = y.place in let k : chart m ≡ chart n = ap chart e in cc), same_border arena n d b (rw e at y.node) o.node)

  at_u : (m : ℕ) (q : List ℕ) (d : BorderNode) → OnBorder arena chart m q d → m ≡ u → (q ≡ p) × (d ≡ x)
  at_u m q d y e = ((let h = dropped in let h' = y.place in let k : chart m ≡ chart u = ap chart e in cc), same_border arena u d x (rw e at y.node) there)

  -- only `n` has a right link to `u`
  only_n : (m : ℕ) (q : List ℕ) (d : BorderNode) (r : Right) → OnBorder arena chart m q d → d.right ≡ Some r → r.number ≡ u → m ≡ n
  only_n m q d r y e f =
      let (lt, z, g) = (tree.each_border m q d y).right r e in
      let w : chart r.number ≡ chart u = ap chart f in let h = dropped in
      let k : q ≡ p = cc in let k' : r.low ≡ x.low = cc in
      go (order d.low b.low) (rw k at y) lt k'
    where
      order : (i j : ℕ) → (i ≤ j) ⊎ (j ≤ i)
      order i j = grind arith

      go : (d.low ≤ b.low) ⊎ (b.low ≤ d.low) → OnBorder arena chart m p d → d.low < r.low → r.low ≡ x.low → m ≡ n
      go (inl le) y' lt k = (let h = lows in let g : b.low < r.low = omega arith in tree.disjoint m n p d b y' o le (rw e (before_right g)))
      go (inr le) y' lt k = (let g : d.low < x.low = omega arith in sym (tree.disjoint n m p b d o y' le (rw was_right (before_right g))))

  right_kept : (r : Right) (q : List ℕ) (y : Bool) → r.number ≢ u → chart r.number ≡ Some (spot (at_level 0) q r.low (on y)) → more r.number ≡ Some (spot (at_level 0) q r.low (on y))
  right_kept r q y ne g = charted.rest r.number ne ∙ g

  link_kept : (h : ℕ) (q : List ℕ) → OnHead chart h q → OnHead more h q
  link_kept h q g = kept_spot h (spot top q 0 (on true)) (λ e. let z : top ≡ at_level 0 = cc in cc) g

  n_ok : IsBorderNode more p b'
  n_ok = record {
    apart = rw same_entries ok_n.apart;
    from_low = rw (same_entries, low) ok_n.from_low;
    to_right = (λ e m. let i : Among e b.entries = rw same_entries at m in rw right (below_less (less e.slice (rw was_right at (ok_n.to_right e i))) (low_is_below chart p x ok_u)));
    links = (λ s h m. let i : Among (record { slice = s; content = link h }) b.entries = rw same_entries at m in link_kept h (s ∷ p) (ok_n.links s h i));
    right = (λ r e. let (lt, y, g) = ok_u.right r (sym right ∙ e) in let h = lows in
        ((rw low (omega arith)), y, right_kept r p y (λ f. let w : chart r.number ≡ chart u = ap chart f in let d = dropped in let z : r.low ≡ x.low = cc in omega arith) g));
    empty = (λ e. same_entries ∙ ok_n.empty (sym alive ∙ e));
  }
    where
      less : (s : ℕ) → Below s (Some (record { low = x.low; number = u })) → s ≤ x.low
      less s (before_right h) = omega arith

  unlink_interior : (m k : ℕ) (q : List ℕ) (v : ℕ) (st : Standing) → chart m ≡ Some (spot (at_level (suc k)) q v st) → InteriorAt new more m k q v st
  unlink_interior m k q v st g =
      let w = tree.interiors m k q v st g in
      record { node = w.node; is_node = same_node m (at_level (suc k)) q v st (interior_not k) g ∙ w.is_node; low = w.low; level = w.level; ok = go w.node w.ok; locked_till_deleted = w.locked_till_deleted }
    where
      may : (st t : Standing) → t ≡ on false → MayName st t → ((e : ℕ) → st ≡ gone e → e ≤ now) → MayName st (gone now)
      may (on z) t f h _ = absurd (let k : t ≡ on true = h in let c : false ≡ true = cc in cc)
      may (gone e) t f h d = d e refl

      child : (d : PlainChild) → IsChild chart st q (suc k) d → IsChild more st q (suc k) d
      child d c = pick (same_number d.number u)
        where
          pick : (d.number ≡ u) ⊎ (d.number ≢ u) → IsChild more st q (suc k) d
          pick (inl e) =
              let w : chart d.number ≡ chart u = ap chart e in let h = dropped in let h' = c.place in
              let s1 : at_level d.level ≡ at_level 0 = cc in let s2 : q ≡ p = cc in let s3 : d.low ≡ x.low = cc in let s4 : c.standing ≡ on false = cc in
              record {
                standing = gone now;
                lower = c.lower;
                place = rw (e, s1, s2, s3) charted.now;
                may = may st c.standing s4 c.may (λ f i. dated m (at_level (suc k)) q v f (rw i at g));
              }
          pick (inr e) = record { standing = c.standing; lower = c.lower; place = charted.rest d.number e ∙ c.place; may = c.may }

      go : (node : InteriorNode) → (((e : ℕ) × (st ≡ gone e)) × (node.deleted ≡ true)) ⊎ AreChildren chart st q v (suc k) node.children → (((e : ℕ) × (st ≡ gone e)) × (node.deleted ≡ true)) ⊎ AreChildren more st q v (suc k) node.children
      go node (inl e) = inl e
      go node (inr e) = inr (record { leftmost = e.leftmost; each = (λ d i. child d (e.each d i)) })

  unlink_hung : (h : ℕ) (q : List ℕ) → Hung arena chart h q → Hung new more h q
  unlink_hung h [] e = e
  unlink_hung h (s ∷ q) (m, d, y, i) = go (same_number m u) (same_number m n)
    where
      x_link : PlainEntry
      x_link = record { slice = s; content = link h }

      none : Among x_link [] → ⊥
      none f = elim f [ ]

      go : (m ≡ u) ⊎ (m ≢ u) → (m ≡ n) ⊎ (m ≢ n) → Hung new more h (s ∷ q)
      go (inl e) _ = let w = at_u m q d y e in absurd (none (rw bare at (subst (λ (z : BorderNode). Among x_link z.entries) w.1 i)))
      go (inr e) (inl f) = let w = at_n m q d y f in (n, b', subst (λ (z : List ℕ). OnBorder new more n z b') (sym w.0) now_n, rw same_entries (subst (λ (z : BorderNode). Among x_link z.entries) w.1 i))
      go (inr e) (inr f) = (m, d, kept m q d y e f, i)

  Left : ℕ → List ℕ → ℕ → Type 0
  Left m q l = (l ≡ 0) ⊎ ((j : ℕ) × (f : BorderNode) × OnBorder new more j q f × (f.right ≡ Some (record { low = l; number = m })))

  left_kept : (m : ℕ) (q : List ℕ) (l : ℕ) → m ≢ u → (l ≡ 0) ⊎ ((j : ℕ) × (f : BorderNode) × OnBorder arena chart j q f × (f.right ≡ Some (record { low = l; number = m }))) → Left m q l
  unfolding Left
  left_kept m q l ne (inl z) = inl z
  left_kept m q l ne (inr (j, f, y, e)) = inr (go (same_number j u) (same_number j n))
    where
      go : (j ≡ u) ⊎ (j ≢ u) → (j ≡ n) ⊎ (j ≢ n) → (j : ℕ) × (f : BorderNode) × OnBorder new more j q f × (f.right ≡ Some (record { low = l; number = m }))
      go (inl h) _ = let w = at_u j q f y h in (n, b', subst (λ (z : List ℕ). OnBorder new more n z b') (sym w.0) now_n, right ∙ ap (λ z. z.right) (sym w.1) ∙ e)
      go (inr h) (inl i) = let w = at_n j q f y i in absurd (ne (let k : f.right ≡ b.right = ap (λ z. z.right) w.1 in let r = was_right in
          let s : ◌≡◌ {A = Right} (record { low = l; number = m }) (record { low = x.low; number = u }) = cc in ap (λ z. z.number) s))
      go (inr h) (inr i) = (j, f, kept j q f y h i, e)

  unlink_disjoint : (i j : ℕ) (q : List ℕ) (d f : BorderNode) → OnBorder new more i q d → OnBorder new more j q f → d.low ≤ f.low → Below f.low d.right → i ≡ j
  unlink_disjoint i j q d f y z le be = go (was i q d y) (was j q f z)
    where
      go : (i ≢ u) × (((i ≡ n) × (q ≡ p) × (d ≡ b')) ⊎ ((i ≢ n) × OnBorder arena chart i q d)) → (j ≢ u) × (((j ≡ n) × (q ≡ p) × (f ≡ b')) ⊎ ((j ≢ n) × OnBorder arena chart j q f)) → i ≡ j
      go (ne, inl (e, w, v)) (ne', inl (e', w', v')) = e ∙ sym e'
      go (ne, inl (e, w, v)) (ne', inr (h, y')) = part (dec_lt f.low x.low)
        where
          part : Dec (f.low < x.low) → i ≡ j
          part (yes lt) = let k : d.low ≡ b.low = ap (λ z. z.low) v ∙ low in e ∙ tree.disjoint n j p b f o (rw w at y') (omega arith) (rw was_right (before_right lt))
          part (no ge) = absurd (ne' (sym (tree.disjoint u j p x f on_u (rw w at y') (omega arith) (rw (ap (λ z. z.right) v ∙ right) at be))))
      go (ne, inr (h, y')) (ne', inl (e', w', v')) = let k : f.low ≡ b.low = ap (λ z. z.low) v' ∙ low in
          tree.disjoint i n p d b (rw w' at y') o (omega arith) (rw k at be) ∙ sym e'
      go (ne, inr (h, y')) (ne', inr (h', z')) = tree.disjoint i j q d f y' z' le be

  pub unlink_tree : IsTree new more
  unfolding Left
  unlink_tree = record {
    layer_0 = link_kept 0 [] tree.layer_0;
    heads = (λ h q v y g. let w = tree.heads h q v y (not_u h (spot top q v (on y)) (λ e. let z : top ≡ at_level 0 = cc in cc) g) in
        record {
          low = w.low;
          posted = w.posted;
          node = w.node;
          is_node = same_node h top q v (on y) top_not (not_u h (spot top q v (on y)) (λ e. let z : top ≡ at_level 0 = cc in cc) g) ∙ w.is_node;
          root = kept_spot w.node.root (spot (at_level w.node.level) q 0 (on true)) (λ e. let z : on true ≡ on false = cc in let c : true ≡ false = cc in cc) w.root;
        });
    borders = (λ m q v y g. spots m q v y (not_u m (spot (at_level 0) q v (on y)) (λ e. let z : on y ≡ gone now = cc in cc) g) (same_number m n));
    each_border = (λ m q d y. pick_ok m q d (was m q d y));
    interiors = (λ m k q v st g. unlink_interior m k q v st (not_u m (spot (at_level (suc k)) q v st) (λ e. interior_not k (cc)) g));
    gone_heads = (λ h q v e g. let g' = not_u h (spot top q v (gone e)) (λ e. let z : top ≡ at_level 0 = cc in cc) g in
        let (t, w, z) = tree.gone_heads h q v e g' in (t, same_node h top q v (gone e) top_not g' ∙ w, z));
    gone_borders = (λ m q v e g. gones m q v e (more_at m (spot (at_level 0) q v (gone e)) g));
    from_left = (λ m q d y. lefts m q d (was m q d y));
    in_layer = (λ m q d y. layer m q d (was m q d y));
    hung = (λ h q g. unlink_hung h q (tree.hung h q (not_u h (spot top q 0 (on true)) (λ e. let z : top ≡ at_level 0 = cc in cc) g)));
    disjoint = unlink_disjoint;
  }
    where
      spots : (m : ℕ) (q : List ℕ) (v : ℕ) (y : Bool) → chart m ≡ Some (spot (at_level 0) q v (on y)) → (m ≡ n) ⊎ (m ≢ n) → (d : BorderNode) × (new m ≡ Some (border d)) × (d.low ≡ v)
      spots m q v y g (inl e) = (b', ap new e ∙ change.now, low ∙ (let w = o.place in let k : chart m ≡ chart n = ap chart e in cc))
      spots m q v y g (inr e) = let (d, w, z) = tree.borders m q v y g in (d, change.rest m e ∙ w, z)

      gones : (m : ℕ) (q : List ℕ) (v e : ℕ) → ((m ≡ u) × (spot (at_level 0) q v (gone e) ≡ spot (at_level 0) p x.low (gone now))) ⊎ ((m ≢ u) × (chart m ≡ Some (spot (at_level 0) q v (gone e)))) →
          (d : BorderNode) × (new m ≡ Some (border d)) × (d.deleted ≡ true)
      gones m q v e (inl (f, g)) = (x, ap new f ∙ change.rest u (λ h. n_not_u (sym h)) ∙ there, marked)
      gones m q v e (inr (f, g)) = let (d, w, z) = tree.gone_borders m q v e g in
          (d, change.rest m (λ h. let k : chart m ≡ chart n = ap chart h in let i = o.place in let s : gone e ≡ on o.posted = cc in cc) ∙ w, z)

      pick_ok : (m : ℕ) (q : List ℕ) (d : BorderNode) → (m ≢ u) × (((m ≡ n) × (q ≡ p) × (d ≡ b')) ⊎ ((m ≢ n) × OnBorder arena chart m q d)) → IsBorderNode more q d
      pick_ok m q d (ne, inl (e, w, v)) = rw (w, v) n_ok
      pick_ok m q d (ne, inr (e, y)) = let ok = tree.each_border m q d y in
          record {
            apart = ok.apart;
            from_low = ok.from_low;
            to_right = ok.to_right;
            links = (λ s h i. link_kept h (s ∷ q) (ok.links s h i));
            right = (λ r f. let (lt, z, g) = ok.right r f in (lt, z, right_kept r q z (λ i. e (only_n m q d r y f i)) g));
            empty = ok.empty;
          }

      lefts : (m : ℕ) (q : List ℕ) (d : BorderNode) → (m ≢ u) × (((m ≡ n) × (q ≡ p) × (d ≡ b')) ⊎ ((m ≢ n) × OnBorder arena chart m q d)) → Left m q d.low
      lefts m q d (ne, inl (e, w, v)) = let k : b.low ≡ d.low = sym (ap (λ z. z.low) v ∙ low) in
          subst (λ (z : ℕ). Left m q z) k (left_kept m q b.low ne (rw (e, w) (tree.from_left n p b o)))
      lefts m q d (ne, inr (e, y)) = left_kept m q d.low ne (tree.from_left m q d y)

      layer : (m : ℕ) (q : List ℕ) (d : BorderNode) → (m ≢ u) × (((m ≡ n) × (q ≡ p) × (d ≡ b')) ⊎ ((m ≢ n) × OnBorder arena chart m q d)) → (h : ℕ) × OnHead more h q
      layer m q d (ne, inl (e, w, v)) = let (h, g) = tree.in_layer n p b o in (h, subst (λ (z : List ℕ). OnHead more h z) (sym w) (link_kept h p g))
      layer m q d (ne, inr (e, y)) = let (h, g) = tree.in_layer m q d y in (h, link_kept h q g)

  pub unlink_evolves : (begun : ℕ) → begun ≤ now → Evolves begun chart more
  unlink_evolves begun le m r q v st g = go (same_number m u)
    where
      go : (m ≡ u) ⊎ (m ≢ u) → ((w : Standing) × (more m ≡ Some (spot r q v w)) × Later begun st w) ⊎ ((e : ℕ) × (st ≡ gone e) × (e < begun))
      go (inl e) = let k : chart m ≡ chart u = ap chart e in let h = dropped in
          let s1 : r ≡ at_level 0 = cc in let s2 : q ≡ p = cc in let s3 : v ≡ x.low = cc in let s4 : on false ≡ st = cc in
          inl (gone now, rw (e, s1, s2, s3) charted.now, subst (λ (z : Standing). Later begun z (gone now)) s4 (went le))
      go (inr e) = inl (st, charted.rest m e ∙ g, later_same begun st)

  pub unlink_content : (k : Place) (row : Row) → Has new k row ↔ Has arena k row
  unlink_content k row = (λ h. has arena chart tree k row (back (stored new more unlink_tree k row h)), λ h. has new more unlink_tree k row (there_now (stored arena chart tree k row h)))
    where
      none : (e : PlainEntry) → Among e [] → ⊥
      none e f = elim f [ ]

      back : Stored new more k row → Stored arena chart k row
      back s = go (was s.number s.prefix s.node s.on_border)
        where
          go : (s.number ≢ u) × (((s.number ≡ n) × (s.prefix ≡ p) × (s.node ≡ b')) ⊎ ((s.number ≢ n) × OnBorder arena chart s.number s.prefix s.node)) → Stored arena chart k row
          go (ne, inl (e, w, v)) = record {
            prefix = p;
            number = n;
            node = b;
            entry = s.entry;
            place = s.place;
            on_border = o;
            live = rw same_entries at (subst (λ (z : BorderNode). Among s.entry z.entries) v s.live);
            holds = s.holds;
            is_key = subst (λ (z : List ℕ). k ≡ under z s.place) w s.is_key;
          }
          go (ne, inr (e, y)) = record { prefix = s.prefix; number = s.number; node = s.node; entry = s.entry; place = s.place; on_border = y; live = s.live; holds = s.holds; is_key = s.is_key }

      there_now : Stored arena chart k row → Stored new more k row
      there_now s = go (same_number s.number u) (same_number s.number n)
        where
          go : (s.number ≡ u) ⊎ (s.number ≢ u) → (s.number ≡ n) ⊎ (s.number ≢ n) → Stored new more k row
          go (inl e) _ = let w = at_u s.number s.prefix s.node s.on_border e in absurd (none s.entry (rw bare at (subst (λ (z : BorderNode). Among s.entry z.entries) w.1 s.live)))
          go (inr e) (inl f) = let w = at_n s.number s.prefix s.node s.on_border f in
              record {
                prefix = p;
                number = n;
                node = b';
                entry = s.entry;
                place = s.place;
                on_border = now_n;
                live = rw same_entries (subst (λ (z : BorderNode). Among s.entry z.entries) w.1 s.live);
                holds = s.holds;
                is_key = subst (λ (z : List ℕ). k ≡ under z s.place) w.0 s.is_key;
              }
          go (inr e) (inr f) = record { prefix = s.prefix; number = s.number; node = s.node; entry = s.entry; place = s.place; on_border = kept s.number s.prefix s.node s.on_border e f; live = s.live; holds = s.holds; is_key = s.is_key }

  pub unlink_owned : (twins : ℕ → ℕ → Type 0) → Owned arena chart twins → Owned new more twins
  unlink_owned twins w = owned_rest arena new chart more twins w (λ j r q v y g ne.
      let g' = not_u j (spot r q v (on y)) (λ e. let z : on y ≡ gone now = cc in cc) g in (g' ∙ sym g, same_node j r q v (on y) ne g'))
