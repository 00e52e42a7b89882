-- The link step of a split: the border `n` keeps the lower entries, and its right link names the new border `r`.
use Rattle.std.proofs.Common.{ℕ, suc, ◌≡◌, ◌≢◌, ◌<◌, ◌≤◌, ◌⊎◌, ◌↔◌, inl, inr, List, [], ◌∷◌, Option, Some, None, Bool, true, false, sym, ap, ◌∙◌, subst, arith}
use Rattle.mt_slice.specs.Place.{Place, under}
use Rattle.mt_types.specs.declared.row.Row.{Row}
use Rattle.mt_chart.specs.Tree.{link, PlainEntry, Right, BorderNode, PlainChild, border, Arena, Among, Below, no_right, before_right, Has}
use Rattle.mt_chart.specs.Chart.{Standing, on, gone, Role, top, at_level, Spot, spot, Chart, OnHead, OnBorder, IsBorderNode, AreChildren, Hung, InteriorAt, IsTree, Stored, Owns, by_head, by_interior, Owned, Changes, Evolves}
use Rattle.mt_chart.proofs.Basics.{same_number}
use Rattle.mt_chart.proofs.HeldNodes.{later_same}
use Rattle.mt_chart.proofs.Reach.{same_border, stored, has, below_less, low_is_below, same_low_slice}

-- a chart that knows at least what another knows
abbrev pub Knows : Chart → Chart → Type 0
Knows chart more = (m : ℕ) (x : Spot) → chart m ≡ Some x → more m ≡ Some x

pub children_known : (chart more : Chart) (st : Standing) (p : List ℕ) (l k : ℕ) (cs : List PlainChild) → Knows chart more → AreChildren chart st p l k cs → AreChildren more st p l k cs
children_known chart more st p l k cs f w = record {
  leftmost = w.leftmost;
  each = (λ c m. let x = w.each c m in record { standing = x.standing; lower = x.lower; place = f c.number (spot (at_level c.level) p c.low x.standing) x.place; may = x.may });
}

pub border_known : (chart more : Chart) (p : List ℕ) (b : BorderNode) → Knows chart more → IsBorderNode chart p b → IsBorderNode more p b
border_known chart more p b f ok = record {
  apart = ok.apart;
  from_low = ok.from_low;
  to_right = ok.to_right;
  links = (λ s h m. f h (spot top (s ∷ p) 0 (on true)) (ok.links s h m));
  right = (λ r e. let (u, y, v) = ok.right r e in (u, y, f r.number (spot (at_level 0) p r.low (on y)) v));
  empty = ok.empty;
}

pub interior_known : (arena new : Arena) (chart more : Chart) (n k : ℕ) (p : List ℕ) (l : ℕ) (st : Standing) → Knows chart more → new n ≡ arena n → InteriorAt arena chart n k p l st → InteriorAt new more n k p l st
interior_known arena new chart more n k p l st f e u = record { node = u.node; is_node = e ∙ u.is_node; low = u.low; level = u.level; ok = go u.ok; locked_till_deleted = u.locked_till_deleted }
  where
    go : (((e : ℕ) × (st ≡ gone e)) × (u.node.deleted ≡ true)) ⊎ AreChildren chart st p l (suc k) u.node.children → (((e : ℕ) × (st ≡ gone e)) × (u.node.deleted ≡ true)) ⊎ AreChildren more st p l (suc k) u.node.children
    go (inl w) = inl w
    go (inr w) = inr (children_known chart more st p l (suc k) u.node.children f w)

-- a number that the chart did not know is added
pub fresh_known : (chart more : Chart) (r : ℕ) (x : Spot) → chart r ≡ None → Changes chart more r (Some x) → Knows chart more
fresh_known chart more r x fresh change m y g = change.rest m (λ e. let k : chart m ≡ chart r = ap chart e in cc) ∙ g

pub known_evolves : (b : ℕ) (chart more : Chart) → Knows chart more → Evolves b chart more
known_evolves b chart more f n role p l st g = inl (st, f n (spot role p l st) g, later_same b st)

module _ (arena new : Arena) (chart more : Chart) (tree : IsTree arena chart) (n : ℕ) (p : List ℕ) (b b' : BorderNode) (o : OnBorder arena chart n p b) (change : Changes arena new n (Some (border b')))
    (r : ℕ) (c : BorderNode) (filled : arena r ≡ Some (border c)) (fresh : chart r ≡ None) (charted : Changes chart more r (Some (spot (at_level 0) p c.low (on false))))
    (low : b'.low ≡ b.low) (right : b'.right ≡ Some (record { low = c.low; number = r })) (right' : c.right ≡ b.right) (above : b.low < c.low) (below : Below c.low b.right)
    (parts : (e : PlainEntry) → Among e b.entries ↔ (Among e b'.entries ⊎ Among e c.entries))
    (lower : (e : PlainEntry) → Among e b'.entries → e.slice < c.low) (upper : (e : PlainEntry) → Among e c.entries → c.low ≤ e.slice)
    (alive : b'.deleted ≡ true → b'.entries ≡ []) (alive' : c.deleted ≡ true → c.entries ≡ []) where
  known : Knows chart more
  known = fresh_known chart more r (spot (at_level 0) p c.low (on false)) fresh charted

  apart_numbers : n ≢ r
  apart_numbers e = let g = o.place in let k : chart n ≡ chart r = ap chart e in cc

  was_known : (m : ℕ) (x : Spot) → more m ≡ Some x → ((m ≡ r) × (x ≡ spot (at_level 0) p c.low (on false))) ⊎ ((m ≢ r) × (chart m ≡ Some x))
  was_known m x g = go (same_number m r)
    where
      go : (m ≡ r) ⊎ (m ≢ r) → ((m ≡ r) × (x ≡ spot (at_level 0) p c.low (on false))) ⊎ ((m ≢ r) × (chart m ≡ Some x))
      go (inl e) = inl (e, (let k : more m ≡ more r = ap more e in let w = charted.now in cc))
      go (inr e) = inr (e, sym (charted.rest m e) ∙ g)

  -- what is no border is as before, in arena and chart
  other_role : (m : ℕ) (x : Role) (q : List ℕ) (l : ℕ) (st : Standing) → x ≢ at_level 0 → more m ≡ Some (spot x q l st) → (chart m ≡ Some (spot x q l st)) × (new m ≡ arena m)
  other_role m x q l st ne g = go (was_known m (spot x q l st) g)
    where
      go : ((m ≡ r) × (spot x q l st ≡ spot (at_level 0) p c.low (on false))) ⊎ ((m ≢ r) × (chart m ≡ Some (spot x q l st))) → (chart m ≡ Some (spot x q l st)) × (new m ≡ arena m)
      go (inl (e, f)) = absurd (ne (cc))
      go (inr (e, f)) = (f, change.rest m (λ d. ne (let h : chart n ≡ Some (spot (at_level 0) p b.low (on o.posted)) = o.place in let k : chart m ≡ chart n = ap chart d in cc)))

  top_not : top ≢ at_level 0
  top_not e = cc

  interior_not : (k : ℕ) → at_level (suc k) ≢ at_level 0
  interior_not k e = let h : suc k ≡ 0 = cc in omega arith

  now_left : OnBorder new more n p b'
  now_left = let g : more n ≡ Some (spot (at_level 0) p b.low (on o.posted)) = known n (spot (at_level 0) p b.low (on o.posted)) o.place in
      record { posted = o.posted; place = (rw low g); node = change.now }

  now_right : OnBorder new more r p c
  now_right = record { posted = false; place = charted.now; node = change.rest r (λ e. apart_numbers (sym e)) ∙ filled }

  kept : (m : ℕ) (q : List ℕ) (d : BorderNode) → OnBorder arena chart m q d → m ≢ n → OnBorder new more m q d
  kept m q d x ne = record { posted = x.posted; place = known m (spot (at_level 0) q d.low (on x.posted)) x.place; node = change.rest m ne ∙ x.node }

  at_n : (m : ℕ) (q : List ℕ) (d : BorderNode) → OnBorder arena chart m q d → m ≡ n → (q ≡ p) × (d ≡ b)
  at_n m q d x e = ((let h = o.place in let h' = x.place in let k : chart m ≡ chart n = ap chart e in cc), same_border arena n d b (rw e at x.node) o.node)

  was : (m : ℕ) (q : List ℕ) (d : BorderNode) → OnBorder new more m q d →
      ((m ≡ r) × (q ≡ p) × (d ≡ c)) ⊎ (((m ≡ n) × (q ≡ p) × (d ≡ b')) ⊎ ((m ≢ n) × OnBorder arena chart m q d))
  was m q d x = go (was_known m (spot (at_level 0) q d.low (on x.posted)) x.place) (same_number m n)
    where
      go : ((m ≡ r) × (spot (at_level 0) q d.low (on x.posted) ≡ spot (at_level 0) p c.low (on false))) ⊎ ((m ≢ r) × (chart m ≡ Some (spot (at_level 0) q d.low (on x.posted)))) →
          (m ≡ n) ⊎ (m ≢ n) → ((m ≡ r) × (q ≡ p) × (d ≡ c)) ⊎ (((m ≡ n) × (q ≡ p) × (d ≡ b')) ⊎ ((m ≢ n) × OnBorder arena chart m q d))
      go (inl (e, f)) _ = inl (e, (cc), same_border new r d c (rw e at x.node) now_right.node)
      go (inr (e, f)) (inl g) = inr (inl (g, (let h = o.place in let k : chart m ≡ chart n = ap chart g in cc), same_border new n d b' (rw g at x.node) change.now))
      go (inr (e, f)) (inr g) = inr (inr (g, record { posted = x.posted; place = f; node = sym (change.rest m g) ∙ x.node }))

  left_ok : IsBorderNode more p b'
  left_ok = let ok = tree.each_border n p b o in
      record {
        apart = (λ e f i j. ok.apart e f ((parts e).1 (inl i)) ((parts f).1 (inl j)));
        from_low = (λ e i. let h : b.low ≤ e.slice = ok.from_low e ((parts e).1 (inl i)) in omega arith);
        to_right = (λ e i. rw right (before_right (lower e i)));
        links = (λ s h i. known h (spot top (s ∷ p) 0 (on true)) (ok.links s h ((parts (record { slice = s; content = link h })).1 (inl i))));
        right = (λ w e. let same : w ≡ record { low = c.low; number = r } = cc in rw same ((omega arith), false, charted.now));
        empty = alive;
      }

  right_ok : IsBorderNode more p c
  right_ok = let ok = tree.each_border n p b o in
      record {
        apart = (λ e f i j. ok.apart e f ((parts e).1 (inr i)) ((parts f).1 (inr j)));
        from_low = upper;
        to_right = (λ e i. rw right' (ok.to_right e ((parts e).1 (inr i))));
        links = (λ s h i. known h (spot top (s ∷ p) 0 (on true)) (ok.links s h ((parts (record { slice = s; content = link h })).1 (inr i))));
        right = (λ w e. let (u, y, v) = ok.right w (sym right' ∙ e) in (past w (sym right' ∙ e), y, known w.number (spot (at_level 0) p w.low (on y)) v));
        empty = alive';
      }
    where
      before : (o : Option Right) (w : Right) → Below c.low o → o ≡ Some w → c.low < w.low
      before None w no_right e = absurd (let k : ◌≡◌ {A = Option Right} None (Some w) = e in cc)
      before (Some v) w (before_right h) e = let k : v ≡ w = cc in subst (λ (z : Right). c.low < z.low) k h

      past : (w : Right) → b.right ≡ Some w → c.low < w.low
      past w e = before b.right w below e

  split_hung : (h : ℕ) (q : List ℕ) → Hung arena chart h q → Hung new more h q
  split_hung h [] e = e
  split_hung h (s ∷ q) (m, d, x, there) = go (same_number m n)
    where
      x_link : PlainEntry
      x_link = record { slice = s; content = link h }

      half : (q ≡ p) × (d ≡ b) → Among x_link b'.entries ⊎ Among x_link c.entries → Hung new more h (s ∷ q)
      half (qp, db) (inl i) = (n, b', rw qp now_left, i)
      half (qp, db) (inr i) = (r, c, rw qp now_right, i)

      go : (m ≡ n) ⊎ (m ≢ n) → Hung new more h (s ∷ q)
      go (inl e) = let w = at_n m q d x e in half w ((parts x_link).0 (subst (λ (z : BorderNode). Among x_link z.entries) w.1 there))
      go (inr e) = (m, d, kept m q d x e, there)

  -- a right link of before stands now
  link_now : (i : ℕ) (q : List ℕ) (d : BorderNode) (w : Right) → OnBorder arena chart i q d → d.right ≡ Some w → (j : ℕ) × (f : BorderNode) × OnBorder new more j q f × (f.right ≡ Some w)
  link_now i q d w x e = go (same_number i n)
    where
      go : (i ≡ n) ⊎ (i ≢ n) → (j : ℕ) × (f : BorderNode) × OnBorder new more j q f × (f.right ≡ Some w)
      go (inl g) = let (u, v) = at_n i q d x g in (r, c, rw u now_right, right' ∙ (let k : d.right ≡ b.right = ap (λ z. z.right) v in sym k ∙ e))
      go (inr g) = (i, d, kept i q d x g, e)

  split_left : (m : ℕ) (q : List ℕ) (d : BorderNode) → OnBorder new more m q d →
      (d.low ≡ 0) ⊎ ((i : ℕ) × (f : BorderNode) × OnBorder new more i q f × (f.right ≡ Some (record { low = d.low; number = m })))
  split_left m q d x = go (was m q d x)
    where
      old : (l : ℕ) → (l ≡ 0) ⊎ ((i : ℕ) × (f : BorderNode) × OnBorder arena chart i q f × (f.right ≡ Some (record { low = l; number = m }))) →
          (l ≡ 0) ⊎ ((i : ℕ) × (f : BorderNode) × OnBorder new more i q f × (f.right ≡ Some (record { low = l; number = m })))
      old l (inl z) = inl z
      old l (inr (i, f, y, e)) = inr (link_now i q f (record { low = l; number = m }) y e)

      go : ((m ≡ r) × (q ≡ p) × (d ≡ c)) ⊎ (((m ≡ n) × (q ≡ p) × (d ≡ b')) ⊎ ((m ≢ n) × OnBorder arena chart m q d)) →
          (d.low ≡ 0) ⊎ ((i : ℕ) × (f : BorderNode) × OnBorder new more i q f × (f.right ≡ Some (record { low = d.low; number = m })))
      go (inl (e, u, v)) = inr (n, b', rw u now_left, rw (e, v) right)
      go (inr (inl (e, u, v))) = let k : d.low ≡ b.low = ap (λ z. z.low) v ∙ low in rw k (old b.low (rw (e, u) (tree.from_left n p b o)))
      go (inr (inr (e, y))) = old d.low (tree.from_left m q d y)

  -- if the intervals of an old border and of `n` share a slice, they are one border
  clash : (i : ℕ) (q : List ℕ) (d : BorderNode) (s : ℕ) → i ≢ n → OnBorder arena chart i q d → q ≡ p → d.low ≤ s → Below s d.right → b.low ≤ s → Below s b.right → ⊥
  clash i q d s ne x e l h l' h' = ne (same_low_slice arena chart tree i n p d b s (rw e at x) o l h l' h')

  split_disjoint : (i j : ℕ) (q : List ℕ) (d f : BorderNode) → OnBorder new more i q d → OnBorder new more j q f → d.low ≤ f.low → Below f.low d.right → i ≡ j
  split_disjoint i j q d f x y le be = go (was i q d x) (was j q f y)
    where
      go : ((i ≡ r) × (q ≡ p) × (d ≡ c)) ⊎ (((i ≡ n) × (q ≡ p) × (d ≡ b')) ⊎ ((i ≢ n) × OnBorder arena chart i q d)) →
          ((j ≡ r) × (q ≡ p) × (f ≡ c)) ⊎ (((j ≡ n) × (q ≡ p) × (f ≡ b')) ⊎ ((j ≢ n) × OnBorder arena chart j q f)) → i ≡ j
      go (inl (e, u, v)) (inl (e', u', v')) = e ∙ sym e'
      go (inl (e, u, v)) (inr (inl (e', u', v'))) =
          let k : d.low ≡ c.low = ap (λ z. z.low) v in let k' : f.low ≡ b.low = ap (λ z. z.low) v' ∙ low in absurd (omega arith)
      go (inl (e, u, v)) (inr (inr (ne, y'))) =
          let k : d.low ≡ c.low = ap (λ z. z.low) v in let m : d.right ≡ b.right = ap (λ z. z.right) v ∙ right' in
          absurd (clash j q f f.low ne y' u (omega arith) (low_is_below chart q f (tree.each_border j q f y')) (omega arith) (rw m at be))
      go (inr (inl (e, u, v))) (inl (e', u', v')) =
          let k : d.right ≡ Some (record { low = c.low; number = r }) = ap (λ z. z.right) v ∙ right in
          let k' : f.low ≡ c.low = ap (λ z. z.low) v' in absurd (not_before (rw (k, k') at be))
        where
          not_before : Below c.low (Some (record { low = c.low; number = r })) → ⊥
          not_before (before_right h) = omega arith
      go (inr (inl (e, u, v))) (inr (inl (e', u', v'))) = e ∙ sym e'
      go (inr (inl (e, u, v))) (inr (inr (ne, y'))) =
          let k : d.right ≡ Some (record { low = c.low; number = r }) = ap (λ z. z.right) v ∙ right in
          let m : d.low ≡ b.low = ap (λ z. z.low) v ∙ low in
          absurd (clash j q f f.low ne y' u (omega arith) (low_is_below chart q f (tree.each_border j q f y')) (omega arith) (below_less (less (rw k at be)) below))
        where
          less : Below f.low (Some (record { low = c.low; number = r })) → f.low ≤ c.low
          less (before_right h) = omega arith
      go (inr (inr (ne, x'))) (inl (e', u', v')) =
          let k' : f.low ≡ c.low = ap (λ z. z.low) v' in
          absurd (clash i q d f.low ne x' u' le be (omega arith) (rw k' below))
      go (inr (inr (ne, x'))) (inr (inl (e', u', v'))) =
          let k' : f.low ≡ b.low = ap (λ z. z.low) v' ∙ low in
          absurd (clash i q d f.low ne x' u' le be (omega arith) (rw k' (low_is_below chart p b (tree.each_border n p b o))))
      go (inr (inr (ne, x'))) (inr (inr (ne', y'))) = tree.disjoint i j q d f x' y' le be

  split_borders : (m : ℕ) (q : List ℕ) (l : ℕ) (y : Bool) → more m ≡ Some (spot (at_level 0) q l (on y)) → (d : BorderNode) × (new m ≡ Some (border d)) × (d.low ≡ l)
  split_borders m q l y g = go (was_known m (spot (at_level 0) q l (on y)) g) (same_number m n)
    where
      go : ((m ≡ r) × (spot (at_level 0) q l (on y) ≡ spot (at_level 0) p c.low (on false))) ⊎ ((m ≢ r) × (chart m ≡ Some (spot (at_level 0) q l (on y)))) → (m ≡ n) ⊎ (m ≢ n) →
          (d : BorderNode) × (new m ≡ Some (border d)) × (d.low ≡ l)
      go (inl (e, f)) _ = (c, ap new e ∙ now_right.node, (cc))
      go (inr (e, f)) (inl h) = (b', ap new h ∙ change.now, low ∙ (let w = o.place in let k : chart m ≡ chart n = ap chart h in cc))
      go (inr (e, f)) (inr h) = let (d, u, v) = tree.borders m q l y f in (d, change.rest m h ∙ u, v)

  split_gone : (m : ℕ) (q : List ℕ) (l e : ℕ) → more m ≡ Some (spot (at_level 0) q l (gone e)) → (d : BorderNode) × (new m ≡ Some (border d)) × (d.deleted ≡ true)
  split_gone m q l e g = go (was_known m (spot (at_level 0) q l (gone e)) g) (same_number m n)
    where
      go : ((m ≡ r) × (spot (at_level 0) q l (gone e) ≡ spot (at_level 0) p c.low (on false))) ⊎ ((m ≢ r) × (chart m ≡ Some (spot (at_level 0) q l (gone e)))) → (m ≡ n) ⊎ (m ≢ n) →
          (d : BorderNode) × (new m ≡ Some (border d)) × (d.deleted ≡ true)
      go (inl (i, f)) _ = absurd (let k : gone e ≡ on false = cc in cc)
      go (inr (i, f)) (inl h) = absurd (let w = o.place in let k : chart m ≡ chart n = ap chart h in let z : gone e ≡ on o.posted = cc in cc)
      go (inr (i, f)) (inr h) = let (d, u, v) = tree.gone_borders m q l e f in (d, change.rest m h ∙ u, v)

  pub split_tree : IsTree new more
  split_tree = record {
    layer_0 = known 0 (spot top [] 0 (on true)) tree.layer_0;
    heads = (λ h q l y g. let w = other_role h top q l (on y) top_not g in let u = tree.heads h q l y w.0 in
        record { low = u.low; posted = u.posted; node = u.node; is_node = w.1 ∙ u.is_node; root = known u.node.root (spot (at_level u.node.level) q 0 (on true)) u.root });
    borders = split_borders;
    each_border = (λ m q d x. pick_ok m q d (was m q d x));
    interiors = (λ m k q l st g. let w = other_role m (at_level (suc k)) q l st (interior_not k) g in interior_known arena new chart more m k q l st known w.1 (tree.interiors m k q l st w.0));
    gone_heads = (λ h q l e g. let w = other_role h top q l (gone e) top_not g in let (t, u, v) = tree.gone_heads h q l e w.0 in (t, w.1 ∙ u, v));
    gone_borders = split_gone;
    from_left = split_left;
    in_layer = (λ m q d x. layer m q d (was m q d x));
    hung = (λ h q g. let w = other_role h top q 0 (on true) top_not g in split_hung h q (tree.hung h q w.0));
    disjoint = split_disjoint;
  }
    where
      pick_ok : (m : ℕ) (q : List ℕ) (d : BorderNode) → ((m ≡ r) × (q ≡ p) × (d ≡ c)) ⊎ (((m ≡ n) × (q ≡ p) × (d ≡ b')) ⊎ ((m ≢ n) × OnBorder arena chart m q d)) → IsBorderNode more q d
      pick_ok m q d (inl (e, u, v)) = rw (u, v) right_ok
      pick_ok m q d (inr (inl (e, u, v))) = rw (u, v) left_ok
      pick_ok m q d (inr (inr (e, y))) = border_known chart more q d known (tree.each_border m q d y)

      head_of : (q : List ℕ) → (h : ℕ) × OnHead chart h q → (h : ℕ) × OnHead more h q
      head_of q (h, g) = (h, known h (spot top q 0 (on true)) g)

      layer : (m : ℕ) (q : List ℕ) (d : BorderNode) → ((m ≡ r) × (q ≡ p) × (d ≡ c)) ⊎ (((m ≡ n) × (q ≡ p) × (d ≡ b')) ⊎ ((m ≢ n) × OnBorder arena chart m q d)) → (h : ℕ) × OnHead more h q
      layer m q d (inl (e, u, v)) = head_of q (rw u (tree.in_layer n p b o))
      layer m q d (inr (inl (e, u, v))) = head_of q (rw u (tree.in_layer n p b o))
      layer m q d (inr (inr (e, y))) = head_of q (tree.in_layer m q d y)

  pub split_evolves : (begun : ℕ) → Evolves begun chart more
  split_evolves begun = known_evolves begun chart more known

  pub split_owned : (twins : ℕ → ℕ → Type 0) → Owned arena chart twins → Owned new more twins
  split_owned twins w = record {
    one_owner = (λ i j c x y. w.one_owner i j c (owner i c x) (owner j c y));
    once = (λ m k q l y t g e. let u = other_role m (at_level (suc k)) q l (on y) (interior_not k) g in w.once m k q l y t u.0 (sym u.1 ∙ e));
  }
    where
      owner : (i c : ℕ) → Owns new more i c → Owns arena chart i c
      owner i c (by_head q t g e f) = let u = other_role i top q 0 (on true) top_not g in by_head q t u.0 (sym u.1 ∙ e) f
      owner i c (by_interior k q l y node child g e m f) = let u = other_role i (at_level (suc k)) q l (on y) (interior_not k) g in by_interior k q l y node child u.0 (sym u.1 ∙ e) m f

  -- the content stays
  pub split_content : (k : Place) (row : Row) → Has new k row ↔ Has arena k row
  split_content k row = (λ h. has arena chart tree k row (back (stored new more split_tree k row h)), λ h. has new more split_tree k row (there (stored arena chart tree k row h)))
    where
      back : Stored new more k row → Stored arena chart k row
      back s = go (was s.number s.prefix s.node s.on_border)
        where
          go : ((s.number ≡ r) × (s.prefix ≡ p) × (s.node ≡ c)) ⊎ (((s.number ≡ n) × (s.prefix ≡ p) × (s.node ≡ b')) ⊎ ((s.number ≢ n) × OnBorder arena chart s.number s.prefix s.node)) → Stored arena chart k row
          go (inl (e, u, v)) = record {
            prefix = p;
            number = n;
            node = b;
            entry = s.entry;
            place = s.place;
            on_border = o;
            live = (parts s.entry).1 (inr (subst (λ (z : BorderNode). Among s.entry z.entries) v s.live));
            holds = s.holds;
            is_key = subst (λ (z : List ℕ). k ≡ under z s.place) u s.is_key;
          }
          go (inr (inl (e, u, v))) = record {
            prefix = p;
            number = n;
            node = b;
            entry = s.entry;
            place = s.place;
            on_border = o;
            live = (parts s.entry).1 (inl (subst (λ (z : BorderNode). Among s.entry z.entries) v s.live));
            holds = s.holds;
            is_key = subst (λ (z : List ℕ). k ≡ under z s.place) u s.is_key;
          }
          go (inr (inr (e, y))) = record { prefix = s.prefix; number = s.number; node = s.node; entry = s.entry; place = s.place; on_border = y; live = s.live; holds = s.holds; is_key = s.is_key }

      there : Stored arena chart k row → Stored new more k row
      there s = go (same_number s.number n)
        where
          half : (s.prefix ≡ p) × (s.node ≡ b) → Among s.entry b'.entries ⊎ Among s.entry c.entries → Stored new more k row
          half (u, v) (inl i) = record { prefix = p; number = n; node = b'; entry = s.entry; place = s.place; on_border = now_left; live = i; holds = s.holds; is_key = subst (λ (z : List ℕ). k ≡ under z s.place) u s.is_key }
          half (u, v) (inr i) = record { prefix = p; number = r; node = c; entry = s.entry; place = s.place; on_border = now_right; live = i; holds = s.holds; is_key = subst (λ (z : List ℕ). k ≡ under z s.place) u s.is_key }

          go : (s.number ≡ n) ⊎ (s.number ≢ n) → Stored new more k row
          go (inl e) = let w = at_n s.number s.prefix s.node s.on_border e in half w ((parts s.entry).0 (subst (λ (z : BorderNode). Among s.entry z.entries) w.1 s.live))
          go (inr e) = record { prefix = s.prefix; number = s.number; node = s.node; entry = s.entry; place = s.place; on_border = kept s.number s.prefix s.node s.on_border e; live = s.live; holds = s.holds; is_key = s.is_key }
