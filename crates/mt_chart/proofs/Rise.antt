-- Each move of a get goes from a node whose place it knows to one whose place it knows, of a greater height.
use Rattle.std.proofs.Common.{ℕ, zero, suc, ◌≡◌, ◌<◌, ◌≤◌, ◌+◌, ◌*◌, ◌-◌, ◌⊎◌, inl, inr, List, ◌∷◌, length, Some, Bool, true, false, refl, sym, ap, subst, arith}
use Rattle.mt_chart.specs.Tree.{HeadNode, BorderNode, InteriorNode, PlainChild, Right, head, border, interior, link, Arena, Among}
use Rattle.mt_chart.specs.Chart.{Standing, on, gone, Role, top, at_level, spot, Chart, OnBorder, OnHead, MayName, AreChildren, IsTree}
use Rattle.mt_chart.specs.Walk.{height, Known, KnownAt, Run, Moves, to_root, to_child, to_right, to_link, Higher}

pub at_height : (chart : Chart) (b n : ℕ) (role : Role) (p : List ℕ) (l : ℕ) → Known chart b n role p l → KnownAt chart b n (height role p l)
at_height chart b n role p l k = record { role = role; prefix = p; low = l; known = k; is_height = refl }

-- the four rises, as numbers
up_root : (d k : ℕ) → k ≤ 15 → (d * 17 + 0) * 18446744073709551616 + 0 < (d * 17 + (16 - k)) * 18446744073709551616 + 0
up_root d k h = omega arith

up_child : (d k j l m : ℕ) → k ≤ 15 → l < 18446744073709551616 → j < k → (d * 17 + (16 - k)) * 18446744073709551616 + l < (d * 17 + (16 - j)) * 18446744073709551616 + m
up_child d k j l m h w i = omega arith

pub up_right : (d l m : ℕ) → l < m → (d * 17 + 16) * 18446744073709551616 + l < (d * 17 + 16) * 18446744073709551616 + m
up_right d l m h = omega arith

pub up_link : (d l : ℕ) → l < 18446744073709551616 → (d * 17 + 16) * 18446744073709551616 + l < (suc d * 17 + 0) * 18446744073709551616 + 0
up_link d l h = omega arith

module _ (arena : Arena) (chart : Chart) (tree : IsTree arena chart) (b : ℕ) where
  on_since : (y : Bool) (e : ℕ) → on y ≡ gone e → b ≤ e
  on_since y e q = absurd cc

  -- the node of a known number
  pub a_head : (n : ℕ) (p : List ℕ) (l : ℕ) (st : Standing) → chart n ≡ Some (spot top p l st) → (t : HeadNode) × (arena n ≡ Some (head t))
  a_head n p l (on y) g = let u = tree.heads n p l y g in (u.node, u.is_node)
  a_head n p l (gone f) g = let (u, i, j) = tree.gone_heads n p l f g in (u, i)

  pub a_border : (n : ℕ) (p : List ℕ) (l : ℕ) (st : Standing) → chart n ≡ Some (spot (at_level 0) p l st) → (t : BorderNode) × (arena n ≡ Some (border t))
  a_border n p l (on y) g = let (u, i, j) = tree.borders n p l y g in (u, i)
  a_border n p l (gone f) g = let (u, i, j) = tree.gone_borders n p l f g in (u, i)

  rise_root : (n : ℕ) (role : Role) (p : List ℕ) (l : ℕ) (st : Standing) → chart n ≡ Some (spot role p l st) → (t : HeadNode) → arena n ≡ Some (head t) → t.deleted ≡ false → t.level ≤ 15 →
      Higher chart b t.root (height role p l)
  rise_root n top p l (on y) g t e d w =
      let u = tree.heads n p l y g in
      let same : u.node ≡ t = (let i : arena n ≡ Some (head u.node) = u.is_node in cc) in
      let low : l ≡ 0 = u.low in
      let root : chart t.root ≡ Some (spot (at_level t.level) p 0 (on true)) = rw same at u.root in
      record {
        height = height (at_level t.level) p 0;
        known = at_height chart b t.root (at_level t.level) p 0 (record { standing = on true; place = root; since = on_since true });
        rises = rw low (up_root (length p) t.level w);
      }
  rise_root n top p l (gone f) g t e d w = let (u, i, j) = tree.gone_heads n p l f g in absurd (let same : u ≡ t = cc in let m : u.deleted ≡ t.deleted = ap (λ x. x.deleted) same in cc)
  rise_root n (at_level zero) p l st g t e d w = let (u, i) = a_border n p l st g in absurd cc
  rise_root n (at_level (suc z)) p l st g t e d w = let u = tree.interiors n z p l st g in absurd (let i : arena n ≡ Some (interior u.node) = u.is_node in cc)

  since_child : (st t : Standing) → MayName st t → ((e : ℕ) → st ≡ gone e → b ≤ e) → (e : ℕ) → t ≡ gone e → b ≤ e
  since_child (on x) t m h e q = absurd (let m' : t ≡ on true = m in cc)
  since_child (gone f) (on x) m h e q = absurd cc
  since_child (gone f) (gone g) m h e q = let c : g ≡ e = cc in let m' : f ≤ g = m in let k : b ≤ f = h f refl in omega arith

  rise_child : (n : ℕ) (role : Role) (p : List ℕ) (l : ℕ) (st : Standing) → chart n ≡ Some (spot role p l st) → ((e : ℕ) → st ≡ gone e → b ≤ e) →
      (t : InteriorNode) (c : PlainChild) → arena n ≡ Some (interior t) → t.deleted ≡ false → t.level ≤ 15 → t.low < 18446744073709551616 → Among c t.children →
      Higher chart b c.number (height role p l)
  rise_child n top p l st g s t c e d w v m = let (u, i) = a_head n p l st g in absurd cc
  rise_child n (at_level zero) p l st g s t c e d w v m = let (u, i) = a_border n p l st g in absurd cc
  rise_child n (at_level (suc z)) p l st g s t c e d w v m =
      let u = tree.interiors n z p l st g in
      let same : u.node ≡ t = (let i : arena n ≡ Some (interior u.node) = u.is_node in cc) in
      let level : t.level ≡ suc z = rw same at u.level in
      let low : t.low ≡ l = rw same at u.low in
      kids (omega arith) (omega arith) (rw same at u.ok)
    where
      kids : suc z ≤ 15 → l < 18446744073709551616 → (((e : ℕ) × (st ≡ gone e)) × (t.deleted ≡ true)) ⊎ AreChildren chart st p l (suc z) t.children → Higher chart b c.number (height (at_level (suc z)) p l)
      kids w' v' (inl x) = absurd (let y : t.deleted ≡ true = x.1 in cc)
      kids w' v' (inr x) = let k = x.each c m in
          record {
            height = height (at_level c.level) p c.low;
            known = at_height chart b c.number (at_level c.level) p c.low (record { standing = k.standing; place = k.place; since = since_child st k.standing k.may s });
            rises = up_child (length p) (suc z) c.level l c.low w' v' k.lower;
          }

  -- a border that isn't marked deleted is on
  pub border_on : (n : ℕ) (role : Role) (p : List ℕ) (l : ℕ) (st : Standing) → chart n ≡ Some (spot role p l st) → (t : BorderNode) → arena n ≡ Some (border t) → t.deleted ≡ false →
      OnBorder arena chart n p t × (role ≡ at_level 0) × (t.low ≡ l)
  border_on n (at_level zero) p l (on y) g t e d =
      let (u, i, j) = tree.borders n p l y g in
      let same : u ≡ t = cc in let m : u.low ≡ t.low = ap (λ x. x.low) same in
      let low : l ≡ t.low = cc in
      (record { posted = y; place = rw low at g; node = e }, refl, sym low)
  border_on n (at_level zero) p l (gone f) g t e d = let (u, i, j) = tree.gone_borders n p l f g in absurd (let same : u ≡ t = cc in let m : u.deleted ≡ t.deleted = ap (λ x. x.deleted) same in cc)
  border_on n top p l st g t e d = let (u, i) = a_head n p l st g in absurd cc
  border_on n (at_level (suc z)) p l st g t e d = let u = tree.interiors n z p l st g in absurd (let i : arena n ≡ Some (interior u.node) = u.is_node in cc)

  rise_right : (n : ℕ) (role : Role) (p : List ℕ) (l : ℕ) → Known chart b n role p l → (t : BorderNode) (r : Right) → arena n ≡ Some (border t) → t.deleted ≡ false → t.right ≡ Some r →
      Higher chart b r.number (height role p l)
  rise_right n role p l k t r e d q =
      let (o, is_role, is_low) = border_on n role p l k.standing k.place t e d in
      let (up, y, g) = (tree.each_border n p t o).right r q in
      record {
        height = height (at_level 0) p r.low;
        known = at_height chart b r.number (at_level 0) p r.low (record { standing = on y; place = g; since = on_since y });
        rises = rw is_role (up_right (length p) l r.low (omega arith));
      }

  rise_link : (n : ℕ) (role : Role) (p : List ℕ) (l : ℕ) → Known chart b n role p l → (t : BorderNode) (s h : ℕ) → arena n ≡ Some (border t) → t.deleted ≡ false → t.low < 18446744073709551616 →
      Among (record { slice = s; content = link h }) t.entries → Higher chart b h (height role p l)
  rise_link n role p l k t s h e d w m =
      let (o, is_role, is_low) = border_on n role p l k.standing k.place t e d in
      let g : OnHead chart h (s ∷ p) = (tree.each_border n p t o).links s h m in
      record {
        height = height top (s ∷ p) 0;
        known = at_height chart b h top (s ∷ p) 0 (record { standing = on true; place = g; since = on_since true });
        rises = rw is_role (up_link (length p) l (omega arith));
      }

  -- each move rises
  pub rises : (n m h : ℕ) → KnownAt chart b n h → Moves arena n m → Higher chart b m h
  rises n m h k (to_root t e d w q) = subst (λ z. Higher chart b m z) k.is_height (subst (λ z. Higher chart b z (height k.role k.prefix k.low)) q (rise_root n k.role k.prefix k.low k.known.standing k.known.place t e d w))
  rises n m h k (to_child t c e d w v i q) = subst (λ z. Higher chart b m z) k.is_height (subst (λ z. Higher chart b z (height k.role k.prefix k.low)) q (rise_child n k.role k.prefix k.low k.known.standing k.known.place k.known.since t c e d w v i))
  rises n m h k (to_right t r e d i q) = subst (λ z. Higher chart b m z) k.is_height (subst (λ z. Higher chart b z (height k.role k.prefix k.low)) q (rise_right n k.role k.prefix k.low k.known t r e d i))
  rises n m h k (to_link t s x e d w i q) = subst (λ z. Higher chart b m z) k.is_height (subst (λ z. Higher chart b z (height k.role k.prefix k.low)) q (rise_link n k.role k.prefix k.low k.known t s x e d w i))

  -- so a run is longer by one, and continues from the new node
  pub run_move : (ns : List ℕ) (n m h : ℕ) → Run chart b ns h → KnownAt chart b n h → Moves arena n m → (g : ℕ) × Run chart b (n ∷ ns) g × KnownAt chart b m g
  run_move ns n m h r k v = let x = rises n m h k v in (x.height, (h, k, x.rises, r), x.known)
