-- What is linked is on, and what is on is linked: so the content is what the chart shows.
use Rattle.std.proofs.Common.{ℕ, zero, suc, ◌≡◌, ◌<◌, ◌≤◌, ◌⊎◌, inl, inr, List, [], ◌∷◌, Option, Some, None, Bool, true, refl, sym, subst, arith}
use Rattle.mt_slice.specs.Place.{Place}
use Rattle.mt_types.specs.declared.row.Row.{Row}
use Rattle.mt_chart.specs.Tree.{link, Right, BorderNode, PlainChild, InteriorNode, head, border, interior, Arena, first, Below, no_right, before_right, Leads, arrived, by_first, Linked, leftmost, by_right, Attached, layer_0, by_link, Has}
use Rattle.mt_chart.specs.Chart.{on, gone, at_level, spot, Chart, OnHead, OnBorder, IsBorderNode, IsChild, AreChildren, IsTree, Stored}

pub same_border : (arena : Arena) (n : ℕ) (b c : BorderNode) → arena n ≡ Some (border b) → arena n ≡ Some (border c) → b ≡ c
same_border arena n b c e f = cc

pub below_less : {s t : ℕ} {r : Option Right} → s ≤ t → Below t r → Below s r
below_less h no_right = no_right
below_less h (before_right k) = before_right (omega arith)

pub low_is_below : (chart : Chart) (p : List ℕ) (b : BorderNode) → IsBorderNode chart p b → Below b.low b.right
low_is_below chart p b ok = go b.right refl
  where
    go : (r : Option Right) → b.right ≡ r → Below b.low r
    go None e = no_right
    go (Some r) e = before_right ((ok.right r e).0)

-- a child of a node that is on
pub on_child : (chart : Chart) (y : Bool) (p : List ℕ) (k : ℕ) (c : PlainChild) → IsChild chart (on y) p k c →
    (c.level < k) × (chart c.number ≡ Some (spot (at_level c.level) p c.low (on true)))
on_child chart y p k c x = let st : x.standing ≡ on true = x.may in (x.lower, rw st at x.place)

pub first_child_on : (chart : Chart) (y : Bool) (p : List ℕ) (l k : ℕ) (cs : List PlainChild) → AreChildren chart (on y) p l k cs →
    (c : PlainChild) × (ds : List PlainChild) × (cs ≡ c ∷ ds) × (c.level < k) × (chart c.number ≡ Some (spot (at_level c.level) p l (on true)))
first_child_on chart y p l k [] w = absurd w.leftmost
first_child_on chart y p l k (c ∷ cs) w =
    let (lt, g) = on_child chart y p k c (w.each c first) in
    let low : c.low ≡ l = w.leftmost in
    (c, cs, refl, lt, subst (λ (z : ℕ). chart c.number ≡ Some (spot (at_level c.level) p z (on true))) low g)

module _ (arena : Arena) (chart : Chart) (tree : IsTree arena chart) where
  pub on_border_at : (n : ℕ) (p : List ℕ) (l : ℕ) (y : Bool) → chart n ≡ Some (spot (at_level 0) p l (on y)) → (b : BorderNode) × OnBorder arena chart n p b × (b.low ≡ l)
  on_border_at n p l y g = let (b, i, j) = tree.borders n p l y g in
      let m : l ≡ b.low = sym j in (b, record { posted = y; place = rw m at g; node = i }, j)

  pub children_on : (n k : ℕ) (p : List ℕ) (l : ℕ) (y : Bool) (t : InteriorNode) → chart n ≡ Some (spot (at_level (suc k)) p l (on y)) → arena n ≡ Some (interior t) → AreChildren chart (on y) p l (suc k) t.children
  children_on n k p l y t g e =
      let u = tree.interiors n k p l (on y) g in
      let same : u.node ≡ t = (let i : arena n ≡ Some (interior u.node) = u.is_node in cc) in
      go (rw same at u.ok)
    where
      go : (((e : ℕ) × (on y ≡ gone e)) × (t.deleted ≡ true)) ⊎ AreChildren chart (on y) p l (suc k) t.children → AreChildren chart (on y) p l (suc k) t.children
      go (inl w) = absurd (let v : on y ≡ gone w.0.0 = w.0.1 in cc)
      go (inr w) = w

  -- soundness
  leads_on : (b n : ℕ) → Leads arena b n → (k : ℕ) (p : List ℕ) (l : ℕ) (y : Bool) → chart n ≡ Some (spot (at_level k) p l (on y)) →
      (z : Bool) × (chart b ≡ Some (spot (at_level 0) p l (on z)))
  leads_on b n (arrived t e) zero p l y g = (y, g)
  leads_on b n (arrived t e) (suc k) p l y g = let u = tree.interiors b k p l (on y) g in absurd (let i : arena b ≡ Some (interior u.node) = u.is_node in cc)
  leads_on b n (by_first t c cs e f r) zero p l y g = let (u, i, j) = tree.borders n p l y g in absurd cc
  leads_on b n (by_first t c cs e f r) (suc k) p l y g =
      let (d, ds, u, lt, w) = first_child_on chart y p l (suc k) t.children (children_on n k p l y t g e) in
      let same : d ≡ c = cc in
      leads_on b c.number r c.level p l true (subst (λ (z : PlainChild). chart z.number ≡ Some (spot (at_level z.level) p l (on true))) same w)

  pub linked_on : (h n : ℕ) (p : List ℕ) → Linked arena h n → OnHead chart h p → (b : BorderNode) × OnBorder arena chart n p b
  linked_on h n p (leftmost t e r) g =
      let u = tree.heads h p 0 true g in
      let same : u.node ≡ t = (let i : arena h ≡ Some (head u.node) = u.is_node in cc) in
      let (z, w) = leads_on n t.root r t.level p 0 true (rw same at u.root) in
      let (b, o, j) = on_border_at n p 0 z w in (b, o)
  linked_on h n p (by_right {number = m} t r l e f) g =
      let (b, o) = linked_on h m p l g in
      let same : b ≡ t = same_border arena m b t o.node e in
      let (lt, y, w) = (tree.each_border m p b o).right r (rw same f) in
      let (c, o', j) = on_border_at r.number p r.low y w in (c, o')

  pub attached_on : (p : List ℕ) (h : ℕ) → Attached arena p h → OnHead chart h p
  attached_on p h layer_0 = tree.layer_0
  attached_on p h (by_link {prefix = q} {top = t} {number = m} n s u at l e among below) =
      let g = attached_on q t at in
      let (b, o) = linked_on t m q l g in
      let same : n ≡ b = same_border arena m n b e o.node in
      (tree.each_border m q b o).links s u (rw same at among)

  -- completeness
  leads_from : (f n k : ℕ) (p : List ℕ) (l : ℕ) (y : Bool) → k ≤ f → chart n ≡ Some (spot (at_level k) p l (on y)) →
      (b : ℕ) × (z : Bool) × Leads arena b n × (chart b ≡ Some (spot (at_level 0) p l (on z)))
  leads_from f n zero p l y h g = let (t, i, j) = tree.borders n p l y g in (n, y, arrived t i, g)
  leads_from zero n (suc k) p l y h g = absurd (omega arith)
  leads_from (suc f) n (suc k) p l y h g =
      let u = tree.interiors n k p l (on y) g in
      let (c, cs, d, lt, v) = first_child_on chart y p l (suc k) u.node.children (children_on n k p l y u.node g u.is_node) in
      let (b, z, r, w) = leads_from f c.number c.level p l true (omega arith) v in
      (b, z, by_first u.node c cs u.is_node d r, w)

  pub same_low_slice : (n m : ℕ) (p : List ℕ) (b c : BorderNode) (s : ℕ) → OnBorder arena chart n p b → OnBorder arena chart m p c →
      b.low ≤ s → Below s b.right → c.low ≤ s → Below s c.right → n ≡ m
  same_low_slice n m p b c s o o' l r l' r' = go (order b.low c.low)
    where
      order : (i j : ℕ) → (i ≤ j) ⊎ (j ≤ i)
      order i j = grind arith

      go : (b.low ≤ c.low) ⊎ (c.low ≤ b.low) → n ≡ m
      go (inl h) = tree.disjoint n m p b c o o' h (below_less l' r)
      go (inr h) = sym (tree.disjoint m n p c b o' o h (below_less l r'))

  linked_leftmost : (h n : ℕ) (p : List ℕ) (b : BorderNode) → b.low ≡ 0 → OnHead chart h p → OnBorder arena chart n p b → Linked arena h n
  linked_leftmost h n p b z g o =
      let u = tree.heads h p 0 true g in
      let (m, y, r, v) = leads_from u.node.level u.node.root u.node.level p 0 true (omega arith) u.root in
      let (c, o', low) = on_border_at m p 0 y v in
      let same : m ≡ n = tree.disjoint m n p c b o' o (omega arith) (below_less (omega arith) (low_is_below chart p c (tree.each_border m p c o'))) in
      leftmost u.node u.is_node (subst (λ (x : ℕ). Leads arena x u.node.root) same r)

  linked_step : (h n : ℕ) (p : List ℕ) (b : BorderNode) → OnHead chart h p → OnBorder arena chart n p b →
      ((m : ℕ) (c : BorderNode) → OnBorder arena chart m p c → c.low < b.low → Linked arena h m) → Linked arena h n
  linked_step h n p b g o before = go (tree.from_left n p b o)
    where
      go : (b.low ≡ 0) ⊎ ((m : ℕ) × (c : BorderNode) × OnBorder arena chart m p c × (c.right ≡ Some (record { low = b.low; number = n }))) → Linked arena h n
      go (inl z) = linked_leftmost h n p b z g o
      go (inr (m, c, o', e)) =
          let w = (tree.each_border m p c o').right (record { low = b.low; number = n }) e in
          let lt : c.low < b.low = w.0 in
          by_right c (record { low = b.low; number = n }) (before m c o' lt) o'.node e

  linked_fuel : (f h n : ℕ) (p : List ℕ) (b : BorderNode) → b.low ≤ f → OnHead chart h p → OnBorder arena chart n p b → Linked arena h n
  linked_fuel zero h n p b fuel g o = linked_leftmost h n p b (omega arith) g o
  linked_fuel (suc f) h n p b fuel g o = linked_step h n p b g o (λ m c o' lt. linked_fuel f h m p c (omega arith) g o')

  pub linked_from : (h n : ℕ) (p : List ℕ) (b : BorderNode) → OnHead chart h p → OnBorder arena chart n p b → Linked arena h n
  linked_from h n p b g o = linked_fuel b.low h n p b (omega arith) g o

  pub attached_from : (p : List ℕ) (h : ℕ) → OnHead chart h p → Attached arena p h
  attached_from [] h g = let z : h ≡ 0 = tree.hung h [] g in rw z layer_0
  attached_from (s ∷ p) h g =
      let (m, c, o, live) = tree.hung h (s ∷ p) g in
      let (t, g') = tree.in_layer m p c o in
      by_link c s h (attached_from p t g') (linked_from t m p c g' o) o.node live ((tree.each_border m p c o).to_right (record { slice = s; content = link h }) live)

  -- the content is what the chart shows
  pub stored : (key : Place) (row : Row) → Has arena key row → Stored arena chart key row
  stored key row h =
      let g = attached_on h.prefix h.top h.attached in
      let (b, o) = linked_on h.top h.number h.prefix h.linked g in
      let same : b ≡ h.node = same_border arena h.number b h.node o.node h.is_node in
      record {
        prefix = h.prefix;
        number = h.number;
        node = h.node;
        entry = h.entry;
        place = h.place;
        on_border = subst (λ (x : BorderNode). OnBorder arena chart h.number h.prefix x) same o;
        live = h.live;
        holds = h.holds;
        is_key = h.is_key;
      }

  pub has : (key : Place) (row : Row) → Stored arena chart key row → Has arena key row
  has key row s =
      let (t, g) = tree.in_layer s.number s.prefix s.node s.on_border in
      record {
        prefix = s.prefix;
        top = t;
        number = s.number;
        node = s.node;
        entry = s.entry;
        place = s.place;
        attached = attached_from s.prefix t g;
        linked = linked_from t s.number s.prefix s.node g s.on_border;
        is_node = s.on_border.node;
        live = s.live;
        below = (tree.each_border s.number s.prefix s.node s.on_border).to_right s.entry s.live;
        holds = s.holds;
        is_key = s.is_key;
      }
