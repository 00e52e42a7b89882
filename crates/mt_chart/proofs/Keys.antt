-- A key has at most one place, and the border to which a call is led is that place.
use Rattle.std.proofs.Common.{ℕ, ◌≡◌, ◌<◌, ◌≤◌, ◌⊎◌, ◌↔◌, inl, inr, List, [], ◌∷◌, ◌++◌, length, refl, sym, ap, ◌∙◌, subst, arith}
use Rattle.mt_slice.specs.Place.{Place, deeper, under, first_slice, first_class}
use Rattle.mt_types.specs.declared.row.Row.{Row}
use Rattle.mt_chart.specs.Tree.{PlainContent, short, long, link, PlainEntry, BorderNode, Arena, Among, Below, HoldsRow, Has}
use Rattle.mt_chart.specs.Chart.{Chart, OnHead, OnBorder, IsBorderNode, class, IsTree, Stored}
use Rattle.mt_chart.proofs.Basics.{same_depth, longer}
use Rattle.mt_chart.proofs.Reach.{same_border, same_low_slice, stored, has}

pub holds_slice : (s : ℕ) (c : PlainContent) (x : Place) (row : Row) → HoldsRow s c x row → (first_slice x ≡ s) × (first_class x ≡ class c)
holds_slice s (short k r) x row h = (ap first_slice h.0, ap first_class h.0)
holds_slice s (long y r) x row h = (ap first_slice h.0, ap first_class h.0)
holds_slice s (link t) x row h = elim h [ ]

-- a link holds no row
pub link_holds_none : (e : PlainEntry) (s h : ℕ) (x : Place) (row : Row) → e ≡ record { slice = s; content = link h } → HoldsRow e.slice e.content x row → ⊥
link_holds_none e s h x row q k = subst (λ (f : PlainEntry). HoldsRow f.slice f.content x row) q k

pub same_entry : (chart : Chart) (p : List ℕ) (b : BorderNode) (e f : PlainEntry) (x : Place) (row row' : Row) → IsBorderNode chart p b →
    Among e b.entries → Among f b.entries → HoldsRow e.slice e.content x row → HoldsRow f.slice f.content x row' → e ≡ f
same_entry chart p b e f x row row' ok m n h k =
    let (u, v) = holds_slice e.slice e.content x row h in
    let (w, z) = holds_slice f.slice f.content x row' k in
    ok.apart e f m n (cc) (cc)

holds_one_row : (s : ℕ) (c : PlainContent) (x : Place) (row row' : Row) → HoldsRow s c x row → HoldsRow s c x row' → row ≡ row'
holds_one_row s (short k r) x row row' h i = sym h.1 ∙ i.1
holds_one_row s (long y r) x row row' h i = sym h.1 ∙ i.1
holds_one_row s (link t) x row row' h i = elim h [ ]

module _ (arena : Arena) (chart : Chart) (tree : IsTree arena chart) where
  -- an entry at a slice in a border that is on: the border of that slice
  pub same_slice : (n m : ℕ) (p : List ℕ) (b c : BorderNode) (e f : PlainEntry) → OnBorder arena chart n p b → OnBorder arena chart m p c →
      Among e b.entries → Among f c.entries → e.slice ≡ f.slice → n ≡ m
  same_slice n m p b c e f o o' i j q =
      let ok = tree.each_border n p b o in let ok' = tree.each_border m p c o' in
      same_low_slice arena chart tree n m p b c e.slice o o' (ok.from_low e i) (ok.to_right e i)
      (rw q (ok'.from_low f j)) (rw q (ok'.to_right f j))

  -- above a layer with a border, its link stands
  pub above : (r : List ℕ) (s h : ℕ) (q : List ℕ) → OnHead chart h (r ++ (s ∷ q)) →
      (m : ℕ) × (c : BorderNode) × (t : ℕ) × OnBorder arena chart m q c × Among (record { slice = s; content = link t }) c.entries
  above [] s h q g = let (m, c, o, live) = tree.hung h (s ∷ q) g in (m, c, h, o, live)
  above (u ∷ r) s h q g =
      let (m, c, o, live) = tree.hung h (u ∷ (r ++ (s ∷ q))) g in
      let (t, g') = tree.in_layer m (r ++ (s ∷ q)) c o in
      above r s t q g'

  -- no row stands under the link of a deeper layer
  no_row_at_link : (n m : ℕ) (p q r : List ℕ) (s : ℕ) (z : Place) (b c : BorderNode) (f : PlainEntry) (row : Row) → OnBorder arena chart n p b → OnBorder arena chart m q c →
      p ≡ r ++ (s ∷ q) → Among f c.entries → HoldsRow f.slice f.content (deeper s z) row → ⊥
  no_row_at_link n m p q r s z b c f row o o' e live h =
      let (t, g) = tree.in_layer n p b o in
      let (k, d, w, o'', there) = above r s t q (subst (λ (d : List ℕ). OnHead chart t d) e g) in
      let (u, v) = holds_slice f.slice f.content (deeper s z) row h in
      let x : PlainEntry = record { slice = s; content = link w } in
      let same : k ≡ m = same_slice k m q d c x f o'' o' there live u in
      let nodes : d ≡ c = same_border arena k d c o''.node (rw (← same) at o'.node) in
      let there' : Among (record { slice = s; content = link w }) c.entries = subst (λ (y : BorderNode). Among (record { slice = s; content = link w }) y.entries) nodes there in
      let eq : f ≡ x = (tree.each_border m q c o').apart f x live there' (sym u) (sym v) in
      link_holds_none f s w (deeper s z) row eq h

  pub one_place : (n m : ℕ) (p q : List ℕ) (b c : BorderNode) (e f : PlainEntry) (x y : Place) (row row' : Row) →
      OnBorder arena chart n p b → OnBorder arena chart m q c → Among e b.entries → Among f c.entries →
      HoldsRow e.slice e.content x row → HoldsRow f.slice f.content y row' → under p x ≡ under q y → (n ≡ m) × (p ≡ q) × (e ≡ f) × (x ≡ y)
  one_place n m p q b c e f x y row row' o o' i j h k eq = go (sizes (length p) (length q))
    where
      sizes : (u v : ℕ) → (u ≡ v) ⊎ ((u < v) ⊎ (v < u))
      sizes u v = grind arith

      level : (p ≡ q) × (x ≡ y) → (n ≡ m) × (p ≡ q) × (e ≡ f) × (x ≡ y)
      level (pq, xy) =
          let o2 : OnBorder arena chart m p c = rw pq o' in
          let (u, v) = holds_slice e.slice e.content x row h in
          let (w, z) = holds_slice f.slice f.content y row' k in
          let xs : first_slice x ≡ first_slice y = ap first_slice xy in
          let nm : n ≡ m = same_slice n m p b c e f o o2 i j (cc) in
          let nodes : b ≡ c = same_border arena n b c o.node (rw nm o'.node) in
          let i' : Among e c.entries = subst (λ (d : BorderNode). Among e d.entries) nodes i in
          (nm, pq, same_entry chart q c e f y row row' (tree.each_border m q c o') i' j (subst (λ (d : Place). HoldsRow e.slice e.content d row) xy h) k, xy)

      go : (length p ≡ length q) ⊎ ((length p < length q) ⊎ (length q < length p)) → (n ≡ m) × (p ≡ q) × (e ≡ f) × (x ≡ y)
      go (inl l) = level (same_depth p q x y l eq)
      go (inr (inl l)) = let (r, s, z, u, v) = longer q p y x l (sym eq) in
          absurd (no_row_at_link m n q p r s z c b e row o' o u i (subst (λ (d : Place). HoldsRow e.slice e.content d row) v h))
      go (inr (inr l)) = let (r, s, z, u, v) = longer p q x y l eq in
          absurd (no_row_at_link n m p q r s z b c f row' o o' u j (subst (λ (d : Place). HoldsRow f.slice f.content d row') v k))

  pub one_row : (key : Place) (row row' : Row) → Stored arena chart key row → Stored arena chart key row' → row ≡ row'
  one_row key row row' s t =
      let (nm, pq, ef, xy) = one_place s.number t.number s.prefix t.prefix s.node t.node s.entry t.entry s.place t.place row row'
      s.on_border t.on_border s.live t.live s.holds t.holds (sym s.is_key ∙ t.is_key) in
      holds_one_row s.entry.slice s.entry.content s.place row row' s.holds
      (subst (λ (d : Place). HoldsRow s.entry.slice s.entry.content d row') (sym xy) (subst (λ (d : PlainEntry). HoldsRow d.slice d.content t.place row') (sym ef) t.holds))

  -- What a border's interval of a layer has to do with the whole content: a key of the layer with a slice in the
  -- interval stands in this border, or under a link of this border.
  pub in_interval : (n : ℕ) (p : List ℕ) (b : BorderNode) (x : Place) → OnBorder arena chart n p b → b.low ≤ first_slice x → Below (first_slice x) b.right →
      (row : Row) → Has arena (under p x) row →
      ((e : PlainEntry) × Among e b.entries × HoldsRow e.slice e.content x row) ⊎ ((z : Place) × (h : ℕ) × (x ≡ deeper (first_slice x) z) × Among (record { slice = first_slice x; content = link h }) b.entries)
  in_interval n p b x o lo hi row h = find (stored arena chart tree (under p x) row h)
    where
      sizes : (u v : ℕ) → (u ≡ v) ⊎ ((u < v) ⊎ (v < u))
      sizes u v = grind arith

      find : Stored arena chart (under p x) row → ((e : PlainEntry) × Among e b.entries × HoldsRow e.slice e.content x row) ⊎ ((z : Place) × (h : ℕ) × (x ≡ deeper (first_slice x) z) × Among (record { slice = first_slice x; content = link h }) b.entries)
      find s = go (sizes (length p) (length s.prefix))
        where
          level : (p ≡ s.prefix) × (x ≡ s.place) → (e : PlainEntry) × Among e b.entries × HoldsRow e.slice e.content x row
          level (pq, xy) =
              let o2 : OnBorder arena chart s.number p s.node = rw pq s.on_border in
              let (u, v) = holds_slice s.entry.slice s.entry.content s.place row s.holds in
              let xs : first_slice x ≡ first_slice s.place = ap first_slice xy in
              let w : first_slice x ≡ s.entry.slice = cc in
              let ok = tree.each_border s.number p s.node o2 in
              let nm : s.number ≡ n = same_low_slice arena chart tree s.number n p s.node b (first_slice x) o2 o
              (rw w (ok.from_low s.entry s.live)) (rw w (ok.to_right s.entry s.live)) lo hi in
              let nodes : s.node ≡ b = same_border arena s.number s.node b o2.node (rw nm o.node) in
              (s.entry, subst (λ (d : BorderNode). Among s.entry d.entries) nodes s.live, subst (λ (d : Place). HoldsRow s.entry.slice s.entry.content d row) (sym xy) s.holds)

          go : (length p ≡ length s.prefix) ⊎ ((length p < length s.prefix) ⊎ (length s.prefix < length p)) → ((e : PlainEntry) × Among e b.entries × HoldsRow e.slice e.content x row) ⊎ ((z : Place) × (h : ℕ) × (x ≡ deeper (first_slice x) z) × Among (record { slice = first_slice x; content = link h }) b.entries)
          go (inl l) = inl (level (same_depth p s.prefix x s.place l s.is_key))
          go (inr (inl l)) =
              let (r, t, z, u, v) = longer s.prefix p s.place x l (sym s.is_key) in
              let (g0, g) = tree.in_layer s.number s.prefix s.node s.on_border in
              let (k, d, w, o2, link_there) = above r t g0 p (subst (λ (d : List ℕ). OnHead chart g0 d) u g) in
              let xt : first_slice x ≡ t = ap first_slice v in
              let ok = tree.each_border k p d o2 in
              let kn : k ≡ n = same_low_slice arena chart tree k n p d b t o2 o (ok.from_low (record { slice = t; content = link w }) link_there) (ok.to_right (record { slice = t; content = link w }) link_there) (rw xt at lo) (rw xt at hi) in
              let nodes : d ≡ b = same_border arena k d b o2.node (rw kn o.node) in
              inr (z, w, (rw xt v), (rw xt (subst (λ (y : BorderNode). Among (record { slice = t; content = link w }) y.entries) nodes link_there)))
          go (inr (inr l)) =
              let (r, t, z, u, v) = longer p s.prefix x s.place l s.is_key in
              absurd (no_row_at_link n s.number p s.prefix r t z b s.node s.entry row o s.on_border u s.live (subst (λ (d : Place). HoldsRow s.entry.slice s.entry.content d row) v s.holds))

  -- at its place a call finds all that the tree has for its key
  pub at_place : (n : ℕ) (p : List ℕ) (b : BorderNode) (x : Place) → OnBorder arena chart n p b → b.low ≤ first_slice x → Below (first_slice x) b.right →
      ((z : Place) (h : ℕ) → x ≡ deeper (first_slice x) z → Among (record { slice = first_slice x; content = link h }) b.entries → ⊥) →
      (row : Row) → Has arena (under p x) row ↔ ((e : PlainEntry) × Among e b.entries × HoldsRow e.slice e.content x row)
  at_place n p b x o lo hi no_link row = (λ h. there (in_interval n p b x o lo hi row h), back)
    where
      there : ((e : PlainEntry) × Among e b.entries × HoldsRow e.slice e.content x row) ⊎ ((z : Place) × (h : ℕ) × (x ≡ deeper (first_slice x) z) × Among (record { slice = first_slice x; content = link h }) b.entries) →
          (e : PlainEntry) × Among e b.entries × HoldsRow e.slice e.content x row
      there (inl e) = e
      there (inr (z, h, q, i)) = absurd (no_link z h q i)

      back : (e : PlainEntry) × Among e b.entries × HoldsRow e.slice e.content x row → Has arena (under p x) row
      back (e, m, h) = has arena chart tree (under p x) row (record { prefix = p; number = n; node = b; entry = e; place = x; on_border = o; live = m; holds = h; is_key = refl })
