-- What a call knows of a node stays true while others continue, and one step of a descent leads to a node of which it
-- knows the same.
use Rattle.std.proofs.Common.{ℕ, zero, suc, ◌≡◌, ◌<◌, ◌≤◌, ◌⊎◌, inl, inr, List, [], ◌∷◌, Some, Bool, true, false, refl, ap, arith}
use Rattle.mt_chart.specs.Tree.{link, Right, HeadNode, BorderNode, PlainChild, InteriorNode, head, border, interior, Arena, Among}
use Rattle.mt_chart.specs.Walk.{Known}
use Rattle.mt_chart.specs.Chart.{Standing, on, gone, Role, top, at_level, spot, Chart, OnBorder, MayName, AreChildren, IsTree, Holds, Later, still_on, still_gone, went, Evolves, FirstLow}

pub later_same : (b : ℕ) (s : Standing) → Later b s s
later_same b (on x) = still_on
later_same b (gone e) = still_gone

pub evolves_same : (b : ℕ) (chart : Chart) → Evolves b chart chart
evolves_same b chart n role p l st h = inl (st, h, later_same b st)

pub later_again : (b : ℕ) {s t u : Standing} → Later b s t → Later b t u → Later b s u
later_again b still_on still_on = still_on
later_again b still_on (went h) = went h
later_again b still_gone still_gone = still_gone
later_again b (went h) still_gone = went h

-- a node that goes in or after the epoch is not one that went before it
still_before : (b e : ℕ) {s t : Standing} → Later b s t → t ≡ gone e → e < b → s ≡ gone e
still_before b e (still_on {posted_later = y}) q h = absurd (let c : on y ≡ gone e = q in cc)
still_before b e still_gone q h = q
still_before b e (went {epoch = f} g) q h = absurd (let k : f ≡ e = cc in omega arith)

pub evolves_again : (b : ℕ) (c d f : Chart) → Evolves b c d → Evolves b d f → Evolves b c f
evolves_again b c d f g h n role p l st q = go (g n role p l st q)
  where
    on_to : (t : Standing) → Later b st t → ((later : Standing) × (f n ≡ Some (spot role p l later)) × Later b t later) ⊎ ((e : ℕ) × (t ≡ gone e) × (e < b)) →
        ((later : Standing) × (f n ≡ Some (spot role p l later)) × Later b st later) ⊎ ((e : ℕ) × (st ≡ gone e) × (e < b))
    on_to t k (inl (u, w, m)) = inl (u, w, later_again b k m)
    on_to t k (inr (e, w, m)) = inr (e, still_before b e k w m, m)

    go : ((later : Standing) × (d n ≡ Some (spot role p l later)) × Later b st later) ⊎ ((e : ℕ) × (st ≡ gone e) × (e < b)) →
        ((later : Standing) × (f n ≡ Some (spot role p l later)) × Later b st later) ⊎ ((e : ℕ) × (st ≡ gone e) × (e < b))
    go (inl (t, w, k)) = on_to t k (h n role p l t w)
    go (inr x) = inr x

-- what a standing says of the epochs before it says after it
later_since : (b : ℕ) {s t : Standing} → Later b s t → ((e : ℕ) → s ≡ gone e → b ≤ e) → (e : ℕ) → t ≡ gone e → b ≤ e
later_since b (still_on {posted_later = y}) h e q = absurd (let c : on y ≡ gone e = q in cc)
later_since b still_gone h e q = h e q
later_since b (went {epoch = f} g) h e q = let k : f ≡ e = cc in omega arith

pub holds_kept : (b n : ℕ) (p : List ℕ) (s : ℕ) (chart new : Chart) → Evolves b chart new → Holds chart b n p s → Holds new b n p s
holds_kept b n p s chart new ev h = go (ev n h.role p h.low h.standing h.place)
  where
    go : ((later : Standing) × (new n ≡ Some (spot h.role p h.low later)) × Later b h.standing later) ⊎ ((e : ℕ) × (h.standing ≡ gone e) × (e < b)) → Holds new b n p s
    go (inl (t, w, k)) = record { role = h.role; low = h.low; standing = t; place = w; at_most = h.at_most; since = later_since b k h.since }
    go (inr (e, w, k)) = absurd (let m : b ≤ e = h.since e w in omega arith)

-- one step of a descent
-- a head that is known is held, for any slice
pub known_holds : (chart : Chart) (begun n : ℕ) (p : List ℕ) → Known chart begun n top p 0 → (s : ℕ) → Holds chart begun n p s
known_holds chart begun n p known s = record { role = top; low = 0; standing = known.standing; place = known.place; at_most = omega arith; since = known.since }

module _ (arena : Arena) (chart : Chart) (tree : IsTree arena chart) (begun : ℕ) where
  on_since : (y : Bool) (e : ℕ) → on y ≡ gone e → begun ≤ e
  on_since y e q = absurd cc

  on_head_root : (h : ℕ) (p : List ℕ) (l : ℕ) (y : Bool) (t : HeadNode) → chart h ≡ Some (spot top p l (on y)) → arena h ≡ Some (head t) → chart t.root ≡ Some (spot (at_level t.level) p 0 (on true))
  on_head_root h p l y t g e =
      let u = tree.heads h p l y g in
      let same : u.node ≡ t = (let i : arena h ≡ Some (head u.node) = u.is_node in cc) in
      rw same at u.root

  -- the node of a number has the chart's kind
  not_border : (n : ℕ) (p : List ℕ) (l : ℕ) (st : Standing) → chart n ≡ Some (spot (at_level 0) p l st) → (t : BorderNode) × (arena n ≡ Some (border t))
  not_border n p l (on y) g = let (u, i, j) = tree.borders n p l y g in (u, i)
  not_border n p l (gone f) g = let (u, i, j) = tree.gone_borders n p l f g in (u, i)

  some_head : (n : ℕ) (p : List ℕ) (l : ℕ) (st : Standing) → chart n ≡ Some (spot top p l st) → (t : HeadNode) × (arena n ≡ Some (head t))
  some_head n p l (on y) g = let u = tree.heads n p l y g in (u.node, u.is_node)
  some_head n p l (gone f) g = let (u, i, j) = tree.gone_heads n p l f g in (u, i)

  -- at a head that is not marked deleted: its root, for any slice
  pub holds_root : (h s r : ℕ) (p : List ℕ) (t : HeadNode) → Holds chart begun h p r → arena h ≡ Some (head t) → t.deleted ≡ false → Holds chart begun t.root p s
  holds_root h s r p t k e d = go k.role k.standing k.place
    where
      go : (role : Role) (st : Standing) → chart h ≡ Some (spot role p k.low st) → Holds chart begun t.root p s
      go top (on y) g = record { role = at_level t.level; low = 0; standing = on true; place = on_head_root h p k.low y t g e; at_most = omega arith; since = on_since true }
      go top (gone f) g = let (u, i, j) = tree.gone_heads h p k.low f g in absurd (let same : u ≡ t = cc in let m : u.deleted ≡ t.deleted = ap (λ x. x.deleted) same in cc)
      go (at_level zero) st g = let (u, i) = not_border h p k.low st g in absurd cc
      go (at_level (suc z)) st g = let u = tree.interiors h z p k.low st g in absurd (let i : arena h ≡ Some (interior u.node) = u.is_node in cc)

  -- a border that a call knows of and that is not marked deleted is on
  pub border_is_on : (n s : ℕ) (p : List ℕ) (t : BorderNode) → Holds chart begun n p s → arena n ≡ Some (border t) → t.deleted ≡ false → OnBorder arena chart n p t × (t.low ≤ s)
  border_is_on n s p t k e d = go k.role k.standing k.place
    where
      go : (role : Role) (st : Standing) → chart n ≡ Some (spot role p k.low st) → OnBorder arena chart n p t × (t.low ≤ s)
      go (at_level zero) (on y) g = let (u, i, j) = tree.borders n p k.low y g in
          let same : u ≡ t = cc in let m : u.low ≡ t.low = ap (λ x. x.low) same in
          let low : k.low ≡ t.low = cc in
          let at_most : k.low ≤ s = k.at_most in
          (record { posted = y; place = rw low at g; node = e }, omega arith)
      go (at_level zero) (gone f) g = let (u, i, j) = tree.gone_borders n p k.low f g in absurd (let same : u ≡ t = cc in let m : u.deleted ≡ t.deleted = ap (λ x. x.deleted) same in cc)
      go top st g = let (u, i) = some_head n p k.low st g in absurd cc
      go (at_level (suc z)) st g = let u = tree.interiors n z p k.low st g in absurd (let i : arena n ≡ Some (interior u.node) = u.is_node in cc)

  -- at such a border: the right link's node, for a slice at or after the right link's low
  pub holds_right : (n s q : ℕ) (p : List ℕ) (t : BorderNode) (r : Right) → OnBorder arena chart n p t → t.right ≡ Some r → r.low ≤ s → Holds chart begun r.number p s
  holds_right n s q p t r o e h =
      let (low, y, g) = (tree.each_border n p t o).right r e in
      record { role = at_level 0; low = r.low; standing = on y; place = g; at_most = h; since = on_since y }

  -- at such a border: the head that a link entry names
  pub known_link : (n t h : ℕ) (p : List ℕ) (b : BorderNode) → OnBorder arena chart n p b → Among (record { slice = t; content = link h }) b.entries → Known chart begun h top (t ∷ p) 0
  known_link n t h p b o m = record { standing = on true; place = (tree.each_border n p b o).links t h m; since = on_since true }

  -- and for any slice of the next layer
  pub holds_link : (n s t h : ℕ) (p : List ℕ) (b : BorderNode) → OnBorder arena chart n p b → Among (record { slice = t; content = link h }) b.entries → Holds chart begun h (t ∷ p) s
  holds_link n s t h p b o m =
      record { role = top; low = 0; standing = on true; place = (tree.each_border n p b o).links t h m; at_most = omega arith; since = on_since true }

  since_child : (st t : Standing) → MayName st t → ((e : ℕ) → st ≡ gone e → begun ≤ e) → (e : ℕ) → t ≡ gone e → begun ≤ e
  since_child (on x) t m h e q = absurd (let m' : t ≡ on true = m in cc)
  since_child (gone f) (on x) m h e q = absurd cc
  since_child (gone f) (gone g) m h e q = let c : g ≡ e = cc in let m' : f ≤ g = m in let k : begun ≤ f = h f refl in omega arith

  -- at an interior that is not marked deleted: any child whose low is at most the slice
  pub holds_child : (n s : ℕ) (p : List ℕ) (t : InteriorNode) (c : PlainChild) → Holds chart begun n p s → arena n ≡ Some (interior t) → t.deleted ≡ false →
      Among c t.children → c.low ≤ s → Holds chart begun c.number p s
  holds_child n s p t c k e d m le = go k.role k.standing k.place k.since
    where
      go : (role : Role) (st : Standing) → chart n ≡ Some (spot role p k.low st) → ((e : ℕ) → st ≡ gone e → begun ≤ e) → Holds chart begun c.number p s
      go top st g h = let (u, i) = some_head n p k.low st g in absurd cc
      go (at_level zero) st g h = let (u, i) = not_border n p k.low st g in absurd cc
      go (at_level (suc z)) st g h =
          let u = tree.interiors n z p k.low st g in
          let same : u.node ≡ t = (let i : arena n ≡ Some (interior u.node) = u.is_node in cc) in
          children_on (rw same at u.ok)
        where
          children_on : (((e : ℕ) × (st ≡ gone e)) × (t.deleted ≡ true)) ⊎ AreChildren chart st p k.low (suc z) t.children → Holds chart begun c.number p s
          children_on (inl w) = absurd (let v : t.deleted ≡ true = w.1 in cc)
          children_on (inr w) = let x = w.each c m in
              record { role = at_level c.level; low = c.low; standing = x.standing; place = x.place; at_most = le; since = since_child st x.standing x.may h }

  -- there is such a child: the first
  pub first_child : (n s : ℕ) (p : List ℕ) (t : InteriorNode) → Holds chart begun n p s → arena n ≡ Some (interior t) → t.deleted ≡ false →
      (c : PlainChild) × (cs : List PlainChild) × (t.children ≡ c ∷ cs) × (c.low ≤ s)
  first_child n s p t k e d = go k.role k.standing k.place
    where
      go : (role : Role) (st : Standing) → chart n ≡ Some (spot role p k.low st) → (c : PlainChild) × (cs : List PlainChild) × (t.children ≡ c ∷ cs) × (c.low ≤ s)
      go top st g = let (u, i) = some_head n p k.low st g in absurd cc
      go (at_level zero) st g = let (u, i) = not_border n p k.low st g in absurd cc
      go (at_level (suc z)) st g =
          let u = tree.interiors n z p k.low st g in
          let same : u.node ≡ t = (let i : arena n ≡ Some (interior u.node) = u.is_node in cc) in
          children_on (rw same at u.ok)
        where
          take_first : (cs : List PlainChild) → FirstLow k.low cs → (c : PlainChild) × (ds : List PlainChild) × (cs ≡ c ∷ ds) × (c.low ≤ s)
          take_first [] f = elim f [ ]
          take_first (c ∷ cs) f = let m : k.low ≤ s = k.at_most in (c, cs, refl, omega arith)

          children_on : (((e : ℕ) × (st ≡ gone e)) × (t.deleted ≡ true)) ⊎ AreChildren chart st p k.low (suc z) t.children → (c : PlainChild) × (cs : List PlainChild) × (t.children ≡ c ∷ cs) × (c.low ≤ s)
          children_on (inl w) = absurd (let v : t.deleted ≡ true = w.1 in cc)
          children_on (inr w) = take_first t.children w.leftmost
