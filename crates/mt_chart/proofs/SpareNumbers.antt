-- Numbers that the chart does not know: spares are occupied, filled and given back; a retired node's number is freed. And what is
-- gone is written.
use Rattle.std.proofs.Common.{ℕ, suc, ◌≡◌, ◌≢◌, ◌<◌, ◌≤◌, ◌⊎◌, ◌↔◌, inl, inr, List, [], ◌∷◌, Option, Some, None, Bool, true, false, refl, sym, ap, ◌∙◌, subst, arith}
use Rattle.mt_slice.specs.Place.{Place}
use Rattle.mt_types.specs.declared.row.Row.{Row}
use Rattle.mt_chart.specs.Tree.{HeadNode, BorderNode, InteriorNode, head, border, interior, Arena, Has}
use Rattle.mt_chart.specs.Chart.{Standing, on, gone, Role, top, at_level, Spot, spot, Chart, OnBorder, MayName, AreChildren, Hung, InteriorAt, IsTree, Stored, Later, Evolves, Changes}
use Rattle.mt_chart.specs.Steps.{Twin, AreTwins, IsIndex, Keeps}
use Rattle.mt_chart.proofs.Basics.{same_number}
use Rattle.mt_chart.proofs.HeldNodes.{later_same, evolves_same}
use Rattle.mt_chart.proofs.MarkedHeads.{marked_rest}
use Rattle.mt_chart.proofs.Naming.{named_rest}
use Rattle.mt_chart.proofs.Ownership.{owned_rest}
use Rattle.mt_chart.proofs.Reach.{stored, has}
use Rattle.mt_chart.proofs.Split.{interior_known}

-- what is on, and each interior, is as before; what is gone is marked deleted
module _ (arena new : Arena) (chart : Chart) (tree : IsTree arena chart)
    (same_on : (m : ℕ) (r : Role) (q : List ℕ) (v : ℕ) (y : Bool) → chart m ≡ Some (spot r q v (on y)) → new m ≡ arena m)
    (same_interior : (m k : ℕ) (q : List ℕ) (v : ℕ) (st : Standing) → chart m ≡ Some (spot (at_level (suc k)) q v st) → new m ≡ arena m)
    (heads_gone : (m : ℕ) (q : List ℕ) (v e : ℕ) → chart m ≡ Some (spot top q v (gone e)) → (t : HeadNode) × (new m ≡ Some (head t)) × (t.deleted ≡ true))
    (borders_gone : (m : ℕ) (q : List ℕ) (v e : ℕ) → chart m ≡ Some (spot (at_level 0) q v (gone e)) → (t : BorderNode) × (new m ≡ Some (border t)) × (t.deleted ≡ true)) where
  rest_old : (m : ℕ) (q : List ℕ) (d : BorderNode) → OnBorder new chart m q d → OnBorder arena chart m q d
  rest_old m q d z = record { posted = z.posted; place = z.place; node = sym (same_on m (at_level 0) q d.low z.posted z.place) ∙ z.node }

  rest_new : (m : ℕ) (q : List ℕ) (d : BorderNode) → OnBorder arena chart m q d → OnBorder new chart m q d
  rest_new m q d z = record { posted = z.posted; place = z.place; node = same_on m (at_level 0) q d.low z.posted z.place ∙ z.node }

  rest_hung : (h : ℕ) (q : List ℕ) → Hung arena chart h q → Hung new chart h q
  rest_hung h [] e = e
  rest_hung h (s ∷ q) (m, c, z, i) = (m, c, rest_new m q c z, i)

  pub rest_tree : IsTree new chart
  rest_tree = record {
    layer_0 = tree.layer_0;
    heads = (λ h q v y g. let u = tree.heads h q v y g in record { low = u.low; posted = u.posted; node = u.node; is_node = same_on h top q v y g ∙ u.is_node; root = u.root });
    borders = (λ m q v y g. let (d, e, f) = tree.borders m q v y g in (d, same_on m (at_level 0) q v y g ∙ e, f));
    each_border = (λ m q d z. tree.each_border m q d (rest_old m q d z));
    interiors = (λ m k q v st g. interior_known arena new chart chart m k q v st (λ i x e. e) (same_interior m k q v st g) (tree.interiors m k q v st g));
    gone_heads = heads_gone;
    gone_borders = borders_gone;
    from_left = (λ m q d z. left m q d (tree.from_left m q d (rest_old m q d z)));
    in_layer = (λ m q d z. tree.in_layer m q d (rest_old m q d z));
    hung = (λ h q g. rest_hung h q (tree.hung h q g));
    disjoint = (λ i j q c d x y le be. tree.disjoint i j q c d (rest_old i q c x) (rest_old j q d y) le be);
  }
    where
      left : (m : ℕ) (q : List ℕ) (d : BorderNode) → (d.low ≡ 0) ⊎ ((j : ℕ) × (f : BorderNode) × OnBorder arena chart j q f × (f.right ≡ Some (record { low = d.low; number = m }))) →
          (d.low ≡ 0) ⊎ ((j : ℕ) × (f : BorderNode) × OnBorder new chart j q f × (f.right ≡ Some (record { low = d.low; number = m })))
      left m q d (inl z) = inl z
      left m q d (inr (j, f, y, e)) = inr (j, f, rest_new j q f y, e)

  rest_content : (k : Place) (w : Row) → Has new k w ↔ Has arena k w
  rest_content k w = (λ i. has arena chart tree k w (back (stored new chart rest_tree k w i)), λ i. has new chart rest_tree k w (forth (stored arena chart tree k w i)))
    where
      back : Stored new chart k w → Stored arena chart k w
      back s = record { prefix = s.prefix; number = s.number; node = s.node; entry = s.entry; place = s.place; on_border = rest_old s.number s.prefix s.node s.on_border; live = s.live; holds = s.holds; is_key = s.is_key }

      forth : Stored arena chart k w → Stored new chart k w
      forth s = record { prefix = s.prefix; number = s.number; node = s.node; entry = s.entry; place = s.place; on_border = rest_new s.number s.prefix s.node s.on_border; live = s.live; holds = s.holds; is_key = s.is_key }

  pub rest_keeps : (now : ℕ) (twins : List Twin) → IsIndex now twins arena chart → Keeps now twins arena new chart chart
  rest_keeps now twins index = record {
    index = record { tree = rest_tree; owned = owned_rest arena new chart chart (AreTwins twins) index.owned (λ j r p l y g ne. (refl, same_on j r p l y g)); named = named_rest arena new chart chart index.named (λ j r p l y g ne. (refl, same_on j r p l y g)) (λ d k p l y g. refl); marked = marked_rest arena new chart chart tree index.marked (λ j p g. g) same_on; dated = index.dated };
    content = rest_content;
    evolves = λ begun le. evolves_same begun chart;
  }

-- the nodes of the numbers that the chart knows are as before
pub spares_keep : (now : ℕ) (twins : List Twin) (arena new : Arena) (chart : Chart) → IsIndex now twins arena chart → ((m : ℕ) (x : Spot) → chart m ≡ Some x → new m ≡ arena m) → Keeps now twins arena new chart chart
spares_keep now twins arena new chart index same =
    rest_keeps arena new chart index.tree (λ m r q v y g. same m (spot r q v (on y)) g) (λ m k q v st g. same m (spot (at_level (suc k)) q v st) g)
    (λ m q v e g. let (t, u, z) = index.tree.gone_heads m q v e g in (t, same m (spot top q v (gone e)) g ∙ u, z))
    (λ m q v e g. let (t, u, z) = index.tree.gone_borders m q v e g in (t, same m (spot (at_level 0) q v (gone e)) g ∙ u, z)) now twins index

pub on_no_gone : (chart : Chart) (n i : ℕ) (r x : Role) (p q : List ℕ) (l m : ℕ) (y : Bool) (e : ℕ) → chart n ≡ Some (spot r p l (on y)) → chart i ≡ Some (spot x q m (gone e)) → n ≢ i
on_no_gone chart n i r x p q l m y e g h f = let u : chart n ≡ chart i = ap chart f in let w : on y ≡ gone e = cc in cc

-- what is gone, and no interior, is written: it stays marked deleted
module _ (arena new : Arena) (chart : Chart) (i : ℕ) (q : List ℕ) (m e : ℕ) where
  role_apart : (n : ℕ) (r x : Role) (p : List ℕ) (l : ℕ) (s : Standing) → r ≢ x → chart n ≡ Some (spot r p l s) → chart i ≡ Some (spot x q m (gone e)) → n ≢ i
  role_apart n r x p l s ne g h f = ne (let u : chart n ≡ chart i = ap chart f in cc)

  pub gone_border_keeps : (now : ℕ) (twins : List Twin) (b : BorderNode) → IsIndex now twins arena chart → chart i ≡ Some (spot (at_level 0) q m (gone e)) → Changes arena new i (Some (border b)) → b.deleted ≡ true →
      Keeps now twins arena new chart chart
  gone_border_keeps now twins b index at_i change deleted =
      rest_keeps arena new chart index.tree (λ n r p l y g. change.rest n (on_no_gone chart n i r (at_level 0) p q l m y e g at_i))
      (λ n k p l st g. change.rest n (role_apart n (at_level (suc k)) (at_level 0) p l st (λ z. let z' : suc k ≡ 0 = cc in omega arith) g at_i))
      (λ n p l f g. let (t, u, z) = index.tree.gone_heads n p l f g in (t, change.rest n (role_apart n top (at_level 0) p l (gone f) (λ z. cc) g at_i) ∙ u, z))
      (λ n p l f g. go n (same_number n i) (index.tree.gone_borders n p l f g)) now twins index
    where
      go : (n : ℕ) → (n ≡ i) ⊎ (n ≢ i) → (t : BorderNode) × (arena n ≡ Some (border t)) × (t.deleted ≡ true) → (t : BorderNode) × (new n ≡ Some (border t)) × (t.deleted ≡ true)
      go n (inl z) _ = (b, ap new z ∙ change.now, deleted)
      go n (inr z) (t, u, d) = (t, change.rest n z ∙ u, d)

  pub gone_head_keeps : (now : ℕ) (twins : List Twin) (h : HeadNode) → IsIndex now twins arena chart → chart i ≡ Some (spot top q m (gone e)) → Changes arena new i (Some (head h)) → h.deleted ≡ true →
      Keeps now twins arena new chart chart
  gone_head_keeps now twins h index at_i change deleted =
      rest_keeps arena new chart index.tree (λ n r p l y g. change.rest n (on_no_gone chart n i r top p q l m y e g at_i))
      (λ n k p l st g. change.rest n (role_apart n (at_level (suc k)) top p l st (λ z. cc) g at_i))
      (λ n p l f g. go n (same_number n i) (index.tree.gone_heads n p l f g))
      (λ n p l f g. let (t, u, z) = index.tree.gone_borders n p l f g in (t, change.rest n (role_apart n (at_level 0) top p l (gone f) (λ z. cc) g at_i) ∙ u, z)) now twins index
    where
      go : (n : ℕ) → (n ≡ i) ⊎ (n ≢ i) → (t : HeadNode) × (arena n ≡ Some (head t)) × (t.deleted ≡ true) → (t : HeadNode) × (new n ≡ Some (head t)) × (t.deleted ≡ true)
      go n (inl z) _ = (h, ap new z ∙ change.now, deleted)
      go n (inr z) (t, u, d) = (t, change.rest n z ∙ u, d)

-- The chart forgets the number `r` of a node that went in the epoch `went`; whatever may still name it is marked
-- deleted, or went later. (The arena may free the number afterwards: `spare_tree`.)
module _ (arena : Arena) (chart more : Chart) (tree : IsTree arena chart) (r : ℕ) (role : Role) (p : List ℕ) (l went : ℕ) (at_r : chart r ≡ Some (spot role p l (gone went)))
    (freed : more r ≡ None) (rest : (m : ℕ) → m ≢ r → more m ≡ chart m)
    (later : (m f : ℕ) (q : List ℕ) (v e : ℕ) (x : InteriorNode) → chart m ≡ Some (spot (at_level (suc f)) q v (gone e)) → arena m ≡ Some (interior x) → x.deleted ≡ false → went < e) where
  was : (m : ℕ) (x : Spot) → more m ≡ Some x → chart m ≡ Some x
  was m x g = go (same_number m r)
    where
      go : (m ≡ r) ⊎ (m ≢ r) → chart m ≡ Some x
      go (inl e) = absurd (let k : more m ≡ more r = ap more e in let f = freed in let c : ◌≡◌ {A = Option Spot} None (Some x) = cc in cc)
      go (inr e) = sym (rest m e) ∙ g

  on_kept : (m : ℕ) (z : Role) (q : List ℕ) (v : ℕ) (y : Bool) → chart m ≡ Some (spot z q v (on y)) → more m ≡ Some (spot z q v (on y))
  on_kept m z q v y g = rest m (λ e. let k : chart m ≡ chart r = ap chart e in let c = at_r in let d : on y ≡ gone went = cc in cc) ∙ g

  old : (m : ℕ) (q : List ℕ) (d : BorderNode) → OnBorder arena more m q d → OnBorder arena chart m q d
  old m q d z = record { posted = z.posted; place = was m (spot (at_level 0) q d.low (on z.posted)) z.place; node = z.node }

  new : (m : ℕ) (q : List ℕ) (d : BorderNode) → OnBorder arena chart m q d → OnBorder arena more m q d
  new m q d z = record { posted = z.posted; place = on_kept m (at_level 0) q d.low z.posted z.place; node = z.node }

  free_hung : (h : ℕ) (q : List ℕ) → Hung arena chart h q → Hung arena more h q
  free_hung h [] e = e
  free_hung h (s ∷ q) (m, c, z, i) = (m, c, new m q c z, i)

  free_interior : (m k : ℕ) (q : List ℕ) (v : ℕ) (st : Standing) → chart m ≡ Some (spot (at_level (suc k)) q v st) → InteriorAt arena more m k q v st
  free_interior m k q v st g =
      let u = tree.interiors m k q v st g in
      record { node = u.node; is_node = u.is_node; low = u.low; level = u.level; ok = go u.node u.is_node st g u.node.deleted refl u.ok; locked_till_deleted = u.locked_till_deleted }
    where
      place_kept : (s : ℕ) (z : Role) (w : List ℕ) (y : ℕ) (t : Standing) → chart s ≡ Some (spot z w y t) → (t ≡ gone went → ⊥) → more s ≡ Some (spot z w y t)
      place_kept s z w y t h ne = rest s (λ e. ne (let k : chart s ≡ chart r = ap chart e in let c = at_r in cc)) ∙ h

      not_went : (st t : Standing) → MayName st t → ((e : ℕ) → st ≡ gone e → went < e) → t ≡ gone went → ⊥
      not_went (on y) t h _ e = let k : gone went ≡ on true = sym e ∙ h in cc
      not_went (gone e) (on y) h _ f = let k : on y ≡ gone went = f in cc
      not_went (gone e) (gone e') h lt f = let k : e' ≡ went = cc in let c : went < e = lt e refl in let h' : e ≤ e' = h in omega arith

      go : (x : InteriorNode) → arena m ≡ Some (interior x) → (st : Standing) → chart m ≡ Some (spot (at_level (suc k)) q v st) → (b : Bool) → x.deleted ≡ b →
          (((e : ℕ) × (st ≡ gone e)) × (x.deleted ≡ true)) ⊎ AreChildren chart st q v (suc k) x.children → (((e : ℕ) × (st ≡ gone e)) × (x.deleted ≡ true)) ⊎ AreChildren more st q v (suc k) x.children
      go x i st g b d (inl w) = inl w
      go x i (on y) g b d (inr w) = inr (record {
        leftmost = w.leftmost;
        each = (λ c j. let z = w.each c j in record {
          standing = z.standing;
          lower = z.lower;
          may = z.may;
          place = place_kept c.number (at_level c.level) q c.low z.standing z.place (not_went (on y) z.standing z.may (λ e f. absurd (cc)));
        });
      })
      go x i (gone e) g true d (inr w) = inl ((e, refl), d)
      go x i (gone e) g false d (inr w) = inr (record {
        leftmost = w.leftmost;
        each = (λ c j. let z = w.each c j in record {
          standing = z.standing;
          lower = z.lower;
          may = z.may;
          place = place_kept c.number (at_level c.level) q c.low z.standing z.place (not_went (gone e) z.standing z.may (λ e' f. let s : e ≡ e' = cc in subst (λ (n : ℕ). went < n) s (later m k q v e x g i d)));
        });
      })

  pub free_tree : IsTree arena more
  free_tree = record {
    layer_0 = on_kept 0 top [] 0 true tree.layer_0;
    heads = (λ h q v y g. let u = tree.heads h q v y (was h (spot top q v (on y)) g) in
        record { low = u.low; posted = u.posted; node = u.node; is_node = u.is_node; root = on_kept u.node.root (at_level u.node.level) q 0 true u.root });
    borders = (λ m q v y g. tree.borders m q v y (was m (spot (at_level 0) q v (on y)) g));
    each_border = (λ m q d z. let ok = tree.each_border m q d (old m q d z) in
        record {
          apart = ok.apart;
          from_low = ok.from_low;
          to_right = ok.to_right;
          links = (λ s h i. on_kept h top (s ∷ q) 0 true (ok.links s h i));
          right = (λ w e. let (lt, y, g) = ok.right w e in (lt, y, on_kept w.number (at_level 0) q w.low y g));
          empty = ok.empty;
        });
    interiors = (λ m k q v st g. free_interior m k q v st (was m (spot (at_level (suc k)) q v st) g));
    gone_heads = (λ h q v e g. tree.gone_heads h q v e (was h (spot top q v (gone e)) g));
    gone_borders = (λ m q v e g. tree.gone_borders m q v e (was m (spot (at_level 0) q v (gone e)) g));
    from_left = (λ m q d z. left m q d (tree.from_left m q d (old m q d z)));
    in_layer = (λ m q d z. let (h, g) = tree.in_layer m q d (old m q d z) in (h, on_kept h top q 0 true g));
    hung = (λ h q g. free_hung h q (tree.hung h q (was h (spot top q 0 (on true)) g)));
    disjoint = (λ i j q c d x y le be. tree.disjoint i j q c d (old i q c x) (old j q d y) le be);
  }
    where
      left : (m : ℕ) (q : List ℕ) (d : BorderNode) → (d.low ≡ 0) ⊎ ((j : ℕ) × (f : BorderNode) × OnBorder arena chart j q f × (f.right ≡ Some (record { low = d.low; number = m }))) →
          (d.low ≡ 0) ⊎ ((j : ℕ) × (f : BorderNode) × OnBorder arena more j q f × (f.right ≡ Some (record { low = d.low; number = m })))
      left m q d (inl z) = inl z
      left m q d (inr (j, f, y, e)) = inr (j, f, new j q f y, e)

  -- for every call that began later
  pub free_evolves : (begun : ℕ) → went < begun → Evolves begun chart more
  free_evolves begun lt m z q v st g = go (same_number m r)
    where
      go : (m ≡ r) ⊎ (m ≢ r) → ((w : Standing) × (more m ≡ Some (spot z q v w)) × Later begun st w) ⊎ ((e : ℕ) × (st ≡ gone e) × (e < begun))
      go (inl e) = inr (went, (let k : chart m ≡ chart r = ap chart e in let c = at_r in cc), lt)
      go (inr e) = inl (st, rest m e ∙ g, later_same begun st)
