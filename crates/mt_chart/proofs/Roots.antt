-- A layer has one head, and its root has the greatest level.
use Rattle.std.proofs.Common.{ℕ, zero, suc, ◌≡◌, ◌≢◌, ◌<◌, ◌≤◌, ◌+◌, ◌⊎◌, inl, inr, List, [], ◌∷◌, Option, Some, None, Bool, true, false, refl, sym, ap, ◌∙◌, subst, arith}
use Rattle.mt_chart.specs.Tree.{link, PlainEntry, HeadNode, BorderNode, InteriorNode, PlainNode, head, interior, Arena, Among}
use Rattle.mt_chart.specs.Chart.{on, at_level, spot, Chart, OnHead, IsTree, by_head, by_interior, HasOwner, Named}
use Rattle.mt_chart.specs.TreeLaws.{EndsBy, RootsAreHighest, RootOfASplitIsIt}
use native.Mathlib.Decide.{dec_lt}
use Rattle.mt_chart.proofs.Basics.{same_number}
use Rattle.mt_chart.proofs.Keys.{same_slice}
use Rattle.mt_chart.proofs.Reach.{same_border, children_on, on_child}
use Rattle.mt_chart.proofs.RootSteps.{head_root}

-- two heads of a layer that are on hang at one link
pub one_head : (arena : Arena) (chart : Chart) → IsTree arena chart → (h j : ℕ) (p : List ℕ) → OnHead chart h p → OnHead chart j p → h ≡ j
one_head arena chart tree h j [] g g' = tree.hung h [] g ∙ sym (tree.hung j [] g')
one_head arena chart tree h j (s ∷ p) g g' =
    let (n, b, o, i) = tree.hung h (s ∷ p) g in
    let (m, d, z, i') = tree.hung j (s ∷ p) g' in
    let e : PlainEntry = record { slice = s; content = link h } in
    let e' : PlainEntry = record { slice = s; content = link j } in
    let nm : n ≡ m = same_slice arena chart tree n m p b d e e' o z i i' refl in
    let bd : b ≡ d = same_border arena n b d o.node (rw nm z.node) in
    let same : e ≡ e' = (tree.each_border m p d z).apart e e' (subst (λ (w : BorderNode). Among e w.entries) bd i) i' refl refl in
    (let w : link h ≡ link j = ap (λ (w : PlainEntry). w.content) same in cc)

-- a bound on all levels
level_at : Option PlainNode → ℕ
level_at (Some (interior x)) = x.level
level_at _ = 0

all_levels : Arena → ℕ → ℕ
all_levels arena zero = 0
all_levels arena (suc bound) = level_at (arena bound) + all_levels arena bound

one_of_all : (arena : Arena) (n : ℕ) (x : InteriorNode) → arena n ≡ Some (interior x) → (bound : ℕ) → n < bound → x.level ≤ all_levels arena bound
unfolding all_levels level_at
one_of_all arena n x e zero lt = absurd (omega arith)
one_of_all arena n x e (suc bound) lt = go (same_number n bound) (λ lt. one_of_all arena n x e bound lt)
  where
    go : (n ≡ bound) ⊎ (n ≢ bound) → (n < bound → x.level ≤ all_levels arena bound) → x.level ≤ level_at (arena bound) + all_levels arena bound
    go (inl f) _ = let here : level_at (arena bound) ≡ x.level = ap level_at (ap arena (sym f) ∙ e) in omega (arith, here)
    go (inr f) before = let le = before (omega (arith, f)) in omega (arith, le)

levels_up_to : (arena : Arena) (bound : ℕ) → EndsBy arena bound → (n : ℕ) (x : InteriorNode) → arena n ≡ Some (interior x) → x.level ≤ all_levels arena bound
levels_up_to arena bound ends n x e = elim (dec_lt n bound) [
  | yes lt ↦ one_of_all arena n x e bound lt
  | no past ↦ absurd (let none = ends n (omega (arith, past)) in let clash : ◌≡◌ {A = Option PlainNode} None (Some (interior x)) = sym none ∙ e in cc)
]

-- the head `h` of a layer, with its root
module _ (arena : Arena) (chart : Chart) (tree : IsTree arena chart) (named : Named arena chart) (most : ℕ) (levels : (n : ℕ) (x : InteriorNode) → arena n ≡ Some (interior x) → x.level ≤ most) (h : ℕ) (q : List ℕ) (t : HeadNode) (on_h : OnHead chart h q) (there : arena h ≡ Some (head t)) where
  -- its owner is the head, or an interior of which the same is known
  below_owner : (c k l : ℕ) (y : Bool) → chart c ≡ Some (spot (at_level k) q l (on y)) → ((i f m : ℕ) (z : Bool) → chart i ≡ Some (spot (at_level (suc f)) q m (on z)) → k < suc f → (t.root ≡ i) ⊎ (suc f < t.level)) →
      HasOwner arena chart c → (t.root ≡ c) ⊎ (k < t.level)
  below_owner c k l y g above (j, by_head p t' g' e r) =
      let root = head_root arena chart tree j p t' g' e in
      let same : chart t'.root ≡ chart c = ap chart r in
      let layer : p ≡ q = cc in
      let one : h ≡ j = one_head arena chart tree h j q on_h (subst (λ (v : List ℕ). OnHead chart j v) layer g') in
      let one_node : arena h ≡ arena j = ap arena one in
      let heads : t ≡ t' = cc in
      inl (ap (λ (v : HeadNode). v.root) heads ∙ r)
  below_owner c k l y g above (j, by_interior f p m z x d g' e n r) =
      let w = children_on arena chart tree j f p m z x g' e in
      let (lt, place) = on_child chart z p (suc f) d (w.each d n) in
      let same : chart d.number ≡ chart c = ap chart r in
      let layer : p ≡ q = cc in
      let roles : at_level d.level ≡ at_level k = cc in
      let level : d.level ≡ k = cc in
      let on_j : chart j ≡ Some (spot (at_level (suc f)) q m (on z)) = subst (λ (v : List ℕ). chart j ≡ Some (spot (at_level (suc f)) v m (on z))) layer g' in
      let lower : k < suc f = subst (λ (v : ℕ). v < suc f) level lt in
      go f m z on_j lower (above j f m z on_j lower)
    where
      go : (f m : ℕ) (z : Bool) → chart j ≡ Some (spot (at_level (suc f)) q m (on z)) → k < suc f → (t.root ≡ j) ⊎ (suc f < t.level) → (t.root ≡ c) ⊎ (k < t.level)
      go f m z on_j lower (inl e) =
          let root = head_root arena chart tree h q t on_h there in
          let same : chart t.root ≡ chart j = ap chart e in
          let roles : at_level t.level ≡ at_level (suc f) = cc in
          let level : t.level ≡ suc f = cc in
          inr (omega (arith, level, lower))
      go f m z on_j lower (inr e) = inr (omega (arith, e, lower))

  interior_level : (i f m : ℕ) (z : Bool) → chart i ≡ Some (spot (at_level (suc f)) q m (on z)) → suc f ≤ most
  interior_level i f m z g = let u = tree.interiors i f q m (on z) g in let le = levels i u.node u.is_node in let e = u.level in omega (arith, le, e)

  -- levels rise from child to owner
  of_named : (c k l : ℕ) (y : Bool) → chart c ≡ Some (spot (at_level k) q l (on y)) → ((i f m : ℕ) (z : Bool) → chart i ≡ Some (spot (at_level (suc f)) q m (on z)) → k < suc f → (t.root ≡ i) ⊎ (suc f < t.level)) →
      ((k ≡ 0) × (y ≡ false)) ⊎ HasOwner arena chart c → ((k ≡ 0) × (y ≡ false)) ⊎ ((t.root ≡ c) ⊎ (k < t.level))
  of_named c k l y g above (inl u) = inl u
  of_named c k l y g above (inr o) = inr (below_owner c k l y g above o)

  is_interior : (i f : ℕ) (z : Bool) → ((suc f ≡ 0) × (z ≡ false)) ⊎ ((t.root ≡ i) ⊎ (suc f < t.level)) → (t.root ≡ i) ⊎ (suc f < t.level)
  is_interior i f z (inl u) = absurd (omega (arith, u.0))
  is_interior i f z (inr w) = w

  pub root_over : (more c k l : ℕ) (y : Bool) → most < k + more → chart c ≡ Some (spot (at_level k) q l (on y)) → ((k ≡ 0) × (y ≡ false)) ⊎ ((t.root ≡ c) ⊎ (k < t.level))
  root_over zero c k l y enough g = of_named c k l y g (λ i f m z on_i lower. let le = interior_level i f m z on_i in absurd (omega arith)) (named c k q l y g)
  root_over (suc more) c k l y enough g = of_named c k l y g (λ i f m z on_i lower. is_interior i f z (root_over more i (suc f) m z (omega arith) on_i)) (named c k q l y g)

pub roots_highest : RootsAreHighest
roots_highest now bound twins arena chart index ends number prefix node on_head there other level low place =
    go (root_over arena chart index.tree index.named (all_levels arena bound) (levels_up_to arena bound ends) number prefix node on_head there (suc (all_levels arena bound)) other level low true (omega arith) place)
  where
    go : ((level ≡ 0) × (true ≡ false)) ⊎ ((node.root ≡ other) ⊎ (level < node.level)) → (node.root ≡ other) ⊎ (level < node.level)
    go (inl u) = absurd (let e : true ≡ false = u.1 in cc)
    go (inr w) = w

pub root_of_split : RootOfASplitIsIt
root_of_split now bound twins arena chart index ends number prefix node on_head there split below low posted place no_greater =
    go (root_over arena chart index.tree index.named (all_levels arena bound) (levels_up_to arena bound ends) number prefix node on_head there (suc (all_levels arena bound)) split (suc below) low posted (omega arith) place)
  where
    go : ((suc below ≡ 0) × (posted ≡ false)) ⊎ ((node.root ≡ split) ⊎ (suc below < node.level)) → node.root ≡ split
    go (inl u) = absurd (omega (arith, u.0))
    go (inr (inl e)) = e
    go (inr (inr greater)) = absurd (omega (arith, greater, no_greater))
