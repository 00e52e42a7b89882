-- The end of the second descent for a dropped border: if a border's interval holds the slice before the dropped one's
-- low, its right link names the dropped one, so the descent finds the border that it looks for.
use Rattle.std.proofs.Common.{ℕ, List, suc, ◌≡◌, ◌<◌, ◌≤◌, ◌⊎◌, inl, inr, Some, Option, sym, arith}
use Rattle.mt_chart.specs.Tree.{BorderNode, Right, border, Arena, Below, no_right, before_right}
use Rattle.mt_chart.specs.Chart.{Chart, OnBorder, IsTree}
use native.Mathlib.Decide.{dec_le}

module _ (arena : Arena) (chart : Chart) (tree : IsTree arena chart) where
  below_both : (s : ℕ) (l : ℕ) (r : Option Right) → Below s r → l ≤ s → Below l r
  below_both s l r no_right h = no_right
  below_both s l r (before_right k) h = before_right (let g : l ≤ s = h in omega arith)

  pub next_is : (n m s : ℕ) (p : List ℕ) (c b : BorderNode) → OnBorder arena chart n p c → OnBorder arena chart m p b → c.low ≤ s → suc s ≡ b.low → Below s c.right →
      c.right ≡ Some (record { low = b.low; number = m })
  next_is n m s p c b oc ob h e w = go (tree.from_left m p b ob)
    where
      found : (k : ℕ) (d : BorderNode) → OnBorder arena chart k p d → d.right ≡ Some (record { low = b.low; number = m }) → n ≡ k → c.right ≡ Some (record { low = b.low; number = m })
      found k d od q f = let i : arena n ≡ Some (border c) = oc.node in let j : arena k ≡ Some (border d) = od.node in
          let same : c ≡ d = cc in rw same q

      at_or_before : (k : ℕ) (d : BorderNode) → OnBorder arena chart k p d → d.right ≡ Some (record { low = b.low; number = m }) → d.low < b.low → Dec (c.low ≤ d.low) → n ≡ k
      at_or_before k d od q l (yes y) = tree.disjoint n k p c d oc od y (below_both s d.low c.right w (omega arith))
      at_or_before k d od q l (no y) = sym (tree.disjoint k n p d c od oc (omega arith) (rw q (before_right {link = record { low = b.low; number = m }} (omega arith))))

      go : (b.low ≡ 0) ⊎ ((k : ℕ) × (d : BorderNode) × OnBorder arena chart k p d × (d.right ≡ Some (record { low = b.low; number = m }))) → c.right ≡ Some (record { low = b.low; number = m })
      go (inl z) = absurd (omega arith)
      go (inr (k, d, od, q)) = let x = (tree.each_border k p d od).right (record { low = b.low; number = m }) q in
          found k d od q (at_or_before k d od q x.0 (dec_le c.low d.low))
