-- What holds of every interior node holds after each change.
use Rattle.std.proofs.Common.{◌≡◌, ℕ, zero, suc, ◌<◌, ◌≤◌, [], ◌∷◌, length, get_or, refl, arith, lit<, lit≤}
use Rattle.std.proofs.lemmas.List.Elements.{All-cons, All-nil}
use Rattle.std.proofs.lemmas.List.Edits.{length-insert, length-remove}
use Rattle.std.proofs.lemmas.List.Sums.{prefix_len-le-length}
use Rattle.std.specs.Prelude.{nat_le}
use Rattle.mt_types.specs.declared.numbers.NodeNo.{NodeNo}
use Rattle.mt_interior.specs.Interior.{InteriorView, IsInterior, new_interior, children_up_to, with_children, with_child, without_child, with_bypass}
use Rattle.mt_interior.specs.declared.child.Child.{Child}
use Rattle.mt_interior.proofs.ChildrenLemmas.{some_up_to, All-inserted, All-removed, starts-inserted, starts-removed, rising-inserted, rising-removed, length-renamed, rising-renamed, starts-renamed, lower-renamed}

pub interior-inserted : (i : InteriorView) (child : Child) → 0 < length i.children → length i.children < 16 → child.level < i.level → i.low ≤ child.low → IsInterior i → IsInterior (with_child i child)
interior-inserted i child some room lower from_low h =
    let fits : children_up_to child.low i.children ≤ length i.children = prefix_len-le-length (λ c. nat_le c.low child.low) i.children in
    let long = length-insert i.children (children_up_to child.low i.children) child fits in
    record {
      least = h.least;
      most = h.most;
      low_fits = h.low_fits;
      few = omega (arith, long);
      starts = starts-inserted i.low (children_up_to child.low i.children) i.children child some (some_up_to i.low child.low i.children h.starts some from_low) h.starts;
      rising = rising-inserted i.children child h.rising;
      lower = record { each = All-inserted (λ c. c.level < i.level) i.children (children_up_to child.low i.children) child lower h.lower.each };
      inner = h.inner;
      counters = h.counters;
    }

pub interior-removed : (i : InteriorView) (place : ℕ) → 0 < place → place < length i.children → IsInterior i → IsInterior (without_child i place)
interior-removed i place later within h =
    let short = length-remove i.children place within in
    let all = h.few in
    record {
      least = h.least;
      most = h.most;
      low_fits = h.low_fits;
      few = omega (arith, short, all);
      starts = starts-removed i.low place i.children later h.starts;
      rising = rising-removed i.children place within h.rising;
      lower = record { each = All-removed (λ c. c.level < i.level) i.children place h.lower.each };
      inner = h.inner;
      counters = h.counters;
    }

pub interior-renamed : (i : InteriorView) (place level : ℕ) (node : NodeNo) → level < i.level → IsInterior i → IsInterior (with_bypass i place node level)
interior-renamed i place level node lower h =
    let same = length-renamed place level node i.children in
    let all = h.few in
    record {
      least = h.least;
      most = h.most;
      low_fits = h.low_fits;
      few = omega (arith, same, all);
      starts = starts-renamed i.low place level node i.children h.starts;
      rising = rising-renamed place level node i.children h.rising;
      lower = record { each = lower-renamed place level i.level node i.children lower h.lower.each };
      inner = h.inner;
      counters = h.counters;
    }

-- For callers of `fill`: the two children of a new root, which are of lower levels.
pub interior-root : (level : ℕ) (first second : Child) → 1 ≤ level → level ≤ 15 → first.low ≡ 0 → first.level < level → second.level < level → IsInterior (with_children (new_interior level 0) (first ∷ second ∷ []))
interior-root level first second least most at_0 lower lower_too = record {
  least = least;
  most = most;
  low_fits = lit< tt;
  few = lit≤ tt;
  starts = at_0;
  rising = record { lows = λ i j d before within. rising i j d before within };
  lower = record { each = All-cons (λ c. c.level < level) first (second ∷ []) lower (All-cons (λ c. c.level < level) second [] lower_too (All-nil (λ c. c.level < level))) };
  inner = refl;
  counters = record { vinsert_fits = lit< tt; vsplit_fits = lit< tt };
}
  where
    rising : (i j : ℕ) (d : Child) → i ≤ j → j < length (first ∷ second ∷ []) → (get_or (first ∷ second ∷ []) i d).low ≤ (get_or (first ∷ second ∷ []) j d).low
    rising zero j d before within = rw at_0 (omega arith)
    rising (suc zero) (suc zero) d before within = omega arith
    rising (suc i) zero d before within = absurd (omega arith)
    rising (suc i) (suc (suc j)) d before within = absurd (omega arith)
    rising (suc (suc i)) (suc zero) d before within = absurd (omega arith)
