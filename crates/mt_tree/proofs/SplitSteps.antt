-- The link step of a border's split keeps the tree.
use Rattle.std.proofs.Common.{ℕ, ◌≡◌, ◌<◌, ◌⊎◌, ◌↔◌, List, take, Option, Some, None, IsSomeAnd, refl, sym, ap, subst, ◌∙◌}
use Rattle.std.specs.Option.{option_map}
use Rattle.mt_types.specs.declared.numbers.NodeNo.{NodeNo}
use Rattle.mt_border.specs.Border.{BorderView, with_half_linked}
use Rattle.mt_border.specs.Order.{IsBorder, IsLeftOf}
use Rattle.mt_border.specs.declared.entry.Entry.{Entry}
use Rattle.mt_border.specs.declared.entry.RightLink.{RightLink}
use Rattle.mt_arena.specs.Node.{border_at}
use Rattle.mt_arena.specs.Arena.{ArenaView, with_node_at}
use Rattle.mt_arena.specs.declared.node.Node.TheVariants.{Border}
use Rattle.mt_chart.specs.Tree.{HeadNode, Among, Below, no_right, before_right}
use Rattle.mt_chart.specs.Tree.{PlainEntry}
use Rattle.mt_chart.specs.Chart.{Chart}
use Rattle.mt_chart.specs.Steps.{Twin, IsIndex, Keeps}
use Rattle.mt_chart.proofs.BorderLaws.{linking}
use Rattle.mt_tree.specs.Seen.{arena_seen, border_seen, entry_seen, entries_seen, right_seen}
use Rattle.mt_tree.specs.Keeping.{KeepsAlong}
use Rattle.mt_tree.specs.BorderSteps.{IsUpperHalf, ChartsHalf, LinksHalfAt}
use Rattle.mt_tree.proofs.SeenLemmas.{among_unmap, seen-border, head-seen}
use Rattle.mt_tree.proofs.BorderEntries.{asked, all_among, seen_from_low, seen_parts}
use Rattle.mt_tree.proofs.BorderMarks.{stands_seen, writes_seen}

-- a border's right link is above its low
low_below : (low : ℕ) (live : List Entry) (right : Option RightLink) → IsLeftOf low live right → Below low (option_map right_seen right)
low_below low live None h = no_right
low_below low live (Some link) h = before_right h.0

module _ (a : ArenaView) (number : ℕ) (half : NodeNo) (keep : ℕ) (b upper : BorderView) (is : border_at a.nodes number ≡ Some b) (filled : border_at a.nodes half.0 ≡ Some upper) (of : IsUpperHalf b upper keep) (upper_sound : IsBorder upper)
    (sound : IsBorder (with_half_linked b keep (record { low = upper.low; node = half }))) where
  abbrev new : BorderView
  new = with_half_linked b keep (record { low = upper.low; node = half })

  parts : (e : PlainEntry) → Among e (entries_seen b.live) ↔ (Among e (entries_seen (take keep b.live)) ⊎ Among e (entries_seen upper.live))
  parts e = rw of.upper (seen_parts b.live keep e)

  lower : (e : PlainEntry) → Among e (entries_seen (take keep b.live)) → e.slice < upper.low
  lower e i = let s = among_unmap entry_seen e (take keep b.live) i in
      subst (λ (v : PlainEntry). v.slice < upper.low) s.is (all_among (λ (y : Entry). y.slice < upper.low) (take keep b.live) of.above_kept.each s.source s.stands)

  pub half_keeps : KeepsAlong a (with_node_at a number (Border new)) (λ now twins chart next. ChartsHalf a number half.0 upper.low chart next)
  half_keeps = record { keeps = keeps }
    where
      keeps : (now : ℕ) (twins : List Twin) (chart next : Chart) → IsIndex now twins (arena_seen a) chart → ChartsHalf a number half.0 upper.low chart next → Keeps now twins (arena_seen a) (arena_seen (with_node_at a number (Border new))) chart next
      keeps now twins chart next index step = linking now twins (arena_seen a) (arena_seen (with_node_at a number (Border new))) chart next index (record {
        number = number;
        prefix = step.prefix;
        old = border_seen b;
        new = border_seen new;
        writes = writes_seen a chart number step.prefix b new is (stands_seen a now twins chart number step.prefix b index step.stands is) refl sound.deleted_empty;
        half_number = half.0;
        half = border_seen upper;
        filled = seen-border a half.0 upper filled;
        unknown = step.unknown;
        charted = step.charted;
        right = refl;
        half_right = ap (option_map right_seen) of.right;
        above = of.above_low;
        below = rw (← of.right) (low_below upper.low upper.live upper.right upper_sound.left_of);
        parts = parts;
        lower = lower;
        upper = seen_from_low upper upper_sound;
        half_empty = λ deleted. ap entries_seen (upper_sound.deleted_empty deleted);
        head_alive = λ head_number node on_head there names. (let (h, is_head, same) = head-seen a head_number node there in
            ap (λ (n : HeadNode). n.deleted) (sym same) ∙ step.head_alive head_number h on_head is_head (ap (λ (n : HeadNode). n.root) same ∙ names));
      })

-- the border that `half` names is the upper half; it is the same one whoever reads it
pub half_links : (a : ArenaView) (number : ℕ) (half : NodeNo) (keep low : ℕ) (b upper b' : BorderView) → border_at a.nodes number ≡ Some b → border_at a.nodes half.0 ≡ Some upper →
    IsSomeAnd (border_at a.nodes number) (λ own. IsSomeAnd (border_at a.nodes half.0) (λ other. IsUpperHalf own other keep)) →
    low ≡ upper.low → b' ≡ with_half_linked b keep (record { low = low; node = half }) → IsBorder upper → IsBorder b' → LinksHalfAt a (with_node_at a number (Border b')) number half.0
half_links a number half keep low b upper b' is filled required low_is new upper_sound sound = record {
  links = λ other there. (let same : upper ≡ other = cc in
      let change = new ∙ ap (λ (l : ℕ). with_half_linked b keep (record { low = l; node = half })) low_is in
      let of = asked (λ (u : BorderView). IsUpperHalf b u keep) (border_at a.nodes half.0) upper filled (asked (λ (own : BorderView). IsSomeAnd (border_at a.nodes half.0) (λ u. IsUpperHalf own u keep)) (border_at a.nodes number) b is required) in
      rw (change, ← same) (half_keeps a number half keep b upper is filled of upper_sound (rw change at sound)));
}
