-- What follows from the link to a new layer: the layer's head is on.
use Rattle.std.proofs.Common.{ℕ, ◌≡◌, List, ◌∷◌, slice_get, Some, true, inl, refl, sym, subst}
use Rattle.mt_types.specs.declared.numbers.NodeNo.{NodeNo}
use Rattle.mt_border.specs.Entry.{with_link}
use Rattle.mt_border.specs.Table.{changed_at}
use Rattle.mt_border.specs.declared.entry.Entry.{Entry}
use Rattle.mt_border.specs.declared.entry.Content.TheVariants.{Link}
use Rattle.mt_arena.specs.Arena.{ArenaView}
use Rattle.mt_chart.specs.Tree.{Among}
use Rattle.mt_chart.specs.Chart.{top, OnHead}
use Rattle.mt_chart.specs.Walk.{IsOn}
use Rattle.mt_chart.proofs.Entries.{among_insert}
use Rattle.mt_tree.specs.Seen.{border_seen, entry_seen}
use Rattle.mt_tree.proofs.SeenLemmas.{among_map}
use Rattle.mt_tree.proofs.BorderEntries.{focus}
use Rattle.mt_tree.proofs.BorderMarks.{stands_seen}
use Rattle.mt_steps.specs.World.{World, IsWorld}
use Rattle.mt_write.specs.Writing.{HasLink}

-- the entry at a place is among the entries once it is made a link
pub linked_among : (live : List Entry) (place : ℕ) (entry : Entry) (head : NodeNo) → slice_get live place ≡ Some entry → Among (record { slice = entry.slice; content = Link head }) (changed_at place (with_link head) live)
linked_among live place entry head there =
    let f = focus live place entry there in
    subst (λ (l : List Entry). Among (with_link head entry) l) (sym (f.changed (with_link head))) ((among_insert (with_link head entry) (with_link head entry) f.before f.behind).1 (inl refl))

-- ---- a border that is on has a link to a head
module _ (prefix : List ℕ) (a : ArenaView) (now : ℕ) (w : World) (number : ℕ) (head : NodeNo) (world : IsWorld a now w) (has : HasLink prefix a w number head) where
  -- the head is that of the layer below, and is on
  pub linked_head_stands : OnHead w.chart head.0 (has.slice ∷ prefix)
  linked_head_stands =
      let stands = stands_seen a now w.twins w.chart number prefix has.border.b world.index has.stands has.border.named in
      (world.index.tree.each_border number prefix (border_seen has.border.b) stands).links has.slice head.0 (among_map entry_seen (record { slice = has.slice; content = Link head }) has.border.b.live has.linked)

  pub linked_head_is_on : IsOn w.chart head.0
  linked_head_is_on = record { role = top; prefix = has.slice ∷ prefix; low = 0; posted = true; place = linked_head_stands }
