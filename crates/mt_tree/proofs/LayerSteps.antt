-- A new layer instead of a row, and an empty layer that is dropped, keep the tree.
use Rattle.std.proofs.Common.{ℕ, zero, suc, ◌≡◌, List, ◌∷◌, Some, IsSome, IsSomeAnd, true, refl, sym, ap, ◌∙◌, subst}
use Rattle.std.specs.Option.{option_map}
use Rattle.mt_slice.specs.Place.{Place, place_of}
use Rattle.mt_types.specs.declared.numbers.NodeNo.{NodeNo}
use Rattle.mt_border.specs.Entry.{with_link}
use Rattle.mt_border.specs.Border.{BorderView, with_hidden, with_link_at, suffix_at}
use Rattle.mt_border.specs.Order.{IsBorder}
use Rattle.mt_border.specs.declared.entry.Content.TheVariants.{Long, Link}
use Rattle.mt_border.specs.declared.entry.Entry.{Entry}
use Rattle.mt_interior.specs.Head.{HeadView}
use Rattle.mt_arena.specs.Node.{head_at, border_at}
use Rattle.mt_arena.specs.Arena.{ArenaView, with_node_at}
use Rattle.mt_arena.specs.declared.node.Node.TheVariants.{Border}
use Rattle.mt_chart.specs.Tree.{BorderNode, HoldsRow}
use Rattle.mt_chart.specs.Chart.{Chart, on, at_level, spot, OnHead, OnBorder}
use Rattle.mt_chart.specs.Steps.{Twin, IsIndex}
use Rattle.mt_chart.proofs.BorderLaws.{making_layer, dropping_layer}
use Rattle.mt_tree.specs.Seen.{arena_seen, border_seen, head_seen, entry_seen, entries_seen, right_seen}
use Rattle.mt_tree.specs.Keeping.{KeepsAlong}
use Rattle.mt_tree.specs.BorderSteps.{HasLayerFor, ChartsLayer, MakesLayerAt, HasMarkedLayerAt, ChartsDropped, DropsLayerAt}
use Rattle.mt_tree.proofs.SeenLemmas.{seen-head, seen-border, written-border}
use Rattle.mt_tree.proofs.BorderEntries.{asked, focus, seen_there, seen_hidden, seen_changed}
use Rattle.mt_tree.proofs.BorderMarks.{stands_seen, writes_seen}
use Rattle.mt_tree.proofs.BorderRows.{entry_holds}

-- a new layer
module _ (a : ArenaView) (number place : ℕ) (top_number : NodeNo) (b : BorderView) (is : border_at a.nodes number ≡ Some b) (required : IsSomeAnd (border_at a.nodes number) (λ own. HasLayerFor a.nodes own place top_number.0)) where
  of : HasLayerFor a.nodes b place top_number.0
  of = asked (λ (own : BorderView). HasLayerFor a.nodes own place top_number.0) (border_at a.nodes number) b is required

  pub may_link : IsSome (suffix_at place b.live)
  may_link = rw ((focus b.live place (record { slice = of.slice; content = Long of.suffix of.row }) of.long).dropped) (trivial of.suffix)
    where
      trivial : (suffix : List ℕ) → IsSome (Some suffix)
      trivial suffix = cc

  module _ (whole : IsBorder b) (sound : IsBorder (with_link_at b place top_number)) where
    layer_keeps : KeepsAlong a (with_node_at a number (Border (with_link_at b place top_number))) (λ now twins chart next. ChartsLayer number top_number.0 of.layer_head.root.0 of.slice chart next)
    layer_keeps = record {
      keeps = λ now twins chart next index step.
          making_layer now twins (arena_seen a) (arena_seen (with_node_at a number (Border (with_link_at b place top_number)))) chart next index (record {
            number = number;
            prefix = step.prefix;
            old = border_seen b;
            new = border_seen (with_link_at b place top_number);
            writes = writes_seen a chart number step.prefix b (with_link_at b place top_number) is (stands_seen a now twins chart number step.prefix b index step.stands is) refl sound.deleted_empty;
            right = refl;
            slice = of.slice;
            rest = place_of of.suffix;
            row = of.row;
            top_number = top_number.0;
            top_node = head_seen of.layer_head;
            root_number = of.layer_head.root.0;
            root = border_seen of.layer_root;
            entry = entry_seen of.entry;
            stood = seen_there b.live place (record { slice = of.slice; content = Long of.suffix of.row }) whole.ordered whole.entries of.long;
            entries = seen_changed b.live place (record { slice = of.slice; content = Long of.suffix of.row }) whole.ordered whole.entries of.long (with_link top_number);
            top_filled = seen-head a top_number.0 of.layer_head of.is_head;
            root_filled = seen-border a of.layer_head.root.0 of.layer_root of.is_root;
            two_numbers = λ e. (let at_head = seen-head a top_number.0 of.layer_head of.is_head in let at_root = seen-border a of.layer_head.root.0 of.layer_root of.is_root in
                let same : arena_seen a top_number.0 ≡ arena_seen a of.layer_head.root.0 = ap (arena_seen a) e in cc);
            top_unknown = step.head_unknown;
            root_unknown = step.root_unknown;
            top_charted = step.head_charted;
            root_charted = step.root_charted;
            others = step.others;
            names_root = refl;
            level = of.level;
            root_low = of.low;
            root_right = ap (option_map right_seen) of.right;
            root_alive = of.alive;
            root_entries = ap entries_seen of.alone;
            holds = subst (λ (p : Place). HoldsRow of.entry.slice (entry_seen of.entry).content p of.row) of.same_place (entry_holds of.entry of.row of.same_row);
          });
    }

  pub makes_layer : (b' : BorderView) → b' ≡ with_link_at b place top_number → IsBorder b → IsBorder b' → MakesLayerAt a (with_node_at a number (Border b')) number place top_number.0
  makes_layer b' new whole sound = record {
    makes = λ other entry layer_head there at_place at_head. (let same : other ≡ b = cc in
        let stands = rw same at at_place in
        let long = of.long in let is_head = of.is_head in
        let same_head : of.layer_head ≡ layer_head = cc in
        let same_entry : record { slice = of.slice; content = Long of.suffix of.row } ≡ entry = cc in
        let same_slice : of.slice ≡ entry.slice = ap (λ (e : Entry). e.slice) same_entry in
        rw (new, ← same_head, ← same_slice) (layer_keeps whole (rw new at sound)));
  }

-- what is at a layer's head and at its root, in the chart
root_on : (a : ArenaView) (now : ℕ) (twins : List Twin) (chart : Chart) (number : ℕ) (prefix : List ℕ) (layer_head : HeadView) (root : BorderView) → IsIndex now twins (arena_seen a) chart → OnHead chart number prefix →
    head_at a.nodes number ≡ Some layer_head → border_at a.nodes layer_head.root.0 ≡ Some root → OnBorder (arena_seen a) chart layer_head.root.0 prefix (border_seen root) × (root.low ≡ 0)
root_on a now twins chart number prefix layer_head root index on_head is_head is_root =
    let u = index.tree.heads number prefix 0 true on_head in
    let there = u.is_node in let seen = seen-head a number layer_head is_head in
    let same : u.node ≡ head_seen layer_head = cc in
    go layer_head.level (rw same at u.root)
  where
    go : (level : ℕ) → chart layer_head.root.0 ≡ Some (spot (at_level level) prefix 0 (on true)) → OnBorder (arena_seen a) chart layer_head.root.0 prefix (border_seen root) × (root.low ≡ 0)
    go zero place =
        let (node, there, low) = index.tree.borders layer_head.root.0 prefix 0 true place in
        let seen = seen-border a layer_head.root.0 root is_root in
        let same : node ≡ border_seen root = cc in
        (stands_seen a now twins chart layer_head.root.0 prefix root index (record { low = 0; posted = true; place = place }) is_root, sym (ap (λ (n : BorderNode). n.low) same) ∙ low)
    go (suc below) place = absurd (let seen = seen-border a layer_head.root.0 root is_root in let u = index.tree.interiors layer_head.root.0 below prefix 0 (on true) place in let there = u.is_node in cc)

-- an empty layer
module _ (a : ArenaView) (number place : ℕ) (b : BorderView) (is : border_at a.nodes number ≡ Some b) (required : IsSomeAnd (border_at a.nodes number) (λ own. HasMarkedLayerAt a.nodes own place)) where
  marked : HasMarkedLayerAt a.nodes b place
  marked = asked (λ (own : BorderView). HasMarkedLayerAt a.nodes own place) (border_at a.nodes number) b is required

  module _ (whole : IsBorder b) where
    dropped_keeps : KeepsAlong a (with_node_at a number (Border (with_hidden b place))) (λ now twins chart next. ChartsDropped now number marked.head.0 marked.layer_head.root.0 marked.slice twins chart next)
    dropped_keeps = record {
      keeps = λ now twins chart next index step.
          (let stands = stands_seen a now twins chart number step.prefix b index step.stands is in
          let stood = seen_there b.live place (record { slice = marked.slice; content = Link marked.head }) whole.ordered whole.entries marked.linked in
          let on_head = (index.tree.each_border number step.prefix (border_seen b) stands).links marked.slice marked.head.0 stood in
          let (on_root, root_low) = root_on a now twins chart marked.head.0 (marked.slice ∷ step.prefix) marked.layer_head marked.layer_root index on_head marked.is_head marked.is_root in
          dropping_layer now twins (arena_seen a) (arena_seen (with_node_at a number (Border (with_hidden b place)))) chart next index (record {
            number = number;
            prefix = step.prefix;
            old = border_seen b;
            new = border_seen (with_hidden b place);
            stands = stands;
            written = written-border a number b (with_hidden b place) is;
            low = refl;
            right = refl;
            deleted = refl;
            slice = marked.slice;
            top_number = marked.head.0;
            top_node = head_seen marked.layer_head;
            root_number = marked.layer_head.root.0;
            root = border_seen marked.layer_root;
            stood = stood;
            entries = seen_hidden b.live place (record { slice = marked.slice; content = Link marked.head }) whole.ordered whole.entries marked.linked;
            top_on = on_head;
            top_there = seen-head a marked.head.0 marked.layer_head marked.is_head;
            top_deleted = marked.head_marked;
            names_root = refl;
            root_on = on_root;
            root_low = root_low;
            root_right = ap (option_map right_seen) marked.right;
            root_entries = (index.tree.each_border marked.layer_head.root.0 (marked.slice ∷ step.prefix) (border_seen marked.layer_root) on_root).empty marked.root_marked;
            root_deleted = marked.root_marked;
            no_twin = step.no_twin;
            top_goes = step.head_goes;
            root_goes = step.root_goes;
            others = step.others;
          }));
    }

  pub drops_layer : (b' : BorderView) → b' ≡ with_hidden b place → IsBorder b → DropsLayerAt a (with_node_at a number (Border b')) number place
  drops_layer b' new whole = record {
    drops = λ other slice top_number layer_head there at_place at_head. (let same : other ≡ b = cc in
        let stands = rw same at at_place in
        let linked = marked.linked in let is_head = marked.is_head in
        let same_entry : ◌≡◌ {A = Entry} (record { slice = marked.slice; content = Link marked.head }) (record { slice = slice; content = Link top_number }) = cc in
        let same_slice : marked.slice ≡ slice = ap (λ (e : Entry). e.slice) same_entry in
        let same_content : Link marked.head ≡ Link top_number = ap (λ (e : Entry). e.content) same_entry in
        let same_top : marked.head ≡ top_number = cc in
        let same_head : marked.layer_head ≡ layer_head = cc in
        rw (new, ← same_top, ← same_head, ← same_slice) (dropped_keeps whole));
  }
