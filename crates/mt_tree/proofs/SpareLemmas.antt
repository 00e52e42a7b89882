-- Numbers that no chart of an index knows: what is there may be changed.
use Rattle.std.proofs.Common.{ℕ, ◌≡◌, ◌≢◌, List, [], ◌∷◌, Option, Some, None, IsSome, Result, Ok, Err, IfOk, OnErr, refl, ap, sym, subst, ◌∙◌, arith}
use Rattle.std.specs.Option.{option_map}
use Rattle.std.specs.Prelude.{All, slice_set, slice_get, drop}
use Rattle.std.proofs.lemmas.List.Elements.{All-head}
use Rattle.mt_types.specs.declared.numbers.NodeNo.{NodeNo}
use Rattle.mt_types.specs.declared.refusal.Refusal.{Refusal}
use Rattle.mt_border.specs.Border.{BorderView}
use Rattle.mt_arena.specs.Node.{Nodes, node_at, border_at, Updates}
use Rattle.mt_arena.specs.Arena.{ArenaView, with_node_at, FreesFirst, IsArena}
use Rattle.mt_arena.specs.declared.retired.Retired.{Retired}
use Rattle.mt_arena.specs.declared.node.Node.TheVariants.{Border}
use Rattle.mt_arena.proofs.NodeLemmas.{updates-without}
use Rattle.mt_arena.specs.declared.node.Node.{Node}
use Rattle.mt_chart.specs.Tree.{Arena, PlainNode}
use Rattle.mt_chart.specs.Chart.{Chart, Spot, spot, IsTree}
use Rattle.mt_chart.proofs.TreeLemmas.{nodes_there}
use Rattle.mt_chart.proofs.InteriorLaws.{changing_spares, freeing}
use Rattle.mt_tree.specs.Seen.{arena_seen, node_seen}
use Rattle.mt_tree.proofs.SeenLemmas.{written-border}
use Rattle.mt_tree.proofs.SpareWrites.{spare_changed}
use Rattle.mt_tree.specs.Keeping.{KeepsTree, KeepsUnknown, IsUnknown, FreesNode}

-- a number that a chart knows names a node
pub known_named : (arena : Arena) (chart : Chart) → IsTree arena chart → (number : ℕ) (place : Spot) → chart number ≡ Some place → (node : PlainNode) × (arena number ≡ Some node)
known_named arena chart tree number (spot role prefix low standing) is =
    nodes_there arena chart tree 0 number low prefix (record { role = role; low = low; standing = standing; place = is; at_most = omega arith; since = λ epoch gone. omega arith })

-- so a number that names none is unknown
pub vacant_unknown : (a : ArenaView) (number : ℕ) → node_at a.nodes number ≡ None → IsUnknown a number
vacant_unknown a number vacant = record { unknown = λ now twins chart index. go chart index.tree (chart number) refl }
  where
    go : (chart : Chart) → IsTree (arena_seen a) chart → (place : Option Spot) → chart number ≡ place → chart number ≡ None
    go chart tree None is = is
    go chart tree (Some place) is = let (node, named) = known_named (arena_seen a) chart tree number place is in absurd (let seen = sym (ap (option_map node_seen) vacant) ∙ named in let clash : ◌≡◌ {A = Option PlainNode} None (Some node) = seen in cc)

-- a change of what is at a number that the chart doesn't know
pub keeps_unknown : (a after : ArenaView) (number : ℕ) → ((other : ℕ) → other ≢ number → arena_seen after other ≡ arena_seen a other) → KeepsUnknown a after number
keeps_unknown a after number rest = record { keeps = λ now twins chart index unknown. spare_changed now twins (arena_seen a) (arena_seen after) chart number index rest unknown }

-- the same, if a node is put under a number or taken from it
pub keeps_updated : (a after : ArenaView) (number : ℕ) (stands : Option Node) → Updates a.nodes after.nodes number stands → KeepsUnknown a after number
keeps_updated a after number stands updates = keeps_unknown a after number (λ other apart. ap (option_map node_seen) (updates.others other apart))

-- nothing that is seen changes
pub keeps_seen : (a after : ArenaView) → ((number : ℕ) → arena_seen after number ≡ arena_seen a number) → KeepsTree a after
keeps_seen a after same = record { keeps = λ now twins chart index. changing_spares now twins (arena_seen a) (arena_seen after) chart index (λ number place known. same number) }

pub keeps_nodes : (a after : ArenaView) → after.nodes ≡ a.nodes → KeepsTree a after
keeps_nodes a after same = keeps_seen a after (λ number. ap (λ (nodes : Nodes). option_map node_seen (node_at nodes number)) same)

-- a number that named no node comes to name one
pub keeps_occupied : (a after : ArenaView) (number : ℕ) (stands : Option Node) → node_at a.nodes number ≡ None → Updates a.nodes after.nodes number stands → KeepsTree a after
keeps_occupied a after number stands vacant updates = record {
  keeps = λ now twins chart index. (keeps_updated a after number stands updates).keeps now twins chart index ((vacant_unknown a number vacant).unknown now twins chart index);
}

-- the node of a number is freed
pub frees_node : (a after : ArenaView) (number : ℕ) → Updates a.nodes after.nodes number None → FreesNode a after number
frees_node a after number updates = record {
  frees = λ now twins chart next went index frees is.
      let (forgotten, evolves) = freeing now twins (arena_seen a) chart next went index frees in
      let kept = (keeps_updated a after number None updates).keeps now twins next forgotten (ap next (sym is) ∙ frees.charted.now) in
      (kept.index, kept.content, evolves);
}

-- what an occupied number is, and what it keeps, if one was returned
pub given_unknown : (a : ArenaView) (result : Result NodeNo Refusal) → IfOk result (λ number. node_at a.nodes number.0 ≡ None) → IfOk result (λ number. IsUnknown a number.0)
given_unknown a (Ok number) vacant = vacant_unknown a number.0 vacant
given_unknown a (Err refusal) vacant = tt

pub given_keeps : (a after : ArenaView) (result : Result NodeNo Refusal) (node : Node) → IfOk result (λ number. node_at a.nodes number.0 ≡ None) → IfOk result (λ number. Updates a.nodes after.nodes number.0 (Some node)) →
    OnErr result (after ≡ a) → KeepsTree a after
given_keeps a after (Ok number) node vacant updates same = keeps_occupied a after number.0 (Some node) vacant updates
given_keeps a after (Err refusal) node vacant updates same = keeps_nodes a after (ap (λ (x : ArenaView). x.nodes) same)

-- a border that the chart doesn't know is written
pub keeps_written_border : (a : ArenaView) (number : ℕ) (old new : BorderView) → border_at a.nodes number ≡ Some old → KeepsUnknown a (with_node_at a number (Border new)) number
keeps_written_border a number old new is = keeps_unknown a (with_node_at a number (Border new)) number (written-border a number old new is).rest

first_of : (retired : List Retired) (first : Retired) → slice_get retired 0 ≡ Some first → retired ≡ first ∷ drop 1 retired
first_of [] first got = absurd (cc)
first_of (other ∷ later) first got = let same : other ≡ first = cc in ap (λ (r : Retired). r ∷ later) same

-- the node that was retired first is freed
pub frees_first : (a after : ArenaView) (first : Retired) → slice_get a.retired 0 ≡ Some first → FreesFirst a after → FreesNode a after first.node.0
frees_first a after first got freed =
    let both : ◌≡◌ {A = List Retired} (freed.first ∷ after.retired) (first ∷ drop 1 a.retired) = sym freed.retired ∙ first_of a.retired first got in
    let same : freed.first ≡ first = cc in
    subst (λ (r : Retired). FreesNode a after r.node.0) same (frees_node a after freed.first.node.0 freed.updates)
