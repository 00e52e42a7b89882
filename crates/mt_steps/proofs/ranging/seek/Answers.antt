-- The visit of the node that the number names.
use Rattle.std.proofs.Common.{ℕ, ◌≡◌}
use Rattle.mt_slice.specs.Place.{slice_number}
use Rattle.mt_tree.proofs.HeldLemmas.{held_may_visit}
use Rattle.mt_steps.specs.Way.{Names}
use Rattle.mt_steps.specs.Ranging.{IsHeldFor, IsHeldNode}
use Rattle.mt_steps.proofs.WayLemmas.{names_marked}
use Rattle.mt_steps.proofs.RangeLemmas.{slice_back, eight_bytes, held_may, node_leads, node_tells, seeks_visit, seeks-moves}
use Rattle.mt_arena.specs.Node.{node_at}
use Rattle.mt_arena.specs.Arena.{ArenaView, IsArena}
use Rattle.mt_arena.specs.declared.node.Node.{Node}
use Rattle.std.specs.Prelude.{Some}
use Rattle.mt_steps.proofs.ranging.seek.Goals as goal

-- the number names the node, which is held for the slice
names : (a : ArenaView) (number : ℕ) (node : Node) → node_at a.nodes number ≡ Some node → IsArena a → Names a number node
names a number node named sound = record { named = named; sound = sound }

held : (a : ArenaView) (number slice : ℕ) (node : Node) → node_at a.nodes number ≡ Some node → IsArena a → IsHeldFor a number slice → IsHeldNode node slice
held a number slice node named sound is = record { arena = a; number = number; names = names a number node named sound; held = is }

pub node-requires : goal.node-requires
node-requires c =
    let is = c.requires in
    (held_may_visit c.args.tree.now is.now is.twins is.chart is.begun c.args.number.0 c.args.slice is.prefix is.index is.holds).named

pub visit_node-requires : goal.visit_node-requires
visit_node-requires c =
    held_may c.node.result.now c.args.slice c.to_be_bytes.result (slice_back c.args.slice c.to_be_bytes.result c.to_be_bytes.ensures c.ranges.slice.fits)
    (held c.args.tree.now c.args.number.0 c.args.slice c.node.result.now c.node.ensures.value c.node.ensures.arena c.requires)

pub returns-clause-seeks : goal.returns-clause-seeks
returns-clause-seeks c =
    let same : slice_number c.to_be_bytes.result ≡ c.args.slice = slice_back c.args.slice c.to_be_bytes.result c.to_be_bytes.ensures c.ranges.slice.fits in
    let is = held c.args.tree.now c.args.number.0 c.args.slice c.node.result.now c.node.ensures.value c.node.ensures.arena c.requires in
    seeks_visit c.args.tree.now c.args.number.0 c.args.slice c.to_be_bytes.result same (eight_bytes c.args.slice c.to_be_bytes.result c.to_be_bytes.ensures) c.visit_node.result
    (node_leads c.node.result.now c.args.slice c.to_be_bytes.result same is c.visit_node.ensures.sound c.visit_node.result c.visit_node.ensures.value c.args.tree.now c.args.number.0 (names c.args.tree.now c.args.number.0 c.node.result.now c.node.ensures.value c.node.ensures.arena))
    (node_tells c.node.result.now c.args.slice c.to_be_bytes.result same is c.visit_node.ensures.sound c.visit_node.result c.visit_node.ensures.value c.args.tree.now c.args.number.0 (names c.args.tree.now c.args.number.0 c.node.result.now c.node.ensures.value c.node.ensures.arena))

pub returns-clause-again : goal.returns-clause-again
returns-clause-again c = λ again. names_marked c.args.tree.now c.args.number.0 c.node.result.now (names c.args.tree.now c.args.number.0 c.node.result.now c.node.ensures.value c.node.ensures.arena) (c.visit_node.ensures.again again)

pub returns-clause-moves : goal.returns-clause-moves
returns-clause-moves c = λ next to.
    let same : slice_number c.to_be_bytes.result ≡ c.args.slice = slice_back c.args.slice c.to_be_bytes.result c.to_be_bytes.ensures c.ranges.slice.fits in
    let is = held c.args.tree.now c.args.number.0 c.args.slice c.node.result.now c.node.ensures.value c.node.ensures.arena c.requires in
    seeks-moves c.args.tree.now c.args.number.0 c.to_be_bytes.result c.visit_node.result next
    (node_tells c.node.result.now c.args.slice c.to_be_bytes.result same is c.visit_node.ensures.sound c.visit_node.result c.visit_node.ensures.value c.args.tree.now c.args.number.0 (names c.args.tree.now c.args.number.0 c.node.result.now c.node.ensures.value c.node.ensures.arena)) to
