-- What a call holds it may visit.
use Rattle.std.proofs.Common.{ℕ, zero, suc, ◌≡◌, ◌<◌, ◌≤◌, List, [], ◌∷◌, length, Option, Some, None, IsSome, sym, ap, ◌∙◌, arith}
use Rattle.std.specs.Option.{option_map}
use Rattle.mt_interior.specs.declared.child.Child.{Child}
use Rattle.mt_arena.specs.Node.{node_at}
use Rattle.mt_arena.specs.declared.node.Node.{Node}
use Rattle.mt_chart.specs.Tree.{InteriorNode, head, border, interior, Arena}
use Rattle.mt_chart.specs.Tree.{PlainNode, PlainChild}
use Rattle.mt_chart.specs.Chart.{Standing, on, gone, Role, top, at_level, spot, Chart, IsTree, Holds}
use Rattle.mt_chart.proofs.TreeLemmas.{nodes_there, some_child}
use Rattle.mt_tree.specs.Seen.{arena_seen, node_seen, interior_seen, children_seen}
use Rattle.mt_tree.specs.Descent.{HeldNodesMayBeVisited}
use Rattle.mt_tree.proofs.SeenLemmas.{seen-interior}

named : (node : Option Node) (seen : PlainNode) → option_map node_seen node ≡ Some seen → IsSome node
named None seen e = absurd (cc)
named (Some node) seen e = cc

some_children : (children : List Child) (child : PlainChild) (others : List PlainChild) → children_seen children ≡ child ∷ others → 0 < length children
some_children [] child others e = absurd (cc)
some_children (c ∷ cs) child others e = omega arith

-- the low of an interior that is held is at most the slice
low_held : (arena : Arena) (chart : Chart) → IsTree arena chart → (begun number slice : ℕ) (prefix : List ℕ) (node : InteriorNode) → Holds chart begun number prefix slice → arena number ≡ Some (interior node) → node.low ≤ slice
low_held arena chart tree begun number slice prefix node holds there = go holds.role holds.standing holds.place
  where
    go : (role : Role) (standing : Standing) → chart number ≡ Some (spot role prefix holds.low standing) → node.low ≤ slice
    go top (on posted) is = let h = tree.heads number prefix holds.low posted is in let clash : ◌≡◌ {A = Option PlainNode} (Some (head h.node)) (Some (interior node)) = sym h.is_node ∙ there in absurd (cc)
    go top (gone epoch) is = let (h, at, marked) = tree.gone_heads number prefix holds.low epoch is in let clash : ◌≡◌ {A = Option PlainNode} (Some (head h)) (Some (interior node)) = sym at ∙ there in absurd (cc)
    go (at_level zero) (on posted) is = let (b, at, low) = tree.borders number prefix holds.low posted is in let clash : ◌≡◌ {A = Option PlainNode} (Some (border b)) (Some (interior node)) = sym at ∙ there in absurd (cc)
    go (at_level zero) (gone epoch) is = let (b, at, marked) = tree.gone_borders number prefix holds.low epoch is in let clash : ◌≡◌ {A = Option PlainNode} (Some (border b)) (Some (interior node)) = sym at ∙ there in absurd (cc)
    go (at_level (suc below)) standing is =
        let i = tree.interiors number below prefix holds.low standing is in
        let both : ◌≡◌ {A = Option PlainNode} (Some (interior i.node)) (Some (interior node)) = sym i.is_node ∙ there in
        let same : i.node ≡ node = cc in
        let low : node.low ≡ holds.low = ap (λ (x : InteriorNode). x.low) (sym same) ∙ i.low in
        let most = holds.at_most in
        omega (arith, low, most)

pub held_may_visit : HeldNodesMayBeVisited
held_may_visit a now twins chart begun number slice prefix index holds = record {
  named = let (seen, is) = nodes_there (arena_seen a) chart index.tree begun number slice prefix holds in named (node_at a.nodes number) seen is;
  has_child = λ i is alive.
      let there = seen-interior a number i is in
      let (child, others, children, low) = some_child (arena_seen a) chart index.tree begun number slice prefix (interior_seen i) holds there alive in
      (some_children i.children child others children, low_held (arena_seen a) chart index.tree begun number slice prefix (interior_seen i) holds there);
}
