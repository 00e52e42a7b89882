-- A new tree is an index.
use Rattle.std.proofs.Common.{ℕ, zero, suc, ◌≡◌, ◌≢◌, ◌<◌, inl, inr, [], Option, Some, None, IsSome, true, false, refl, ap, sym, ◌∙◌, arith}
use Rattle.std.specs.Option.{option_and_then}
use Rattle.std.proofs.lemmas.Bool.{cases_eq}
use Rattle.mt_types.specs.declared.row.Row.{Row}
use Rattle.mt_types.specs.declared.numbers.NodeNo.{NodeNo}
use Rattle.mt_slice.specs.Place.{Place}
use Rattle.mt_border.specs.Border.{BorderView, new_border as new_real_border}
use Rattle.mt_interior.specs.Head.{HeadView, with_root, new_head as new_real_head}
use Rattle.mt_arena.specs.Node.{node_at, head_of, border_of, head_at, Updates}
use Rattle.mt_arena.specs.Arena.{ArenaView, with_node_at}
use Rattle.mt_arena.specs.declared.node.Node.{Node}
use Rattle.mt_arena.specs.declared.node.Node.TheVariants.{Head, Border}
use Rattle.mt_arena.proofs.NodeLemmas.{updates-with_node}
use Rattle.mt_chart.specs.Tree.{Has}
use Rattle.mt_chart.specs.Chart.{Spot, spot, at_level, on}
use Rattle.mt_chart.specs.NewIndex.{new_arena, new_chart, new_border}
use Rattle.mt_chart.specs.Steps.{Keeps}
use Rattle.mt_chart.proofs.NewIndex.{at_root, only_elsewhere}
use Rattle.mt_chart.proofs.TreeLemmas.{new_index, new_index_empty}
use Rattle.mt_chart.proofs.InteriorLaws.{changing_spares}
use Rattle.mt_tree.specs.Seen.{arena_seen}
use Rattle.mt_tree.specs.Keeping.{IsIndexAt}
use Rattle.mt_tree.specs.NewTree.{IsNewTree}
use Rattle.mt_tree.proofs.SeenLemmas.{seen-head, seen-border}

new_elsewhere : (root number : ℕ) → number ≢ 0 → number ≢ root → new_chart root number ≡ None
new_elsewhere root zero not_top not_root = absurd (not_top refl)
new_elsewhere root (suc number) not_top not_root = only_elsewhere root (spot (at_level 0) [] 0 (on true)) (suc number) not_root

-- what is at a number of a new chart is what a new tree has there
new_seen : (a : ArenaView) (new : IsNewTree a) (number : ℕ) (place : Spot) → new_chart new.root.0 number ≡ Some place → arena_seen a number ≡ new_arena new.root.0 number
new_seen a new number place known = elim (cases_eq number 0) [
  | inl top ↦ ap (arena_seen a) top ∙ (seen-head a 0 (new_real_head new.root 0 false) new.top ∙ sym (ap (new_arena new.root.0) top))
  | inr below ↦ elim (cases_eq number new.root.0) [
    | inl root ↦ ap (arena_seen a) root ∙ (seen-border a new.root.0 (new_real_border 0 0 false) new.below ∙ (sym (at_root new.root.0 new_border new.another) ∙ sym (ap (new_arena new.root.0) root)))
    | inr other ↦ absurd (let clash : ◌≡◌ {A = Option Spot} None (Some place) = sym (new_elsewhere new.root.0 number below other) ∙ known in cc)
  ]
]

new_keeps : (a : ArenaView) (new : IsNewTree a) → Keeps 0 [] (new_arena new.root.0) (arena_seen a) (new_chart new.root.0) (new_chart new.root.0)
new_keeps a new = changing_spares 0 [] (new_arena new.root.0) (arena_seen a) (new_chart new.root.0) (new_index new.root.0 new.another) (new_seen a new)

pub new_tree_index : (a : ArenaView) → (new : IsNewTree a) → IsIndexAt a 0 [] (new_chart new.root.0)
new_tree_index a new = (new_keeps a new).index

pub new_tree_empty : (a : ArenaView) → IsNewTree a → (place : Place) (row : Row) → Has (arena_seen a) place row → ⊥
new_tree_empty a new place row has = new_index_empty new.root.0 new.another place row (((new_keeps a new).content place row).0 has)

-- the head of layer 0 is put into an arena, then a border; then the head, which is lent, names it
pub new_tree : (first second : ArenaView) (top lent named : HeadView) (node : BorderView) (old root : NodeNo) → top ≡ new_real_head old 0 false → Updates [] first.nodes 0 (Some (Head top)) → node_at first.nodes root.0 ≡ None →
    node ≡ new_real_border 0 0 false → Updates first.nodes second.nodes root.0 (Some (Border node)) → second.retired ≡ [] → head_at second.nodes 0 ≡ Some lent → named ≡ with_root lent root 0 → IsNewTree (with_node_at second 0 (Head named))
new_tree first second top lent named node old root top_is put vacant node_is added retired lending names = record {
  root = root;
  another = above root.0 apart;
  top = ap (option_and_then head_of) write.changed ∙ ap Some (names ∙ ap (λ (h : HeadView). with_root h root 0) (sym same_head ∙ top_is));
  below = ap (option_and_then border_of) (write.others root.0 apart ∙ added.changed) ∙ ap Some node_is;
  rest = λ number not_top not_root. write.others number not_top ∙ (added.others number not_root ∙ put.others number not_top);
  retired = retired;
}
  where
    apart : root.0 ≢ 0
    apart same = let clash : ◌≡◌ {A = Option Node} None (Some (Head top)) = sym vacant ∙ (ap (node_at first.nodes) same ∙ put.changed) in cc

    above : (number : ℕ) → number ≢ 0 → 0 < number
    above number ne = omega arith

    stands : node_at second.nodes 0 ≡ Some (Head top)
    stands = added.others 0 (λ same. apart (sym same)) ∙ put.changed

    same_head : top ≡ lent
    same_head = let both : ◌≡◌ {A = Option HeadView} (Some top) (Some lent) = sym (ap (option_and_then head_of) stands) ∙ lending in cc

    some : (n : Node) → IsSome (Some n)
    some n = cc

    write : Updates second.nodes (with_node_at second 0 (Head named)).nodes 0 (Some (Head named))
    write = updates-with_node second.nodes 0 (Head named) (rw stands (some (Head top)))
