-- A get comes through fewer nodes than there are.
use Rattle.std.proofs.Common.{ℕ, suc, zero, ◌≡◌, ◌<◌, ◌+◌, List, [], ◌∷◌, length, Option, Some, None, refl, sym, ap, subst, ◌∙◌, arith}
use Rattle.std.specs.Prelude.{cond, is_some}
use Rattle.std.specs.Option.{option_map}
use Rattle.std.proofs.lemmas.List.Sums.{sum_by-cons}
use Rattle.mt_arena.specs.Node.{Nodes, node_at, occupied}
use Rattle.mt_arena.specs.Arena.{ArenaView}
use Rattle.mt_arena.specs.declared.node.Node.{Node}
use Rattle.mt_chart.specs.Tree.{Among, first, later, PlainNode}
use Rattle.mt_chart.specs.Chart.{Spot}
use Rattle.mt_chart.proofs.Trail.{trail_fits}
use Rattle.mt_tree.specs.Seen.{arena_seen, node_seen}
use Rattle.mt_tree.proofs.SpareLemmas.{known_named}
use Rattle.mt_chart.specs.Walk.{Trail}
use Rattle.mt_steps.specs.World.{World, IsWorld}

-- the numbers that name a node, of which the first is this one
abbrev named_from : ℕ → Nodes → List ℕ
named_from least [] = []
named_from least (None ∷ nodes) = named_from (suc least) nodes
named_from least (Some node ∷ nodes) = least ∷ named_from (suc least) nodes

abbrev one_if : Option Node → ℕ
one_if node = cond (is_some node) 1 0

named_count : (least : ℕ) (nodes : Nodes) → length (named_from least nodes) ≡ occupied nodes
named_count least [] = refl
named_count least (None ∷ nodes) =
    let rest = named_count (suc least) nodes in
    let split = sum_by-cons one_if None nodes in
    omega (arith, rest, split)
named_count least (Some node ∷ nodes) =
    let rest = named_count (suc least) nodes in
    let split = sum_by-cons one_if (Some node) nodes in
    omega (arith, rest, split)

named_all : (least place : ℕ) (nodes : Nodes) (node : Node) → node_at nodes place ≡ Some node → Among (least + place) (named_from least nodes)
named_all least place [] node is = absurd (let clash : ◌≡◌ {A = Option Node} None (Some node) = is in cc)
named_all least zero (None ∷ nodes) node is = absurd (let clash : ◌≡◌ {A = Option Node} None (Some node) = is in cc)
named_all least zero (Some other ∷ nodes) node is = let same : least + 0 ≡ least = omega arith in subst (λ (n : ℕ). Among n (least ∷ named_from (suc least) nodes)) (sym same) first
named_all least (suc place) (None ∷ nodes) node is = let same : suc least + place ≡ least + suc place = omega arith in subst (λ (n : ℕ). Among n (named_from (suc least) nodes)) same (named_all (suc least) place nodes node is)
named_all least (suc place) (Some other ∷ nodes) node is =
    let same : suc least + place ≡ least + suc place = omega arith in
    subst (λ (n : ℕ). Among n (least ∷ named_from (suc least) nodes)) same (later (named_all (suc least) place nodes node is))

-- a number that the chart knows names a node
there_is : (a : ArenaView) (number : ℕ) (seen : PlainNode) → arena_seen a number ≡ Some seen → (node : Node) × (node_at a.nodes number ≡ Some node)
there_is a number seen is = go (node_at a.nodes number) refl
  where
    go : (found : Option Node) → node_at a.nodes number ≡ found → (node : Node) × (node_at a.nodes number ≡ Some node)
    go (Some node) found = (node, found)
    go None found = absurd (let clash : ◌≡◌ {A = Option PlainNode} None (Some seen) = sym (ap (option_map node_seen) found) ∙ is in cc)

-- it has come by fewer moves than there are nodes
pub trail_short : (a : ArenaView) (now : ℕ) (w : World) → IsWorld a now w → (begun number moves : ℕ) → Trail begun w.chart number moves → moves < occupied a.nodes
trail_short a now w world begun number moves trail =
    subst (λ (n : ℕ). moves < n) (named_count 0 a.nodes) (trail_fits begun number moves w.chart (named_from 0 a.nodes) all trail)
  where
    all : (number : ℕ) (place : Spot) → w.chart number ≡ Some place → Among number (named_from 0 a.nodes)
    all number place known =
        let (seen, is) = known_named (arena_seen a) w.chart world.index.tree number place known in
        let (node, named) = there_is a number seen is in
        subst (λ (n : ℕ). Among n (named_from 0 a.nodes)) (let same : 0 + number ≡ number = omega arith in same) (named_all 0 number a.nodes node named)
