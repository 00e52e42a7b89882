-- How a change of one node of an arena is seen.
use Rattle.std.proofs.Common.{ℕ, ◌≡◌, List, [], ◌∷◌, map, Option, Some, None, IsSome, refl, ap}
use Rattle.std.specs.Option.{option_map, option_and_then}
use Rattle.std.specs.Prelude.{slice_set, IsSomeAnd}
use Rattle.mt_border.specs.Border.{BorderView}
use Rattle.mt_border.specs.Order.{IsBorder}
use Rattle.mt_interior.specs.Head.{HeadView, IsHead}
use Rattle.mt_interior.specs.Interior.{InteriorView, IsInterior}
use Rattle.mt_arena.specs.Node.{Nodes, with_node, node_at, head_of, interior_of, border_of, head_at, interior_at, border_at}
use Rattle.mt_arena.specs.Arena.{ArenaView, with_node_at, with_head_changed, with_interior_changed, with_border_changed, head_changed, interior_changed, border_changed}
use Rattle.mt_arena.specs.declared.node.Node.{Node}
use Rattle.mt_arena.specs.declared.node.Node.TheVariants.{Head, Interior, Border}
use Rattle.mt_arena.proofs.NodeLemmas.{updates-with_node, node-from_head, node-from_interior, node-from_border}
use Rattle.mt_chart.specs.Tree.{HeadNode, BorderNode, Among, first, later, head, border, interior}
use Rattle.mt_chart.specs.Chart.{Changes}
use Rattle.mt_tree.specs.Seen.{arena_seen, node_seen, head_seen, border_seen, interior_seen}

-- what is among a list is, changed so, among the changed ones
pub among_map : {A B : Type 0} (f : A → B) (x : A) (xs : List A) → Among x xs → Among (f x) (map f xs)
among_map f x [] i = elim i [ ]
among_map f x (y ∷ ys) first = first
among_map f x (y ∷ ys) (later i) = later (among_map f x ys i)

-- and what is among the changed ones is one of the list, changed so
pub record Source {A B : Type 0} (f : A → B) (y : B) (xs : List A) : Type 0 where
  pub source : A
  pub stands : Among source xs
  pub is : f source ≡ y

pub among_unmap : {A B : Type 0} (f : A → B) (y : B) (xs : List A) → Among y (map f xs) → Source f y xs
among_unmap f y [] i = elim i [ ]
among_unmap f y (x ∷ xs) first = record { source = x; stands = first; is = refl }
among_unmap f y (x ∷ xs) (later i) = let r = among_unmap f y xs i in record { source = r.source; stands = later r.stands; is = r.is }

-- the node under a number, as it is seen
pub seen-head : (a : ArenaView) (number : ℕ) (h : HeadView) → head_at a.nodes number ≡ Some h → arena_seen a number ≡ Some (head (head_seen h))
seen-head a number h is = ap (option_map node_seen) (node-from_head a.nodes number h is)

pub seen-interior : (a : ArenaView) (number : ℕ) (i : InteriorView) → interior_at a.nodes number ≡ Some i → arena_seen a number ≡ Some (interior (interior_seen i))
seen-interior a number i is = ap (option_map node_seen) (node-from_interior a.nodes number i is)

pub seen-border : (a : ArenaView) (number : ℕ) (b : BorderView) → border_at a.nodes number ≡ Some b → arena_seen a number ≡ Some (border (border_seen b))
seen-border a number b is = ap (option_map node_seen) (node-from_border a.nodes number b is)

-- what is seen as a head is one
pub head-seen : (a : ArenaView) (number : ℕ) (node : HeadNode) → arena_seen a number ≡ Some (head node) → (h : HeadView) × (head_at a.nodes number ≡ Some h) × (head_seen h ≡ node)
head-seen a number node is = go (node_at a.nodes number) is
  where
    go : (found : Option Node) → option_map node_seen found ≡ Some (head node) → (h : HeadView) × (option_and_then head_of found ≡ Some h) × (head_seen h ≡ node)
    go None e = absurd (cc)
    go (Some (Head h)) e = (h, refl, cc)
    go (Some (Interior i)) e = absurd (cc)
    go (Some (Border b)) e = absurd (cc)

-- what is seen as a border is one
pub border-seen : (a : ArenaView) (number : ℕ) (node : BorderNode) → arena_seen a number ≡ Some (border node) → (b : BorderView) × (border_at a.nodes number ≡ Some b) × (border_seen b ≡ node)
border-seen a number node is = go (node_at a.nodes number) is
  where
    go : (found : Option Node) → option_map node_seen found ≡ Some (border node) → (b : BorderView) × (option_and_then border_of found ≡ Some b) × (border_seen b ≡ node)
    go None e = absurd (cc)
    go (Some (Head h)) e = absurd (cc)
    go (Some (Interior i)) e = absurd (cc)
    go (Some (Border b)) e = (b, refl, cc)

-- one node is written, and the others stay
pub seen-written : (a : ArenaView) (number : ℕ) (old node : Node) → node_at a.nodes number ≡ Some old → Changes (arena_seen a) (arena_seen (with_node_at a number node)) number (Some (node_seen node))
seen-written a number old node is =
    let updates = updates-with_node a.nodes number node (rw is (trivial old)) in
    record { now = ap (option_map node_seen) updates.changed; rest = λ other apart. ap (option_map node_seen) (updates.others other apart) }
  where
    trivial : (n : Node) → IsSome (Some n)
    trivial n = cc

pub written-head : (a : ArenaView) (number : ℕ) (old new : HeadView) → head_at a.nodes number ≡ Some old → Changes (arena_seen a) (arena_seen (with_node_at a number (Head new))) number (Some (head (head_seen new)))
written-head a number old new is = seen-written a number (Head old) (Head new) (node-from_head a.nodes number old is)

pub written-interior : (a : ArenaView) (number : ℕ) (old new : InteriorView) → interior_at a.nodes number ≡ Some old → Changes (arena_seen a) (arena_seen (with_node_at a number (Interior new))) number (Some (interior (interior_seen new)))
written-interior a number old new is = seen-written a number (Interior old) (Interior new) (node-from_interior a.nodes number old is)

pub written-border : (a : ArenaView) (number : ℕ) (old new : BorderView) → border_at a.nodes number ≡ Some old → Changes (arena_seen a) (arena_seen (with_node_at a number (Border new))) number (Some (border (border_seen new)))
written-border a number old new is = seen-written a number (Border old) (Border new) (node-from_border a.nodes number old is)

abbrev with_nodes : ArenaView → ℕ → Option Node → ArenaView
with_nodes a number node = record a { nodes = slice_set a.nodes number node }

-- a change of the node under a number, if it is known what is there
pub changed-head : (a : ArenaView) (number : ℕ) (h : HeadView) (change : HeadView → HeadView) → head_at a.nodes number ≡ Some h → with_head_changed a number change ≡ with_node_at a number (Head (change h))
changed-head a number h change is = ap (λ (n : Option Node). with_nodes a number (option_map (head_changed change) n)) (node-from_head a.nodes number h is)

pub changed-interior : (a : ArenaView) (number : ℕ) (i : InteriorView) (change : InteriorView → InteriorView) → interior_at a.nodes number ≡ Some i → with_interior_changed a number change ≡ with_node_at a number (Interior (change i))
changed-interior a number i change is = ap (λ (n : Option Node). with_nodes a number (option_map (interior_changed change) n)) (node-from_interior a.nodes number i is)

pub changed-border : (a : ArenaView) (number : ℕ) (b : BorderView) (change : BorderView → BorderView) → border_at a.nodes number ≡ Some b → with_border_changed a number change ≡ with_node_at a number (Border (change b))
changed-border a number b change is = ap (λ (n : Option Node). with_nodes a number (option_map (border_changed change) n)) (node-from_border a.nodes number b is)

-- a number that names a node of a kind names one
named : {T : Type 0} (of : Node → Option T) (node : Option Node) → IsSome (option_and_then of node) → IsSome node
named of None there = there
named of (Some node) there = refl

-- what is written under a number is what it then names, and sound
pub sound_head : (nodes : Nodes) (number : ℕ) (new : HeadView) → IsSome (head_at nodes number) → IsHead new → IsSomeAnd (head_at (with_node nodes number (Head new)) number) IsHead
sound_head nodes number new there sound =
    let now : head_at (with_node nodes number (Head new)) number ≡ Some new = ap (option_and_then head_of) (updates-with_node nodes number (Head new) (named head_of (node_at nodes number) there)).changed in
    rw now sound

pub sound_interior : (nodes : Nodes) (number : ℕ) (new : InteriorView) → IsSome (interior_at nodes number) → IsInterior new → IsSomeAnd (interior_at (with_node nodes number (Interior new)) number) IsInterior
sound_interior nodes number new there sound =
    let now : interior_at (with_node nodes number (Interior new)) number ≡ Some new = ap (option_and_then interior_of) (updates-with_node nodes number (Interior new) (named interior_of (node_at nodes number) there)).changed in
    rw now sound

pub sound_border : (nodes : Nodes) (number : ℕ) (new : BorderView) → IsSome (border_at nodes number) → IsBorder new → IsSomeAnd (border_at (with_node nodes number (Border new)) number) IsBorder
sound_border nodes number new there sound =
    let now : border_at (with_node nodes number (Border new)) number ≡ Some new = ap (option_and_then border_of) (updates-with_node nodes number (Border new) (named border_of (node_at nodes number) there)).changed in
    rw now sound
