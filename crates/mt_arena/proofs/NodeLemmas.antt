-- The nodes under their numbers, once one of them is another or none.
use Rattle.std.proofs.Common.{◌≡◌, inl, inr, ℕ, ◌+◌, ◌<◌, length, set, Bool, true, false, cond, Option, Some, None, IsSome, ap, sym, ◌∙◌, arith}
use Rattle.std.specs.Prelude.{is_some}
use Rattle.std.proofs.lemmas.Bool.{cases_lt}
use Rattle.std.proofs.lemmas.List.{get_or-set_same, get_or-set_other, get_or_past}
use Rattle.std.proofs.lemmas.List.Sums.{sum_by-set}
use Rattle.std.specs.Option.{option_and_then}
use Rattle.mt_border.specs.Border.{BorderView}
use Rattle.mt_interior.specs.Head.{HeadView}
use Rattle.mt_interior.specs.Interior.{InteriorView}
use Rattle.mt_arena.specs.Node.{Nodes, node_at, head_of, interior_of, border_of, head_at, interior_at, border_at, occupied, with_node, Updates}
use Rattle.mt_arena.specs.declared.node.Node.TheVariants.{Head, Interior, Border}
use Rattle.mt_arena.specs.declared.node.Node.{Node}

-- a number that names a node is not past the end
pub named_within : (nodes : Nodes) (number : ℕ) → IsSome (node_at nodes number) → number < length nodes
named_within nodes number named =
    elim (cases_lt number (length nodes)) [
      | inl within ↦ within
      | inr past ↦ (let none : node_at nodes number ≡ None = get_or_past nodes number None past in
          let clash : false ≡ true = sym (ap is_some none) ∙ named in cc)
    ]

-- what a write changes, if the number names a node
pub updates-with_node : (nodes : Nodes) (number : ℕ) (node : Node) → IsSome (node_at nodes number) → Updates nodes (with_node nodes number node) number (Some node)
updates-with_node nodes number node named = record {
  changed = get_or-set_same nodes number (Some node) None (named_within nodes number named);
  others = λ other apart. get_or-set_other nodes number other (Some node) None apart;
}

pub updates-without : (nodes : Nodes) (number : ℕ) → IsSome (node_at nodes number) → Updates nodes (set nodes number None) number None
updates-without nodes number named = record {
  changed = get_or-set_same nodes number None None (named_within nodes number named);
  others = λ other apart. get_or-set_other nodes number other None None apart;
}

-- how a write changes the count of nodes
count-set : (nodes : Nodes) (number : ℕ) (node : Option Node) → IsSome (node_at nodes number) → occupied (set nodes number node) + 1 ≡ occupied nodes + cond (is_some node) 1 0
count-set nodes number node named =
    let here : ◌≡◌ {A = ℕ} (cond (is_some (node_at nodes number)) 1 0) 1 = ap (λ (b : Bool). cond b 1 0) named in
    let counted = sum_by-set (λ (n : Option Node). cond (is_some n) 1 0) nodes number node None (named_within nodes number named) in
    omega (arith, here, counted)

-- one node less
pub occupied-without : (nodes : Nodes) (number : ℕ) → IsSome (node_at nodes number) → occupied (set nodes number None) + 1 ≡ occupied nodes
occupied-without nodes number named = let less : occupied (set nodes number None) + 1 ≡ occupied nodes + 0 = count-set nodes number None named in omega (arith, less)

-- another node instead of one
pub occupied-with_node : (nodes : Nodes) (number : ℕ) (node : Node) → IsSome (node_at nodes number) → occupied (with_node nodes number node) ≡ occupied nodes
occupied-with_node nodes number node named = let same : occupied (with_node nodes number node) + 1 ≡ occupied nodes + 1 = count-set nodes number (Some node) named in omega (arith, same)

-- For callers that lend the border under a number, or another part of a node: what the number names.
pub node-from_head : (nodes : Nodes) (number : ℕ) (head : HeadView) → head_at nodes number ≡ Some head → node_at nodes number ≡ Some (Head head)
node-from_head nodes number head is = go (node_at nodes number) is
  where
    go : (node : Option Node) → option_and_then head_of node ≡ Some head → node ≡ Some (Head head)
    go None e = absurd (cc)
    go (Some (Head h)) e = let same : h ≡ head = cc in ap (λ (x : HeadView). Some (Head x)) same
    go (Some (Interior i)) e = absurd (cc)
    go (Some (Border b)) e = absurd (cc)

pub node-from_interior : (nodes : Nodes) (number : ℕ) (interior : InteriorView) → interior_at nodes number ≡ Some interior → node_at nodes number ≡ Some (Interior interior)
node-from_interior nodes number interior is = go (node_at nodes number) is
  where
    go : (node : Option Node) → option_and_then interior_of node ≡ Some interior → node ≡ Some (Interior interior)
    go None e = absurd (cc)
    go (Some (Head h)) e = absurd (cc)
    go (Some (Interior i)) e = let same : i ≡ interior = cc in ap (λ (x : InteriorView). Some (Interior x)) same
    go (Some (Border b)) e = absurd (cc)

pub node-from_border : (nodes : Nodes) (number : ℕ) (border : BorderView) → border_at nodes number ≡ Some border → node_at nodes number ≡ Some (Border border)
node-from_border nodes number border is = go (node_at nodes number) is
  where
    go : (node : Option Node) → option_and_then border_of node ≡ Some border → node ≡ Some (Border border)
    go None e = absurd (cc)
    go (Some (Head h)) e = absurd (cc)
    go (Some (Interior i)) e = absurd (cc)
    go (Some (Border b)) e = let same : b ≡ border = cc in ap (λ (x : BorderView). Some (Border x)) same
