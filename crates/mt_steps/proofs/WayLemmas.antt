-- What follows from a visit on the way to a key.
use Rattle.std.proofs.Common.{ℕ, ◌≡◌, ◌<◌, ◌+◌, ◌-◌, ◌*◌, [], ◌∷◌, List, length, slice_get, Bool, true, false, if◌then◌else◌, inl, inr, refl, sym, ap, subst, ◌∙◌, arith, add-one, length-drop}
use Rattle.mt_types.specs.declared.numbers.NodeNo.{NodeNo}
use Rattle.mt_slice.specs.Place.{deeper, under, place_of, rest_at, slices_above, slice_number}
use Rattle.mt_slice.proofs.PlaceOn.{place_of-long, rest_at-next}
use Rattle.mt_arena.specs.Arena.{ArenaView}
use Rattle.mt_chart.specs.Chart.{Holds, top, on, gone}
use Rattle.mt_chart.specs.TreeLaws.{IsWhere}
use Rattle.mt_tree.specs.Seen.{arena_seen, border_seen}
use Rattle.std.specs.Prelude.{Option, Some, None, IsSome, IsSomeAnd}
use Rattle.std.specs.Option.{option_and_then}
use Rattle.mt_border.specs.Border.{BorderView}
use Rattle.mt_interior.specs.Interior.{children_up_to}
use Rattle.mt_interior.specs.declared.child.Child.{Child}
use Rattle.mt_arena.specs.declared.node.Node.{Node}
use Rattle.mt_arena.specs.declared.node.Node.TheVariants.{Head as HeadNode, Interior as InteriorNode, Border as BorderNode}
use Rattle.mt_tree.specs.declared.visit.Visit.{Visit}
use Rattle.mt_arena.specs.Node.{interior_of, border_of, border_at, IsNode}
use Rattle.mt_tree.specs.Descent.{IsHere, IsLast, LeadsOn, TellsVisit, MayVisit, MayVisitNode, is_marked, to_child, found_for, node_visit}
use Rattle.mt_tree.proofs.DescentLemmas.{leads_node, tells_node}
use Rattle.mt_tree.specs.declared.visit.Visit.TheVariants.{Again as VisitAgain, To as VisitTo, Below, Here as VisitHere}
use Rattle.mt_steps.specs.declared.way.Way.{Way}
use Rattle.mt_steps.specs.declared.way.Went.{Went}
use Rattle.mt_steps.specs.declared.way.Went.TheVariants.{To, Here}
use Rattle.mt_steps.specs.World.{World, IsWorld}
use Rattle.mt_steps.specs.Way.{prefix_of, rest_of, IsLayerOf, IsOnWay, IsAtPlace, IsHeadOf, Names, Visits, went_by, went_at}
use Rattle.mt_steps.specs.Causes.{IsMarkedAt}

-- one layer deeper
pub layer_below : (key : List ℕ) (way : Way) (node : NodeNo) → 8 < length (rest_of key way) → IsLayerOf key way → IsLayerOf key (record { node = node; layer = way.layer + 1 })
layer_below key way node long at = record {
  within = let n = length-drop (8 * way.layer) key in let m = at.within in omega (arith, n, m, long);
  under = at.under ∙ (ap (under (prefix_of key way)) (place_of-long (rest_of key way) long) ∙ (ap (λ (r : List ℕ). under (prefix_of key way) (deeper (slice_number (rest_of key way)) (place_of r))) (rest_at-next way.layer key)
      ∙ ap (λ (n : ℕ). under (slices_above n key) (place_of (rest_at (way.layer + 1) key))) (sym (add-one way.layer))));
}

module _ (a : ArenaView) (key : List ℕ) (way : Way) (rest : List ℕ) (is : rest ≡ rest_of key way) where
  pub visits-to : (next : NodeNo) → LeadsOn a way.node.0 rest (VisitTo next) → TellsVisit a way.node.0 rest (VisitTo next) → Visits a key way (To (record { node = next; layer = way.layer }))
  visits-to next leads tells = record {
    goes = λ now w begun world on.
        let held = leads.leads now w.twins w.chart begun (prefix_of key way) world.index (subst (λ (r : List ℕ). Holds w.chart begun way.node.0 (prefix_of key way) (slice_number r)) (sym is) on.held) in
        (record { layer = record { within = on.layer.within; under = on.layer.under }; held = subst (λ (r : List ℕ). Holds w.chart begun next.0 (prefix_of key way) (slice_number r)) is held }, tells, inl refl);
  }

  pub visits-below : (top : NodeNo) → LeadsOn a way.node.0 rest (Below top) → TellsVisit a way.node.0 rest (Below top) → Visits a key way (To (record { node = top; layer = way.layer + 1 }))
  visits-below below leads tells = record {
    goes = λ now w begun world on.
        let (long, known) = leads.leads now w.twins w.chart begun (prefix_of key way) world.index (subst (λ (r : List ℕ). Holds w.chart begun way.node.0 (prefix_of key way) (slice_number r)) (sym is) on.held) in
        let deep : 8 < length (rest_of key way) = subst (λ (r : List ℕ). 8 < length r) is long in
        let head : IsHeadOf w begun below.0 (slices_above (way.layer + 1) key) = subst (λ (n : ℕ). IsHeadOf w begun below.0 (slices_above n key)) (sym (add-one way.layer))
        (subst (λ (r : List ℕ). IsHeadOf w begun below.0 (slice_number r ∷ prefix_of key way)) is known) in (
          record { layer = layer_below key way below deep on.layer; held = record { role = top; low = 0; standing = head.standing; place = head.place; at_most = omega arith; since = head.since } },
          tells,
          inr (refl, head),
        );
  }

  pub visits-here : LeadsOn a way.node.0 rest VisitHere → TellsVisit a way.node.0 rest VisitHere → Visits a key way Here
  visits-here leads tells = record {
    goes = λ now w begun world on.
        let here : IsHere a w.chart way.node.0 (prefix_of key way) rest =
        leads.leads now w.twins w.chart begun (prefix_of key way) world.index (subst (λ (r : List ℕ). Holds w.chart begun way.node.0 (prefix_of key way) (slice_number r)) (sym is) on.held) in
        let told = tells here.border here.named in
        at w here told.0 told.1 on.layer;
  }
    where
      at : (w : World) (here : IsHere a w.chart way.node.0 (prefix_of key way) rest) → here.border.version.deleted ≡ false → IsLast (found_for rest here.border.live) → IsLayerOf key way → IsAtPlace a key way w
      at w here alive last layer = record {
        layer = layer;
        here = record { border = here.border; named = here.named; stands = subst (λ (r : List ℕ). IsWhere (arena_seen a) w.chart way.node.0 (prefix_of key way) (border_seen here.border) (place_of r)) is here.stands };
        alive = alive;
        last = subst (λ (r : List ℕ). IsLast (found_for r here.border.live)) is last;
      }

-- ---- the visit of a node that is lent alone
pub names_may : (a : ArenaView) (number : ℕ) (node : Node) (slice : ℕ) → Names a number node → MayVisitNode node slice → MayVisit a number slice
names_may a number node slice names may = record {
  named = subst (λ (n : Option Node). IsSome n) (sym names.named) refl;
  has_child = λ i of. may.has_child i (sym (ap (option_and_then interior_of) names.named) ∙ of);
}

module _ (key : List ℕ) (way : Way) (node : Node) (rest : List ℕ) (is : rest ≡ rest_of key way) (visit : Visit) (value : visit ≡ node_visit rest node) where
  -- what it was, by the node
  pub went_is : went_by way visit ≡ went_at key way node
  went_is = ap (went_by way) (value ∙ ap (λ (r : List ℕ). node_visit r node) is)

  tells_of : (a : ArenaView) (v : Visit) → LeadsOn a way.node.0 rest v → TellsVisit a way.node.0 rest v → Visits a key way (went_by way v)
  tells_of a VisitAgain leads tells = record { goes = λ now w begun world on. tt }
  tells_of a (VisitTo next) leads tells = visits-to a key way rest is next leads tells
  tells_of a (Below below) leads tells = visits-below a key way rest is below leads tells
  tells_of a VisitHere leads tells = visits-here a key way rest is leads tells

  -- what it tells in each arena in which the number names it
  pub went_in : IsNode node → MayVisitNode node (slice_number (rest_of key way)) → (a : ArenaView) → Names a way.node.0 node → Visits a key way (went_by way visit)
  went_in sound may a names =
      let may_visit = subst (λ (r : List ℕ). MayVisit a way.node.0 (slice_number r)) (sym is) (names_may a way.node.0 node (slice_number (rest_of key way)) names may) in
      subst (λ (v : Visit). Visits a key way (went_by way v)) (sym value)
      (tells_of a (node_visit rest node) (leads_node a way.node.0 rest node names.named sound may_visit) (tells_node a way.node.0 rest node names.named sound may_visit))

-- every way begins at the head of layer 0
pub starts : (a : ArenaView) (now : ℕ) (w : World) (begun : ℕ) (key : List ℕ) → IsWorld a now w → IsOnWay begun key (record { node = record { 0 = 0 }; layer = 0 }) w
starts a now w begun key world = record {
  layer = record { within = omega arith; under = refl };
  held = record { role = top; low = 0; standing = on true; place = world.index.tree.layer_0; at_most = omega arith; since = λ epoch is. absurd (let clash : on true ≡ gone epoch = is in cc) };
}

-- and that is the head of layer 0
pub starts_at_head : (a : ArenaView) (now : ℕ) (w : World) (begun : ℕ) → IsWorld a now w → IsHeadOf w begun 0 []
starts_at_head a now w begun world = record { standing = on true; place = world.index.tree.layer_0; since = λ epoch is. absurd (let clash : on true ≡ gone epoch = is in cc) }

-- ---- the border where a call comes to its place
if_here : (visit : Visit) (way : Way) → went_by way visit ≡ Here → visit ≡ VisitHere
if_here VisitAgain way e = cc
if_here (VisitTo next) way e = cc
if_here (Below below) way e = cc
if_here VisitHere way e = refl

-- a head and an interior lead on
leads_on : (deleted : Bool) (next : Visit) → (next ≡ VisitHere → ⊥) → (if deleted then VisitAgain else next) ≡ VisitHere → ⊥
leads_on true next other e = cc
leads_on false next other e = other e

no_child_here : (child : Option Child) → to_child child ≡ VisitHere → ⊥
no_child_here None e = cc
no_child_here (Some child) e = cc

pub border_here : (rest : List ℕ) (node : Node) → node_visit rest node ≡ VisitHere → IsSome (border_of node)
border_here rest (HeadNode h) e = absurd (leads_on h.version.deleted (VisitTo h.root) (λ f. cc) e)
border_here rest (InteriorNode i) e = absurd (leads_on i.version.deleted (to_child (slice_get i.children (children_up_to (slice_number rest) i.children - 1))) (no_child_here _) e)
border_here rest (BorderNode b) e = refl

-- a way ends in a border
pub no_border_here : (rest : List ℕ) (way : Way) (node : Node) (went : Went) → went ≡ went_by way (node_visit rest node) → ((b : BorderView) → node ≡ BorderNode b → ⊥) → went ≡ Here → ⊥
no_border_here rest way (HeadNode h) went is not e = (let some : IsSome (border_of (HeadNode h)) = border_here rest (HeadNode h) (if_here (node_visit rest (HeadNode h)) way (sym is ∙ e)) in cc)
no_border_here rest way (InteriorNode i) went is not e = (let some : IsSome (border_of (InteriorNode i)) = border_here rest (InteriorNode i) (if_here (node_visit rest (InteriorNode i)) way (sym is ∙ e)) in cc)
no_border_here rest way (BorderNode b) went is not e = not b refl

-- ---- what is true of a node that is lent, said of its number
pub names_border : (a : ArenaView) (number : ℕ) (node : Node) (b : BorderView) → Names a number node → border_of node ≡ Some b → border_at a.nodes number ≡ Some b
names_border a number node b names is = ap (option_and_then border_of) names.named ∙ is

pub names_marked : (a : ArenaView) (number : ℕ) (node : Node) → Names a number node → is_marked node ≡ true → IsMarkedAt a number
names_marked a number node names marked = subst (λ (n : Option Node). IsSomeAnd n (λ x. is_marked x ≡ true)) (sym names.named) marked
