-- A search at the border of a key is of the border that is there.
use Rattle.std.proofs.Common.{ℕ, List, sym, subst, ap, ◌∙◌}
use Rattle.mt_arena.specs.Node.{IsNode, border_of}
use Rattle.mt_tree.specs.Descent.{IsFoundAt, found_for, node_visit}
use Rattle.mt_tree.specs.declared.visit.Visit.TheVariants.{Here as VisitHere}
use Rattle.mt_tree.proofs.DescentLemmas.{may_visit}
use Rattle.mt_steps.specs.Way.{Names, Visits, rest_of}
use Rattle.mt_steps.specs.declared.way.Went.{Went}
use Rattle.mt_steps.proofs.WayLemmas.{went_in, names_border}
use Rattle.mt_steps.proofs.way.Way.arrive.Goals as goal

pub node-node-requires : goal.node-node-requires
node-node-requires c = c.requires.may.named

pub visit_node-requires : goal.visit_node-requires
visit_node-requires c = record { within = c.requires.within; may = may_visit c.args.tree.now c.args.self.now.node.0 (rest_of c.args.key.now c.args.self.now) c.node-node.result.now c.node-node.ensures.value c.requires.may }

pub returns-in-Ok-clause-ends : goal.returns-in-Ok-clause-ends
returns-in-Ok-clause-ends c =
    let a = c.args.tree.now in
    let key = c.args.key.now in
    let way = c.args.self.now in
    let node = c.node-node.result.now in
    let rest = c.rest_of.result.now in
    let is = c.rest_of.ensures.value in
    let names : Names a way.node.0 node = record { named = c.node-node.ensures.value; sound = c.node-node.ensures.arena } in
    went_in key way node rest is VisitHere (sym c.in-Ok.ensures.ends.0 ∙ sym (ap (node_visit rest) c.in-Border.is)) (subst IsNode (sym c.in-Border.is) c.in-Ok.ensures.sound) (may_visit a way.node.0 (rest_of key way) node c.node-node.ensures.value c.requires.may) a names

pub returns-in-Ok-clause-finds : goal.returns-in-Ok-clause-finds
returns-in-Ok-clause-finds c =
    let a = c.args.tree.now in
    let key = c.args.key.now in
    let way = c.args.self.now in
    let node = c.node-node.result.now in
    let rest = c.rest_of.result.now in
    let is = c.rest_of.ensures.value in
    let names : Names a way.node.0 node = record { named = c.node-node.ensures.value; sound = c.node-node.ensures.arena } in
    let b = c.in-Border.border in
    record {
      border = b;
      named = names_border a way.node.0 node b names (ap border_of c.in-Border.is);
      is = c.in-Ok.ensures.ends.1 ∙ ap (λ (r : List ℕ). found_for r b.live) is;
      stands = subst (λ (r : List ℕ). IsFoundAt r b.live c.in-Ok.found) is c.in-Ok.ensures.stands;
    }

pub returns-in-Err-clause-leads : goal.returns-in-Err-clause-leads
returns-in-Err-clause-leads c =
    let a = c.args.tree.now in
    let key = c.args.key.now in
    let way = c.args.self.now in
    let node = c.node-node.result.now in
    let rest = c.rest_of.result.now in
    let is = c.rest_of.ensures.value in
    let names : Names a way.node.0 node = record { named = c.node-node.ensures.value; sound = c.node-node.ensures.arena } in
    subst (λ (w : Went). Visits a key way w) (sym c.led.ensures)
    (went_in key way node rest is c.in-Err.visit (c.in-Err.ensures.leads ∙ sym (ap (node_visit rest) c.in-Border.is)) (subst IsNode (sym c.in-Border.is) c.in-Err.ensures.sound) (may_visit a way.node.0 (rest_of key way) node c.node-node.ensures.value c.requires.may) a names)
