-- The number where the call stands names the node that is lent.
use Rattle.std.proofs.Common.{◌≡◌, Option, true, sym, subst}
use Rattle.std.specs.Prelude.{IsSomeAnd}
use Rattle.mt_arena.specs.declared.node.Node.{Node}
use Rattle.mt_tree.specs.Descent.{is_marked}
use Rattle.mt_tree.proofs.DescentLemmas.{may_visit}
use Rattle.mt_steps.specs.Way.{rest_of, went_at}
use Rattle.mt_steps.proofs.way.Way.visit.Goals as goal

pub node-requires : goal.node-requires
node-requires c = c.requires.may.named

pub visit_node-requires : goal.visit_node-requires
visit_node-requires c = record { within = c.requires.within; may = may_visit c.args.tree.now c.args.self.now.node.0 (rest_of c.args.key.now c.args.self.now) c.node.result.now c.node.ensures.value c.requires.may }

pub returns-clause-visits : goal.returns-clause-visits
returns-clause-visits c = c.visit_node.ensures.visits c.args.tree.now (record { named = c.node.ensures.value; sound = c.node.ensures.arena })

pub returns-clause-value : goal.returns-clause-value
returns-clause-value c = subst (λ (n : Option Node). IsSomeAnd n (λ node. c.visit_node.result ≡ went_at c.args.key.now c.args.self.now node)) (sym c.node.ensures.value) c.visit_node.ensures.value

pub returns-clause-again : goal.returns-clause-again
returns-clause-again c = λ again. subst (λ (n : Option Node). IsSomeAnd n (λ node. is_marked node ≡ true)) (sym c.node.ensures.value) (c.visit_node.ensures.again again)
