use Rattle.std.proofs.Common.{◌≡◌, sym, subst}
use Rattle.std.specs.Prelude.{IfOk, Ok}
use Rattle.mt_arena.specs.declared.part.Part.{Part}
use Rattle.mt_steps.specs.Entering.{entered}
use Rattle.mt_steps.proofs.EnterLemmas.{leads_by}
use Rattle.mt_steps.proofs.entering.read.Goals as goal

pub returns-in-Key-clause-leads : goal.returns-in-Key-clause-leads
returns-in-Key-clause-leads c =
    leads_by c.args.tree.now c.args.number.0 c.args.rest.now c.args.entering c.wants.result c.part.result c.at_key.result c.wants.ensures.value c.part.ensures.value c.part.ensures.sound c.part.ensures.arena
    (subst (λ (p : Part). IfOk c.at_key.result (λ next. next ≡ entered c.args.rest.now c.args.entering p)) (sym c.in-Key.is) c.at_key.ensures)

pub returns-in-Value-clause-leads : goal.returns-in-Value-clause-leads
returns-in-Value-clause-leads c =
    leads_by c.args.tree.now c.args.number.0 c.args.rest.now c.args.entering c.wants.result c.part.result c.at_value.result c.wants.ensures.value c.part.ensures.value c.part.ensures.sound c.part.ensures.arena
    (subst (λ (p : Part). IfOk c.at_value.result (λ next. next ≡ entered c.args.rest.now c.args.entering p)) (sym c.in-Value.is) c.at_value.ensures)

pub returns-in-Order-clause-leads : goal.returns-in-Order-clause-leads
returns-in-Order-clause-leads c =
    leads_by c.args.tree.now c.args.number.0 c.args.rest.now c.args.entering c.wants.result c.part.result (Ok c.at_order.result) c.wants.ensures.value c.part.ensures.value c.part.ensures.sound c.part.ensures.arena
    (subst (λ (p : Part). c.at_order.result ≡ entered c.args.rest.now c.args.entering p) (sym c.in-Order.is) c.at_order.ensures)
