use Rattle.std.proofs.Common.{Option, refl, sym, subst, ap, ◌∙◌}
use Rattle.mt_types.specs.declared.row.Row.{Row}
use Rattle.mt_arena.specs.Node.{IsNode, border_of}
use Rattle.mt_tree.specs.Descent.{found_for, node_visit}
use Rattle.mt_tree.specs.declared.visit.Visit.TheVariants.{Here as VisitHere}
use Rattle.mt_steps.specs.Step.{RowIs}
use Rattle.mt_steps.specs.Way.{Visits, went_by}
use Rattle.mt_steps.specs.declared.way.Went.{Went}
use Rattle.mt_steps.proofs.WayLemmas.{went_in, names_border, no_border_here}
use Rattle.mt_steps.proofs.GetLemmas.{tells_here, found_is_row}
use Rattle.mt_steps.proofs.alone.look.Goals as goal

pub returns-in-Ok-clause-ends : goal.returns-in-Ok-clause-ends
returns-in-Ok-clause-ends c = λ a names.
    let key = c.args.key.now in
    let way = c.args.way in
    let node = c.args.node.now in
    let b = c.in-Border.border in
    let rest = c.rest_in-rest.result.now in
    let is = c.rest_in-rest.ensures.value in
    let named = names_border a way.node.0 node b names (ap border_of c.in-Border.is) in
    let tells = tells_here a way rest b named c.in-Ok.ensures.sound key c.rest_in-rest.ensures.bytes is (found_for rest b.live) refl in
    record {
      ends = λ now w begun world on.
          let place = (went_in key way node rest is VisitHere (sym c.in-Ok.ensures.ends.0 ∙ sym (ap (node_visit rest) c.in-Border.is)) (subst IsNode (sym c.in-Border.is) c.in-Ok.ensures.sound) c.requires.may.may a names).goes now w begun world on in
          subst (λ (r : Option Row). RowIs a key r) (sym c.in-Ok.ensures.ends.1)
          (found_is_row a key way now w rest (found_for rest b.live) b is named refl tells world place);
    }

pub returns-in-Err-clause-leads : goal.returns-in-Err-clause-leads
returns-in-Err-clause-leads c = λ a names.
    subst (λ (w : Went). Visits a c.args.key.now c.args.way w) (sym c.led-in-Err.ensures)
    (went_in c.args.key.now c.args.way c.args.node.now c.rest_in-rest.result.now c.rest_in-rest.ensures.value c.in-Err.visit
    (c.in-Err.ensures.leads ∙ sym (ap (node_visit c.rest_in-rest.result.now) c.in-Border.is)) (subst IsNode (sym c.in-Border.is) c.in-Err.ensures.sound) c.requires.may.may a names)

pub returns-in_default-clause-leads : goal.returns-in_default-clause-leads
returns-in_default-clause-leads c = λ a names.
    subst (λ (w : Went). Visits a c.args.key.now c.args.way w) (sym c.led.ensures)
    (went_in c.args.key.now c.args.way c.args.node.now c.rest_in-rest.result.now c.rest_in-rest.ensures.value c.visit_node.result c.visit_node.ensures.value c.visit_node.ensures.sound c.requires.may.may a names)

pub returns-in_default-clause-on : goal.returns-in_default-clause-on
returns-in_default-clause-on c = no_border_here c.rest_in-rest.result.now c.args.way c.args.node.now c.led.result (c.led.ensures ∙ ap (went_by c.args.way) c.visit_node.ensures.value) c.in_default.not-Border
