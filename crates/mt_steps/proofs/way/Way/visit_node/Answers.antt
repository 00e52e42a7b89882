-- Where a visit leads, by the visit.
use Rattle.std.proofs.Common.{◌≡◌, List, ℕ, refl, sym, subst, ◌∙◌}
use Rattle.mt_slice.specs.Place.{slice_number}
use Rattle.mt_arena.specs.Arena.{ArenaView}
use Rattle.mt_tree.specs.Descent.{MayVisitNode}
use Rattle.mt_tree.specs.declared.visit.Visit.{Visit}
use Rattle.mt_tree.specs.declared.visit.Visit.TheVariants.{Again as VisitAgain, To as VisitTo, Below as VisitBelow, Here as VisitHere}
use Rattle.mt_steps.specs.declared.way.Way.{Way}
use Rattle.mt_steps.specs.declared.way.Went.{Went}
use Rattle.mt_steps.specs.declared.way.Went.TheVariants.{Again}
use Rattle.mt_steps.specs.Way.{Names, Visits, went_by}
use Rattle.mt_steps.proofs.WayLemmas.{went_is, went_in}
use Rattle.mt_steps.proofs.way.Way.visit_node.Goals as goal

pub visit_node-requires : goal.visit_node-requires
visit_node-requires c = subst (λ (r : List ℕ). MayVisitNode c.args.node.now (slice_number r)) (sym c.rest_of.ensures.value) c.requires.may

pub returns-clause-value : goal.returns-clause-value
returns-clause-value c = c.led.ensures ∙ went_is c.args.key.now c.args.self.now c.args.node.now c.rest_of.result.now c.rest_of.ensures.value _ c.visit_node.ensures.value

pub returns-clause-visits : goal.returns-clause-visits
returns-clause-visits c =
    subst (λ (w : Went). (a : ArenaView) → Names a c.args.self.now.node.0 c.args.node.now → Visits a c.args.key.now c.args.self.now w) (sym c.led.ensures)
    (went_in c.args.key.now c.args.self.now c.args.node.now c.rest_of.result.now c.rest_of.ensures.value _ c.visit_node.ensures.value c.visit_node.ensures.sound c.requires.may)

-- a way begins again only by a visit that does
again_back : (way : Way) (visit : Visit) → went_by way visit ≡ Again → visit ≡ VisitAgain
again_back way VisitAgain is = refl
again_back way (VisitTo next) is = absurd (cc)
again_back way (VisitBelow top) is = absurd (cc)
again_back way VisitHere is = absurd (cc)

pub returns-clause-again : goal.returns-clause-again
returns-clause-again c = λ again. c.visit_node.ensures.again (again_back c.args.self.now c.visit_node.result (sym c.led.ensures ∙ again))
