use Rattle.std.proofs.Common.{refl, subst}
use Rattle.mt_types.specs.declared.event.Event.TheVariants.{ViewRead}
use Rattle.mt_index.specs.Events.{Makes}
use Rattle.mt_index.specs.Viewing.{page_outcome}
use Rattle.mt_shared.specs.Inner.{InnerView}
use Rattle.mt_shared.specs.Inside.{inner_view}
use Rattle.mt_shared.proofs.PageLemmas.{page_floor, page_limits, page_makes}
use Rattle.mt_shared.proofs.inner.Inner.page.Goals as goal

pub returns-clause-pages : goal.returns-clause-pages
returns-clause-pages c = record {
  may = ((λ some. c.may_page.ensures.0 c.if-not-may_page.false), λ may. refl);
  page = subst (λ (k : InnerView). Makes k.machine (ViewRead c.args.view c.args.floor c.args.start.now c.args.limit) (page_outcome c.page.result) k.machine) c.self.view_is
      (page_makes c.self.inside.machine c.args.view c.args.floor c.args.start.now c.args.limit (page_outcome c.page.result) c.page.ensures);
}

pub returns-clause-floor : goal.returns-clause-floor
returns-clause-floor c = page_floor (inner_view c.self.inside) c.self.invariant c.args.view c.args.floor c.args.start.now c.args.limit c.page.result c.page.ensures

pub returns-clause-limited : goal.returns-clause-limited
returns-clause-limited c = page_limits (inner_view c.self.inside) c.self.invariant c.args.view c.args.floor c.args.start.now c.args.limit c.page.result c.page.ensures
