use Rattle.std.proofs.Common.{refl, sym, ap, subst, []}
use Rattle.mt_commit.specs.Log.{LogView}
use Rattle.mt_slice.specs.Place.{place_of}
use Rattle.mt_promise.proofs.LimitedLemmas.{opened_few}
use Rattle.mt_view.specs.Views.{ViewsView}
use Rattle.mt_index.specs.Calls.{CallsView}
use Rattle.mt_index.specs.Stands.{Stands}
use Rattle.mt_index.proofs.OpenStands.{opens-stands, new_world, new_untaken}
use Rattle.mt_index.proofs.LaterStands.{seen}
use Rattle.mt_index.proofs.machine.Machine.open.Goals as goal

pub invariant_of-result : goal.invariant_of-result
invariant_of-result c = (
  [],
  subst (λ (v : ViewsView). Stands (seen c.args.options.columns 0 c.in_ok-open.field-0 c.open-2.result c.in_ok-new.field-0 v) []) (sym c.new-2.ensures)
      (subst (λ (k : CallsView). Stands (seen c.args.options.columns 0 c.in_ok-open.field-0 c.open-2.result k (record { built = 0; building = 0; views = [] })) []) (sym c.in_ok-new.ensures)
      (opens-stands c.args.options.columns c.args.options.log_capacity c.args.options.log_retention c.in_ok-open.field-0 c.open-2.result _ (opened_few c.args.options.columns c.args.options.log_capacity c.args.options.log_retention (sym c.in_default.ensures)) (new_world c.in_ok-open.field-0 c.in_ok-open.ensures.new _ (c.in_ok-open.ensures.index c.in_ok-open.ensures.new) c.in_ok-open.ensures.empty) (new_untaken c.in_ok-open.field-0 c.in_ok-open.ensures.new _ _ (new_world c.in_ok-open.field-0 c.in_ok-open.ensures.new _ (c.in_ok-open.ensures.index c.in_ok-open.ensures.new) c.in_ok-open.ensures.empty)) (λ key row. c.in_ok-open.ensures.empty (place_of key) row) c.open-2.ensures.empty)),
)

pub returns : goal.returns
returns c = record {
  base = ap (λ (l : LogView). l.base) c.open-2.ensures.empty;
  fault = rw (sym c.in_default.ensures) tt;
  idle = ap (λ (k : CallsView). k.calls) c.in_ok-new.ensures;
  opened = (
    refl,
    (ap (λ (l : LogView). l.capacity) c.open-2.ensures.empty, ap (λ (l : LogView). l.retention) c.open-2.ensures.empty),
    subst (λ (v : ViewsView). Stands (seen c.args.options.columns 0 c.in_ok-open.field-0 c.open-2.result c.in_ok-new.field-0 v) []) (sym c.new-2.ensures)
        (subst (λ (k : CallsView). Stands (seen c.args.options.columns 0 c.in_ok-open.field-0 c.open-2.result k (record { built = 0; building = 0; views = [] })) []) (sym c.in_ok-new.ensures)
        (opens-stands c.args.options.columns c.args.options.log_capacity c.args.options.log_retention c.in_ok-open.field-0 c.open-2.result _ (opened_few c.args.options.columns c.args.options.log_capacity c.args.options.log_retention (sym c.in_default.ensures)) (new_world c.in_ok-open.field-0 c.in_ok-open.ensures.new _ (c.in_ok-open.ensures.index c.in_ok-open.ensures.new) c.in_ok-open.ensures.empty) (new_untaken c.in_ok-open.field-0 c.in_ok-open.ensures.new _ _ (new_world c.in_ok-open.field-0 c.in_ok-open.ensures.new _ (c.in_ok-open.ensures.index c.in_ok-open.ensures.new) c.in_ok-open.ensures.empty)) (λ key row. c.in_ok-open.ensures.empty (place_of key) row) c.open-2.ensures.empty)),
  );
}
