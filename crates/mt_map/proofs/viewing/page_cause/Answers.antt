use Rattle.std.proofs.Common.{List, ℕ, subst}
use Rattle.mt_types.specs.declared.event.Outcome.TheVariants.{View}
use Rattle.mt_index.specs.Stands.{ReadsView}
use Rattle.mt_map.proofs.MapLemmas.{page_wants}
use Rattle.mt_map.proofs.viewing.page_cause.Goals as goal

pub returns-in-Ok : goal.returns-in-Ok
returns-in-Ok c =
    page_wants c.args.machine.now c.args.view.0 c.args.floor c.in-Ok.field-0
    (subst (λ (start : List ℕ). ReadsView c.args.machine.now c.args.view.0 c.args.floor start 1 (View c.in-Ok.field-0)) c.new.ensures c.in-Ok.ensures)
