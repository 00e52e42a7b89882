use Rattle.std.proofs.Common.{ap, sym, ◌∙◌}
use Rattle.std.specs.FinMap as map
use Rattle.mt_types.proofs.MapLemmas.{get-seen, seen-remove}
use Rattle.mt_rows.proofs.rows.Rows.remove.Goals as goal

pub returns-clause-old : goal.returns-clause-old
returns-clause-old c = c.remove.ensures.value ∙ sym (get-seen c.self.inside.rows _ c.self.invariant) ∙ ap (λ m. map.get m c.args.key.now) c.self.view_is

pub returns-clause-after : goal.returns-clause-after
returns-clause-after c =
    seen-remove c.self.inside.rows c.remove.new.self c.args.key.now c.self.invariant c.remove.ensures.ordered c.remove.ensures.updates
    ∙ ap (λ m. map.remove m c.args.key.now) c.self.view_is
