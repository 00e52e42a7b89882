use Rattle.std.proofs.Common.{ap, sym, ◌∙◌}
use Rattle.std.specs.FinMap as map
use Rattle.mt_types.proofs.MapLemmas.{get-seen, seen-insert}
use Rattle.mt_rows.proofs.rows.Rows.set.Goals as goal

pub returns-clause-old : goal.returns-clause-old
returns-clause-old c = c.in_ok-insert.ensures.old ∙ sym (get-seen c.self.inside.rows _ c.self.invariant) ∙ ap (λ m. map.get m c.args.key) c.self.view_is

pub returns-clause-ok : goal.returns-clause-ok
returns-clause-ok c =
    seen-insert c.self.inside.rows c.insert.new.self c.args.key c.args.row c.self.invariant c.in_ok-insert.ensures.ordered c.in_ok-insert.ensures.updates
    ∙ ap (λ m. map.insert m c.args.key c.args.row) c.self.view_is
