use Rattle.std.proofs.Common.{ap, sym, ◌∙◌}
use Rattle.std.specs.FinMap as map
use Rattle.mt_types.proofs.MapLemmas.{get-seen}
use Rattle.mt_rows.proofs.rows.Rows.get.Goals as goal

pub returns : goal.returns
returns c = c.get.ensures.value ∙ sym (get-seen c.self.inside.rows _ c.self.invariant) ∙ ap (λ m. map.get m c.args.key.now) c.self.view_is
