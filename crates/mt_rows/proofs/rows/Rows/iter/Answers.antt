use Rattle.std.proofs.Common.{ap, sym, ◌∙◌}
use Rattle.std.specs.FinMap as map
use Rattle.mt_types.proofs.MapLemmas.{entries-seen}
use Rattle.mt_rows.proofs.rows.Rows.iter.Goals as goal

pub returns : goal.returns
returns c = c.iter.ensures.rest ∙ sym (entries-seen c.self.inside.rows c.self.invariant) ∙ ap map.entries c.self.view_is
