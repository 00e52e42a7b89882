use Rattle.std.proofs.Common.{ap, sym, ◌∙◌}
use Rattle.std.specs.FinMap as map
use Rattle.mt_types.proofs.MapLemmas.{len-seen}
use Rattle.mt_rows.proofs.rows.Rows.len.Goals as goal

pub returns : goal.returns
returns c = c.len.ensures.len ∙ sym (len-seen c.self.inside.rows c.self.invariant) ∙ ap map.len c.self.view_is
