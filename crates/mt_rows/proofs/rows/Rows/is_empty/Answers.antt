use Rattle.std.proofs.Common.{sym, ◌∙◌}
use Rattle.mt_types.proofs.MapLemmas.{seen-empty, length_of_empty}
use Rattle.mt_rows.proofs.rows.Rows.is_empty.Goals as goal

pub returns : goal.returns
returns c = (
  λ yes. sym c.self.view_is ∙ seen-empty c.self.inside.rows c.self.invariant (c.is_empty.ensures.0 yes),
  λ e. c.is_empty.ensures.1 (length_of_empty c.self.inside.rows c.self.invariant (c.self.view_is ∙ e)),
)
