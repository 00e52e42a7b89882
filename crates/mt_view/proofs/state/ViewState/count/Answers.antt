use Rattle.std.proofs.Common.{length, ap, sym, ◌∙◌}
use Rattle.std.specs.FinMap as map
use Rattle.mt_view.specs.State.{StateView}
use Rattle.mt_types.proofs.MapLemmas.{entries-seen}
use Rattle.mt_view.proofs.state.ViewState.count.Goals as goal

pub returns : goal.returns
returns c =
    c.len.ensures.len ∙ ap length (sym (entries-seen c.self.inside.rows c.self.invariant.ordered))
    ∙ ap (λ (s : StateView). length (map.entries s.rows)) c.self.view_is
