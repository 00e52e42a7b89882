use Rattle.std.proofs.Common.{◌≡◌, ap, sym, ◌∙◌, rules}
use Rattle.std.specs.FinMap as map
use Rattle.mt_types.specs.Views.{column_sums}
use Rattle.mt_view.specs.State.{StateView}
use Rattle.mt_types.proofs.MapLemmas.{entries-seen}
use Rattle.mt_view.proofs.SumLemmas.{summed_all}
use Rattle.mt_view.proofs.state.ViewState.copied_sums.Goals as goal

pub returns : goal.returns
returns c =
    let s = c.self.inside in
    let same : c.in_ok-to_vec.field-0.items ≡ c.self.inside.sums.items = search rules in
    c.from_vec.ensures ∙ same
    ∙ summed_all c.self.inside.sums.len c.self.inside.sums.items c.self.inside.rows.entries (sym c.self.inside.sums.ok.0) c.self.invariant.summed
    ∙ ap (column_sums 0 c.self.inside.sums.len) (sym (entries-seen c.self.inside.rows c.self.invariant.ordered))
    ∙ ap (λ (z : StateView). column_sums 0 z.columns (map.entries z.rows)) c.self.view_is
