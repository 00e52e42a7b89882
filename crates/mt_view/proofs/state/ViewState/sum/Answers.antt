use Rattle.std.proofs.Common.{◌<◌, length, ap, sym, subst, ◌∙◌, arith}
use Rattle.std.proofs.lemmas.List.{get_or_read}
use Rattle.std.specs.FinMap as map
use Rattle.mt_types.specs.Views.{column_sum}
use Rattle.mt_view.specs.State.{StateView}
use Rattle.mt_types.proofs.MapLemmas.{entries-seen}
use Rattle.mt_view.proofs.SumLemmas.{sum_bound}
use Rattle.mt_view.proofs.state.ViewState.sum.Goals as goal

pub returns-clause-value : goal.returns-clause-value
returns-clause-value c =
    let there : c.args.column < c.self.inside.sums.len = subst (λ (s : StateView). c.args.column < s.columns) (sym c.self.view_is) c.requires in
    let size = c.self.inside.sums.ok.0 in
    get_or_read c.self.inside.sums.items c.args.column c.index.result.now (omega arith) c.index.ensures 0
    ∙ c.self.invariant.summed c.args.column there
    ∙ ap (column_sum c.args.column) (sym (entries-seen c.self.inside.rows c.self.invariant.ordered))
    ∙ ap (λ (s : StateView). column_sum c.args.column (map.entries s.rows)) c.self.view_is

pub returns-clause-bounded : goal.returns-clause-bounded
returns-clause-bounded c =
    let there : c.args.column < c.self.inside.sums.len = subst (λ (s : StateView). c.args.column < s.columns) (sym c.self.view_is) c.requires in
    let size = c.self.inside.sums.ok.0 in
    let read = get_or_read c.self.inside.sums.items c.args.column c.index.result.now (omega arith) c.index.ensures 0 in
    let is = c.self.invariant.summed c.args.column there in
    let bound = sum_bound c.args.column c.self.inside.rows.entries (c.self.invariant.small c.args.column there) in
    let rows = ap length (sym (entries-seen c.self.inside.rows c.self.invariant.ordered)) ∙ ap (λ (s : StateView). length (map.entries s.rows)) c.self.view_is in
    omega (arith, read, is, bound, rows)
