use Rattle.std.proofs.Common.{◌≡◌, ◌≤◌, ◌++◌, length, filter}
use Rattle.std.specs.Ordering.{is_ge}
use Rattle.std.specs.FinMap.{entries}
use Rattle.mt_types.specs.Keys.{key_cmp}
use Rattle.mt_view.proofs.state.ViewState.pairs_from.Given as goal

abbrev pub invariant-loop-key : goal.invariant-loop-key
invariant-loop-key l = record {
  listed : l.pairs.items ++ l.key-iterator ≡ filter (λ pair. is_ge (key_cmp pair.0 l.start)) (entries l.self.rows);
  fits : length l.pairs.items ≤ l.limit;
}
