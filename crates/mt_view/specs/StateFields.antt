-- The state of a view, read off its fields, and what they keep.
use Rattle.std.specs.Prelude.{ℕ, ◌≡◌, ◌<◌, ◌^◌, slice_index, vec_len, All}
use Rattle.std.specs.BTreeMap.{IsOrdered, values}
use Rattle.std.specs.FinMap.{from_sorted}
use Rattle.mt_types.specs.Keys.{key_cmp}
use Rattle.mt_types.specs.Views.{amount, column_of, column_sum}
use Rattle.mt_view.specs.State.{StateView}
use Rattle.mt_view.specs.declared.state.ViewState.TheInside.{Inside}

abbrev pub state_of : Inside → StateView
state_of state = record {
  spec = state.spec;
  columns = vec_len state.sums;
  at = state.at;
  rows = from_sorted state.rows.entries;
}

-- the rows are in order, the sums are theirs, and each amount is below 2 ^ 64: so no sum of fewer than 2 ^ 63 rows
--     overflows
pub record IsKept (state : Inside) : Type 0 where
  pub ordered : IsOrdered key_cmp state.rows
  pub summed : (column : ℕ) → column < vec_len state.sums
      → slice_index state.sums.items column ≡ column_sum column state.rows.entries
  pub small : (column : ℕ) → column < vec_len state.sums
      → All (λ row. amount (column_of column row) < 2 ^ 64) (values state.rows)
