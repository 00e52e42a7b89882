use Rattle.std.proofs.Common.{◌≡◌, ℕ, ◌+◌, ◌^◌, ◌<◌, ◌≤◌, slice_index}
use Rattle.mt_types.specs.Views.{amount, column_of}
use Rattle.mt_view.proofs.amounts.add.Given as goal

abbrev pub invariant-loop-column : goal.invariant-loop-column
invariant-loop-column l = record {
  done : (k : ℕ) → k < l.column → slice_index l.sums k ≡ slice_index l.initial.sums k + amount (column_of k l.row);
  left : (k : ℕ) → l.column ≤ k → slice_index l.sums k ≡ slice_index l.initial.sums k;
  small : (k : ℕ) → k < l.column → amount (column_of k l.row) < 2 ^ 64;
}
