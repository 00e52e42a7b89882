use Rattle.std.proofs.Common.{◌≡◌, ℕ, ◌+◌, ◌<◌, ◌≤◌, slice_index}
use Rattle.mt_types.specs.Views.{amount, column_of}
use Rattle.mt_view.proofs.amounts.subtract.Given as goal

abbrev pub invariant-loop-column : goal.invariant-loop-column
invariant-loop-column l = record {
  done : (k : ℕ) → k < l.column → slice_index l.sums k + amount (column_of k l.row) ≡ slice_index l.initial.sums k;
  left : (k : ℕ) → l.column ≤ k → slice_index l.sums k ≡ slice_index l.initial.sums k;
}
