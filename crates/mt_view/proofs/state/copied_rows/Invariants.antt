use Rattle.std.proofs.Common.{◌≡◌, ◌++◌}
use Rattle.mt_view.proofs.state.copied_rows.Given as goal

abbrev pub invariant-loop-key : goal.invariant-loop-key
invariant-loop-key l = l.copied.entries ++ l.key-iterator ≡ l.rows.entries
