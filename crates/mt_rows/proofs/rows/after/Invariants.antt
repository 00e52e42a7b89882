use Rattle.std.proofs.Common.{◌≡◌, drop}
use Rattle.mt_types.specs.Rows.{after, after_from}
use Rattle.mt_rows.proofs.rows.after.Given as goal

abbrev pub invariant-loop-index : goal.invariant-loop-index
invariant-loop-index l = after_from l.columns l.index l.rows (drop l.index l.changes) ≡ after l.columns l.changes
