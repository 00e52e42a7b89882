use Rattle.std.proofs.Common.{◌≡◌, drop}
use Rattle.mt_types.specs.Rows.{new_bytes}
use Rattle.mt_types.proofs.piece.new_bytes.Given as goal

abbrev pub invariant-loop-set : goal.invariant-loop-set
invariant-loop-set l = new_bytes (drop l.set-index l.sets) l.number l.old ≡ new_bytes l.sets l.number l.old
