use Rattle.rowanspan_c.proofs.Ranged.{IsWriting}
use Rattle.rowanspan_c.proofs.ranging.pairs.Given as goal

-- the rows that the walk has given are written
abbrev pub invariant-loop-many : goal.invariant-loop-many
invariant-loop-many l = IsWriting l.index.machine l.start l.asked l.fn.out.items l.walk l.out.items l.many
