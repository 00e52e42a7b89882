use Rattle.std.specs.Option.{option_copied}
use Rattle.rowanspan_c.proofs.RangedBack.{IsWritingBack}
use Rattle.rowanspan_c.proofs.ranging.pairs_back.Given as goal

-- the rows that the walk has returned are written
abbrev pub invariant-loop-many : goal.invariant-loop-many
invariant-loop-many l = IsWritingBack l.index.machine (option_copied l.before) l.asked l.fn.out.items l.walk l.out.items l.many
