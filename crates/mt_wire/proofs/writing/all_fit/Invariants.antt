use Rattle.std.proofs.Common.{drop}
use Rattle.std.specs.List.{AllByRecursion}
use Rattle.mt_wire.proofs.writing.all_fit.Given as goal

-- the items so far fit
abbrev pub invariant-loop-item : goal.invariant-loop-item
invariant-loop-item g l = AllByRecursion g.T.Writable.lengths (drop l.item-index l.items) → AllByRecursion g.T.Writable.lengths l.items
