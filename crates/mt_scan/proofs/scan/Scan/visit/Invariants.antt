use Rattle.mt_scan.specs.Listed.{list_of}
use Rattle.mt_scan.proofs.VisitLemmas.{Visiting}
use Rattle.mt_scan.proofs.scan.Scan.visit.Given as goal

-- what the visit has done so far
abbrev pub invariant-loop-entry : goal.invariant-loop-entry
invariant-loop-entry l = Visiting l.fn.self l.self (list_of l.entries l.right) l.entry-index
