use Rattle.std.proofs.Common.{◌≡◌, take}
use Rattle.mt_promise.specs.History.{History, moment, rows}
use Rattle.mt_index.specs.Stands.{Stands}
use Rattle.mt_reads.specs.Counts.{rows_of}
use Rattle.mt_reads.proofs.gets.read_each.Given as goal

-- the rows of the keys so far are found
abbrev pub invariant-loop-key : goal.invariant-loop-key
invariant-loop-key l = (h : History) → Stands l.machine h → l.found.items ≡ rows_of (rows l.machine.columns (moment h)) l.columns (take l.key-index l.keys)
