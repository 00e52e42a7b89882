use Rattle.std.specs.Option.{option_copied}
use Rattle.mt_reads.proofs.CountLemmas.{IsCounting}
use Rattle.mt_reads.proofs.counting.count_rows.Given as goal

-- the walk has passed this many rows of the range
abbrev pub invariant-loop-count : goal.invariant-loop-count
invariant-loop-count l = IsCounting l.machine l.from (option_copied l.to) l.walk l.count
