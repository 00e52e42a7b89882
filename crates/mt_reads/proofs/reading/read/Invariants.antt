use Rattle.std.proofs.Common.{false, ◌≡◌}
use Rattle.std.specs.Option.{option_copied}
use Rattle.mt_reads.specs.Walks.{keys_to_come}
use Rattle.mt_reads.proofs.BackLemmas.{IsReadTo}
use Rattle.mt_reads.proofs.reading.read.Given as goal

-- the walk has read these rows
abbrev pub invariant-loop-rows : goal.invariant-loop-rows
invariant-loop-rows l = record {
  read : IsReadTo l.machine l.start (option_copied l.end) l.walk l.keys.items l.rows.items;
  whole : l.walk.failed ≡ false;
}

abbrev pub decreases-loop-rows : goal.decreases-loop-rows
decreases-loop-rows l = keys_to_come l.walk.at
