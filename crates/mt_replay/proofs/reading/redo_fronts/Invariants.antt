use Rattle.std.proofs.Common.{◌≡◌, true, length}
use Rattle.mt_replay.specs.Redo.{entries_redone, number_after}
use Rattle.mt_replay.specs.Reading.{counted}
use Rattle.mt_replay.proofs.reading.redo_fronts.Given as goal

-- the entries that are left make what all make
abbrev pub invariant-loop-rest : goal.invariant-loop-rest
invariant-loop-rest l = record {
  ends : number_after l.number l.rest ≡ number_after l.base l.entries;
  so_far : entries_redone true l.number (counted l.rest) l.rows ≡ entries_redone true l.base (counted l.entries) l.initial.rows;
}

-- a front has entries
abbrev pub decreases-loop-rest : goal.decreases-loop-rest
decreases-loop-rest l = length l.rest
