use Rattle.std.proofs.Common.{◌≡◌, take}
use Rattle.mt_asked.specs.Borrowed.{sets_of}
use Rattle.mt_replay.specs.Replay.{numbered}
use Rattle.mt_replay.proofs.records.sets_of.Given as goal

-- the columns so far are numbered
abbrev pub invariant-loop-number : goal.invariant-loop-number
invariant-loop-number l = sets_of l.sets.items ≡ numbered 0 (take l.number l.columns)
