use Rattle.std.proofs.Common.{◌≡◌, map, take}
use Rattle.mt_replay.specs.Replay.{record_of}
use Rattle.mt_replay.proofs.records.records_of.Given as goal

-- the records of the deltas so far
abbrev pub invariant-loop-delta : goal.invariant-loop-delta
invariant-loop-delta l = l.records.items ≡ map record_of (take l.delta-index l.deltas)
