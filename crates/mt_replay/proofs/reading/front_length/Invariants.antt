use Rattle.std.proofs.Common.{◌≡◌, ◌+◌, drop}
use Rattle.mt_replay.specs.Reading.{front_length}
use Rattle.mt_replay.proofs.reading.front_length.Given as goal

-- the entries so far are no seals and no closed frames
abbrev pub invariant-loop-at : goal.invariant-loop-at
invariant-loop-at l = l.at + front_length (drop l.at l.entries) ≡ front_length l.entries
