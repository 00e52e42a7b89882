use Rattle.std.proofs.Common.{◌≡◌, drop}
use Rattle.mt_replay.specs.Redo.{number_after}
use Rattle.mt_replay.proofs.reading.last_number.Given as goal

-- the entries that are left lead to the same number
abbrev pub invariant-loop-entry : goal.invariant-loop-entry
invariant-loop-entry l = number_after l.number (drop l.entry-index l.entries) ≡ number_after l.newest l.entries
