use Rattle.std.proofs.Common.{◌≡◌, drop}
use Rattle.mt_replay.specs.Redo.{number_after}
use Rattle.mt_folder.specs.Logs.{last_number}
use Rattle.mt_folder.proofs.log.LogRead.last_number.Given as goal

-- the entries that are left lead to the same number
abbrev pub invariant-loop-entry : goal.invariant-loop-entry
invariant-loop-entry l = number_after l.number (drop l.entry-index l.self.entries.items) ≡ last_number l.self
