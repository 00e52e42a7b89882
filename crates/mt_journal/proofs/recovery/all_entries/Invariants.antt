use Rattle.std.proofs.Common.{◌≡◌, ◌≤◌, ◌-◌, [], length}
use Rattle.mt_frame.specs.declared.entry.LogHeader.{LogHeader}
use Rattle.mt_journal.specs.Recovery.{HasRead}
use Rattle.mt_journal.proofs.recovery.all_entries.Given as goal

-- the entries so far were read
abbrev pub invariant-loop-entries : goal.invariant-loop-entries
invariant-loop-entries l = record {
  read : (header : LogHeader) → HasRead header [] l.fn.at l.bytes → HasRead header l.entries.items l.at l.bytes;
  within : l.at.end ≤ length l.bytes;
  room : l.at.room ≡ l.fn.at.room;
}

-- each entry takes bytes
abbrev pub decreases-loop-entries : goal.decreases-loop-entries
decreases-loop-entries l = length l.bytes - l.at.end
