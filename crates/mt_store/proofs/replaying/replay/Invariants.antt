use Rattle.std.proofs.Common.{map, take}
use Rattle.mt_replay.specs.Replay.{change_again, records_in}
use Rattle.mt_store.specs.Extending.{Adds}
use Rattle.mt_store.proofs.replaying.replay.Given as goal

-- the commits of the entries so far are made
abbrev pub invariant-loop-entry : goal.invariant-loop-entry
invariant-loop-entry l = Adds l.initial.index.machine (map change_again (records_in (take l.entry-index l.entries))) l.index.machine
