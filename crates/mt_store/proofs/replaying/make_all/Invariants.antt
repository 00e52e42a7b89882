use Rattle.std.proofs.Common.{map, take}
use Rattle.mt_replay.specs.Replay.{change_again}
use Rattle.mt_store.specs.Extending.{Adds}
use Rattle.mt_store.proofs.replaying.make_all.Given as goal

-- the commits so far are made
abbrev pub invariant-loop-kept : goal.invariant-loop-kept
invariant-loop-kept l = Adds l.initial.index.machine (map change_again (take l.kept-index l.records)) l.index.machine
