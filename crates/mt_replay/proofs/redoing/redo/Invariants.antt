use Rattle.std.proofs.Common.{◌≡◌, drop}
use Rattle.mt_replay.specs.Redo.{entries_redone, number_after}
use Rattle.mt_replay.proofs.redoing.redo.Given as goal

-- the entries that are left make what all make
abbrev pub invariant-loop-entry : goal.invariant-loop-entry
invariant-loop-entry l = record {
  counted : number_after l.number (drop l.entry-index l.entries) ≡ number_after l.newest l.entries;
  so_far : entries_redone l.with_parts l.number (drop l.entry-index l.entries) l.rows ≡ entries_redone l.with_parts l.newest l.entries l.initial.rows;
}
