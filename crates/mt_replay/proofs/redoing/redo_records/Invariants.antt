use Rattle.std.proofs.Common.{◌≡◌, ◌+◌, drop}
use Rattle.mt_replay.specs.Redo.{records_redone}
use Rattle.mt_replay.proofs.redoing.redo_records.Given as goal

-- the records that are left make what all make
abbrev pub invariant-loop-record : goal.invariant-loop-record
invariant-loop-record l = record {
  counted : l.number ≡ l.newest + l.record-index;
  so_far : records_redone l.number (drop l.record-index l.records) l.rows ≡ records_redone l.newest l.records l.initial.rows;
}
