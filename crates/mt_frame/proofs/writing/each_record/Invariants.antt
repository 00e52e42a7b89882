use Rattle.std.proofs.Common.{◌≡◌, ◌++◌, All, take}
use Rattle.std.specs.List.{flat_map}
use Rattle.mt_frame.specs.Spelling.{record_spelling}
use Rattle.mt_frame.specs.Fits.{RecordFits}
use Rattle.mt_frame.proofs.writing.each_record.Given as goal

-- the records so far are written, and they fit
abbrev pub invariant-loop-record : goal.invariant-loop-record
invariant-loop-record l = record {
  written : l.out.items ≡ l.fn.out.items ++ flat_map record_spelling (take l.record-index l.records);
  fit : All RecordFits (take l.record-index l.records);
}
