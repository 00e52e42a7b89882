use Rattle.std.proofs.Common.{◌≤◌, ◌-◌}
use Rattle.mt_script.specs.Source.{source_rest, lines_left}
use Rattle.mt_audit.proofs.EndLemmas.{IsReading}
use Rattle.mt_audit.proofs.audit.read_book.Given as goal

abbrev pub invariant-loop-line : goal.invariant-loop-line
invariant-loop-line g l = record {
  reading : IsReading l.columns (source_rest g.R.Read.remaining l.initial.reader) (source_rest g.R.Read.remaining l.reader) l.number l.book;
  few : l.number ≤ 18446744073709551615 - lines_left l.reader;
}

abbrev pub decreases-loop-line : goal.decreases-loop-line
decreases-loop-line g l = lines_left l.reader
