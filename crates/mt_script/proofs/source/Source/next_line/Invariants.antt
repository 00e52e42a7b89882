use Rattle.std.proofs.Common.{◌≤◌, ◌+◌, length}
use Rattle.mt_script.specs.Source.{source_kept, source_unread, source_rest, reads_left, lines_left}
use Rattle.mt_script.proofs.LineLemmas.{IsTaking}
use Rattle.mt_script.proofs.source.Source.next_line.Given as goal

abbrev pub invariant-loop-whole : goal.invariant-loop-whole
invariant-loop-whole g l = record {
  taking : IsTaking (source_rest g.R.Read.remaining l.fn.self) l.line.items (source_kept l.self) (source_unread g.R.Read.remaining l.self);
  left : lines_left l.self + length l.line.items ≤ lines_left l.fn.self;
}

abbrev pub decreases-loop-whole : goal.decreases-loop-whole
decreases-loop-whole g l = reads_left l.self
