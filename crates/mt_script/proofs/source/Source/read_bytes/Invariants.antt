use Rattle.std.proofs.Common.{◌≡◌, ◌≤◌}
use Rattle.std.specs.Io.KnownBytes.{Keeps}
use Rattle.mt_script.specs.Source.{source_unread, reads_left}
use Rattle.mt_script.proofs.source.Source.read_bytes.Given as goal

-- reads that are interrupted take nothing
abbrev pub invariant-loop : goal.invariant-loop
invariant-loop g l = record {
  unread : Keeps (source_unread g.R.Read.remaining l.fn.self) (source_unread g.R.Read.remaining l.self);
  left : reads_left l.self ≤ reads_left l.fn.self;
  piece : l.self.piece ≡ l.fn.self.piece;
  taken : l.self.taken ≡ l.fn.self.taken;
}
