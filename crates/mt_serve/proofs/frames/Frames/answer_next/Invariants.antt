use Rattle.std.proofs.Common.{◌≡◌, ◌≤◌}
use Rattle.std.specs.Io.KnownBytes.{Keeps}
use Rattle.mt_streams.specs.Readers.{calls_left}
use Rattle.mt_serve.specs.Sources.{frames_rest, frames_left, to_go}
use Rattle.mt_serve.proofs.frames.Frames.answer_next.Given as goal

-- nothing is answered so far
abbrev pub invariant-loop-self : goal.invariant-loop-self
invariant-loop-self g l = record {
  rest : Keeps (frames_rest g.R.Read.remaining l.fn.self) (frames_rest g.R.Read.remaining l.self);
  left : frames_left l.self ≤ frames_left l.fn.self;
  output : to_go l.self ≡ to_go l.fn.self;
  answerer : l.answerer ≡ l.fn.answerer;
  shared : l.shared ≡ l.fn.shared;
  pass : l.pass ≡ l.fn.pass;
}

abbrev pub decreases-loop-self : goal.decreases-loop-self
decreases-loop-self g l = calls_left l.self.reader
