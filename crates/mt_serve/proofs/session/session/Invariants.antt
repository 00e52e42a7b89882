use Rattle.std.proofs.Common.{◌≡◌, ◌≤◌, ◌+◌, []}
use Rattle.mt_streams.specs.Sinks.{sink_writer}
use Rattle.mt_serve.specs.declared.frames.TheConstants.{MOST_FRAMES}
use Rattle.mt_serve.specs.Sources.{frames_rest, frames_left, to_go}
use Rattle.mt_serve.proofs.ServingLemmas.{Serving}
use Rattle.mt_serve.proofs.session.session.Given as goal

abbrev pub invariant-loop-reader : goal.invariant-loop-reader
invariant-loop-reader g l = record {
  serving : Serving g.S.Shared.does g.S.Shared.shows g.S.Shared.pages g.S.Shared.glances g.S.Shared.looks l.fn.shared l.fn.pass (frames_rest g.R.Read.remaining l.fn.reader) (g.W.Write.contents (sink_writer l.fn.writer)) l.summary
      (frames_rest g.R.Read.remaining l.reader) (g.W.Write.contents (sink_writer l.writer)) l.shared l.pass;
  few : l.summary.frames + frames_left l.reader ≤ MOST_FRAMES;
  written : to_go l.reader ≡ [];
}

abbrev pub decreases-loop-reader : goal.decreases-loop-reader
decreases-loop-reader g l = frames_left l.reader
