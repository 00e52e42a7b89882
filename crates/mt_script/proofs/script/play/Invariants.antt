use Rattle.std.proofs.Common.{◌≤◌, ◌-◌}
use Rattle.mt_script.specs.Source.{source_rest, lines_left}
use Rattle.mt_streams.specs.Sinks.{sink_writer}
use Rattle.mt_script.proofs.PlayLemmas.{Playing}
use Rattle.mt_script.proofs.script.play.Given as goal

abbrev pub invariant-loop-line : goal.invariant-loop-line
invariant-loop-line g l = record {
  playing : Playing l.initial.machine.columns l.initial.machine.log.retention (source_rest g.R.Read.remaining l.initial.reader) (g.W.Write.contents (sink_writer l.initial.writer)) l.bad l.machine (source_rest g.R.Read.remaining l.reader) (g.W.Write.contents (sink_writer l.writer));
  few : l.bad ≤ 18446744073709551615 - lines_left l.reader;
}

abbrev pub decreases-loop-line : goal.decreases-loop-line
decreases-loop-line g l = lines_left l.reader
