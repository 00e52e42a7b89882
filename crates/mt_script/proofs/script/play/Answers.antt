use Rattle.std.proofs.Common.{◌<◌, arith}
use Rattle.mt_script.proofs.PlayLemmas.{Playing-none, Playing-more, Played-end, Broke-between, Broke-sending, went_whole}
use Rattle.std.proofs.lemmas.Result.{err_from_is_err_and}
use Rattle.mt_script.specs.Script.{reply_lines}
use Rattle.mt_script.specs.Source.{source_rest, source_unread, lines_left}
use Rattle.mt_streams.specs.Sinks.{sink_writer}
use Rattle.mt_script.proofs.script.play.Goals as goal

pub loop-line-init : goal.loop-line-init
loop-line-init g c = record {
  playing = Playing-none c.args.machine.now (source_rest g.R.Read.remaining c.args.reader.now) (g.W.Write.contents (sink_writer c.args.writer.now)) c.requires;
  few = omega arith;
}

pub returns-clause-ok : goal.returns-clause-ok
returns-clause-ok g c = Played-end (source_rest g.R.Read.remaining c.next_line.new.self) c.loop-line.invariant.playing (rw c.in_default.is at c.in_ok-line.ensures.line)

pub returns-in_err-line-clause-err : goal.returns-in_err-line-clause-err
returns-in_err-line-clause-err g c =
    let p = err_from_is_err_and c.from_residual.result c.from_residual.ensures.1 in
    rw (p.1, p.2) (Broke-between c.in_err-line.field-0.0 (source_unread g.R.Read.remaining c.next_line.new.self) c.loop-line.invariant.playing c.in_err-line.ensures.whole)

pub returns-in_err-reply-clause-err : goal.returns-in_err-reply-clause-err
returns-in_err-reply-clause-err g c =
    let p = err_from_is_err_and c.from_residual-in_err-reply.result c.from_residual-in_err-reply.ensures.1 in
    let memory = c.in_err-reply.ensures.err in
    rw (p.1, p.2) (Broke-between c.in_err-reply.field-0.0 (source_unread g.R.Read.remaining c.next_line.new.self) c.loop-line.invariant.playing (λ read. absurd (cc memory.0)))

pub returns-in_err-send-clause-err : goal.returns-in_err-send-clause-err
returns-in_err-send-clause-err g c =
    let h = c.in_err-send.ensures.sent in
    let p = err_from_is_err_and c.from_residual-in_err-send.result c.from_residual-in_err-send.ensures.1 in
    rw (p.1, p.2)
    (Broke-sending c.in_err-send.field-0.0 (source_unread g.R.Read.remaining c.next_line.new.self) c.answer.new.machine (source_rest g.R.Read.remaining c.next_line.new.self) (g.W.Write.contents (sink_writer c.send.new.writer))
    c.in-Some.line.items c.in_ok-reply.reply h.0 h.1 c.loop-line.invariant.playing (rw c.in-Some.is at c.in_ok-line.ensures.line)
    (rw c.deref.ensures.value at c.in_ok-reply.ensures.stands) c.answer.ensures.options h.2 h.3 c.in_err-send.ensures.fault)

pub loop-line-preserved : goal.loop-line-preserved
loop-line-preserved g c =
    let h = c.in_ok-send.ensures.sent in
    let fewer : lines_left c.next_line.new.self < lines_left c.loop-line.reader = rw c.in-Some.is at c.in_ok-line.ensures.fewer in record {
      playing = Playing-more c.answer.new.machine (source_rest g.R.Read.remaining c.next_line.new.self) (g.W.Write.contents (sink_writer c.send.new.writer)) c.count-bad.result
          c.in-Some.line.items c.in_ok-reply.reply c.loop-line.invariant.playing (rw c.in-Some.is at c.in_ok-line.ensures.line)
          (rw c.deref.ensures.value at c.in_ok-reply.ensures.stands) c.answer.ensures.options
          (went_whole (reply_lines c.in_ok-reply.reply) h.0 h.1 (g.W.Write.contents (sink_writer c.loop-line.writer)) (g.W.Write.contents (sink_writer c.send.new.writer)) h.2 h.3 h.4) c.count-bad.ensures.value;
      few = omega (arith, c.loop-line.invariant.few, c.count-bad.ensures.within, c.next_line.ensures.within, fewer);
    }
