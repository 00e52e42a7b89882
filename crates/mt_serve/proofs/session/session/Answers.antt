use Rattle.std.proofs.Common.{◌≡◌, ◌<◌, ◌+◌, ◌++◌, List, ℕ, Option, length, arith, refl, ap, sym, subst, ◌∙◌}
use Rattle.std.proofs.lemmas.Result.{err_from_is_err_and}
use Rattle.std.specs.Io.KnownBytes.{Appends}
use Rattle.mt_streams.specs.Sinks.{sink_writer}
use Rattle.mt_wire.specs.Frames.{reply_frame}
use Rattle.mt_serve.specs.Sources.{LosesFrame, to_go, frames_rest, frames_unread, frames_left}
use Rattle.mt_serve.proofs.ServingLemmas.{Serving, serving_none, serving_more, broken_in, broken_at}
use Rattle.mt_serve.proofs.session.session.Goals as goal

pub loop-reader-init : goal.loop-reader-init
loop-reader-init g c = record {
  serving = subst (λ (rest : Option (List ℕ)). Serving g.S.Shared.does g.S.Shared.shows g.S.Shared.pages g.S.Shared.glances g.S.Shared.looks c.args.shared.now c.args.pass.now (frames_rest g.R.Read.remaining c.args.reader.now) (g.W.Write.contents (sink_writer c.args.writer.now)) (record { frames = 0; queries = 0 }) rest (g.W.Write.contents (sink_writer c.args.writer.now)) c.args.shared.now c.args.pass.now)
      (sym c.forget.ensures.rest) (serving_none g.S.Shared.does g.S.Shared.shows g.S.Shared.pages g.S.Shared.glances g.S.Shared.looks c.args.shared.now c.args.pass.now (frames_rest g.R.Read.remaining c.args.reader.now) (g.W.Write.contents (sink_writer c.args.writer.now)));
  few = (let same = c.forget.ensures.left in omega (arith, c.requires, same));
  written = c.forget.ensures.gone;
}

pub returns-in_err-answer_next-clause-broken : goal.returns-in_err-answer_next-clause-broken
returns-in_err-answer_next-clause-broken g c =
    let p = err_from_is_err_and c.from_residual.result c.from_residual.ensures.1 in
    rw (p.1, p.2) (broken_at g.S.Shared.does g.S.Shared.shows g.S.Shared.pages g.S.Shared.glances g.S.Shared.looks c.args.shared.now c.loop-reader.shared c.answer_next.new.shared c.args.pass.now c.loop-reader.pass c.answer_next.new.pass
    (frames_rest g.R.Read.remaining c.args.reader.now) (g.W.Write.contents (sink_writer c.args.writer.now)) (frames_rest g.R.Read.remaining c.loop-reader.reader) (g.W.Write.contents (sink_writer c.loop-reader.writer))
    (frames_unread g.R.Read.remaining c.answer_next.new.self) c.loop-reader.summary c.in_err-answer_next.field-0.0 c.loop-reader.invariant.serving c.in_err-answer_next.ensures.only c.in_err-answer_next.ensures.fault)

pub returns-in_err-send-clause-broken : goal.returns-in_err-send-clause-broken
returns-in_err-send-clause-broken g c =
    let p = err_from_is_err_and c.from_residual-in_err-send.result c.from_residual-in_err-send.ensures.1 in
    let next = c.in_ok-answer_next.ensures.some c.if-branch.true in
    let reply : to_go c.answer_next.new.self ≡ reply_frame next.reply = next.written ∙ ap (λ (l : List ℕ). l ++ reply_frame next.reply) c.loop-reader.invariant.written in
    let part = c.in_err-send.ensures.part in
    rw (p.1, p.2) (broken_in g.S.Shared.does g.S.Shared.shows g.S.Shared.pages g.S.Shared.glances g.S.Shared.looks c.args.shared.now c.loop-reader.shared c.answer_next.new.shared c.args.pass.now c.loop-reader.pass c.answer_next.new.pass
    (frames_rest g.R.Read.remaining c.args.reader.now) (g.W.Write.contents (sink_writer c.args.writer.now)) (frames_rest g.R.Read.remaining c.loop-reader.reader) (g.W.Write.contents (sink_writer c.loop-reader.writer))
    (frames_rest g.R.Read.remaining c.answer_next.new.self) (frames_unread g.R.Read.remaining c.send.new.self) (g.W.Write.contents (sink_writer c.send.new.writer)) c.loop-reader.summary c.in_err-send.field-0.0 next.frame
    c.loop-reader.invariant.serving next.fits next.taken
    (rw c.in_err-send.ensures.write.0 (next.reply, part.0, part.1, next.answered.0, sym reply ∙ part.2, part.3)))

pub loop-reader-preserved : goal.loop-reader-preserved
loop-reader-preserved g c =
    let next = c.in_ok-answer_next.ensures.some c.if-branch.true in
    let fewer : frames_left c.answer_next.new.self < frames_left c.loop-reader.reader = c.in_ok-answer_next.ensures.fewer c.if-branch.true in
    let same : frames_left c.send.new.self ≡ frames_left c.answer_next.new.self = c.in_ok-send.ensures.left in
    let reply : to_go c.answer_next.new.self ≡ reply_frame next.reply = next.written ∙ ap (λ (l : List ℕ). l ++ reply_frame next.reply) c.loop-reader.invariant.written in
    let count : c.answer_next.new.answerer.count ≡ length next.frame.messages = next.answered.1 in
    let more : c.loop-reader.summary.queries + c.answer_next.new.answerer.count ≡ c.loop-reader.summary.queries + length next.frame.messages = omega (arith, count) in record {
      serving = serving_more g.S.Shared.does g.S.Shared.shows g.S.Shared.pages g.S.Shared.glances g.S.Shared.looks c.args.shared.now c.loop-reader.shared c.answer_next.new.shared c.args.pass.now c.loop-reader.pass c.answer_next.new.pass
          (frames_rest g.R.Read.remaining c.args.reader.now) (g.W.Write.contents (sink_writer c.args.writer.now)) (frames_rest g.R.Read.remaining c.loop-reader.reader) (g.W.Write.contents (sink_writer c.loop-reader.writer))
          (frames_rest g.R.Read.remaining c.send.new.self) (g.W.Write.contents (sink_writer c.send.new.writer)) c.loop-reader.summary _ next.frame next.reply
          c.loop-reader.invariant.serving next.fits (subst (λ (rest : Option (List ℕ)). LosesFrame next.frame (frames_rest g.R.Read.remaining c.loop-reader.reader) rest) (sym c.in_ok-send.ensures.rest) next.taken)
          next.answered.0 (subst (λ (l : List ℕ). Appends (g.W.Write.contents (sink_writer c.loop-reader.writer)) (g.W.Write.contents (sink_writer c.send.new.writer)) l) reply c.in_ok-send.ensures.sent) refl more;
      few = omega (arith, c.loop-reader.invariant.few, fewer, same);
      written = c.in_ok-send.ensures.gone;
    }
