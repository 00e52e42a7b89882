use Rattle.mt_streams.proofs.SendLemmas.{sent_more}
use Rattle.mt_streams.proofs.sink.Sink.send.Goals as goal

pub loop-rest-preserved : goal.loop-rest-preserved
loop-rest-preserved g c =
    let h = c.loop-rest.invariant in
    sent_more c.args.bytes.now c.loop-rest.rest.now h.0 c.in_ok-taken.taken (g.W.Write.contents c.args.self.now.writer) (g.W.Write.contents c.loop-rest.self.writer) (g.W.Write.contents c.send_some.new.self.writer) h.1 h.2 c.in_ok-taken.ensures.bytes
