use Rattle.std.proofs.Common.{Err, ap, subst}
use Rattle.mt_talk.specs.Turns.{GivesUp}
use Rattle.std.proofs.lemmas.Result.{err_from_is_err_and}
use Rattle.mt_streams.specs.Readers.{counted_reader}
use Rattle.mt_serve.specs.Sources.{frames_rest}
use Rattle.mt_serve.proofs.SourceLemmas.{stops_at}
use Rattle.mt_serve.proofs.frames.Frames.answer_next.Goals as goal

pub returns-in_err-turn-clause-fault : goal.returns-in_err-turn-clause-fault
returns-in_err-turn-clause-fault g c =
    let p = err_from_is_err_and c.from_residual.result c.from_residual.ensures.1 in
    rw (p.1, p.2) (stops_at (g.A.Answers.gives_up c.args.answerer.now) c.in_err-turn.field-0.0 c.loop-self.self.talk c.turn.new.self (g.R.Read.remaining (counted_reader c.loop-self.self.reader)) (g.R.Read.remaining (counted_reader c.loop-self.self.reader)) (frames_rest g.R.Read.remaining c.args.self.now)
    c.args.shared.now c.loop-self.shared c.turn.new.shared c.args.pass.now c.loop-self.pass c.turn.new.pass
    c.a_fault_stays.ensures c.loop-self.invariant.shared c.loop-self.invariant.pass (λ other. (c.in_err-turn.ensures.fault other).0) (λ other. ((c.in_err-turn.ensures.fault other).3, (c.in_err-turn.ensures.fault other).4)) (λ is. subst (λ a. GivesUp (g.A.Answers.gives_up a) c.loop-self.shared c.loop-self.pass c.loop-self.self.talk c.turn.new.self c.turn.new.shared c.turn.new.pass) c.loop-self.invariant.answerer (c.in_err-turn.ensures.memory (ap Err is))) c.loop-self.invariant.rest)
