use Rattle.mt_wire.proofs.ReadingLaws.{only_next}
use Rattle.mt_wire.proofs.decoder.Decoder.next.Goals as goal

pub returns-clause-only : goal.returns-clause-only
returns-clause-only c = λ queries rest fits running e. only_next c.advance.result c.args.self.now c.advance.new.self c.advance.ensures.frame c.advance.ensures.begun c.advance.ensures.fault queries rest fits e
