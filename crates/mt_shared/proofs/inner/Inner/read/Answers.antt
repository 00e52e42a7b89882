use Rattle.mt_types.specs.Limits.{request_fault}
use Rattle.mt_shared.specs.Inside.{inner_view}
use Rattle.mt_shared.proofs.ReadLemmas.{unbroken, read_is_limited}
use Rattle.mt_shared.proofs.inner.Inner.read.Goals as goal

pub returns-in-Ok-clause-limited : goal.returns-in-Ok-clause-limited
returns-in-Ok-clause-limited c =
    read_is_limited (inner_view c.self.inside) c.args.request.now c.in-Ok.answer c.self.invariant c.in-Ok.ensures.answer
    (unbroken (request_fault c.self.inside.machine.columns c.args.request.now) c.in-Ok.answer c.in-Ok.ensures.fault)
