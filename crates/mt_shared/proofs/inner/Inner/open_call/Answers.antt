use Rattle.std.proofs.Common.{subst}
use Rattle.mt_types.specs.declared.event.Event.TheVariants.{Begin}
use Rattle.mt_types.specs.declared.numbers.PassNo.{PassNo}
use Rattle.mt_shared.specs.Passes.{IsTold}
use Rattle.mt_shared.proofs.ToldLemmas.{does_tell}
use Rattle.mt_shared.proofs.inner.Inner.open_call.Goals as goal

pub returns-clause-told : goal.returns-clause-told
returns-clause-told c =
    subst (λ (n : PassNo). IsTold c.args.pass.now (Begin n c.args.request) c.event.result c.event.new.pass) c.number.ensures
    (does_tell c.args.self.now c.args.pass.now (Begin c.number.result c.args.request) c.event.result c.event.new.self c.event.new.pass c.event.ensures.kept.0 c.event.ensures.does)
