use Rattle.std.proofs.Common.{subst}
use Rattle.mt_shared.specs.Inner.{InnerView, Does}
use Rattle.mt_shared.proofs.ToldLemmas.{does_tell}
use Rattle.mt_shared.proofs.lone.LoneShared.event.Goals as goal

pub returns-clause-does : goal.returns-clause-does
returns-clause-does c = subst (λ (s : InnerView). Does s c.args.pass.now c.args.event.now c.event.result c.event.new.self c.event.new.pass) c.self.view_is c.event.ensures.does

pub returns-clause-told : goal.returns-clause-told
returns-clause-told c = does_tell _ c.args.pass.now c.args.event.now c.event.result _ c.event.new.pass c.event.ensures.kept.0 c.event.ensures.does
