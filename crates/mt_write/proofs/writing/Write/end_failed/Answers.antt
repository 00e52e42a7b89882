use Rattle.mt_write.specs.declared.writing.Stage.TheVariants.{Failed}
use Rattle.mt_write.proofs.LaterSteps.{ends_failed, of_halves}
use Rattle.mt_write.proofs.StageSteps.{with_halves}
use Rattle.mt_write.proofs.writing.Write.end_failed.Goals as goal

pub returns-in_default : goal.returns-in_default
returns-in_default c = ends_failed c.args.tree.now c.unlock_border.new.self c.args.self.now c.unlock_border.ensures.keeps c.args.refusal c.args.split c.in_default.is c.unlock_border.ensures.value

pub unlock_left-requires : goal.unlock_left-requires
unlock_left-requires c = with_halves c.args.tree.now c.args.self.now (Failed c.args.refusal) c.args.split c.in-Some.split c.in-Some.is c.requires

pub returns : goal.returns
returns c = of_halves c.args.tree.now c.unlock_left.new.tree c.args.self.now (Failed c.args.refusal) c.args.split c.in-Some.split c.unlock_left.result c.unlock_left.new.self c.in-Some.is c.unlock_left.ensures
