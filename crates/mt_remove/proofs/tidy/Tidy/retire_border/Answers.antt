use Rattle.mt_remove.proofs.UnlinkLemmas.{retires}
use Rattle.mt_remove.proofs.tidy.Tidy.retire_border.Goals as goal

pub returns : goal.returns
returns c = retires c.args.epoch c.args.tree.now c.args.self.now c.args.border c.requires.at c.unlock_border.new.self c.retire.new.self c.unlock_border.ensures.value c.unlock_border.ensures.keeps c.retire.ensures.value c.retire.ensures.keeps
