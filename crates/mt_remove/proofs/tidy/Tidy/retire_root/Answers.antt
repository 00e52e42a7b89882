use Rattle.mt_remove.proofs.ClosingLemmas.{retires_root}
use Rattle.mt_remove.proofs.tidy.Tidy.retire_root.Goals as goal

pub returns : goal.returns
returns c = retires_root c.args.epoch c.args.tree.now c.args.self.now c.args.root c.args.head c.requires.at c.unlock_border.new.self c.retire.new.self c.unlock_border.ensures.value c.unlock_border.ensures.keeps c.retire.ensures.value c.retire.ensures.keeps
