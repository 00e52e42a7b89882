use Rattle.mt_remove.proofs.UnlinkLemmas.{unlocks_left}
use Rattle.mt_remove.proofs.tidy.Tidy.unlock_left.Goals as goal

pub returns : goal.returns
returns c = unlocks_left c.args.epoch c.args.tree.now c.args.self.now c.args.border c.args.left c.requires.at c.unlock_border.new.self c.unlock_border.ensures.value c.unlock_border.ensures.keeps
