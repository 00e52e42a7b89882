use Rattle.mt_remove.proofs.ClosingLemmas.{unlocks_above}
use Rattle.mt_remove.proofs.tidy.Tidy.unlock_above.Goals as goal

pub returns : goal.returns
returns c = unlocks_above c.args.epoch c.args.tree.now c.args.self.now c.args.layer c.requires.at c.unlock_border.new.self c.unlock_border.ensures.value c.unlock_border.ensures.keeps
