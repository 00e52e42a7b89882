use Rattle.mt_remove.proofs.ClosingLemmas.{keeps_above}
use Rattle.mt_remove.proofs.tidy.Tidy.keep_layer.Goals as goal

pub returns : goal.returns
returns c = keeps_above c.args.epoch c.args.tree.now c.args.self.now c.args.above c.args.root c.requires.at c.unlock_border.new.self c.unlock_border.ensures.value c.unlock_border.ensures.keeps
