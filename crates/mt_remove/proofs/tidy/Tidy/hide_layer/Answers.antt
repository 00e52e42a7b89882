use Rattle.mt_remove.proofs.HidingLemmas.{hides}
use Rattle.mt_remove.proofs.tidy.Tidy.hide_layer.Goals as goal

pub returns : goal.returns
returns c = hides c.args.epoch c.args.tree.now c.args.self.now c.args.layer c.requires.at c.hide_link.new.self c.hide_link.ensures.value c.hide_link.ensures.drops
