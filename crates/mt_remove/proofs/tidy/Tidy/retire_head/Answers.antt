use Rattle.mt_remove.proofs.ClosingLemmas.{retires_head}
use Rattle.mt_remove.proofs.tidy.Tidy.retire_head.Goals as goal

pub returns : goal.returns
returns c = retires_head c.args.epoch c.args.tree.now c.args.self.now c.args.head c.requires.at c.retire.new.self c.retire.ensures.value c.retire.ensures.keeps
