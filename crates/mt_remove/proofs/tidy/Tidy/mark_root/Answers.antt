use Rattle.mt_remove.proofs.ClosingLemmas.{marks_root}
use Rattle.mt_remove.proofs.tidy.Tidy.mark_root.Goals as goal

pub returns : goal.returns
returns c = marks_root c.args.epoch c.args.tree.now c.args.self.now c.args.layer c.requires.at c.mark_border_deleted.new.self c.mark_border_deleted.ensures.value c.mark_border_deleted.ensures.keeps
