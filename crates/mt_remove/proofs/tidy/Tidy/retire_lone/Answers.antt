use Rattle.mt_remove.proofs.OneChildLemmas.{retires}
use Rattle.mt_remove.proofs.tidy.Tidy.retire_lone.Goals as goal

pub returns : goal.returns
returns c = retires c.args.epoch c.args.tree.now c.args.self.now c.args.interior c.args.rule c.requires.at c.mark_interior_deleted.new.self c.unlock_interior.new.self c.retire.new.self c.mark_interior_deleted.ensures.value c.mark_interior_deleted.ensures.keeps c.unlock_interior.ensures.value c.unlock_interior.ensures.keeps c.retire.ensures.value c.retire.ensures.keeps
