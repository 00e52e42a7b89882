use Rattle.mt_write.proofs.CopyLemmas.{gives_back}
use Rattle.mt_write.proofs.writing.Write.give_back.Goals as goal

pub returns : goal.returns
returns c = gives_back c.args.tree.now c.args.self.now c.args.half c.requires.may c.give_back.new.self c.unlock_border.new.self c.give_back.ensures.value c.give_back.ensures.keeps c.unlock_border.ensures.value c.unlock_border.ensures.keeps
