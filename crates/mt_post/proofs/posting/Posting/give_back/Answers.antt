use Rattle.mt_post.proofs.RootLemmas.{gives_back}
use Rattle.mt_post.proofs.posting.Posting.give_back.Goals as goal

pub returns : goal.returns
returns c = gives_back c.args.tree.now c.args.self.now c.args.root c.requires.late c.give_back.new.self c.give_back.ensures.value c.give_back.ensures.keeps c.requires.may
