use Rattle.mt_post.proofs.LetGoLemmas.{gives_half_back}
use Rattle.mt_post.proofs.posting.Posting.give_half_back.Goals as goal

pub returns : goal.returns
returns c = gives_half_back c.args.tree.now c.args.self.now c.args.split c.args.why c.requires.left c.give_back.new.self c.give_back.ensures.value c.give_back.ensures.keeps c.requires.may
