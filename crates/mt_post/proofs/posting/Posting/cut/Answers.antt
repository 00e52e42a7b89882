use Rattle.mt_post.proofs.CutLemmas.{cuts}
use Rattle.mt_post.proofs.posting.Posting.cut.Goals as goal

pub returns : goal.returns
returns c = cuts c.args.tree.now c.args.self.now c.args.split c.requires.posted c.keep_first.new.self c.unlock_interior.new.self c.keep_first.ensures.value c.keep_first.ensures.keeps c.unlock_interior.ensures.value c.unlock_interior.ensures.keeps
