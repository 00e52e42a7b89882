use Rattle.mt_post.proofs.RootLemmas.{fills}
use Rattle.mt_post.proofs.posting.Posting.fill_root.Goals as goal

pub returns : goal.returns
returns c = fills c.args.tree.now c.args.self.now c.args.old c.args.root c.requires.spared c.goal.result c.goal.ensures c.fill_interior.new.self c.unlock_interior.new.self c.fill_interior.ensures.value c.fill_interior.ensures.keeps c.unlock_interior.ensures.value c.unlock_interior.ensures.keeps
