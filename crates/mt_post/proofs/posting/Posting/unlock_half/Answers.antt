use Rattle.std.proofs.Common.{inr}
use Rattle.mt_post.proofs.LetGoLemmas.{goes_again, may_unlock_at}
use Rattle.mt_post.proofs.posting.Posting.unlock_half.Goals as goal

pub unlock_interior-requires : goal.unlock_interior-requires
unlock_interior-requires c = may_unlock_at c.args.tree.now c.args.self.now c.args.half c.requires.may (inr c.requires.cut)

pub returns : goal.returns
returns c = goes_again c.args.tree.now c.args.self.now c.args.half c.unlock_interior.new.self c.unlock_interior.ensures.value c.unlock_interior.ensures.keeps c.requires.cut
