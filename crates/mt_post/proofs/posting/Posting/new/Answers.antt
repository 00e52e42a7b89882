use Rattle.std.proofs.Common.{refl}
use Rattle.mt_post.proofs.WalkLemmas.{new_is_true}
use Rattle.mt_post.proofs.posting.Posting.new.Goals as goal

pub returns-clause-begins : goal.returns-clause-begins
returns-clause-begins c = new_is_true _ c.new.ensures refl
