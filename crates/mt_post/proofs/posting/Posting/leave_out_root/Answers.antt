use Rattle.std.proofs.Common.{refl, inr}
use Rattle.mt_post.specs.Follows.{PostStep}
use Rattle.mt_post.proofs.WalkLemmas.{left_out_so, half_left_out, all_left_out}
use Rattle.mt_post.specs.declared.posting.LeftOutCause.TheVariants.{Refused}
use Rattle.mt_post.specs.declared.posting.PostStage.TheVariants.{RootWanted}
use Rattle.mt_post.proofs.posting.Posting.leave_out_root.Goals as goal

pub returns : goal.returns
returns c =
    left_out_so c.args.self.now (Refused c.args.refusal) (λ p then. PostStep c.args.tree.now c.args.tree.now c.args.self.now p then) c.left_out.result c.left_out.new.self c.left_out.ensures
    (λ left none. all_left_out c.args.tree.now c.args.self.now (RootWanted c.args.old) (λ waiting. refl) c.requires.wants (Refused c.args.refusal) left none tt (refl, c.requires.refused))
    (λ split waiting some. half_left_out c.args.tree.now c.args.self.now (RootWanted c.args.old) (λ waiting. refl) c.requires.wants (Refused c.args.refusal) split waiting some tt tt (inr (c.args.refusal, c.requires.refused, (split, some, refl))) refl)
