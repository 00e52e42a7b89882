use Rattle.std.proofs.Common.{refl}
use Rattle.mt_post.specs.Follows.{PostStep}
use Rattle.mt_post.proofs.WalkLemmas.{left_out_so, half_left_out, all_left_out, follows_left_out}
use Rattle.mt_post.specs.declared.posting.PostStage.TheVariants.{Walks}
use Rattle.mt_post.proofs.posting.Posting.leave_out.Goals as goal

pub returns : goal.returns
returns c =
    left_out_so c.args.self.now c.args.why (λ p then. PostStep c.args.tree.now c.args.tree.now c.args.self.now p then) c.left_out.result c.left_out.new.self c.left_out.ensures
    (λ left none. all_left_out c.args.tree.now c.args.self.now (Walks c.args.node) (λ waiting. refl) c.requires.walks c.args.why left none tt (refl, c.requires.cause))
    (λ split waiting some. half_left_out c.args.tree.now c.args.self.now (Walks c.args.node) (λ waiting. refl) c.requires.walks c.args.why split waiting some tt tt (follows_left_out c.args.tree.now c.args.self.now c.args.node c.args.why split waiting some c.requires.cause) refl)
