use Rattle.std.proofs.Common.{inl}
use Rattle.mt_post.specs.Follows.{PostStep}
use Rattle.mt_post.proofs.WalkLemmas.{left_out_so}
use Rattle.mt_post.proofs.LetGoLemmas.{lets_go, lets_next, may_unlock_at}
use Rattle.mt_post.proofs.posting.Posting.let_go.Goals as goal

pub unlock_interior-requires : goal.unlock_interior-requires
unlock_interior-requires c = may_unlock_at c.args.tree.now c.args.self.now c.args.interior c.requires.may (inl (c.args.why, c.requires.lets))

pub returns : goal.returns
returns c =
    left_out_so c.args.self.now c.args.why (λ p then. PostStep c.args.tree.now c.unlock_interior.new.self c.args.self.now p then) c.left_out.result c.left_out.new.self c.left_out.ensures
    (λ left none. lets_go c.args.tree.now c.args.self.now c.args.interior c.unlock_interior.new.self c.unlock_interior.ensures.value c.unlock_interior.ensures.keeps c.args.why left c.requires.lets none)
    (λ split waiting some. lets_next c.args.tree.now c.args.self.now c.args.interior c.unlock_interior.new.self c.unlock_interior.ensures.value c.unlock_interior.ensures.keeps c.args.why split waiting c.requires.lets some)
