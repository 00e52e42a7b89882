use Rattle.std.proofs.Common.{Some, ap, refl, ◌∙◌}
use Rattle.mt_arena.specs.declared.node.Node.{Node}
use Rattle.mt_post.proofs.WalkLemmas.{may_visit, no_border}
use Rattle.mt_post.proofs.posting.Posting.visit.Goals as goal

pub node-requires : goal.node-requires
node-requires c = (may_visit c.args.tree.now c.args.self.now c.args.node c.requires.walks _ refl c.requires.may).named

pub unreachable-requires : goal.unreachable-requires
unreachable-requires c = no_border c.args.tree.now c.args.self.now c.args.node c.requires.walks _ refl c.requires.may c.in-Border.field-0 (c.node.ensures.value ∙ ap (λ (n : Node). Some n) c.in-Border.is)
