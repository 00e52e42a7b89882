use Rattle.std.proofs.Common.{sym, ◌∙◌}
use Rattle.mt_post.proofs.WalkLemmas.{head_leads, head_lacks}
use Rattle.mt_post.proofs.posting.Posting.visit_head.Goals as goal

pub returns-then-level-goal : goal.returns-then-level-goal
returns-then-level-goal c = head_lacks c.args.tree.now c.args.self.now c.args.node c.requires.walks c.goal-goal.result c.goal-goal.ensures c.head-head.result.now _ c.head-head.ensures.value (rw c.version.ensures.value at (sym c.deleted.ensures ∙ c.if-deleted.false)) c.head-head.ensures.sound.most c.root-root.ensures.value c.level-level.ensures.value c.if-level-goal.true

pub returns : goal.returns
returns c =
    head_leads c.args.tree.now c.args.self.now c.args.node c.requires.walks c.goal-goal.result c.goal-goal.ensures c.head-head.result.now c.root-root.result c.level-level.result c.head-head.ensures.value
    (rw c.version.ensures.value at (sym c.deleted.ensures ∙ c.if-deleted.false)) c.head-head.ensures.sound.most c.root-root.ensures.value c.level-level.ensures.value c.if-level-goal.false
