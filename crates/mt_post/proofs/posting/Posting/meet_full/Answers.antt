use Rattle.mt_post.proofs.HalfLemmas.{locks, full_below}
use Rattle.mt_post.proofs.posting.Posting.meet_full.Goals as goal

pub returns : goal.returns
returns c =
    locks c.args.tree.now c.args.self.now c.args.node c.requires.walks c.requires.full
    (full_below c.args.tree.now c.args.self.now c.args.node.0 c.requires.full c.interior.result.now c.level.result c.interior.ensures.value c.interior.ensures.sound c.level.ensures.value c.if-level-eq-MAX_LEVEL.false)
    c.lock_interior.new.self c.lock_interior.ensures.value c.lock_interior.ensures.keeps c.lock_interior.ensures.sound
