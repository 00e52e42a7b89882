use Rattle.std.proofs.Common.{refl}
use Rattle.mt_post.proofs.TwinLemmas.{posts_half, may_post_half}
use Rattle.mt_post.proofs.WalkLemmas.{posts, has_room}
use Rattle.mt_post.proofs.posting.Posting.name_in.Goals as goal

pub post_border-requires : goal.post_border-requires
post_border-requires c = let r = c.requires.room in has_room c.args.tree.now c.args.self.now c.args.node c.requires.walks _ refl r.interior r.named r.alive r.unlocked c.requires.may c.in_default.ensures.none.0 r.room

pub returns-in_default : goal.returns-in_default
returns-in_default c = let r = c.requires.room in posts c.args.tree.now c.args.self.now c.args.node c.requires.walks _ refl r.interior r.named r.alive r.unlocked c.post_border.new.self c.pop.new.self c.in_default.ensures.none.0 c.post_border.ensures.value c.post_border.ensures.keeps c.requires.may

pub post_half-requires-clause-room : goal.post_half-requires-clause-room
post_half-requires-clause-room c = (may_post_half c.args.tree.now c.args.self.now c.args.node c.in-Some.split c.pop.new.self c.requires.walks c.in-Some.ensures.some c.requires.room c.requires.may).0

pub post_half-requires-clause-lower : goal.post_half-requires-clause-lower
post_half-requires-clause-lower c = (may_post_half c.args.tree.now c.args.self.now c.args.node c.in-Some.split c.pop.new.self c.requires.walks c.in-Some.ensures.some c.requires.room c.requires.may).1

pub returns : goal.returns
returns c = posts_half c.args.tree.now c.args.self.now c.args.node c.in-Some.split c.pop.new.self c.requires.walks c.in-Some.ensures.some c.requires.room c.post_half.new.self c.post_half.ensures.value c.post_half.ensures.keeps
