use Rattle.std.proofs.Common.{Some, subst}
use Rattle.mt_arena.specs.Node.{Updates}
use Rattle.mt_arena.specs.declared.node.Node.TheVariants.{Interior}
use Rattle.mt_interior.specs.Interior.{InteriorView}
use Rattle.mt_post.proofs.RootLemmas.{spares, may_spare}
use Rattle.mt_post.proofs.posting.Posting.spare_root.Goals as goal

pub new_locked-requires-clause-most : goal.new_locked-requires-clause-most
new_locked-requires-clause-most c = may_spare c.args.tree.now c.args.self.now c.args.old c.requires.wants c.goal-goal.result c.goal-goal.ensures c.requires.may

pub returns-in-Ok : goal.returns-in-Ok
returns-in-Ok c =
    spares c.args.tree.now c.args.self.now c.args.old c.requires.wants c.goal-goal.result c.goal-goal.ensures c.in-Ok.root c.occupy.new.self c.in-Ok.ensures.vacant
    (subst (λ (i : InteriorView). Updates c.args.tree.now.nodes c.occupy.new.self.nodes c.in-Ok.root.0 (Some (Interior i))) c.new_locked.ensures.value c.in-Ok.ensures.updates)
    c.occupy.ensures.retired c.in-Ok.ensures.unknown c.in-Ok.ensures.keeps c.in-Ok.ensures.occupied
