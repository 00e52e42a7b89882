use Rattle.std.proofs.Common.{Some, ◌∙◌, ap, subst}
use Rattle.mt_arena.specs.Node.{Updates}
use Rattle.mt_arena.specs.declared.node.Node.TheVariants.{Interior}
use Rattle.mt_interior.specs.Interior.{InteriorView, IsInterior, new_interior}
use Rattle.mt_post.proofs.HalfLemmas.{half_spares, half_refused}
use Rattle.mt_post.proofs.NumberLemmas.{refuses_spare}
use Rattle.mt_post.proofs.posting.Posting.spare_half.Goals as goal

pub returns-in-Ok : goal.returns-in-Ok
returns-in-Ok c =
    let made = c.new_locked.ensures.value ∙ ap (λ l. new_interior l c.child-middle.result.low) c.level-level.ensures.value in
    half_spares c.args.tree.now c.args.self.now c.args.interior c.requires.wants c.interior-split.result.now c.child-middle.result c.in-Ok.half c.occupy.new.self c.interior-split.ensures.value c.child-middle.ensures.value
    (subst IsInterior made c.new_locked.ensures.sound) c.in-Ok.ensures.vacant
    (subst (λ (i : InteriorView). Updates c.args.tree.now.nodes c.occupy.new.self.nodes c.in-Ok.half.0 (Some (Interior i))) made c.in-Ok.ensures.updates)
    c.occupy.ensures.retired c.in-Ok.ensures.unknown c.in-Ok.ensures.keeps c.in-Ok.ensures.occupied

pub returns-in-Err : goal.returns-in-Err
returns-in-Err c = half_refused c.args.tree.now c.args.self.now c.args.interior c.requires.wants c.occupy.new.self c.in-Err.refusal c.in-Err.ensures.err
    (refuses_spare c.args.tree.now c.occupy.result c.in-Err.refusal c.in-Err.is c.occupy.ensures.full c.in-Err.ensures.only)
