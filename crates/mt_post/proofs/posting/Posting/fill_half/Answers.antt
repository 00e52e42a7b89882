use Rattle.std.proofs.Common.{ℕ, sym, subst}
use Rattle.std.specs.Prelude.{length, ◌≡◌}
use Rattle.mt_interior.specs.declared.interior.TheConstants.{MAX_CHILDREN}
use Rattle.mt_interior.specs.Interior.{InteriorView}
use Rattle.mt_post.specs.declared.posting.Progressed.{Progressed}
use Rattle.mt_post.specs.Follows.{WaitsNext, PostStep}
use Rattle.mt_post.proofs.HalfLemmas.{is_there_still, may_fill_half, fills_half, upper_eight, same_interior}
use Rattle.mt_post.proofs.posting.Posting.fill_half.Goals as goal

pub fill_interior-requires-clause-sound : goal.fill_interior-requires-clause-sound
fill_interior-requires-clause-sound c =
    let (i, named, full) = is_there_still c.args.tree.now c.args.self.now c.args.interior c.args.half c.requires.spared c.requires.may in
    let same = same_interior c.args.tree.now c.args.interior.0 i c.interior-split.result.now named c.interior-split.ensures.value in
    let many : length c.interior-split.result.now.children ≡ MAX_CHILDREN = subst (λ (x : InteriorView). length x.children ≡ MAX_CHILDREN) same full in
    (may_fill_half c.args.tree.now c.args.self.now c.args.interior c.args.half c.requires.spared c.interior-split.result.now c.child-middle.result _ c.interior-split.ensures.value c.child-middle.ensures.value
    (upper_eight c.interior-split.result.now.children _ _ _ _ _ _ _ _ many c.child-middle.ensures.value c.child.ensures.value c.child-2.ensures.value c.child-3.ensures.value c.child-4.ensures.value c.child-5.ensures.value c.child-6.ensures.value c.child-7.ensures.value) c.requires.may).1

pub returns : goal.returns
returns c =
    let (i, named, full) = is_there_still c.args.tree.now c.args.self.now c.args.interior c.args.half c.requires.spared c.requires.may in
    let same = same_interior c.args.tree.now c.args.interior.0 i c.interior-split.result.now named c.interior-split.ensures.value in
    let many : length c.interior-split.result.now.children ≡ MAX_CHILDREN = subst (λ (x : InteriorView). length x.children ≡ MAX_CHILDREN) same full in
    let waits = subst (λ (l : ℕ). WaitsNext c.args.self.now (record { interior = c.args.interior; half = record { low = c.child-middle.result.low; node = c.args.half; level = l } }) c.wait_for.new.self) c.level-level.ensures.value c.wait_for.ensures.1 in
    subst (λ (p : Progressed). PostStep c.args.tree.now c.fill_interior.new.self c.args.self.now p c.wait_for.new.self) (sym c.wait_for.ensures.0)
    (fills_half c.args.tree.now c.args.self.now c.args.interior c.args.half c.requires.spared c.interior-split.result.now c.child-middle.result _ c.interior-split.ensures.value c.child-middle.ensures.value
    (upper_eight c.interior-split.result.now.children _ _ _ _ _ _ _ _ many c.child-middle.ensures.value c.child.ensures.value c.child-2.ensures.value c.child-3.ensures.value c.child-4.ensures.value c.child-5.ensures.value c.child-6.ensures.value c.child-7.ensures.value)
    c.fill_interior.new.self c.fill_interior.ensures.value c.fill_interior.ensures.keeps c.wait_for.new.self waits)
