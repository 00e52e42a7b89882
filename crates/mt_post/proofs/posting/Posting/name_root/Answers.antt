use Rattle.std.proofs.Common.{inl, inr, sym, ap, ◌∙◌}
use Rattle.mt_types.specs.declared.numbers.NodeNo.{NodeNo}
use Rattle.mt_post.proofs.RootLemmas.{has_head, not_still, too_late}
use Rattle.mt_post.proofs.posting.Posting.name_root.Goals.{then-deleted-via-then-deleted, then-deleted-via-else-deleted+then-there-old, then-deleted-via-else-deleted+else-there-old+then-level-old}
use Rattle.mt_post.proofs.posting.Posting.name_root.Goals as goal

pub head-head-requires : goal.head-head-requires
head-head-requires c = has_head c.args.tree.now c.args.self.now c.args.old c.args.root c.requires.filled c.requires.may

pub returns-then-deleted : goal.returns-then-deleted
returns-then-deleted c =
    too_late c.args.tree.now c.args.self.now c.args.old c.args.root c.requires.filled
    (not_still c.args.tree.now c.args.self.now c.args.old c.args.root c.requires.filled c.head-head.result.now c.head-head.ensures.value (elim c.then-deleted.branch [
      | then-deleted-via-then-deleted w ↦ inl (rw c.version.ensures.value at (sym c.deleted-deleted.ensures ∙ w.if-deleted.true))
      | then-deleted-via-else-deleted+then-there-old w ↦ inr (inl (λ e. w.if-there-old.true (ap (λ (r : NodeNo). r.0) c.root-there.ensures.value ∙ e)))
      | then-deleted-via-else-deleted+else-there-old+then-level-old w ↦ inr (inr (λ e. w.if-level-old.true (w.level.ensures.value ∙ e)))
    ]))
