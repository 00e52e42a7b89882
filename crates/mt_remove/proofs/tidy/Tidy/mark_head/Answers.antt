use Rattle.std.proofs.Common.{sym, ap, ◌∙◌, ◌≡◌, true, false}
use Rattle.mt_types.specs.declared.numbers.NodeNo.{NodeNo}
use Rattle.mt_remove.proofs.ClosingLemmas.{top_there, lost_root, marks_head}
use Rattle.mt_remove.proofs.tidy.Tidy.mark_head.Goals.{then-deleted-via-then-deleted, then-deleted-via-else-deleted+then-root-layer}
use Rattle.mt_remove.proofs.tidy.Tidy.mark_head.Goals as goal

pub head-head-requires : goal.head-head-requires
head-head-requires c = top_there c.args.epoch c.args.tree.now c.args.self.now c.args.layer c.requires.at c.requires.may

pub returns-then-deleted : goal.returns-then-deleted
returns-then-deleted c = lost_root c.args.epoch c.args.tree.now c.args.self.now c.args.layer c.requires.at c.head-head.result.now c.head-head.ensures.value (λ r. elim c.then-deleted.branch [
  | then-deleted-via-then-deleted w ↦ (let clash : false ≡ true = sym r.0 ∙ (rw c.version.ensures.value at (sym c.deleted.ensures ∙ w.if-deleted.true)) in cc)
  | then-deleted-via-else-deleted+then-root-layer w ↦ w.if-root-layer.true (ap (λ (m : NodeNo). m.0) (w.root.ensures.value ∙ r.1))
])

pub returns : goal.returns
returns c = marks_head c.args.epoch c.args.tree.now c.args.self.now c.args.layer c.requires.at c.head-head.result.now c.head-head.ensures.value
    ((rw c.version.ensures.value at (sym c.deleted.ensures ∙ c.if-deleted.false)), sym c.root.ensures.value ∙ ap (λ (m : _). record { 0 = m }) c.if-root-layer.false) c.mark_head_deleted.new.self c.mark_head_deleted.ensures.value c.mark_head_deleted.ensures.keeps
