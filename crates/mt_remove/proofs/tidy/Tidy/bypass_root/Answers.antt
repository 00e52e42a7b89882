use Rattle.std.proofs.Common.{sym, ap, ◌∙◌, ◌≡◌, true, false}
use Rattle.mt_types.specs.declared.numbers.NodeNo.{NodeNo}
use Rattle.mt_remove.proofs.OneChildLemmas.{top_there, root_lost, bypasses_root}
use Rattle.mt_remove.proofs.tidy.Tidy.bypass_root.Goals.{then-deleted-via-then-deleted, then-deleted-via-else-deleted+then-root-interior}
use Rattle.mt_remove.proofs.tidy.Tidy.bypass_root.Goals as goal

pub head-top-requires : goal.head-top-requires
head-top-requires c = top_there c.args.epoch c.args.tree.now c.args.self.now c.args.lone c.requires.at c.args.head c.requires.named c.requires.may

pub returns-then-deleted : goal.returns-then-deleted
returns-then-deleted c = root_lost c.args.epoch c.args.tree.now c.args.self.now c.args.lone c.requires.at c.args.head c.requires.named c.head-top.result.now c.head-top.ensures.value (λ r. elim c.then-deleted.branch [
  | then-deleted-via-then-deleted w ↦ (let clash : false ≡ true = sym r.0 ∙ (rw c.version.ensures.value at (sym c.deleted.ensures ∙ w.if-deleted.true)) in cc)
  | then-deleted-via-else-deleted+then-root-interior w ↦ w.if-root-interior.true (ap (λ (m : NodeNo). m.0) (w.root.ensures.value ∙ r.1))
])

pub returns : goal.returns
returns c = bypasses_root c.args.epoch c.args.tree.now c.args.self.now c.args.lone c.requires.at c.args.head c.requires.named c.head-top.result.now c.head-top.ensures.value
    ((rw c.version.ensures.value at (sym c.deleted.ensures ∙ c.if-deleted.false)), sym c.root.ensures.value ∙ ap (λ (m : _). record { 0 = m }) c.if-root-interior.false) c.bypass_root.new.self c.bypass_root.ensures.value c.bypass_root.ensures.keeps
