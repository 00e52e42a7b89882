use Rattle.std.proofs.Common.{ℕ, ◌+◌, sym, subst}
use Rattle.mt_steps.specs.declared.progress.Progress.TheVariants.{Moved}
use Rattle.mt_write.specs.declared.writing.Stage.{Stage}
use Rattle.mt_write.specs.declared.writing.Stage.TheVariants.{Copies}
use Rattle.mt_write.specs.Follows.{TreeStep}
use Rattle.mt_write.specs.Splitting.{CopiesValue}
use Rattle.mt_write.proofs.CopyLemmas.{copies_value, gives_up}
use Rattle.mt_write.proofs.StageSteps.{turned_tree}
use Rattle.mt_write.proofs.writing.Write.copy_value.Goals as goal

pub returns-in-Ok : goal.returns-in-Ok
returns-in-Ok c = turned_tree c.args.tree.now c.args.tree.now c.args.self.now _ _ _ _ c.turn_to.ensures
    (subst (λ (s : Stage). TreeStep c.args.tree.now c.args.tree.now c.args.self.now (Copies c.args.half c.args.cut c.args.place c.args.outline c.args.entries) Moved (record c.args.self.now { stage = s })) (sym c.stage_copied.ensures)
    (copies_value c.args.tree.now c.args.self.now c.args.half c.args.cut c.args.place c.args.outline c.args.entries c.in-Ok.copies (subst (λ (n : ℕ). CopiesValue c.args.tree.now c.args.self.now.way.node.0 c.args.outline (c.args.cut + n) c.args.entries c.in-Ok.copies) c.len.ensures c.in-Ok.ensures.copies)))

pub returns-in-Err : goal.returns-in-Err
returns-in-Err c = turned_tree c.args.tree.now c.args.tree.now c.args.self.now _ _ _ _ c.turn_to-in-Err.ensures
    (gives_up c.args.tree.now c.args.self.now c.args.half c.args.cut c.args.place c.args.outline c.args.entries)
