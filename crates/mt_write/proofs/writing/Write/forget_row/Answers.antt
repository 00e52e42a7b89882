-- The row is dropped.
use Rattle.mt_write.proofs.LaterSteps.{forgets_row}
use Rattle.mt_write.proofs.StageSteps.{may_drop_row, turned_tree}
use Rattle.mt_write.proofs.writing.Write.forget_row.Goals as goal

pub forget_row-requires : goal.forget_row-requires
forget_row-requires c = may_drop_row c.args.tree.now c.args.self.now c.args.commit c.requires

pub returns : goal.returns
returns c = turned_tree c.args.tree.now c.forget_row.new.self c.args.self.now _ _ _ _ c.turn_to.ensures
    (forgets_row c.args.tree.now c.forget_row.new.self c.args.self.now c.args.commit c.forget_row.ensures.value c.forget_row.ensures.keeps)
