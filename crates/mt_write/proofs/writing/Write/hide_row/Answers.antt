use Rattle.mt_write.proofs.StageSteps.{turned, may_hide, hides_row}
use Rattle.mt_write.proofs.writing.Write.hide_row.Goals as goal

pub hide-commit-requires-clause-row : goal.hide-commit-requires-clause-row
hide-commit-requires-clause-row c = may_hide c.args.tree.now c.args.self.now c.args.log.now c.args.place c.args.key c.args.before c.requires

pub returns : goal.returns
returns c = λ C. turned C c.args.tree.now c.hide-commit.new.tree c.args.log.now c.hide-commit.new.log c.args.self.now _ _ _ _ c.turn_to.ensures
    (hides_row C c.args.tree.now c.hide-commit.new.tree c.args.log.now c.hide-commit.new.log c.args.self.now c.args.place c.args.key c.args.before c.hide-commit.result c.hide-commit.ensures.number c.hide-commit.ensures.hidden c.hide-commit.ensures.hides c.hide-commit.ensures.logged c.requires.1.room)
