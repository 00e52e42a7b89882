use Rattle.mt_write.proofs.StageSteps.{turned, may_write, writes_row}
use Rattle.mt_write.proofs.writing.Write.write_row.Goals as goal

pub overwrite-commit-requires-clause-row : goal.overwrite-commit-requires-clause-row
overwrite-commit-requires-clause-row c = may_write c.args.tree.now c.args.self.now c.args.log.now c.args.place c.args.key c.args.columns c.args.logged c.requires

pub returns : goal.returns
returns c = λ C. turned C c.args.tree.now c.overwrite-commit.new.tree c.args.log.now c.overwrite-commit.new.log c.args.self.now _ _ _ _ c.turn_to.ensures
    (writes_row C c.args.tree.now c.overwrite-commit.new.tree c.args.log.now c.overwrite-commit.new.log c.args.self.now c.args.place c.args.key c.args.columns c.args.logged c.overwrite-commit.result c.overwrite-commit.ensures.number c.overwrite-commit.ensures.written c.overwrite-commit.ensures.sets c.overwrite-commit.ensures.logged c.requires.1.room)
