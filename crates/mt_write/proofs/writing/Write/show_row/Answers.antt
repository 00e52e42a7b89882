use Rattle.mt_write.proofs.StageSteps.{turned, may_show, shows_row}
use Rattle.mt_write.proofs.writing.Write.show_row.Goals as goal

pub show-commit-requires-clause-shows : goal.show-commit-requires-clause-shows
show-commit-requires-clause-shows c = may_show c.args.tree.now c.args.self.now c.args.log.now c.args.place c.args.key c.args.logged c.args.split c.requires

pub returns : goal.returns
returns c = λ C. turned C c.args.tree.now c.show-commit.new.tree c.args.log.now c.show-commit.new.log c.args.self.now _ _ _ _ c.turn_to.ensures
    (shows_row C c.args.tree.now c.show-commit.new.tree c.args.log.now c.show-commit.new.log c.args.self.now c.args.place c.args.key c.args.logged c.args.split c.show-commit.result c.show-commit.ensures.number c.show-commit.ensures.shown c.show-commit.ensures.shows c.show-commit.ensures.logged c.requires.1.room)
