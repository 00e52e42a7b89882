-- A commit is the step of the stage that is ready, or the last of three for a new key.
use Rattle.std.proofs.Common.{rules, true, false}
use Rattle.mt_write.proofs.FinishLemmas.{commits_new, commits_once, may_show_written, stage_may}
use Rattle.mt_write.proofs.StageSteps.{commits_hidden, commits_written}
use Rattle.mt_write.proofs.writing.Write.commit.Goals as goal

pub show-commit-requires-clause-shows : goal.show-commit-requires-clause-shows
show-commit-requires-clause-shows c = may_show_written c.args.tree.now c.write_slot.new.tree c.args.log.now c.args.self.now c.args.stage c.in-Reserved.new c.in-Reserved.slot_key c.in-Reserved.row c.in-Reserved.is c.write_slot.ensures c.requires

pub returns-else-is_some-clause-commits : goal.returns-else-is_some-clause-commits
returns-else-is_some-clause-commits c = commits_new c.args.tree.now c.write_slot.new.tree c.args.log.now c.args.self.now c.args.stage c.in-Reserved.new c.in-Reserved.slot_key c.in-Reserved.row c.in-Reserved.is c.write_slot.ensures c.requires (search rules) c.free_numbers-written.ensures.arena c.show-commit.new.tree c.show-commit.new.log c.show-commit.result c.show-commit.ensures.number c.show-commit.ensures.shown c.show-commit.ensures.shows c.show-commit.ensures.logged

pub returns-in-Made-clause-commits : goal.returns-in-Made-clause-commits
returns-in-Made-clause-commits c = commits_once false c.args.tree.now c.overwrite.new.tree c.args.log.now c.overwrite.new.log c.args.self.now c.args.stage c.overwrite.result c.free_numbers-arena.ensures.arena
    (λ C. commits_written C c.args.tree.now c.overwrite.new.tree c.args.log.now c.overwrite.new.log c.args.self.now c.args.stage c.in-Made.place c.in-Made.key c.in-Made.columns c.in-Made.logged c.overwrite.result c.in-Made.is c.overwrite.ensures.number c.overwrite.ensures.written c.overwrite.ensures.sets c.overwrite.ensures.logged (stage_may c.args.tree.now c.args.log.now c.args.self.now c.args.stage c.requires))

pub returns-in-Taken-clause-commits : goal.returns-in-Taken-clause-commits
returns-in-Taken-clause-commits c = commits_once true c.args.tree.now c.hide.new.tree c.args.log.now c.hide.new.log c.args.self.now c.args.stage c.hide.result c.free_numbers-arena.ensures.arena
    (λ C. commits_hidden C c.args.tree.now c.hide.new.tree c.args.log.now c.hide.new.log c.args.self.now c.args.stage c.in-Taken.place c.in-Taken.key c.in-Taken.before c.hide.result c.in-Taken.is c.hide.ensures.number c.hide.ensures.hidden c.hide.ensures.hides c.hide.ensures.logged (stage_may c.args.tree.now c.args.log.now c.args.self.now c.args.stage c.requires))
