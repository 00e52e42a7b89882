-- At its border: what was made ready, and the commit.
use Rattle.mt_steps.specs.declared.progress.Progress.TheVariants.{Moved}
use Rattle.mt_write.specs.declared.writing.Stage.TheVariants.{Searched}
use Rattle.std.proofs.Common.{sym, subst}
use Rattle.std.specs.Prelude.{IsSomeAnd}
use Rattle.mt_arena.specs.Arena.{ArenaView}
use Rattle.mt_arena.specs.Node.{border_at}
use Rattle.mt_write.specs.Runs.{IsStraight}
use Rattle.mt_write.proofs.FinishLemmas.{as_it_was, as_left, as_may, as_none, at_may, commits_since, may_go_on, readied_one}
use Rattle.mt_write.proofs.writing.Write.act.Goals as goal

pub commit-requires : goal.commit-requires
commit-requires c =
    let (there, act) = c.requires in (
      c.args.columns,
      may_go_on c.args.columns c.args.tree.now c.args.log.now c.args.self.now there act.may act.trimmed act.arena c.ready_found.new.tree c.ready_found.new.log c.in-Some.stage
          (as_it_was _ _ _ _ _ _ _ _ _ _ _ (rw c.in-Ok-None.field-0-is at c.in-Ok-None.ensures there act) (c.in-Some.ensures.some there)),
    )

pub returns-in-Ok : goal.returns-in-Ok
returns-in-Ok c = λ there act.
    commits_since c.args.columns c.args.tree.now c.args.log.now c.args.self.now there c.ready_found.new.tree c.ready_found.new.log c.in-Some.stage
    (readied_one c.args.columns c.args.tree.now c.args.log.now c.args.self.now there act.may act.trimmed act.arena c.ready_found.new.tree c.ready_found.new.log c.in-Some.stage
    (as_it_was _ _ _ _ _ _ _ _ _ _ _ (rw c.in-Ok-None.field-0-is at c.in-Ok-None.ensures there act) (c.in-Some.ensures.some there)) c.free_numbers-arena.ensures.arena c.number-reserved.ensures.sound)
    c.commit.new.tree c.commit.new.log c.trim.new.self c.in-Ok.committed c.in-Ok.ensures.commits c.number-reserved.ensures.sound c.number-appended.ensures.sound c.free_numbers-committed.ensures.arena c.trim.ensures.after c.trim.ensures.newest_stays

pub returns-in-Ok-Some : goal.returns-in-Ok-Some
returns-in-Ok-Some c = λ there act. rw c.in-Ok-Some.field-0-is at c.in-Ok-Some.ensures there act

pub ready_found-requires-clause-may : goal.ready_found-requires-clause-may
ready_found-requires-clause-may c =
    let (there, act) = c.requires in (
      there,
      as_may c.args.columns c.args.tree.now c.commit_unread.new.tree c.args.log.now c.commit_unread.new.log c.args.self.now (Searched there) (rw c.in-Ok-None.field-0-is at c.in-Ok-None.ensures there act) (at_may c.args.columns c.args.tree.now c.args.log.now c.args.self.now (Searched there) act.may),
    )

pub returns-in_default : goal.returns-in_default
returns-in_default c = λ there act. as_none c.args.columns c.args.tree.now c.commit_unread.new.tree c.ready_found.new.tree c.args.log.now c.commit_unread.new.log c.ready_found.new.log c.args.self.now there (rw c.in-Ok-None.field-0-is at c.in-Ok-None.ensures there act) (c.ready_found.ensures.none there c.in_default.is)

pub returns-in-Err-commit : goal.returns-in-Err-commit
returns-in-Err-commit c = λ there act. as_left c.args.columns c.args.tree.now c.ready_found.new.tree c.commit.new.tree c.args.log.now c.ready_found.new.log c.commit.new.log c.args.self.now (Searched there) Moved c.in-Some.stage c.in-Err-commit.stage c.in-Err-commit.ensures.not
    (as_it_was _ _ _ _ _ _ _ _ _ _ _ (rw c.in-Ok-None.field-0-is at c.in-Ok-None.ensures there act) (c.in-Some.ensures.some there))

pub ready_found-requires-clause-straight : goal.ready_found-requires-clause-straight
ready_found-requires-clause-straight c =
    let (there, act) = c.requires in
    subst (λ (x : ArenaView). IsSomeAnd (border_at x.nodes c.args.self.now.way.node.0) (λ b. IsStraight c.args.self.now.edit b c.args.found)) (sym (rw c.in-Ok-None.field-0-is at c.in-Ok-None.ensures there act).0) act.straight
