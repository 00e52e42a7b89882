use Rattle.std.proofs.Common.{◌∙◌, Option, subst, sym}
use Rattle.mt_frame.specs.declared.entry.Part.{Part}
use Rattle.mt_logger.specs.Following.{AreReady}
use Rattle.mt_logger.proofs.FollowLemmas.{map_needed, ready_none}
use Rattle.mt_logger.proofs.logger.Logger.copy.Goals as goal

-- the rows that were read are the next ones
pub returns-in-Ok-clause-changes : goal.returns-in-Ok-clause-changes
returns-in-Ok-clause-changes g c = λ changes keeps mixing.
    let log = c.args.self.now.log in
    let next = subst (λ (ready : Option Part). AreReady log.columns changes log.journal.at.newest log.other ready) (sym c.take.ensures.value ∙ c.in-Some.is) keeps.1 in
    let new = c.copy.new.self in
    map_needed log.other (λ copied has. (has, ready_none changes new.columns new.journal.at.newest new.other c.take.new.self c.take.ensures.after))
    (c.in-Ok.ensures.changes changes keeps.0 next mixing)
