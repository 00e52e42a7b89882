use Rattle.mt_folder_log.proofs.MovingLemmas.{both_ok}
use Rattle.mt_logger.proofs.FollowLemmas.{ready_same}
use Rattle.mt_logger.proofs.logger.Logger.sync.Goals as goal

pub returns-clause-changes : goal.returns-clause-changes
returns-clause-changes g c = λ changes keeps.
    let log = c.args.self.now.log in
    both_ok c.sync.result
    (λ newest has. (has, ready_same changes log.columns _ log.journal.at.newest _ log.other _ c.args.self.now.ready c.sync.ensures.columns newest c.sync.ensures.other keeps.1))
    c.sync.ensures.newest (c.sync.ensures.changes changes keeps.0)

pub returns-clause-recover : goal.returns-clause-recover
returns-clause-recover g c = λ changes keeps. c.sync.ensures.recover changes keeps.0
