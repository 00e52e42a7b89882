use Rattle.std.proofs.Common.{Ok, Err, ap, arith, length, subst}
use Rattle.mt_types.specs.declared.limits.TheConstants.{MAX_RANGE}
use Rattle.mt_journal.specs.declared.position.Position.{Position}
use Rattle.mt_journal.specs.Keeping.{AllSurvive, Keeps}
use Rattle.mt_shared.specs.Feeds.{FeedsSomewhere}
use Rattle.mt_logger.proofs.FollowLemmas.{follows_fed, unwritten}
use Rattle.mt_logger.proofs.WriteLemmas.{leaves_fed, leaves_none, write_fails, writes_fed}
use Rattle.mt_logger.proofs.logger.Logger.write.Goals as goal

pub returns-in-Err-clause-crash : goal.returns-in-Err-clause-crash
returns-in-Err-clause-crash g c = λ mixing.
    let journal = c.args.self.now.log.journal in
    leaves_none journal.at (Keeps journal.at (g.D.Disk.seen journal.disk) (g.D.Disk.may_leave journal.disk)) (g.D.Disk.may_leave journal.disk)
    (λ header entries has. subst (λ (at : Position). AllSurvive header entries at.durable (g.D.Disk.may_leave journal.disk)) c.position-from.ensures.value (c.position-from.ensures.survive header entries has))

pub returns-in-Err-clause-follows : goal.returns-in-Err-clause-follows
returns-in-Err-clause-follows g c = λ mixing.
    let fed = c.in-Err.ensures in
    record {
      m = fed.kept.machine;
      is = (fed.keeps.stands.0, fed.keeps.stands.1);
      changes = λ changes made keeps. tt;
      recover = λ changes made keeps. unwritten g.D.Disk.seen g.D.Disk.may_leave changes c.args.self.now keeps;
    }

pub returns-in-Ok-append-clause-writes : goal.returns-in-Ok-append-clause-writes
returns-in-Ok-append-clause-writes g c = λ mixing.
    let old = c.args.self.now.log.journal in
    let new = c.append.new.self.log.journal in
    let fed = subst (λ (at : Position). FeedsSomewhere at.newest MAX_RANGE (Ok c.in-Ok.deltas)) c.position-from.ensures.value c.in-Ok.ensures in
    writes_fed old.at (Keeps old.at (g.D.Disk.seen old.disk) (g.D.Disk.may_leave old.disk)) (Keeps new.at (g.D.Disk.seen new.disk) (g.D.Disk.may_leave new.disk))
    c.in-Ok.deltas c.deref.result.now c.len.result fed c.deref.ensures.value (omega (arith, c.len.ensures, c.deref.ensures.len, ap length c.deref.ensures.value)) (λ header entries has. c.in-Ok-append.ensures.kept header entries has mixing)

pub returns-in-Ok-append-clause-crash : goal.returns-in-Ok-append-clause-crash
returns-in-Ok-append-clause-crash g c = λ mixing.
    let old = c.args.self.now.log.journal in
    let fed = subst (λ (at : Position). FeedsSomewhere at.newest MAX_RANGE (Ok c.in-Ok.deltas)) c.position-from.ensures.value c.in-Ok.ensures in
    leaves_fed old.at (Keeps old.at (g.D.Disk.seen old.disk) (g.D.Disk.may_leave old.disk)) (g.D.Disk.may_leave c.append.new.self.log.journal.disk)
    c.in-Ok.deltas c.deref.result.now fed c.deref.ensures.value (λ header entries has. c.append.ensures.crash header entries has mixing)

pub returns-in-Ok-append-clause-follows : goal.returns-in-Ok-append-clause-follows
returns-in-Ok-append-clause-follows g c = λ mixing.
    let fed = subst (λ (at : Position). FeedsSomewhere at.newest MAX_RANGE (Ok c.in-Ok.deltas)) c.position-from.ensures.value c.in-Ok.ensures in
    follows_fed g.D.Disk.seen g.D.Disk.may_leave c.args.self.now c.append.new.self (Ok c.len.result) c.in-Ok.deltas c.deref.result.now c.deref.ensures.value fed c.append.ensures.ready
    (λ changes has next. c.in-Ok-append.ensures.changes changes has next mixing) (λ changes has next. c.append.ensures.recover changes has next mixing)

pub returns-clause-crash : goal.returns-clause-crash
returns-clause-crash g c = λ mixing.
    let old = c.args.self.now.log.journal in
    let fed = subst (λ (at : Position). FeedsSomewhere at.newest MAX_RANGE (Ok c.in-Ok.deltas)) c.position-from.ensures.value c.in-Ok.ensures in
    leaves_fed old.at (Keeps old.at (g.D.Disk.seen old.disk) (g.D.Disk.may_leave old.disk)) (g.D.Disk.may_leave c.append.new.self.log.journal.disk)
    c.in-Ok.deltas c.deref.result.now fed c.deref.ensures.value (λ header entries has. c.append.ensures.crash header entries has mixing)

pub returns-clause-follows : goal.returns-clause-follows
returns-clause-follows g c = λ mixing.
    let fed = subst (λ (at : Position). FeedsSomewhere at.newest MAX_RANGE (Ok c.in-Ok.deltas)) c.position-from.ensures.value c.in-Ok.ensures in
    follows_fed g.D.Disk.seen g.D.Disk.may_leave c.args.self.now c.append.new.self (Err c.in-Err-append.error) c.in-Ok.deltas c.deref.result.now c.deref.ensures.value fed c.append.ensures.ready
    (λ changes has next. tt) (λ changes has next. c.append.ensures.recover changes has next mixing)

pub returns-clause-cause : goal.returns-clause-cause
returns-clause-cause g c =
    let fed = subst (λ (at : Position). FeedsSomewhere at.newest MAX_RANGE (Ok c.in-Ok.deltas)) c.position-from.ensures.value c.in-Ok.ensures in
    write_fails c.args.self.now.log.journal.at _ _ _ c.in-Ok.deltas c.deref.result.now c.in-Err-append.error fed c.deref.ensures.value c.in-Err-append.ensures.cause
