use Rattle.std.proofs.Common.{List, ℕ, Option, Some, Ok, Err, arith, inl, refl, subst}
use Rattle.std.specs.Prelude.{IfSome}
use Rattle.mt_logger.specs.declared.logger.Logger.{Logger}
use Rattle.mt_logger.specs.declared.reading.Lacking.{Lacking}
use Rattle.mt_logger.specs.Reading.{AreOfMoment, IsOfMoment}
use Rattle.mt_logger.specs.declared.checkpoint.Advanced.TheVariants.{Goes}
use Rattle.mt_logger.proofs.FollowLemmas.{follows_read, moment_at}
use Rattle.mt_logger.proofs.logger.Logger.read.Goals as goal

pub returns-in-Ok-append : goal.returns-in-Ok-append
returns-in-Ok-append g c = record {
  reads = λ mixing.
      let old = c.args.self.now in
      let new : Logger g.row.D.Denot = record { alloc = c.append.new.self.alloc; log = c.append.new.self.log; ready = Some c.in-Ok-Some.read.part } in
      let found = subst (λ (it : Option Lacking). IfSome it (IsOfMoment c.position-from.result.newest c.in-Ok.start)) c.in-Ok-Some.field-0-is c.in-Ok-Some.ensures in
      let part = c.in-Ok-Some.read.part in
      let read = moment_at c.position-from.result old.log.journal.at c.in-Ok.start c.in-Ok-Some.read.deltas.items c.deref.result.now part c.position-from.ensures.value c.deref.ensures.value found in
      let long = c.in-Ok-append.ensures.newest in
      record {
        done = record {
          deltas = c.deref.result.now;
          part = part;
          read = subst (λ (key : List ℕ). AreOfMoment old.log.journal.at.newest key c.deref.result.now part) c.in-Ok.ensures.key read;
          ready = refl;
          newest = omega (arith, long, read.all, read.at);
          other = c.append.ensures.other;
          kept = λ header entries has. c.in-Ok-append.ensures.kept header entries has mixing;
        };
        stays = λ header entries has may. tt;
        follows = inl (follows_read g.D.Disk.seen g.D.Disk.may_leave old new (Ok Goes) c.deref.result.now part c.in-Ok.start read c.in-Ok.ensures.key refl c.append.ensures.columns c.append.ensures.other long
            (λ changes has next. c.in-Ok-append.ensures.changes changes has next mixing) (λ changes has next. c.append.ensures.recover changes has next mixing));
      };
}

pub returns : goal.returns
returns g c = record {
  reads = λ mixing.
      let old = c.args.self.now in
      let found = subst (λ (it : Option Lacking). IfSome it (IsOfMoment c.position-from.result.newest c.in-Ok.start)) c.in-Ok-Some.field-0-is c.in-Ok-Some.ensures in
      let part = c.in-Ok-Some.read.part in
      let read = moment_at c.position-from.result old.log.journal.at c.in-Ok.start c.in-Ok-Some.read.deltas.items c.deref.result.now part c.position-from.ensures.value c.deref.ensures.value found in
      record {
        done = tt;
        stays = λ header entries has may. c.in-Err-append.ensures.stays header entries has may;
        follows = inl (follows_read g.D.Disk.seen g.D.Disk.may_leave old c.append.new.self (Err c.in-Err-append.error) c.deref.result.now part c.in-Ok.start read c.in-Ok.ensures.key tt c.append.ensures.columns c.append.ensures.other tt
            (λ changes has next. tt) (λ changes has next. c.append.ensures.recover changes has next mixing));
      };
}
