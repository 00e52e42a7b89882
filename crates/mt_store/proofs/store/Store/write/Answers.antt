use Rattle.std.proofs.Common.{◌∙◌, ap, drop, map, subst, sym, take}
use Rattle.std.proofs.lemmas.Result.{err_from_is_err_and}
use Rattle.mt_promise.specs.History.{moment}
use Rattle.mt_commit.specs.Logged.{deltas_of}
use Rattle.mt_journal.specs.declared.position.Position.{Position}
use Rattle.mt_replay.specs.Replay.{record_of}
use Rattle.mt_store.specs.Causes.{AreTooLong}
use Rattle.mt_store.specs.Stored.{AllRecover}
use Rattle.mt_store.proofs.CauseLemmas.{write_fails}
use Rattle.mt_store.proofs.RecordLemmas.{next_records}
use Rattle.mt_store.proofs.StoreLemmas.{found_as_it_is, found_longer, stored_longer, stored_same}
use Rattle.mt_store.proofs.store.Store.write.Goals as goal

pub returns-in_default-clause-found : goal.returns-in_default-clause-found
returns-in_default-clause-found g c = λ changes st mixing.
    subst (λ (at : Position). AllRecover changes c.args.self.now.map.machine at.durable (g.D.Disk.may_leave c.args.self.now.journal.disk)) c.position-from.ensures.value
    (found_as_it_is changes c.args.self.now.map.machine c.args.self.now.journal.at (g.D.Disk.seen c.args.self.now.journal.disk) (g.D.Disk.may_leave c.args.self.now.journal.disk) st c.position-from.result.durable (g.D.Disk.may_leave c.args.self.now.journal.disk) (c.position-from.ensures.survive st.header st.entries st.keeps))

pub returns-in_default-records_of-clause-found : goal.returns-in_default-records_of-clause-found
returns-in_default-records_of-clause-found g c = λ changes st mixing.
    subst (λ (at : Position). AllRecover changes c.args.self.now.map.machine at.durable (g.D.Disk.may_leave c.args.self.now.journal.disk)) c.position-from.ensures.value
    (found_as_it_is changes c.args.self.now.map.machine c.args.self.now.journal.at (g.D.Disk.seen c.args.self.now.journal.disk) (g.D.Disk.may_leave c.args.self.now.journal.disk) st c.position-from.result.durable (g.D.Disk.may_leave c.args.self.now.journal.disk) (c.position-from.ensures.survive st.header st.entries st.keeps))

pub returns-in_err-append-clause-found : goal.returns-in_err-append-clause-found
returns-in_err-append-clause-found g c = λ changes st mixing. found_longer changes c.args.self.now.map.machine c.args.self.now.journal.at (g.D.Disk.seen c.args.self.now.journal.disk) (g.D.Disk.may_leave c.args.self.now.journal.disk) st 1000 c.in-Ok.deltas.items
    (λ h stands. c.in-Ok.ensures.tells h stands ∙ ap (λ (at : Position). take 1000 (drop at.newest (deltas_of c.args.self.now.map.machine.columns (moment h).commits))) c.position-from.ensures.value)
    c.in-Ok-records_of.records (c.in-Ok-records_of.ensures ∙ ap (map record_of) c.deref.ensures.value) c.args.self.now.journal.at.durable (g.D.Disk.may_leave c.append.new.self.disk) (c.append.ensures.crash st.header st.entries st.keeps mixing)

pub returns-clause-stored : goal.returns-clause-stored
returns-clause-stored g c = λ changes st mixing. stored_longer changes c.args.self.now.map.machine c.args.self.now.journal.at (g.D.Disk.seen c.args.self.now.journal.disk) (g.D.Disk.may_leave c.args.self.now.journal.disk) st 1000 c.in-Ok.deltas.items
    (λ h stands. c.in-Ok.ensures.tells h stands ∙ ap (λ (at : Position). take 1000 (drop at.newest (deltas_of c.args.self.now.map.machine.columns (moment h).commits))) c.position-from.ensures.value)
    c.in-Ok-records_of.records (c.in-Ok-records_of.ensures ∙ ap (map record_of) c.deref.ensures.value) c.append.new.self.at (g.D.Disk.seen c.append.new.self.disk) (g.D.Disk.may_leave c.append.new.self.disk) (c.in_ok-append.ensures.kept st.header st.entries st.keeps mixing) c.in_ok-append.ensures.newest

pub returns-clause-found : goal.returns-clause-found
returns-clause-found g c = λ changes st mixing. found_longer changes c.args.self.now.map.machine c.args.self.now.journal.at (g.D.Disk.seen c.args.self.now.journal.disk) (g.D.Disk.may_leave c.args.self.now.journal.disk) st 1000 c.in-Ok.deltas.items
    (λ h stands. c.in-Ok.ensures.tells h stands ∙ ap (λ (at : Position). take 1000 (drop at.newest (deltas_of c.args.self.now.map.machine.columns (moment h).commits))) c.position-from.ensures.value)
    c.in-Ok-records_of.records (c.in-Ok-records_of.ensures ∙ ap (map record_of) c.deref.ensures.value) c.args.self.now.journal.at.durable (g.D.Disk.may_leave c.append.new.self.disk) (c.append.ensures.crash st.header st.entries st.keeps mixing)

pub returns-in_err-append-clause-cause : goal.returns-in_err-append-clause-cause
returns-in_err-append-clause-cause g c =
    let p = err_from_is_err_and c.from_residual.result c.from_residual.ensures.1 in
    rw (p.1, p.2) (write_fails c.in_err-append.field-0.0 _ _ (AreTooLong c.args.self.now.map.machine c.args.self.now.journal.at) _ _ (λ long. record {
      records = c.in-Ok-records_of.records;
      next = λ h stands. next_records c.args.self.now.map.machine.columns (moment h).commits 1000 c.args.self.now.journal.at.newest c.in-Ok.deltas.items c.in-Ok-records_of.records
          (c.in-Ok.ensures.tells h stands ∙ ap (λ (at : Position). take 1000 (drop at.newest (deltas_of c.args.self.now.map.machine.columns (moment h).commits))) c.position-from.ensures.value)
          (c.in-Ok-records_of.ensures ∙ ap (map record_of) c.deref.ensures.value);
      long = long;
    }) c.in_err-append.ensures.cause)

pub returns-in_err-append-clause-stays : goal.returns-in_err-append-clause-stays
returns-in_err-append-clause-stays g c = λ changes st asks.
    let p = err_from_is_err_and c.from_residual.result c.from_residual.ensures.1 in
    let keeps = c.in_err-append.ensures.stays st.header st.entries st.keeps asks in
    rw p.1 (stored_same changes c.args.self.now.map.machine c.args.self.now.journal.at (g.D.Disk.seen c.args.self.now.journal.disk) (g.D.Disk.may_leave c.args.self.now.journal.disk) st
    c.append.new.self.at (g.D.Disk.seen c.append.new.self.disk) (g.D.Disk.may_leave c.append.new.self.disk) keeps (keeps.newest ∙ sym st.keeps.newest))
