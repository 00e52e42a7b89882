use Rattle.std.specs.Prelude.{OnErr}
use Rattle.std.proofs.Common.{◌++◌, List, Ok, Err, subst, sym}
use Rattle.std.proofs.lemmas.List.{append-nil}
use Rattle.mt_types.specs.declared.event.Answer.TheVariants.{Stored}
use Rattle.mt_types.specs.declared.event.Request.TheVariants.{Put}
use Rattle.mt_asked.specs.Borrowed.{sets_of}
use Rattle.mt_types.specs.declared.row.Change.{Change}
use Rattle.mt_promise.specs.History.{change_of}
use Rattle.mt_store.specs.Changing.{IsWritten}
use Rattle.mt_store.specs.Stored.{AllRecover, IsStored}
use Rattle.mt_store.proofs.ExtendLemmas.{comes}
use Rattle.mt_store.proofs.StoreLemmas.{found_more, stored_more}
use Rattle.mt_store.proofs.WrittenLemmas.{made_is, written}
use Rattle.mt_store.proofs.store.Store.put.Goals as goal

pub returns-in-Ok-clause-stored : goal.returns-in-Ok-clause-stored
returns-in-Ok-clause-stored g c = λ changes st mixing.
    subst (λ (made : List Change). IsWritten c.logged.result (IsStored (changes ++ made) c.logged.new.self.map.machine c.logged.new.self.journal.at (g.D.Disk.seen c.logged.new.self.journal.disk) (g.D.Disk.may_leave c.logged.new.self.journal.disk)))
    (sym (made_is (change_of (Put c.args.key.now (sets_of c.args.sets.now))) c.in-Ok.commit c.logged.result c.logged.ensures.commit)) (written c.in-Ok.commit c.logged.result _ c.logged.ensures.commit
    (c.logged.ensures.stored _ (stored_more c.args.self.now.map.machine c.put.new.self.machine changes _ c.args.self.now.journal.at (g.D.Disk.seen c.args.self.now.journal.disk) (g.D.Disk.may_leave c.args.self.now.journal.disk) (comes c.args.self.now.map c.put.new.self (Put c.args.key.now (sets_of c.args.sets.now)) (Ok (Stored c.in-Ok.commit)) c.in-Ok.ensures) st) mixing))

pub returns-in-Ok-clause-found : goal.returns-in-Ok-clause-found
returns-in-Ok-clause-found g c = λ changes st mixing.
    subst (λ (made : List Change). AllRecover (changes ++ made) c.logged.new.self.map.machine c.args.self.now.journal.at.durable (g.D.Disk.may_leave c.logged.new.self.journal.disk))
    (sym (made_is (change_of (Put c.args.key.now (sets_of c.args.sets.now))) c.in-Ok.commit c.logged.result c.logged.ensures.commit))
    (c.logged.ensures.found _ (stored_more c.args.self.now.map.machine c.put.new.self.machine changes _ c.args.self.now.journal.at (g.D.Disk.seen c.args.self.now.journal.disk) (g.D.Disk.may_leave c.args.self.now.journal.disk) (comes c.args.self.now.map c.put.new.self (Put c.args.key.now (sets_of c.args.sets.now)) (Ok (Stored c.in-Ok.commit)) c.in-Ok.ensures) st) mixing)

pub returns-in-Err-clause-stored : goal.returns-in-Err-clause-stored
returns-in-Err-clause-stored g c = λ changes st mixing. stored_more c.args.self.now.map.machine c.put.new.self.machine changes _ c.args.self.now.journal.at (g.D.Disk.seen c.args.self.now.journal.disk) (g.D.Disk.may_leave c.args.self.now.journal.disk) (comes c.args.self.now.map c.put.new.self (Put c.args.key.now (sets_of c.args.sets.now)) (Err c.in-Err.refusal) c.in-Err.ensures) st

pub returns-in-Err-clause-found : goal.returns-in-Err-clause-found
returns-in-Err-clause-found g c = λ changes st mixing. found_more c.args.self.now.map.machine c.put.new.self.machine changes _ c.args.self.now.journal.at.durable (g.D.Disk.may_leave c.args.self.now.journal.disk) (comes c.args.self.now.map c.put.new.self (Put c.args.key.now (sets_of c.args.sets.now)) (Err c.in-Err.refusal) c.in-Err.ensures) (c.is_behind.ensures.found changes st)

pub returns-then-is_behind-clause-found : goal.returns-then-is_behind-clause-found
returns-then-is_behind-clause-found g c = λ changes st mixing.
    subst (λ (cs : List Change). AllRecover cs c.args.self.now.map.machine c.args.self.now.journal.at.durable (g.D.Disk.may_leave c.args.self.now.journal.disk)) (sym (append-nil changes))
    (c.is_behind.ensures.found changes st)

pub returns-in-Ok-clause-stays : goal.returns-in-Ok-clause-stays
returns-in-Ok-clause-stays g c = λ changes st asks.
    subst (λ (made : List Change). OnErr c.logged.result (IsStored (changes ++ made) c.logged.new.self.map.machine c.logged.new.self.journal.at (g.D.Disk.seen c.logged.new.self.journal.disk) (g.D.Disk.may_leave c.logged.new.self.journal.disk)))
    (sym (made_is (change_of (Put c.args.key.now (sets_of c.args.sets.now))) c.in-Ok.commit c.logged.result c.logged.ensures.commit))
    (c.logged.ensures.stays _ (stored_more c.args.self.now.map.machine c.put.new.self.machine changes _ c.args.self.now.journal.at (g.D.Disk.seen c.args.self.now.journal.disk) (g.D.Disk.may_leave c.args.self.now.journal.disk) (comes c.args.self.now.map c.put.new.self (Put c.args.key.now (sets_of c.args.sets.now)) (Ok (Stored c.in-Ok.commit)) c.in-Ok.ensures) st) asks)

pub returns-in-Err-clause-stays : goal.returns-in-Err-clause-stays
returns-in-Err-clause-stays g c = λ changes st asks. stored_more c.args.self.now.map.machine c.put.new.self.machine changes _ c.args.self.now.journal.at (g.D.Disk.seen c.args.self.now.journal.disk) (g.D.Disk.may_leave c.args.self.now.journal.disk) (comes c.args.self.now.map c.put.new.self (Put c.args.key.now (sets_of c.args.sets.now)) (Err c.in-Err.refusal) c.in-Err.ensures) st
