use Rattle.std.proofs.Common.{◌++◌, ℕ, List, Ok, Err, Option, Some, None, subst, sym}
use Rattle.std.proofs.lemmas.List.{append-nil}
use Rattle.mt_types.specs.declared.event.Request.TheVariants.{Remove}
use Rattle.mt_types.specs.declared.row.Change.{Change}
use Rattle.mt_promise.specs.History.{change_of}
use Rattle.mt_map.specs.Tidies.{RemovesAndTidies}
use Rattle.mt_store.proofs.ExtendLemmas.{removes}
use Rattle.mt_store.specs.Stored.{AllRecover, IsStored}
use Rattle.mt_store.proofs.StoreLemmas.{found_more, stored_more}
use Rattle.mt_store.proofs.WrittenLemmas.{removed_is}
use Rattle.mt_store.proofs.store.Store.remove.Goals as goal

pub returns-in-Ok-None-clause-stored : goal.returns-in-Ok-None-clause-stored
returns-in-Ok-None-clause-stored g c = λ changes st mixing. stored_more c.args.self.now.map.machine c.remove.new.self.machine changes _ c.args.self.now.journal.at (g.D.Disk.seen c.args.self.now.journal.disk) (g.D.Disk.may_leave c.args.self.now.journal.disk) (removes c.args.self.now.map c.remove.new.self c.args.key.now (Ok None) (subst (λ (found : Option ℕ). RemovesAndTidies c.args.self.now.map c.args.key.now found c.remove.new.self) c.in-Ok-None.field-0-is c.in-Ok-None.ensures)) st

pub returns-in-Ok-None-clause-found : goal.returns-in-Ok-None-clause-found
returns-in-Ok-None-clause-found g c = λ changes st mixing. found_more c.args.self.now.map.machine c.remove.new.self.machine changes _ c.args.self.now.journal.at.durable (g.D.Disk.may_leave c.args.self.now.journal.disk) (removes c.args.self.now.map c.remove.new.self c.args.key.now (Ok None) (subst (λ (found : Option ℕ). RemovesAndTidies c.args.self.now.map c.args.key.now found c.remove.new.self) c.in-Ok-None.field-0-is c.in-Ok-None.ensures)) (c.is_behind.ensures.found changes st)

pub returns-in-Err-clause-stored : goal.returns-in-Err-clause-stored
returns-in-Err-clause-stored g c = λ changes st mixing. stored_more c.args.self.now.map.machine c.remove.new.self.machine changes _ c.args.self.now.journal.at (g.D.Disk.seen c.args.self.now.journal.disk) (g.D.Disk.may_leave c.args.self.now.journal.disk) (removes c.args.self.now.map c.remove.new.self c.args.key.now (Err c.in-Err.refusal) c.in-Err.ensures) st

pub returns-in-Err-clause-found : goal.returns-in-Err-clause-found
returns-in-Err-clause-found g c = λ changes st mixing. found_more c.args.self.now.map.machine c.remove.new.self.machine changes _ c.args.self.now.journal.at.durable (g.D.Disk.may_leave c.args.self.now.journal.disk) (removes c.args.self.now.map c.remove.new.self c.args.key.now (Err c.in-Err.refusal) c.in-Err.ensures) (c.is_behind.ensures.found changes st)

pub returns-then-is_behind-clause-found : goal.returns-then-is_behind-clause-found
returns-then-is_behind-clause-found g c = λ changes st mixing.
    subst (λ (cs : List Change). AllRecover cs c.args.self.now.map.machine c.args.self.now.journal.at.durable (g.D.Disk.may_leave c.args.self.now.journal.disk)) (sym (append-nil changes))
    (c.is_behind.ensures.found changes st)

pub returns-in-Ok-clause-stored : goal.returns-in-Ok-clause-stored
returns-in-Ok-clause-stored g c = λ changes st mixing. c.in-Ok.ensures.stored _ (stored_more c.args.self.now.map.machine c.remove.new.self.machine changes _ c.args.self.now.journal.at (g.D.Disk.seen c.args.self.now.journal.disk) (g.D.Disk.may_leave c.args.self.now.journal.disk) (removes c.args.self.now.map c.remove.new.self c.args.key.now (Ok (Some c.in-Ok-Some.commit)) (subst (λ (found : Option ℕ). RemovesAndTidies c.args.self.now.map c.args.key.now found c.remove.new.self) c.in-Ok-Some.field-0-is c.in-Ok-Some.ensures)) st) mixing

pub returns-in-Ok-clause-found : goal.returns-in-Ok-clause-found
returns-in-Ok-clause-found g c = λ changes st mixing. c.logged.ensures.found _ (stored_more c.args.self.now.map.machine c.remove.new.self.machine changes _ c.args.self.now.journal.at (g.D.Disk.seen c.args.self.now.journal.disk) (g.D.Disk.may_leave c.args.self.now.journal.disk) (removes c.args.self.now.map c.remove.new.self c.args.key.now (Ok (Some c.in-Ok-Some.commit)) (subst (λ (found : Option ℕ). RemovesAndTidies c.args.self.now.map c.args.key.now found c.remove.new.self) c.in-Ok-Some.field-0-is c.in-Ok-Some.ensures)) st) mixing

pub returns-in-Err-logged-clause-found : goal.returns-in-Err-logged-clause-found
returns-in-Err-logged-clause-found g c = λ changes st mixing.
    subst (λ (made : List Change). AllRecover (changes ++ made) c.logged.new.self.map.machine c.args.self.now.journal.at.durable (g.D.Disk.may_leave c.logged.new.self.journal.disk))
    (sym (removed_is (change_of (Remove c.args.key.now)) c.in-Ok-Some.commit c.in-Err-logged.error c.in-Err-logged.ensures.commit))
    (c.logged.ensures.found _ (stored_more c.args.self.now.map.machine c.remove.new.self.machine changes _ c.args.self.now.journal.at (g.D.Disk.seen c.args.self.now.journal.disk) (g.D.Disk.may_leave c.args.self.now.journal.disk) (removes c.args.self.now.map c.remove.new.self c.args.key.now (Ok (Some c.in-Ok-Some.commit)) (subst (λ (found : Option ℕ). RemovesAndTidies c.args.self.now.map c.args.key.now found c.remove.new.self) c.in-Ok-Some.field-0-is c.in-Ok-Some.ensures)) st) mixing)

pub returns-in-Err-clause-stays : goal.returns-in-Err-clause-stays
returns-in-Err-clause-stays g c = λ changes st asks. stored_more c.args.self.now.map.machine c.remove.new.self.machine changes _ c.args.self.now.journal.at (g.D.Disk.seen c.args.self.now.journal.disk) (g.D.Disk.may_leave c.args.self.now.journal.disk) (removes c.args.self.now.map c.remove.new.self c.args.key.now (Err c.in-Err.refusal) c.in-Err.ensures) st

pub returns-in-Err-logged-clause-stays : goal.returns-in-Err-logged-clause-stays
returns-in-Err-logged-clause-stays g c = λ changes st asks.
    subst (λ (made : List Change). IsStored (changes ++ made) c.logged.new.self.map.machine c.logged.new.self.journal.at (g.D.Disk.seen c.logged.new.self.journal.disk) (g.D.Disk.may_leave c.logged.new.self.journal.disk))
    (sym (removed_is (change_of (Remove c.args.key.now)) c.in-Ok-Some.commit c.in-Err-logged.error c.in-Err-logged.ensures.commit))
    (c.in-Err-logged.ensures.stays _ (stored_more c.args.self.now.map.machine c.remove.new.self.machine changes _ c.args.self.now.journal.at (g.D.Disk.seen c.args.self.now.journal.disk) (g.D.Disk.may_leave c.args.self.now.journal.disk) (removes c.args.self.now.map c.remove.new.self c.args.key.now (Ok (Some c.in-Ok-Some.commit)) (subst (λ (found : Option ℕ). RemovesAndTidies c.args.self.now.map c.args.key.now found c.remove.new.self) c.in-Ok-Some.field-0-is c.in-Ok-Some.ensures)) st) asks)
