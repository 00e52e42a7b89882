use Rattle.std.proofs.Common.{arith, refl}
use Rattle.mt_store.proofs.StoreLemmas.{found_as_it_is}
use Rattle.mt_store.proofs.store.Store.sync.Goals as goal

pub returns-then-is_behind-clause-found : goal.returns-then-is_behind-clause-found
returns-then-is_behind-clause-found g c = λ changes st mixing. c.is_behind.ensures.found changes st

pub returns-in-Ok-clause-all : goal.returns-in-Ok-clause-all
returns-in-Ok-clause-all g c = let all = c.if-is_behind.ensures.all refl in let is = c.in-Ok.ensures.number in omega (arith, all, is)

pub returns-in-Ok-clause-found : goal.returns-in-Ok-clause-found
returns-in-Ok-clause-found g c = λ changes st mixing. found_as_it_is changes c.args.self.now.map.machine c.args.self.now.journal.at (g.D.Disk.seen c.args.self.now.journal.disk) (g.D.Disk.may_leave c.args.self.now.journal.disk) st c.args.self.now.journal.at.durable (g.D.Disk.may_leave c.sync.new.self.disk) (c.sync.ensures.crash st.header st.entries st.keeps)

pub returns-in-Err-clause-found : goal.returns-in-Err-clause-found
returns-in-Err-clause-found g c = λ changes st mixing. found_as_it_is changes c.args.self.now.map.machine c.args.self.now.journal.at (g.D.Disk.seen c.args.self.now.journal.disk) (g.D.Disk.may_leave c.args.self.now.journal.disk) st c.args.self.now.journal.at.durable (g.D.Disk.may_leave c.sync.new.self.disk) (c.sync.ensures.crash st.header st.entries st.keeps)
