use Rattle.std.proofs.Common.{subst}
use Rattle.mt_journal.specs.declared.position.Position.{Position}
use Rattle.mt_store.specs.Stored.{AllRecover}
use Rattle.mt_store.proofs.StoreLemmas.{found_as_it_is}
use Rattle.mt_store.proofs.store.Store.is_behind.Goals as goal

pub returns-clause-found : goal.returns-clause-found
returns-clause-found g c = λ changes st.
    subst (λ (at : Position). AllRecover changes c.args.self.now.map.machine at.durable (g.D.Disk.may_leave c.args.self.now.journal.disk)) c.position.ensures.value
    (found_as_it_is changes c.args.self.now.map.machine c.args.self.now.journal.at (g.D.Disk.seen c.args.self.now.journal.disk) (g.D.Disk.may_leave c.args.self.now.journal.disk) st c.position.result.durable (g.D.Disk.may_leave c.args.self.now.journal.disk) (c.position.ensures.survive st.header st.entries st.keeps))
