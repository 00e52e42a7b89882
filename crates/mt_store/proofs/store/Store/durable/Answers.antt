use Rattle.mt_store.proofs.StoreLemmas.{found_as_it_is}
use Rattle.mt_store.proofs.store.Store.durable.Goals as goal

pub returns-clause-found : goal.returns-clause-found
returns-clause-found g c = λ changes st. found_as_it_is changes _ _ _ _ st _ _ (c.position.ensures.survive st.header st.entries st.keeps)
