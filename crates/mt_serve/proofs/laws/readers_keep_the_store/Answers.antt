use Rattle.mt_serve.proofs.KeepLemmas.{reads_keep_the_store}
use Rattle.mt_serve.proofs.ReaderAloneLemmas.{readers_keep_the_store}
use Rattle.mt_serve.proofs.laws.readers_keep_the_store.Goals as goal

pub returns-clause-frames : goal.returns-clause-frames
returns-clause-frames c = reads_keep_the_store

pub returns-clause-sessions : goal.returns-clause-sessions
returns-clause-sessions c = readers_keep_the_store
