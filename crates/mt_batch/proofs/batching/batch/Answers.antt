use Rattle.mt_batch.proofs.ChangeLemmas.{both_fit}
use Rattle.mt_batch.proofs.batching.batch.Goals as goal

pub first_unmet-requires-clause-fit : goal.first_unmet-requires-clause-fit
first_unmet-requires-clause-fit c = (both_fit c.args.machine.now.columns c.args.conditions.now c.args.changes.now c.requires.fit).0

pub make_all-requires-clause-fit : goal.make_all-requires-clause-fit
make_all-requires-clause-fit c = (both_fit c.args.machine.now.columns c.args.conditions.now c.args.changes.now c.requires.fit).1
