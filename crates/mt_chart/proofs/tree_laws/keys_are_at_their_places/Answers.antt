-- The law, by its lemmas.
use Rattle.mt_chart.proofs.TreeLemmas.{at_their_places, in_their_intervals}
use Rattle.mt_chart.proofs.tree_laws.keys_are_at_their_places.Goals as goal

pub returns-clause-place : goal.returns-clause-place
returns-clause-place c = at_their_places

pub returns-clause-interval : goal.returns-clause-interval
returns-clause-interval c = in_their_intervals
