-- The law, by its lemmas.
use Rattle.mt_chart.proofs.Roots.{roots_highest, root_of_split}
use Rattle.mt_chart.proofs.tree_laws.roots_are_highest.Goals as goal

pub returns-clause-highest : goal.returns-clause-highest
returns-clause-highest c = roots_highest

pub returns-clause-split : goal.returns-clause-split
returns-clause-split c = root_of_split
