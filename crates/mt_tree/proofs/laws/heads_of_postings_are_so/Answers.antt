use Rattle.mt_tree.proofs.RootLemmas.{head_alive, root_of_split}
use Rattle.mt_tree.proofs.laws.heads_of_postings_are_so.Goals as goal

pub returns-clause-alive : goal.returns-clause-alive
returns-clause-alive c = head_alive

pub returns-clause-root : goal.returns-clause-root
returns-clause-root c = root_of_split
