use Rattle.std.proofs.Common.{[], refl}
use Rattle.mt_map.proofs.BoundLemmas.{walks_all, walks_from}
use Rattle.mt_map.proofs.map.Map.walk_from.Goals as goal

pub returns-in-Included-clause-start : goal.returns-in-Included-clause-start
returns-in-Included-clause-start c = rw c.in-Included.is (walks_from c.args.self.now.machine c.in-Included.key.now c.walk.result c.walk.ensures.start)

pub returns-in-Unbounded-clause-start : goal.returns-in-Unbounded-clause-start
returns-in-Unbounded-clause-start c = rw c.in-Unbounded.is (walks_all c.args.self.now.machine [] c.walk-in-Unbounded.result refl c.walk-in-Unbounded.ensures.start)
