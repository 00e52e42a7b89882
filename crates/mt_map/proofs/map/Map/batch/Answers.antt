use Rattle.std.proofs.Common.{subst, rules}
use Rattle.mt_index.specs.Stands.{MachineView}
use Rattle.mt_batch.specs.Batch.{ComesTo}
use Rattle.mt_map.specs.Batches.{PurgesAfter, places_of}
use Rattle.mt_map.specs.Tidies.{MapView}
use Rattle.mt_map.proofs.map.Map.batch.Goals as goal

pub returns-clause-came : goal.returns-clause-came
returns-clause-came c =
    let follow : PurgesAfter c.in_ok-came.came c.batch.new.machine (places_of c.self.inside.tidies c.args.changes.now) c.tidy_batch.new.machine = search rules in
    subst (λ (v : MapView). (m : MachineView) × ComesTo v.machine c.args.conditions.now c.args.changes.now c.in_ok-came.came m × PurgesAfter c.in_ok-came.came m (places_of v.tidies c.args.changes.now) c.tidy_batch.new.machine)
    c.self.view_is (c.batch.new.machine, c.in_ok-came.ensures.came, follow)
