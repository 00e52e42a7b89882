use Rattle.std.proofs.Common.{ap, subst}
use Rattle.std.specs.Prelude.{IfOk}
use Rattle.mt_promise.specs.Alone.{IsRangeOfMap}
use Rattle.mt_promise.specs.History.{History, moment, rows}
use Rattle.mt_index.specs.Stands.{MachineView, Stands}
use Rattle.mt_map.specs.Tidies.{MapView}
use Rattle.mt_map.proofs.map.Map.pairs.Goals as goal

pub returns-clause-pairs : goal.returns-clause-pairs
returns-clause-pairs c =
    subst (λ (m : MachineView). IfOk c.pairs_of.result (λ pairs. (h : History) → Stands m h → IsRangeOfMap (rows m.columns (moment h)) c.args.columns.now c.args.start.now c.args.limit pairs)) (ap (λ (v : MapView). v.machine) c.self.view_is) c.pairs_of.ensures.pairs
