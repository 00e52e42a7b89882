use Rattle.mt_promise.specs.History.{moment, rows}
use Rattle.mt_map.proofs.MapLemmas.{none_counted}
use Rattle.mt_map.proofs.map.Map.is_empty.Goals as goal

pub returns : goal.returns
returns c h stands = none_counted (rows c.args.self.now.machine.columns (moment h)) c.len.result (c.len.ensures h stands)
