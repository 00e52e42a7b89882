use Rattle.mt_map.proofs.MapLemmas.{change_asked}
use Rattle.mt_map.proofs.map.Map.ask.Goals as goal

pub returns-in_default : goal.returns-in_default
returns-in_default c = change_asked c.args.asked.now c.args.self.now c.call_copied.new.self c.call_copied.result c.in_default.not-Remove c.call_copied.ensures.comes
