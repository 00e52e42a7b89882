use Rattle.mt_map.proofs.MapLemmas.{stays_idle}
use Rattle.mt_map.proofs.viewing.meet.Goals as goal

pub returns-clause-idle : goal.returns-clause-idle
returns-clause-idle c = stays_idle c.args.machine.now c.event.new.self c.args.event.now c.event.result c.requires.outside c.event.ensures.does c.requires.idle
