use Rattle.mt_map.proofs.MapLemmas.{came_answered, came_refused, is_answer}
use Rattle.mt_map.proofs.calling.call_alone.Goals as goal

pub returns-in-Ok-clause-came : goal.returns-in-Ok-clause-came
returns-in-Ok-clause-came c =
    came_answered c.args.machine.now c.do_alone.new.self c.args.request c.in-Ok.reply c.in-Ok.ensures.answered c.in-Ok.ensures.happens c.in-Ok.ensures.fault c.in-Ok.ensures.options c.in-Ok.ensures.bounds

pub returns-in-Ok-clause-kind : goal.returns-in-Ok-clause-kind
returns-in-Ok-clause-kind c =
    is_answer c.args.machine.now c.do_alone.new.self c.args.request c.in-Ok.reply c.is_idle-stands.ensures.stands c.in-Ok.ensures.answered

pub returns-in-Err-clause-came : goal.returns-in-Err-clause-came
returns-in-Err-clause-came c =
    came_refused c.args.machine.now c.do_alone.new.self c.args.request c.in-Err.refusal c.in-Err.ensures.refused c.in-Err.ensures.happens c.in-Err.ensures.fault c.in-Err.ensures.options c.in-Err.ensures.bounds
