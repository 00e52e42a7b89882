use Rattle.std.proofs.Common.{◌∷◌, ◌∙◌, refl}
use Rattle.mt_promise.specs.History.{happening}
use Rattle.mt_script.proofs.BaseLemmas.{event_base}
use Rattle.mt_script.proofs.script.ask.Goals as goal

pub returns-clause-stands : goal.returns-clause-stands
returns-clause-stands c = λ past at.
    let (opens, then) = c.event.ensures.stands past at.0 in
    let base = event_base c.args.machine.now c.event.new.self c.args.event.now c.event.result past at.0 c.event.ensures.does in
    (happening c.args.event.now c.event.result opens ∷ past, (opens, refl), (then, base ∙ at.1))
