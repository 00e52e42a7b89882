use Rattle.std.proofs.Common.{◌∙◌, ap, sym, Some}
use Rattle.rowanspan_c.proofs.CallLemmas.{meets_closed, meets_done}
use Rattle.rowanspan_c.proofs.changing.meet.Goals as goal

pub returns-in_default : goal.returns-in_default
returns-in_default c = meets_closed c.args.handle.now.held c.take.new.self.held c.args.event.now c.in_default.ensures.had c.take.ensures.emptied

pub returns : goal.returns
returns c =
    meets_done c.args.handle.now.held c.fill.new.self.held c.deref_mut.result.now c.event-outcome.new.self c.args.event.now c.event-outcome.result c.tell_outcome.result c.tell_outcome.new.told
    (c.in-Some.ensures.had ∙ ap Some (sym c.deref_mut.ensures.value)) c.fill.ensures c.event-outcome.ensures c.tell_outcome.ensures
