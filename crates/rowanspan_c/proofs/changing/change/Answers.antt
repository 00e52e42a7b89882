use Rattle.std.proofs.Common.{◌∙◌, ap, sym, Some}
use Rattle.mt_asked.specs.Borrowed.{request_of}
use Rattle.rowanspan_c.proofs.CallLemmas.{changes_closed, changes_done}
use Rattle.rowanspan_c.proofs.changing.change.Goals as goal

pub returns-in_default : goal.returns-in_default
returns-in_default c = changes_closed c.args.handle.now.held c.take.new.self.held (request_of c.args.asked.now) c.in_default.ensures.had c.take.ensures.emptied

pub returns : goal.returns
returns c =
    changes_done c.args.handle.now.held c.fill.new.self.held c.deref_mut.result.now c.ask-ended.new.self (request_of c.args.asked.now) c.ask-ended.result c.tell_end.result c.tell_end.new.told
    (c.in-Some.ensures.had ∙ ap Some (sym c.deref_mut.ensures.value)) c.fill.ensures c.ask-ended.ensures c.tell_end.ensures
