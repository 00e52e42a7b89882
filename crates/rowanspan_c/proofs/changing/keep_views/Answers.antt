use Rattle.std.proofs.Common.{◌∙◌, ap, sym, Some}
use Rattle.rowanspan_c.proofs.CallLemmas.{keeps_closed, keeps_done}
use Rattle.rowanspan_c.proofs.changing.keep_views.Goals as goal

pub returns-in_default : goal.returns-in_default
returns-in_default c = keeps_closed c.args.handle.now.held c.take.new.self.held c.in_default.ensures.had c.take.ensures.emptied

pub returns : goal.returns
returns c =
    keeps_done c.args.handle.now.held c.fill.new.self.held c.deref_mut.result.now c.keep_views-kept.new.self c.keep_views-kept.result c.tell_count.result c.tell_count.new.told
    (c.in-Some.ensures.had ∙ ap Some (sym c.deref_mut.ensures.value)) c.fill.ensures c.keep_views-kept.ensures.kept c.keep_views-kept.ensures.refused c.keep_views-kept.ensures.tidies c.tell_count.ensures
