use Rattle.std.proofs.Common.{sym, ◌∙◌}
use Rattle.mt_map.proofs.MapLemmas.{page_refused, page_stopped}
use Rattle.mt_map.proofs.viewing.page_from.Goals as goal

pub returns-in-Some : goal.returns-in-Some
returns-in-Some c = page_stopped c.args.machine.now c.args.view.0 c.args.floor c.args.start.now c.args.limit c.in-Some.refusal (sym c.page_fault.ensures ∙ c.in-Some.is)

pub returns-in-Err : goal.returns-in-Err
returns-in-Err c = page_refused c.args.machine.now c.args.view.0 c.args.floor c.args.start.now c.args.limit c.page_cause.result c.page_cause.ensures (sym c.page_fault.ensures ∙ c.in_default.is)
