use Rattle.std.proofs.Common.{◌∙◌}
use Rattle.rowanspan_c.proofs.CallLemmas.{opens_held, opens_done, opens_not}
use Rattle.rowanspan_c.proofs.exports.rowanspan_open.Goals as goal

pub returns-in-Some : goal.returns-in-Some
returns-in-Some c = opens_held c.args.handle.now.held c.fill.new.self.held c.in-Some.index.value _ c.in-Some.ensures.had c.fill.ensures

pub returns-in-Ok : goal.returns-in-Ok
returns-in-Ok c = opens_done c.args.handle.now.held c.fill-in-Ok.new.self.held c.in-Ok.index.value _ c.in_default.ensures.had c.fill-in-Ok.ensures c.in-Ok.ensures.opened c.in-Ok.ensures.fits

pub returns-in-Err : goal.returns-in-Err
returns-in-Err c =
    opens_not c.args.handle.now.held c.take.new.self.held _ c.in-Err.refusal c.from.result c.in_default.ensures.had c.take.ensures.emptied c.in-Err.ensures.opened (c.from.ensures ∙ c.number.ensures)
