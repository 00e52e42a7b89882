use Rattle.std.proofs.Common.{◌∙◌}
use Rattle.mt_script.proofs.BaseLemmas.{refused_as_said, fed_as_said}
use Rattle.mt_script.proofs.script.feed.Goals as goal

pub returns-in-Ok : goal.returns-in-Ok
returns-in-Ok c = λ h at. (fed_as_said c.args.machine.now c.args.from c.args.limit h at c.feed.result c.in-Ok.deltas c.in-Ok.is c.feed.ensures.fault, c.from_vec.ensures ∙ c.in-Ok.ensures.tells h at.0)

pub returns-in-Err : goal.returns-in-Err
returns-in-Err c = λ h at. refused_as_said c.args.machine.now c.args.from c.args.limit h at c.feed.result c.in-Err.refusal c.in-Err.is c.feed.ensures.fault
