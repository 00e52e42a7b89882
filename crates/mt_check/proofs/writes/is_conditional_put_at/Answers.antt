use Rattle.mt_check.proofs.WriteLemmas.{told_conditional_put}
use Rattle.mt_check.proofs.writes.is_conditional_put_at.Goals as goal

pub returns-in-Some : goal.returns-in-Some
returns-in-Some c =
    told_conditional_put c.args.columns c.args.span.from c.args.span.to c.args.number c.args.deltas.now c.in-Some.delta.now c.args.put.now.key.now c.args.put.now.sets.now c.args.put.now.version c.is_conditional_put.result
    c.requires c.in-Some.ensures c.is_conditional_put.ensures
