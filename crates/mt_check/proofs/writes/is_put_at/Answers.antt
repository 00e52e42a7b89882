use Rattle.mt_types.specs.declared.row.Change.TheVariants.{Put}
use Rattle.mt_check.proofs.WriteLemmas.{told_put}
use Rattle.mt_check.proofs.writes.is_put_at.Goals as goal

pub returns-in-Some : goal.returns-in-Some
returns-in-Some c =
    told_put c.args.columns c.args.span.from c.args.span.to c.args.number c.args.deltas.now c.in-Some.delta.now (Put c.args.key.now c.args.sets.now) c.is_put.result
    c.requires c.in-Some.ensures c.is_put.ensures
