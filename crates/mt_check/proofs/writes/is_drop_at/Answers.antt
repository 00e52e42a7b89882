use Rattle.mt_types.specs.declared.row.Change.TheVariants.{Drop}
use Rattle.mt_check.proofs.WriteLemmas.{told_commit}
use Rattle.mt_check.proofs.writes.is_drop_at.Goals as goal

pub returns-in-Some : goal.returns-in-Some
returns-in-Some c =
    told_commit c.args.columns c.args.span.from c.args.span.to c.args.number c.args.deltas.now c.in-Some.delta.now (Drop c.args.key.now) c.is_drop.result
    c.requires c.in-Some.ensures c.is_drop.ensures
