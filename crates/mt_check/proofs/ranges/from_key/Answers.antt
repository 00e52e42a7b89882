use Rattle.std.proofs.Common.{◌∙◌}
use Rattle.mt_types.proofs.MapLemmas.{between-from}
use Rattle.mt_check.proofs.ranges.from_key.Goals as goal

pub returns-clause-items : goal.returns-clause-items
returns-clause-items c = c.range.ensures.between tt ∙ between-from c.args.start.now c.args.versions.now.of.entries
