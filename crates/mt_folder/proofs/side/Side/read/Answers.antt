use Rattle.std.proofs.Common.{◌∙◌}
use Rattle.mt_folder.proofs.SourceLemmas.{last_is}
use Rattle.mt_folder.proofs.side.Side.read.Goals as goal

-- the log continues after its last commit
pub returns-in-Ok-clause-newest : goal.returns-in-Ok-clause-newest
returns-in-Ok-clause-newest g c = λ clean.
    let kept = c.in-Ok.ensures.kept clean in
    kept.newest ∙ last_is c.in-Ok.field-0.header.base c.in-Ok.field-0.entries.items
