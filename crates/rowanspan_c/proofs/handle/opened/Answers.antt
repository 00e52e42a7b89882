use Rattle.std.proofs.Common.{refl, Ok}
use Rattle.rowanspan_c.proofs.CallLemmas.{no_fault}
use Rattle.rowanspan_c.proofs.handle.opened.Goals as goal

pub returns-clause-fits : goal.returns-clause-fits
returns-clause-fits c = no_fault _ (Ok c.in_ok-index.index) c.in_ok-index.index _ refl c.in_ok-index.ensures.fault
