use Rattle.rowanspan_c.proofs.CallLemmas.{page_fits, page_caused}
use Rattle.rowanspan_c.proofs.reading.page_from.Goals as goal

pub returns-in-Ok-clause-fits : goal.returns-in-Ok-clause-fits
returns-in-Ok-clause-fits c = page_fits _ _ c.args.floor c.args.start.now c.args.limit c.in-Ok.page c.in-Ok.ensures.page

pub returns-in-Err-clause-answer : goal.returns-in-Err-clause-answer
returns-in-Err-clause-answer c = page_caused _ _ c.args.floor c.args.start.now c.args.limit c.in-Err.refusal c.in-Err.ensures.page
