use Rattle.mt_promise.proofs.examples.wrong_pages.Goals as goal
use Rattle.mt_promise.proofs.PageExamples.{after_drop, left_behind}

pub returns : goal.returns
returns c = record { after_drop = after_drop; left_behind = left_behind }
