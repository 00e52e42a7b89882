use Rattle.mt_promise.proofs.examples.visible_by_commit_alone.Goals as goal
use Rattle.mt_promise.proofs.ExampleLemmas.{visible}

pub returns : goal.returns
returns c = visible
