use Rattle.mt_promise.proofs.finished.finished_calls_are_their_own.Goals as goal
use Rattle.mt_promise.proofs.OnceLemmas.{carries, calls_finish_once, views_are_built_once}
use Rattle.mt_promise.proofs.OwnChange.{have_made}
use Rattle.mt_promise.proofs.CommitLemmas.{commits_are_named_once}

pub returns-clause-carries : goal.returns-clause-carries
returns-clause-carries c = carries

pub returns-clause-made : goal.returns-clause-made
returns-clause-made c = have_made

pub returns-clause-once : goal.returns-clause-once
returns-clause-once c = calls_finish_once

pub returns-clause-views : goal.returns-clause-views
returns-clause-views c = views_are_built_once

pub returns-clause-commits : goal.returns-clause-commits
returns-clause-commits c = commits_are_named_once
