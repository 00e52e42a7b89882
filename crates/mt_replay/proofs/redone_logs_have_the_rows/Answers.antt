use Rattle.mt_replay.proofs.FollowLemmas as follow
use Rattle.mt_replay.proofs.ReadingLemmas as reading
use Rattle.mt_replay.proofs.RedoLemmas as lemmas
use Rattle.mt_replay.proofs.redone_logs_have_the_rows.Goals as goal

pub returns-clause-rows : goal.returns-clause-rows
returns-clause-rows c = lemmas.rows_are_redone

pub returns-clause-commits : goal.returns-clause-commits
returns-clause-commits c = follow.commits_are_redone

pub returns-clause-read : goal.returns-clause-read
returns-clause-read c = reading.rows_are_read
