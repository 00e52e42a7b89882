use Rattle.mt_post.proofs.AloneLemmas.{postings_run_alone, lone_postings_end as run_ends}
use Rattle.mt_post.proofs.laws.lone_postings_end.Goals as goal

pub returns-clause-alone : goal.returns-clause-alone
returns-clause-alone c = postings_run_alone

pub returns-clause-ends : goal.returns-clause-ends
returns-clause-ends c = run_ends
