use Rattle.mt_replay.proofs.ReplayLemmas as lemmas
use Rattle.mt_replay.proofs.prefixes_make_rows.Goals as goal

pub returns-clause-rows : goal.returns-clause-rows
returns-clause-rows c = lemmas.prefixes_make_rows

pub returns-clause-records : goal.returns-clause-records
returns-clause-records c = lemmas.prefixes_make_records
