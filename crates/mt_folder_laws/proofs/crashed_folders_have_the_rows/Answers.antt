use Rattle.mt_folder_laws.proofs.CrashLemmas as lemmas
use Rattle.mt_folder_laws.proofs.crashed_folders_have_the_rows.Goals as goal

pub returns-clause-first : goal.returns-clause-first
returns-clause-first c = lemmas.first_logs c.logs_are_read_one_way.ensures c.redone_logs_have_the_rows.ensures.commits

pub returns-clause-checkpoint : goal.returns-clause-checkpoint
returns-clause-checkpoint c = lemmas.checkpoints c.logs_are_read_one_way.ensures c.redone_logs_have_the_rows.ensures.commits

pub returns-clause-sealed : goal.returns-clause-sealed
returns-clause-sealed c = lemmas.sealed_logs c.logs_are_read_one_way.ensures

pub returns-clause-grown : goal.returns-clause-grown
returns-clause-grown c = lemmas.grown_logs c.logs_are_read_one_way.ensures c.redone_logs_have_the_rows.ensures.commits c.logs_have_their_fronts.ensures

pub returns-clause-read : goal.returns-clause-read
returns-clause-read c = lemmas.first_are_read c.logs_are_read_one_way.ensures c.redone_logs_have_the_rows.ensures.commits
