use Rattle.mt_folder.proofs.FolderLemmas as lemmas
use Rattle.mt_folder.proofs.laws.folders_have_the_rows.Goals as goal

pub returns-clause-first : goal.returns-clause-first
returns-clause-first c = lemmas.first_rows c.redone_logs_have_the_rows.ensures.commits

pub returns-clause-listing : goal.returns-clause-listing
returns-clause-listing c =
    λ C changes log have lists. c.redone_logs_have_the_rows.ensures.read C changes log.header.base log.entries.items have lists.listed lists.others

pub returns-clause-later : goal.returns-clause-later
returns-clause-later c = lemmas.later_rows c.redone_logs_have_the_rows.ensures.commits
