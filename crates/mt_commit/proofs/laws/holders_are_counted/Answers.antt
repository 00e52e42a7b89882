use Rattle.mt_commit.proofs.CountLemmas.{pinning_counts, unpinning_counts, counted_is_held, least_is_by_counts}
use Rattle.mt_commit.proofs.laws.holders_are_counted.Goals as goal

pub returns-clause-pinned : goal.returns-clause-pinned
returns-clause-pinned c = pinning_counts

pub returns-clause-unpinned : goal.returns-clause-unpinned
returns-clause-unpinned c = unpinning_counts

pub returns-clause-held : goal.returns-clause-held
returns-clause-held c = counted_is_held

pub returns-clause-least : goal.returns-clause-least
returns-clause-least c = least_is_by_counts
