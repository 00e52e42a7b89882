use Rattle.std.proofs.Common.{sym, ◌∙◌}
use Rattle.mt_word.proofs.VersionLemmas.{ended_split_word, view_after}
use Rattle.mt_word.proofs.version_word.Version.end_splitting.Goals as goal

pub returns-then-splitting-clause-value : goal.returns-then-splitting-clause-value
returns-then-splitting-clause-value c = view_after _ _ _ _ (ended_split_word c.self.inside.word c.args.self.now (sym c.splitting.ensures ∙ c.if-splitting.true) c.requires) c.self.invariant c.self.view_is
