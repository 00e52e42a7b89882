use Rattle.std.proofs.Common.{sym, ◌∙◌}
use Rattle.mt_word.proofs.VersionLemmas.{ended_insert_word, view_after}
use Rattle.mt_word.proofs.version_word.Version.end_inserting.Goals as goal

pub returns-then-inserting-clause-value : goal.returns-then-inserting-clause-value
returns-then-inserting-clause-value c = view_after _ _ _ _ (ended_insert_word c.self.inside.word c.args.self.now (sym c.inserting.ensures ∙ c.if-inserting.true) c.requires) c.self.invariant c.self.view_is
