use Rattle.mt_word.proofs.VersionLemmas.{splitting_word, view_after, word_after, whole_after}
use Rattle.mt_word.proofs.version_word.Version.set_splitting.Goals as goal

pub invariant_of-self : goal.invariant_of-self
invariant_of-self c = word_after _ _ _ _ (splitting_word c.self.inside.word c.args.self.now) c.self.invariant c.self.view_is

pub returns-clause-set : goal.returns-clause-set
returns-clause-set c = view_after _ _ _ _ (splitting_word c.self.inside.word c.args.self.now) c.self.invariant c.self.view_is

pub returns-clause-whole : goal.returns-clause-whole
returns-clause-whole c = whole_after _ _ _ _ (splitting_word c.self.inside.word c.args.self.now) c.self.invariant c.self.view_is
