use Rattle.mt_word.proofs.VersionLemmas.{locked_word, view_after, word_after, whole_after}
use Rattle.mt_word.proofs.version_word.Version.lock.Goals as goal

pub invariant_of-self : goal.invariant_of-self
invariant_of-self c = word_after _ _ _ _ (locked_word c.self.inside.word c.args.self.now c.requires) c.self.invariant c.self.view_is

pub returns-clause-value : goal.returns-clause-value
returns-clause-value c = view_after _ _ _ _ (locked_word c.self.inside.word c.args.self.now c.requires) c.self.invariant c.self.view_is

pub returns-clause-whole : goal.returns-clause-whole
returns-clause-whole c = whole_after _ _ _ _ (locked_word c.self.inside.word c.args.self.now c.requires) c.self.invariant c.self.view_is
