use Rattle.std.proofs.Common.{ap, ◌∙◌}
use Rattle.mt_word.specs.Version.{VersionView}
use Rattle.mt_word.proofs.VersionLemmas.{flag_test}
use Rattle.mt_word.proofs.version_word.Version.inserting.Goals as goal

pub returns : goal.returns
returns c = flag_test c.self.inside.word 1 ∙ ap (λ (v : VersionView). v.inserting) c.self.view_is
