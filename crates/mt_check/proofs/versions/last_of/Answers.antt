use Rattle.std.proofs.Common.{None, sym, ◌∙◌}
use Rattle.mt_check.proofs.VersionLemmas.{last_is}
use Rattle.mt_check.proofs.versions.last_of.Goals as goal

pub returns-in-Some : goal.returns-in-Some
returns-in-Some c = c.as_ref.ensures.value ∙ sym (last_is None c.args.versions.now c.in-Some.version.now (sym c.in-Some.ensures.value))
