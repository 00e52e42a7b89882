use Rattle.std.proofs.Common.{map, subst}
use Rattle.std.specs.Prelude.{string_bytes}
use Rattle.clap.specs.Words.{App, HasMatchesOf}
use Rattle.mtserve.proofs.command_line.settings_given.Goals as goal

pub returns : goal.returns
returns c = (
  c.in_ok-matches.matches,
  subst (λ (app : App). HasMatchesOf app (map string_bytes c.args.words.now) c.in_ok-matches.matches) c.in_ok-command.ensures c.in_ok-matches.ensures.matches,
  c.settings_of.ensures,
)
