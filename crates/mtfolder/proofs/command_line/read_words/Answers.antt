use Rattle.std.proofs.Common.{map, subst}
use Rattle.std.specs.Prelude.{string_bytes}
use Rattle.clap.specs.Words.{App, HasMatchesOf}
use Rattle.mtfolder.specs.CommandLine.{mtfolder_app, IsFound, IsSaid}
use Rattle.mtfolder.proofs.CutLemmas.{if_some}
use Rattle.mtfolder.proofs.command_line.read_words.Goals as goal

-- what was found was said
pub returns : goal.returns
returns c =
    let parsed : HasMatchesOf mtfolder_app (map string_bytes c.args.words.now) c.in_ok-matches.matches =
    subst (λ (app : App). HasMatchesOf app (map string_bytes c.args.words.now) c.in_ok-matches.matches) c.in_ok-command.ensures c.in_ok-matches.ensures.matches in
    if_some c.asked_of.result (IsFound c.in_ok-matches.matches) (IsSaid (map string_bytes c.args.words.now))
    (λ asked found. (c.in_ok-matches.matches, parsed, found)) c.asked_of.ensures
