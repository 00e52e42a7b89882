-- A command with one more option.
use Rattle.std.proofs.Common.{◌≡◌, false, ap, ◌∙◌}
use Rattle.clap.specs.Built.{AddsArg}
use Rattle.clap.specs.Words.{App, Rule, app_of, rule_of, with_rule}
use Rattle.clap.specs.declared.builder.arg.Arg.{Arg}
use Rattle.clap.specs.declared.builder.command.Command.{Command}

pub with_option : (old new : Command) (option : Arg) (app : App) (rule : Rule) → option.global ≡ false → rule_of option ≡ rule
    → app_of old ≡ app → AddsArg old option new → app_of new ≡ with_rule app rule
with_option old new option app rule local is so_far adds =
    adds.shape local
    ∙ ap (λ (more : Rule). with_rule (app_of old) more) is
    ∙ ap (λ (before : App). with_rule before rule) so_far
