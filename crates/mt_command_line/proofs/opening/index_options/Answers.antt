use Rattle.std.proofs.Common.{refl}
use Rattle.std.specs.Prelude.{codes}
use Rattle.std.proofs.lemmas.Result.{IfOk-weaker}
use Rattle.clap.specs.Words.{app_of}
use Rattle.clap.specs.declared.builder.command.Command.{Command}
use Rattle.mt_command_line.specs.Opening.{aliased_rule, columns_rule}
use Rattle.mt_command_line.proofs.Options.{with_option}
use Rattle.mt_command_line.proofs.opening.index_options.Goals as goal

pub returns : goal.returns
returns c =
    let one = with_option c.args.command c.in_ok-arg.field-0 c.columns_option.result (app_of c.args.command) columns_rule c.columns_option.ensures.local c.columns_option.ensures.rule refl c.in_ok-arg.ensures in
    let two = with_option c.in_ok-arg.field-0 c.in_ok-arg-2.field-0 c.in_ok-capacity.capacity _ (aliased_rule (codes "log-capacity") (codes "feed") 1 65536) c.in_ok-capacity.ensures.local c.in_ok-capacity.ensures.rule one c.in_ok-arg-2.ensures in
    IfOk-weaker c.arg-3.result _ _
    (λ (new : Command). with_option c.in_ok-arg-2.field-0 new c.in_ok-retention.retention _ (aliased_rule (codes "log-retention") (codes "keep") 0 65536) c.in_ok-retention.ensures.local c.in_ok-retention.ensures.rule two)
    c.arg-3.ensures
