use Rattle.std.proofs.Common.{refl}
use Rattle.std.specs.Prelude.{codes}
use Rattle.std.proofs.lemmas.Result.{IfOk-weaker}
use Rattle.clap.specs.Words.{app_of}
use Rattle.clap.specs.declared.builder.command.Command.{Command}
use Rattle.mt_command_line.specs.Numbers.{number_rule}
use Rattle.mtserve.specs.CommandLine.{text_rule}
use Rattle.mt_command_line.proofs.Options.{with_option}
use Rattle.mtserve.proofs.command_line.data_options.Goals as goal

pub returns : goal.returns
returns c =
    let one = with_option c.args.command c.in_ok-arg.field-0 c.text_option.result (app_of c.args.command) (text_rule (codes "data")) c.text_option.ensures.local c.text_option.ensures.rule refl c.in_ok-arg.ensures in
    let two = with_option c.in_ok-arg.field-0 c.in_ok-arg-2.field-0 c.text_option-2.result _ (text_rule (codes "sync")) c.text_option-2.ensures.local c.text_option-2.ensures.rule one c.in_ok-arg-2.ensures in
    IfOk-weaker c.arg-3.result _ _
    (λ (new : Command). with_option c.in_ok-arg-2.field-0 new c.number_option.result _ (number_rule (codes "checkpoint") 0 1099511627776) c.number_option.ensures.local c.number_option.ensures.rule two)
    c.arg-3.ensures
