use Rattle.std.proofs.Common.{ap, ◌∙◌, fold}
use Rattle.mt_publish.specs.Shown.{took}
use Rattle.mt_publish.proofs.Kept.{begins, opens}
use Rattle.mt_publish.proofs.publisher.open.Goals as goal

pub new-requires-clause-rule : goal.new-requires-clause-rule
new-requires-clause-rule g c = begins (record { state = c.args.state; mark = c.again-2.result }) (ap (λ m. m.list) c.again-2.ensures ∙ c.start-chain.ensures)

pub publish_as-writer-requires : goal.publish_as-writer-requires
publish_as-writer-requires g c next is =
    let made = c.in_ok-writer.ensures in let x = c.in_ok-writer.writer.desk.shown.value in
    let empty = ap (λ s. s.mark.list) made.0 ∙ (ap (λ m. m.list) c.again-2.ensures ∙ c.start-chain.ensures) in
    opens _ _ x next empty (is ∙ ap (λ steps. fold took x steps) made.1)
