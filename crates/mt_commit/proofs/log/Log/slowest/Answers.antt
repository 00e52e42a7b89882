use Rattle.std.proofs.Common.{◌≡◌, ap, ◌∙◌, arith}
use Rattle.mt_types.specs.Numbers.{least}
use Rattle.mt_commit.specs.Log.{LogView, newest, slowest}
use Rattle.mt_commit.proofs.LogLemmas.{slowest_within, held_by_slowest}
use Rattle.mt_commit.proofs.log.Log.slowest.Goals as goal

pub returns-clause-here : goal.returns-clause-here
returns-clause-here c =
    let least_is : c.least.result ≡ slowest c.args.self.now =
    c.least.ensures ∙ ap (λ n. least n c.self.inside.holders) c.number.ensures.value ∙ ap (λ (log : LogView). least (newest c.args.self.now) log.holders) c.self.view_is in
    omega (arith, held_by_slowest c.args.self.now c.number.ensures.sound)

pub returns-clause-done : goal.returns-clause-done
returns-clause-done c =
    let least_is : c.least.result ≡ slowest c.args.self.now =
    c.least.ensures ∙ ap (λ n. least n c.self.inside.holders) c.number.ensures.value ∙ ap (λ (log : LogView). least (newest c.args.self.now) log.holders) c.self.view_is in
    omega (arith, slowest_within c.args.self.now)
