use Rattle.std.proofs.Common.{List, ℕ, arith, subst}
use Rattle.mt_map.specs.Tidies.{TidiesOnce}
use Rattle.mt_map.proofs.TidyLemmas.{tidied_once}
use Rattle.mt_map.proofs.tidying.tidy_all.Goals as goal

pub returns-in_default-clause-all : goal.returns-in_default-clause-all
returns-in_default-clause-all c =
    tidied_once c.args.machine.now c.loop.machine c.tidy_once.new.machine c.args.first c.loop.counter c.tidy_once.result c.loop.invariant.tidies
    (subst (λ (key : List ℕ). TidiesOnce c.loop.machine key c.tidy_once.result c.tidy_once.new.machine) c.loop.invariant.same c.tidy_once.ensures.once)
    (let within = c.loop-test.true in let most = c.loop.auto.counter-end in omega (arith, within, most))

pub returns-then-not-tidy_once-clause-all : goal.returns-then-not-tidy_once-clause-all
returns-then-not-tidy_once-clause-all c =
    tidied_once c.args.machine.now c.loop.machine c.tidy_once.new.machine c.args.first c.loop.counter c.tidy_once.result c.loop.invariant.tidies
    (subst (λ (key : List ℕ). TidiesOnce c.loop.machine key c.tidy_once.result c.tidy_once.new.machine) c.loop.invariant.same c.tidy_once.ensures.once)
    (let within = c.loop-test.true in let most = c.loop.auto.counter-end in omega (arith, within, most))
