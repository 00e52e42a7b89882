use Rattle.std.proofs.Common.{◌≡◌, ◌∙◌, sym, arith, refl}
use Rattle.mt_script.proofs.FinishLemmas.{Passes-none, Passes-more, Passes-end, as_before}
use Rattle.mt_script.proofs.script.finish.Goals as goal

pub loop-init : goal.loop-init
loop-init c = record { passed = Passes-none c.args.machine.now c.args.call; options = (refl, refl) }

pub returns-then-not-goes_on-clause-stands : goal.returns-then-not-goes_on-clause-stands
returns-then-not-goes_on-clause-stands c =
    Passes-end c.args.machine.now c.loop.machine c.step-outcome.new.machine c.loop.counter c.args.call c.step-outcome.result c.loop.invariant.passed c.step-outcome.ensures.stands
    (omega (arith, c.loop-test.true)) (λ on. absurd (cc (sym c.if-not-goes_on.true ∙ c.goes_on.ensures ∙ on)))

pub returns-then-not-goes_on-clause-options : goal.returns-then-not-goes_on-clause-options
returns-then-not-goes_on-clause-options c = as_before c.args.machine.now c.loop.machine c.step-outcome.new.machine c.step-outcome.ensures.options c.loop.invariant.options

pub loop-preserved : goal.loop-preserved
loop-preserved c = record {
  passed = Passes-more c.args.machine.now c.loop.machine c.step-outcome.new.machine c.loop.counter c.args.call c.step-outcome.result c.loop.invariant.passed c.step-outcome.ensures.stands
      (sym c.goes_on.ensures ∙ c.if-not-goes_on.false);
  options = as_before c.args.machine.now c.loop.machine c.step-outcome.new.machine c.step-outcome.ensures.options c.loop.invariant.options;
}

pub returns-clause-stands : goal.returns-clause-stands
returns-clause-stands c =
    let end : c.loop.counter ≡ 1000000 = omega (arith, c.loop-test.false, c.loop.auto.counter-end (omega arith)) in
    Passes-end c.args.machine.now c.loop.machine c.step.new.machine c.loop.counter c.args.call c.step.result c.loop.invariant.passed c.step.ensures.stands
    (omega (arith, end)) (λ on. end)

pub returns-clause-options : goal.returns-clause-options
returns-clause-options c = as_before c.args.machine.now c.loop.machine c.step.new.machine c.step.ensures.options c.loop.invariant.options
