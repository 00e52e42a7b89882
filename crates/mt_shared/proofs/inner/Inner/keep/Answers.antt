use Rattle.std.proofs.Common.{arith, inl}
use Rattle.mt_shared.specs.Inner.{Does}
use Rattle.mt_shared.specs.Turns.{furthest}
use Rattle.mt_shared.proofs.ChangeLemmas.{turn_stops}
use Rattle.mt_shared.proofs.ToldLemmas.{does_tell}
use Rattle.mt_shared.proofs.TurnLemmas.{none_turned, turned_on, turns_spent}
use Rattle.mt_shared.proofs.inner.Inner.keep.Goals as goal

pub loop-init : goal.loop-init
loop-init c = record {
  start = c.columns-kept.ensures.kept;
  kept = c.columns-kept.ensures.kept;
  turned = none_turned Does c.args.self.now c.args.pass.now;
}

pub loop-preserved : goal.loop-preserved
loop-preserved c = record {
  start = c.loop.invariant.start;
  kept = c.turn.ensures.kept.1;
  turned = turned_on Does c.args.self.now c.args.pass.now c.loop.counter c.loop.self c.loop.pass c.in-Applied.field-0 c.turn.result c.turn.new.self c.turn.new.pass c.loop.invariant.turned c.turn.ensures.does c.in-Applied.is
      (does_tell c.loop.self c.loop.pass furthest c.turn.result c.turn.new.self c.turn.new.pass c.loop.invariant.kept c.turn.ensures.does);
}

pub returns-in_default-clause-keeps : goal.returns-in_default-clause-keeps
returns-in_default-clause-keeps c =
    turn_stops c.args.self.now c.args.pass.now c.loop.counter c.args.turns c.loop.self c.loop.pass c.turn.result c.turn.new.self c.turn.new.pass c.loop.invariant.kept c.loop.invariant.turned c.turn.ensures.does c.in_default.not-Applied c.loop-test.true

pub returns-in_default-clause-kept : goal.returns-in_default-clause-kept
returns-in_default-clause-kept c = (c.loop.invariant.start, c.turn.ensures.kept.1)

pub returns-clause-keeps : goal.returns-clause-keeps
returns-clause-keeps c =
    inl (c.loop.counter, turns_spent Does c.args.self.now c.args.pass.now c.loop.counter c.args.turns c.loop.self c.loop.pass c.loop.invariant.turned (let within = c.loop.auto.counter-end in let spent = c.loop-test.false in omega (arith, within, spent)))

pub returns-clause-kept : goal.returns-clause-kept
returns-clause-kept c = (c.loop.invariant.start, c.loop.invariant.kept)
