use Rattle.std.proofs.Common.{arith}
use Rattle.mt_shared.proofs.TurnLemmas.{turned_on, turns_spent, all_current, turn_refused}
use Rattle.mt_shared.proofs.views.keep_views.Goals as goal

pub returns-in-Current-clause-kept : goal.returns-in-Current-clause-kept
returns-in-Current-clause-kept g c =
    let e = c.take_turn in
    all_current g.S.Shared.does _ c.args.pass.now c.loop.applied c.args.turns _ c.loop.pass e.result _ e.new.pass c.loop.invariant.turned e.ensures.does c.in-Current.is (let same = c.loop.invariant.applied in let more = c.loop-test.true in omega (arith, same, more)) e.ensures.told

pub returns-in-Refused-clause-refused : goal.returns-in-Refused-clause-refused
returns-in-Refused-clause-refused g c =
    let e = c.take_turn in
    turn_refused g.S.Shared.does _ c.args.pass.now c.loop.applied c.args.turns _ c.loop.pass e.result c.in-Refused.refusal _ e.new.pass c.loop.invariant.turned e.ensures.does c.in-Refused.is (let same = c.loop.invariant.applied in let more = c.loop-test.true in omega (arith, same, more))

pub loop-preserved : goal.loop-preserved
loop-preserved g c =
    let e = c.take_turn in
    record {
      applied = (let same = c.loop.invariant.applied in omega (arith, same));
      turned = turned_on g.S.Shared.does _ c.args.pass.now c.loop.applied _ c.loop.pass c.in-Applied.field-0 e.result _ e.new.pass c.loop.invariant.turned e.ensures.does c.in-Applied.is e.ensures.told;
    }

pub returns-clause-kept : goal.returns-clause-kept
returns-clause-kept g c = turns_spent g.S.Shared.does _ c.args.pass.now c.loop.applied c.args.turns _ c.loop.pass c.loop.invariant.turned (let same = c.loop.invariant.applied in let within = c.loop.auto.counter-end in let spent = c.loop-test.false in omega (arith, same, within, spent))
