use Rattle.std.proofs.Common.{arith}
use Rattle.mt_types.specs.declared.event.Event.TheVariants.{Step}
use Rattle.mt_index.specs.Events.{Makes}
use Rattle.mt_index.proofs.MakesLemmas.{few_commits, goes_further, going_none, one_at_most, ran}
use Rattle.mt_index.proofs.machine.Machine.go.Goals as goal

pub loop-steps-init : goal.loop-steps-init
loop-steps-init c = record { going = going_none c.args.self.now c.args.call; few = omega arith }

pub overflow_add-steps : goal.overflow_add-steps
overflow_add-steps c = let few = c.loop-steps.invariant.few in let fits = c.ranges.most.fits in omega (arith, few, fits)

pub overflow_add-commits : goal.overflow_add-commits
overflow_add-commits c =
    let few = c.loop-steps.invariant.few in
    let made = few_commits c.loop-steps.invariant.going in
    let fits = c.ranges.most.fits in
    let one = one_at_most c.event-last.result in
    let is = c.commits_in-commits.ensures in
    omega (arith, few, made, fits, one, is)

pub returns-then-steps-most-clause-goes : goal.returns-then-steps-most-clause-goes
returns-then-steps-most-clause-goes c =
    let makes : Makes c.loop-steps.self (Step c.args.call) c.event-last.result c.event-last.new.self = record { stands = c.event-last.ensures.stands; happens = record { does = c.event-last.ensures.does; caused = c.event-last.ensures.caused; one_step = c.event-last.ensures.one_step; one_field = c.event-last.ensures.one_field }; columns = c.event-last.ensures.columns; bounds = c.event-last.ensures.bounds } in
    ran c.args.self.now c.loop-steps.self c.event-last.new.self c.args.call c.loop-steps.steps c.loop-steps.commits c.commits_in-commits.result c.event-last.result c.loop-steps.invariant.going makes c.commits_in-commits.ensures

pub returns-then-steps-most-clause-most : goal.returns-then-steps-most-clause-most
returns-then-steps-most-clause-most c = let few = c.loop-steps.invariant.few in omega (arith, few)

pub loop-steps-smaller : goal.loop-steps-smaller
loop-steps-smaller c = let more = c.if-steps-most.false in omega (arith, more)

pub loop-steps-preserved : goal.loop-steps-preserved
loop-steps-preserved c =
    let makes : Makes c.loop-steps.self (Step c.args.call) c.event-last.result c.event-last.new.self = record { stands = c.event-last.ensures.stands; happens = record { does = c.event-last.ensures.does; caused = c.event-last.ensures.caused; one_step = c.event-last.ensures.one_step; one_field = c.event-last.ensures.one_field }; columns = c.event-last.ensures.columns; bounds = c.event-last.ensures.bounds } in
    let more = c.if-steps-most.false in
    record {
      going = goes_further c.args.self.now c.loop-steps.self c.event-last.new.self c.args.call c.loop-steps.steps c.loop-steps.commits c.commits_in-commits.result c.event-last.result c.loop-steps.invariant.going makes c.commits_in-commits.ensures (c.goes_on.ensures.0 c.if-not-goes_on.false);
      few = omega (arith, more);
    }
