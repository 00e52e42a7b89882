use Rattle.std.proofs.Common.{arith, refl, sym, subst, ◌∙◌}
use Rattle.mt_types.specs.declared.numbers.PassNo.{PassNo}
use Rattle.mt_types.specs.declared.event.Event.TheVariants.{Begin}
use Rattle.mt_types.specs.declared.event.Outcome.{Outcome}
use Rattle.mt_types.specs.declared.event.Outcome.TheVariants.{Call, Refused}
use Rattle.mt_index.specs.Events.{Makes}
use Rattle.mt_index.proofs.MakesLemmas.{run_commits}
use Rattle.mt_shared.specs.declared.driving.Started.TheVariants.{Ran}
use Rattle.mt_shared.specs.Drives.{IsStarted}
use Rattle.mt_shared.specs.Inner.{InnerView, IsInner, Does}
use Rattle.mt_shared.specs.Passes.{IsTold}
use Rattle.mt_shared.proofs.InnerLemmas.{commits_then}
use Rattle.mt_shared.proofs.ToldLemmas.{does_tell}
use Rattle.mt_shared.proofs.RunLemmas.{counters_fits, does_keep, ran_as_counted, refused_as_counted, start_newest, started_keeps}
use Rattle.mt_shared.proofs.inner.Inner.begin_and_go.Goals as goal

pub count-requires-clause-own : goal.count-requires-clause-own
count-requires-clause-own c = λ own at.
    let s : InnerView = record { machine = c.self.inside.machine; events = c.self.inside.events; counters = c.self.inside.counters.items; trace = c.self.inside.trace; tidies = c.self.inside.tidies } in
    let there = rw (← c.self.view_is) at c.requires.there in
    let off = rw (← c.self.view_is) at c.requires.off in
    let room = rw (← c.self.view_is) at c.requires.room in
    let fits = counters_fits s c.args.pass.now c.self.inside.counters.items own c.self.invariant there refl at in
    let here = room.0 in
    let events = fits.0 in
    let commits = fits.1 in
    let number = c.commits-commits.type_inv in
    let same = (commits_then s.machine c.call-called.new.self (Begin c.number-number.result c.args.request) (Refused c.in-Refused.refusal) c.self.invariant.stands.0 c.self.invariant.stands.1 c.in-Refused.ensures.goes).0 in
    let read = c.commits-commits.ensures.number in
    (omega (arith, here, events), omega (arith, commits, number, same, read))

-- its begin is refused
pub invariant_of-self : goal.invariant_of-self
invariant_of-self c =
    let s : InnerView = record { machine = c.self.inside.machine; events = c.self.inside.events; counters = c.self.inside.counters.items; trace = c.self.inside.trace; tidies = c.self.inside.tidies } in
    let there = rw (← c.self.view_is) at c.requires.there in
    let off = rw (← c.self.view_is) at c.requires.off in
    let room = rw (← c.self.view_is) at c.requires.room in
    let own = c.count.ensures.counters in
    let makes = subst (λ (n : PassNo). Makes s.machine (Begin n c.args.request) (Refused c.in-Refused.refusal) c.call-called.new.self) c.number-number.ensures c.in-Refused.ensures.goes in
    let here = room.0 in
    let far = room.1 in
    let does = refused_as_counted s c.args.pass.now c.count.new.pass c.args.request c.call-called.new.self own.0 c.self.inside.counters.items c.count.new.counters.items c.count.new.events off there refl own.1 c.in-Refused.refusal (omega (arith, here)) (omega (arith, far)) makes own.2 c.count.ensures.events c.count.ensures.pass in
    does_keep s c.args.pass.now (Begin c.args.pass.now.number c.args.request) (Refused c.in-Refused.refusal) (record { machine = c.call-called.new.self; events = c.count.new.events; counters = c.count.new.counters.items; trace = c.self.inside.trace; tidies = c.self.inside.tidies }) c.count.new.pass c.self.invariant does

pub returns-in-Refused-count-clause-starts : goal.returns-in-Refused-count-clause-starts
returns-in-Refused-count-clause-starts c =
    let s : InnerView = record { machine = c.self.inside.machine; events = c.self.inside.events; counters = c.self.inside.counters.items; trace = c.self.inside.trace; tidies = c.self.inside.tidies } in
    let there = rw (← c.self.view_is) at c.requires.there in
    let off = rw (← c.self.view_is) at c.requires.off in
    let room = rw (← c.self.view_is) at c.requires.room in
    let own = c.count.ensures.counters in
    let makes = subst (λ (n : PassNo). Makes s.machine (Begin n c.args.request) (Refused c.in-Refused.refusal) c.call-called.new.self) c.number-number.ensures c.in-Refused.ensures.goes in
    let here = room.0 in
    let far = room.1 in
    let does = refused_as_counted s c.args.pass.now c.count.new.pass c.args.request c.call-called.new.self own.0 c.self.inside.counters.items c.count.new.counters.items c.count.new.events off there refl own.1 c.in-Refused.refusal (omega (arith, here)) (omega (arith, far)) makes own.2 c.count.ensures.events c.count.ensures.pass in
    let told = does_tell s c.args.pass.now (Begin c.args.pass.now.number c.args.request) (Refused c.in-Refused.refusal) (record { machine = c.call-called.new.self; events = c.count.new.events; counters = c.count.new.counters.items; trace = c.self.inside.trace; tidies = c.self.inside.tidies }) c.count.new.pass c.self.invariant does in
    let same = sym c.count.ensures.last ∙ c.in-Refused-count.is in (
      subst (λ (k : InnerView). Does k c.args.pass.now (Begin c.args.pass.now.number c.args.request) (Refused c.in-Refused-count.refusal) (record { machine = c.call-called.new.self; events = c.count.new.events; counters = c.count.new.counters.items; trace = c.self.inside.trace; tidies = c.self.inside.tidies }) c.count.new.pass) c.self.view_is
          (subst (λ (o : Outcome). Does s c.args.pass.now (Begin c.args.pass.now.number c.args.request) o (record { machine = c.call-called.new.self; events = c.count.new.events; counters = c.count.new.counters.items; trace = c.self.inside.trace; tidies = c.self.inside.tidies }) c.count.new.pass) same does),
      subst (λ (o : Outcome). IsTold c.args.pass.now (Begin c.args.pass.now.number c.args.request) o c.count.new.pass) same told,
    )

pub returns-in-Refused-count-clause-kept : goal.returns-in-Refused-count-clause-kept
returns-in-Refused-count-clause-kept c = (subst IsInner c.self.view_is c.self.invariant, invariant_of-self c)

-- a run of it is made
pub count-last-requires-clause-commits : goal.count-last-requires-clause-commits
count-last-requires-clause-commits c = let (begun, begins, goes) = c.in-Ran.ensures.goes in let few = run_commits begun c.in-Ran.call c.in-Ran.run' c.call-called.new.self goes in omega (arith, few)

pub count-last-requires-clause-own : goal.count-last-requires-clause-own
count-last-requires-clause-own c = λ own at.
    let s : InnerView = record { machine = c.self.inside.machine; events = c.self.inside.events; counters = c.self.inside.counters.items; trace = c.self.inside.trace; tidies = c.self.inside.tidies } in
    let there = rw (← c.self.view_is) at c.requires.there in
    let off = rw (← c.self.view_is) at c.requires.off in
    let room = rw (← c.self.view_is) at c.requires.room in
    let fits = counters_fits s c.args.pass.now c.self.inside.counters.items own c.self.invariant there refl at in
    let (begun, begins, goes) = c.in-Ran.ensures.goes in
    let then = start_newest s.machine begun c.call-called.new.self c.number-number.result c.args.request c.in-Ran.call c.in-Ran.run' (c.self.invariant.stands.0, c.self.invariant.stands.1) begins goes in
    let here = rw (← c.self.view_is) at c.room.ensures.here in
    let least = c.min-most.ensures in
    let few = c.in-Ran.ensures.most.0 in
    let some = room.0 in
    let events = fits.0 in
    let commits = fits.1 in
    let number = c.commits-commits.type_inv in
    let read = c.commits-commits.ensures.number in
    (omega (arith, here, least, few, some, events), omega (arith, commits, number, then, read))

pub invariant_of-self-in-Ran : goal.invariant_of-self-in-Ran
invariant_of-self-in-Ran c =
    let s : InnerView = record { machine = c.self.inside.machine; events = c.self.inside.events; counters = c.self.inside.counters.items; trace = c.self.inside.trace; tidies = c.self.inside.tidies } in
    let there = rw (← c.self.view_is) at c.requires.there in
    let off = rw (← c.self.view_is) at c.requires.off in
    let room = rw (← c.self.view_is) at c.requires.room in
    let own = c.count-last.ensures.counters in
    let (begun, begins, goes) = c.in-Ran.ensures.goes in
    let makes = subst (λ (n : PassNo). Makes s.machine (Begin n c.args.request) (Call c.in-Ran.call) begun) c.number-number.ensures begins in
    let here = rw (← c.self.view_is) at c.room.ensures.here in
    let far = c.room.ensures.there in
    let least = c.min-most.ensures in
    let few = c.in-Ran.ensures.most.0 in
    let some = room.0 in
    let more = room.1 in
    let starts = ran_as_counted s c.args.pass.now c.count-last.new.pass c.args.request c.call-called.new.self own.0 c.self.inside.counters.items c.count-last.new.counters.items c.count-last.new.events off there refl own.1 c.in-Ran.call c.in-Ran.run' begun c.self.invariant
    (omega (arith, here, least, few, some)) (omega (arith, far, least, few, more)) makes goes own.2 c.count-last.ensures.events c.count-last.ensures.pass in
    started_keeps s c.args.pass.now c.args.request c.in-Ran.call c.in-Ran.run'.last (record { machine = c.call-called.new.self; events = c.count-last.new.events; counters = c.count-last.new.counters.items; trace = c.self.inside.trace; tidies = c.self.inside.tidies }) c.count-last.new.pass c.self.invariant starts

pub returns-in-Ran-clause-starts : goal.returns-in-Ran-clause-starts
returns-in-Ran-clause-starts c =
    let s : InnerView = record { machine = c.self.inside.machine; events = c.self.inside.events; counters = c.self.inside.counters.items; trace = c.self.inside.trace; tidies = c.self.inside.tidies } in
    let there = rw (← c.self.view_is) at c.requires.there in
    let off = rw (← c.self.view_is) at c.requires.off in
    let room = rw (← c.self.view_is) at c.requires.room in
    let own = c.count-last.ensures.counters in
    let (begun, begins, goes) = c.in-Ran.ensures.goes in
    let makes = subst (λ (n : PassNo). Makes s.machine (Begin n c.args.request) (Call c.in-Ran.call) begun) c.number-number.ensures begins in
    let here = rw (← c.self.view_is) at c.room.ensures.here in
    let far = c.room.ensures.there in
    let least = c.min-most.ensures in
    let few = c.in-Ran.ensures.most.0 in
    let some = room.0 in
    let more = room.1 in
    let starts = ran_as_counted s c.args.pass.now c.count-last.new.pass c.args.request c.call-called.new.self own.0 c.self.inside.counters.items c.count-last.new.counters.items c.count-last.new.events off there refl own.1 c.in-Ran.call c.in-Ran.run' begun c.self.invariant
    (omega (arith, here, least, few, some)) (omega (arith, far, least, few, more)) makes goes own.2 c.count-last.ensures.events c.count-last.ensures.pass in
    subst (λ (o : Outcome). IsStarted Does c.args.self.now c.args.pass.now c.args.request (Ran c.in-Ran.call o) (record { machine = c.call-called.new.self; events = c.count-last.new.events; counters = c.count-last.new.counters.items; trace = c.self.inside.trace; tidies = c.self.inside.tidies }) c.count-last.new.pass) (sym c.count-last.ensures.last)
    (subst (λ (k : InnerView). IsStarted Does k c.args.pass.now c.args.request (Ran c.in-Ran.call c.in-Ran.run'.last) (record { machine = c.call-called.new.self; events = c.count-last.new.events; counters = c.count-last.new.counters.items; trace = c.self.inside.trace; tidies = c.self.inside.tidies }) c.count-last.new.pass) c.self.view_is starts)

pub returns-in-Ran-clause-kept : goal.returns-in-Ran-clause-kept
returns-in-Ran-clause-kept c = (subst IsInner c.self.view_is c.self.invariant, invariant_of-self-in-Ran c)
