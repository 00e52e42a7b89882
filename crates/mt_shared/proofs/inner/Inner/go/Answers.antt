use Rattle.std.proofs.Common.{ℕ, arith, refl, sym, subst, ◌≡◌, ◌≤◌, ◌⊎◌, ◌||◌, ◌+◌, eqb, true}
use Rattle.mt_types.specs.Numbers.{greatest_number}
use Rattle.mt_shared.specs.Passes.{PassView}
use Rattle.mt_types.specs.declared.event.Event.TheVariants.{Step}
use Rattle.mt_types.specs.declared.event.Outcome.{Outcome}
use Rattle.mt_types.specs.declared.numbers.PassNo.{PassNo}
use Rattle.mt_index.specs.Events.{GoesOnAtOnce}
use Rattle.mt_index.proofs.MakesLemmas.{run_commits}
use Rattle.mt_shared.specs.Drives.{HasGone}
use Rattle.mt_shared.specs.Inner.{InnerView, IsInner, Does, has_counters}
use Rattle.mt_shared.proofs.InnerLemmas.{has_its_counters}
use Rattle.mt_shared.proofs.ToldLemmas.{does_tell}
use Rattle.mt_shared.proofs.RunLemmas.{counters_fits, gone_as_counted, gone_keep, goes_once, run_newest}
use Rattle.mt_shared.proofs.RunCounts.{runs_fully, told_events}
use Rattle.mt_shared.proofs.inner.Inner.go.Goals as goal

pub returns-then-is_traced-clause-goes : goal.returns-then-is_traced-clause-goes
returns-then-is_traced-clause-goes c =
    goes_once Does c.args.self.now c.args.pass.now c.args.call c.event.result c.event.new.self c.event.new.pass c.event.ensures.does
    (does_tell c.args.self.now c.args.pass.now (Step c.args.call) c.event.result c.event.new.self c.event.new.pass c.event.ensures.kept.0 c.event.ensures.does)

pub count-requires-clause-there : goal.count-requires-clause-there
count-requires-clause-there c =
    let s : InnerView = record { machine = c.self.inside.machine; events = c.self.inside.events; counters = c.self.inside.counters.items; trace = c.self.inside.trace; tidies = c.self.inside.tidies } in
    let right = rw (← c.self.view_is) at c.if-is_wrong.ensures in
    subst (λ (m : PassNo). has_counters m s.counters ≡ true) c.number-number.ensures (has_its_counters s c.number-number.result (Step c.args.call) right)

pub count-requires-clause-own : goal.count-requires-clause-own
count-requires-clause-own c = λ own at.
    let s : InnerView = record { machine = c.self.inside.machine; events = c.self.inside.events; counters = c.self.inside.counters.items; trace = c.self.inside.trace; tidies = c.self.inside.tidies } in
    let fits = counters_fits s c.args.pass.now c.self.inside.counters.items own c.self.invariant (count-requires-clause-there c) refl at in
    let events = fits.0 in
    let commits = fits.1 in
    let here = rw (← c.self.view_is) at c.room-room.ensures.here in
    let most = c.go-run.ensures.most in
    let least = c.min.ensures in
    let some = c.if-room-eq0.false in
    let then = run_newest c.self.inside.machine c.go-run.new.self c.args.call c.go-run.result (c.self.invariant.stands.0, c.self.invariant.stands.1) c.go-run.ensures.goes in
    let read = c.commits-commits.ensures.number in
    let number = c.commits-commits.type_inv in
    (omega (arith, events, here, most, least, some), omega (arith, commits, number, then, read))

pub count-requires-clause-commits : goal.count-requires-clause-commits
count-requires-clause-commits c = run_commits c.self.inside.machine c.args.call c.go-run.result c.go-run.new.self c.go-run.ensures.goes

pub returns-clause-goes : goal.returns-clause-goes
returns-clause-goes c =
    let s : InnerView = record { machine = c.self.inside.machine; events = c.self.inside.events; counters = c.self.inside.counters.items; trace = c.self.inside.trace; tidies = c.self.inside.tidies } in
    let right = rw (← c.self.view_is) at c.if-is_wrong.ensures in
    let off = (rw (← c.self.view_is) at c.if-is_traced.ensures).0 refl in
    let here = rw (← c.self.view_is) at c.room-room.ensures.here in
    let there = c.room-room.ensures.there in
    let most = c.go-run.ensures.most in
    let some = c.if-room-eq0.false in
    let own = c.count.ensures.counters in
    subst (λ (o : Outcome). HasGone Does c.args.self.now c.args.pass.now c.args.call o (record { machine = c.go-run.new.self; events = c.count.new.events; counters = c.count.new.counters.items; trace = c.self.inside.trace; tidies = c.self.inside.tidies }) c.count.new.pass) (sym c.count.ensures.last)
    (subst (λ (k : InnerView). HasGone Does k c.args.pass.now c.args.call c.go-run.result.last (record { machine = c.go-run.new.self; events = c.count.new.events; counters = c.count.new.counters.items; trace = c.self.inside.trace; tidies = c.self.inside.tidies }) c.count.new.pass) c.self.view_is
    (gone_as_counted s c.args.pass.now c.count.new.pass c.args.call c.go-run.result c.go-run.new.self own.0 c.count.new.counters.items c.count.new.events c.number-number.result c.self.invariant off c.number-number.ensures right
    own.1 (omega (arith, here, most, some)) (omega (arith, there, most, some)) c.go-run.ensures.goes own.2 c.count.ensures.events c.count.ensures.pass))

pub invariant_of-self : goal.invariant_of-self
invariant_of-self c =
    gone_keep c.args.self.now c.args.pass.now c.args.call c.count.result _ c.count.new.pass
    (subst IsInner c.self.view_is c.self.invariant) (returns-clause-goes c)

pub returns-clause-kept : goal.returns-clause-kept
returns-clause-kept c = (subst IsInner c.self.view_is c.self.invariant, invariant_of-self c)

pub returns-then-is_traced-clause-most : goal.returns-then-is_traced-clause-most
returns-then-is_traced-clause-most c =
    let told = does_tell c.args.self.now c.args.pass.now (Step c.args.call) c.event.result c.event.new.self c.event.new.pass c.event.ensures.kept.0 c.event.ensures.does in
    let one = told_events c.args.pass.now (Step c.args.call) c.event.result c.event.new.pass told in
    omega (arith, one)

pub returns-clause-fully : goal.returns-clause-fully
returns-clause-fully c = λ off own on.
    let greatest = rw (← c.self.view_is) at c.room-room.ensures.greatest in
    let still = subst GoesOnAtOnce c.count.ensures.last on in
    subst (λ (n : ℕ). (c.args.pass.now.events + c.args.most ≤ c.count.new.pass.events) ⊎ ((eqb n greatest_number || eqb c.count.new.pass.events greatest_number) ≡ true)) (sym c.count.ensures.events)
    (subst (λ (q : PassView). (c.args.pass.now.events + c.args.most ≤ q.events) ⊎ ((eqb (c.self.inside.events + c.go-run.result.steps) greatest_number || eqb q.events greatest_number) ≡ true)) (sym c.count.ensures.pass)
    (runs_fully c.self.inside.events c.args.pass.now.events c.args.most c.room-room.result c.min.result c.go-run.result.steps c.min.ensures c.if-room-eq0.false (λ less. c.go-run.ensures.ends less still) c.go-run.ensures.most greatest))
