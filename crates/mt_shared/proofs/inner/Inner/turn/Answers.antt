use Rattle.std.proofs.Common.{None, arith, ap, subst, sym, ◌∙◌, ◌≡◌, ◌<◌, ◌-◌, ◌+◌, ◌^◌, set}
use Rattle.mt_types.specs.declared.event.Outcome.TheVariants.{Current}
use Rattle.mt_index.specs.Events.{Makes}
use Rattle.mt_index.specs.Stands.{MachineView, meant_number}
use Rattle.mt_shared.specs.Inner.{InnerView, IsInner, Does}
use Rattle.mt_shared.specs.Turns.{furthest}
use Rattle.mt_shared.proofs.InnerLemmas.{keeps, in_counters, counters_bounds, makes_own}
use Rattle.mt_shared.proofs.PageLemmas.{no_view, none_turns}
use Rattle.mt_shared.proofs.inner.Inner.turn.Goals as goal

pub with-requires-clause-events : goal.with-requires-clause-events
with-requires-clause-events c =
    let s : InnerView = record { machine = c.self-2.inside.machine; events = c.self-2.inside.events; counters = c.self-2.inside.counters.items; trace = c.self-2.inside.trace; tidies = c.self-2.inside.tidies } in
    let right = rw (← c.self-2.view_is) at c.if-is_wrong.ensures in
    let within = (in_counters s c.number-number.result furthest right).0 in
    let b = (counters_bounds s (c.number-number.result.0 - 1) c.index.result.now c.self-2.invariant within c.index.ensures).0 in
    let room : c.self-2.inside.events ≡ 18446744073709551615 → ⊥ = c.if-self.false in
    let fits : c.self-2.inside.events < 2 ^ 64 = c.self-2.ranges.1.0.1 in
    omega (arith, b, room, fits)

pub with-requires-clause-commits : goal.with-requires-clause-commits
with-requires-clause-commits c =
    let s : InnerView = record { machine = c.self-2.inside.machine; events = c.self-2.inside.events; counters = c.self-2.inside.counters.items; trace = c.self-2.inside.trace; tidies = c.self-2.inside.tidies } in
    let right = rw (← c.self-2.view_is) at c.if-is_wrong.ensures in
    let within = (in_counters s c.number-number.result furthest right).0 in
    let b = (counters_bounds s (c.number-number.result.0 - 1) c.index.result.now c.self-2.invariant within c.index.ensures).1 in
    let read = c.commits-commits.ensures.number in
    let fits = c.commits-commits.type_inv in
    omega (arith, b, read, fits)

pub invariant_of-self : goal.invariant_of-self
invariant_of-self c =
    let s : InnerView = record { machine = c.self-2.inside.machine; events = c.self-2.inside.events; counters = c.self-2.inside.counters.items; trace = c.self-2.inside.trace; tidies = c.self-2.inside.tidies } in
    let right = rw (← c.self-2.view_is) at c.if-is_wrong.ensures in
    let within = (in_counters s c.number-number.result furthest right).0 in
    let makes : Makes c.self-2.inside.machine furthest Current c.self-2.inside.machine = none_turns c.self-2.inside.machine
    (subst (λ (m : MachineView). meant_number m 0 ≡ None) (ap (λ (k : InnerView). k.machine) (c.self.view_is ∙ sym c.self-2.view_is)) (no_view c.self.inside.machine c.if-has_views.ensures)) in
    keeps s c.self-2.inside.machine furthest Current (c.number-number.result.0 - 1) c.index.result.now c.with.result c.self-2.invariant makes within c.index.ensures c.with.ensures c.number-number.result c.note.new.self c.note.ensures

pub returns-clause-does : goal.returns-clause-does
returns-clause-does c =
    let s : InnerView = record { machine = c.self-2.inside.machine; events = c.self-2.inside.events; counters = c.self-2.inside.counters.items; trace = c.self-2.inside.trace; tidies = c.self-2.inside.tidies } in
    let right = rw (← c.self-2.view_is) at c.if-is_wrong.ensures in
    let makes : Makes c.self-2.inside.machine furthest Current c.self-2.inside.machine = none_turns c.self-2.inside.machine
    (subst (λ (m : MachineView). meant_number m 0 ≡ None) (ap (λ (k : InnerView). k.machine) (c.self.view_is ∙ sym c.self-2.view_is)) (no_view c.self.inside.machine c.if-has_views.ensures)) in
    subst (λ (k : InnerView). Does k c.args.pass.now furthest Current (record { machine = c.self-2.inside.machine; events = c.self-2.inside.events + 1; counters = set c.self-2.inside.counters.items (c.number-number.result.0 - 1) c.with.result; trace = c.note.new.self; tidies = c.self-2.inside.tidies }) c.count.new.self) c.self-2.view_is
    (makes_own s c.self-2.inside.machine c.args.pass.now furthest Current c.index.result.now c.with.result c.note.new.self c.count.new.self
    c.if-self.false (λ e. c.if-events-eq18446744073709551615.false (c.events.ensures ∙ e)) makes c.with.ensures c.count.ensures c.number-number.result c.number-number.ensures right c.index.ensures c.note.ensures)

pub returns-clause-kept : goal.returns-clause-kept
returns-clause-kept c = (subst IsInner c.self-2.view_is c.self-2.invariant, invariant_of-self c)
