use Rattle.std.proofs.Common.{arith, subst, ◌∙◌, ◌≡◌, ◌<◌, ◌-◌, ◌+◌, ◌^◌, set}
use Rattle.mt_index.specs.Events.{Makes}
use Rattle.mt_shared.specs.Inner.{InnerView, IsInner, Does}
use Rattle.mt_shared.proofs.InnerLemmas.{keeps, in_counters, counters_bounds, commits_then, makes_own}
use Rattle.mt_shared.proofs.inner.Inner.event.Goals as goal

pub with-requires-clause-events : goal.with-requires-clause-events
with-requires-clause-events c =
    let s : InnerView = record { machine = c.self.inside.machine; events = c.self.inside.events; counters = c.self.inside.counters.items; trace = c.self.inside.trace; tidies = c.self.inside.tidies } in
    let right = rw (← c.self.view_is) at c.if-is_wrong.ensures in
    let within = (in_counters s c.number-number.result c.args.event.now right).0 in
    let b = (counters_bounds s (c.number-number.result.0 - 1) c.index.result.now c.self.invariant within c.index.ensures).0 in
    let room : c.self.inside.events ≡ 18446744073709551615 → ⊥ = c.if-self.false in
    let fits : c.self.inside.events < 2 ^ 64 = c.self.ranges.1.0.1 in
    omega (arith, b, room, fits)

pub with-requires-clause-commits : goal.with-requires-clause-commits
with-requires-clause-commits c =
    let s : InnerView = record { machine = c.self.inside.machine; events = c.self.inside.events; counters = c.self.inside.counters.items; trace = c.self.inside.trace; tidies = c.self.inside.tidies } in
    let right = rw (← c.self.view_is) at c.if-is_wrong.ensures in
    let within = (in_counters s c.number-number.result c.args.event.now right).0 in
    let b = (counters_bounds s (c.number-number.result.0 - 1) c.index.result.now c.self.invariant within c.index.ensures).1 in
    let makes : Makes c.self.inside.machine c.args.event.now c.event-outcome.result c.event-outcome.new.self = record { stands = c.event-outcome.ensures.stands; happens = record { does = c.event-outcome.ensures.does; caused = c.event-outcome.ensures.caused; one_step = c.event-outcome.ensures.one_step; one_field = c.event-outcome.ensures.one_field }; columns = c.event-outcome.ensures.columns; bounds = c.event-outcome.ensures.bounds } in
    let then = (commits_then c.self.inside.machine c.event-outcome.new.self c.args.event.now c.event-outcome.result c.self.invariant.stands.0 c.self.invariant.stands.1 makes).0 in
    let read = c.commits-commits.ensures.number in
    let fits = c.commits-commits.type_inv in
    omega (arith, b, then, read, fits)

pub invariant_of-self : goal.invariant_of-self
invariant_of-self c =
    let s : InnerView = record { machine = c.self.inside.machine; events = c.self.inside.events; counters = c.self.inside.counters.items; trace = c.self.inside.trace; tidies = c.self.inside.tidies } in
    let right = rw (← c.self.view_is) at c.if-is_wrong.ensures in
    let within = (in_counters s c.number-number.result c.args.event.now right).0 in
    let makes : Makes c.self.inside.machine c.args.event.now c.event-outcome.result c.event-outcome.new.self = record { stands = c.event-outcome.ensures.stands; happens = record { does = c.event-outcome.ensures.does; caused = c.event-outcome.ensures.caused; one_step = c.event-outcome.ensures.one_step; one_field = c.event-outcome.ensures.one_field }; columns = c.event-outcome.ensures.columns; bounds = c.event-outcome.ensures.bounds } in
    keeps s c.event-outcome.new.self c.args.event.now c.event-outcome.result (c.number-number.result.0 - 1) c.index.result.now c.with.result c.self.invariant makes within c.index.ensures c.with.ensures c.number-number.result c.note.new.self c.note.ensures

pub returns-clause-does : goal.returns-clause-does
returns-clause-does c =
    let s : InnerView = record { machine = c.self.inside.machine; events = c.self.inside.events; counters = c.self.inside.counters.items; trace = c.self.inside.trace; tidies = c.self.inside.tidies } in
    let right = rw (← c.self.view_is) at c.if-is_wrong.ensures in
    let makes : Makes c.self.inside.machine c.args.event.now c.event-outcome.result c.event-outcome.new.self = record { stands = c.event-outcome.ensures.stands; happens = record { does = c.event-outcome.ensures.does; caused = c.event-outcome.ensures.caused; one_step = c.event-outcome.ensures.one_step; one_field = c.event-outcome.ensures.one_field }; columns = c.event-outcome.ensures.columns; bounds = c.event-outcome.ensures.bounds } in
    subst (λ (k : InnerView). Does k c.args.pass.now c.args.event.now c.event-outcome.result (record { machine = c.event-outcome.new.self; events = c.self.inside.events + 1; counters = set c.self.inside.counters.items (c.number-number.result.0 - 1) c.with.result; trace = c.note.new.self; tidies = c.self.inside.tidies }) c.count.new.self) c.self.view_is
    (makes_own s c.event-outcome.new.self c.args.pass.now c.args.event.now c.event-outcome.result c.index.result.now c.with.result c.note.new.self c.count.new.self
    c.if-self.false (λ e. c.if-events-eq18446744073709551615.false (c.events.ensures ∙ e)) makes c.with.ensures c.count.ensures c.number-number.result c.number-number.ensures right c.index.ensures c.note.ensures)

pub returns-clause-kept : goal.returns-clause-kept
returns-clause-kept c = (subst IsInner c.self.view_is c.self.invariant, invariant_of-self c)
