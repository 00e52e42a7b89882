use Rattle.std.proofs.Common.{◌∙◌, refl, sym, subst}
use Rattle.mt_promise.specs.History.{History}
use Rattle.mt_promise.specs.Legal.{Legal}
use Rattle.mt_promise.specs.Headline.{KeepsPromise}
use Rattle.mt_shared.specs.Inner.{InnerView}
use Rattle.mt_shared.specs.Traces.{Tells}
use Rattle.mt_shared.proofs.InnerLemmas.{settles, settles_all}
use Rattle.mt_shared.proofs.inner.Inner.settle_trace.Goals as goal

pub returns-clause-legal : goal.returns-clause-legal
returns-clause-legal c =
    let s : InnerView = record { machine = c.self.inside.machine; events = c.self.inside.events; counters = c.self.inside.counters.items; trace = c.self.inside.trace; tidies = c.self.inside.tidies } in
    subst (λ (k : InnerView). (h : History) × Tells c.in_ok-entries.entries.items h × Legal k.machine.columns h × KeepsPromise k.machine.columns h) c.self.view_is
    (settles s c.in_ok-entries.entries.items c.self.invariant c.in_ok-entries.ensures.kept)

pub returns-clause-count : goal.returns-clause-count
returns-clause-count c =
    let s : InnerView = record { machine = c.self.inside.machine; events = c.self.inside.events; counters = c.self.inside.counters.items; trace = c.self.inside.trace; tidies = c.self.inside.tidies } in
    let all = settles_all s c.in_ok-entries.entries.items c.self.invariant c.in_ok-entries.ensures.kept in
    let counted = c.self.invariant.events in
    let passed = c.if-not-add_up.ensures.events refl in
    all ∙ sym counted ∙ passed
