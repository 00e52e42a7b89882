use Rattle.std.proofs.Common.{arith, ap, sum_by}
use Rattle.std.proofs.lemmas.List.{take_all}
use Rattle.mt_shared.specs.declared.counters.Counters.{Counters}
use Rattle.mt_shared.specs.Passes.{PassView}
use Rattle.mt_shared.proofs.settling.add_up.Goals as goal

pub returns-clause-events : goal.returns-clause-events
returns-clause-events c = λ is.
    let all = ap (sum_by (λ (p : PassView). p.events)) (take_all c.loop-pass.pass-index c.args.passes.now c.loop-pass-test.false) in
    let left = ap (sum_by (λ (own : Counters). own.events)) c.deref.ensures.value in
    let blank = c.are_blank.ensures.events is in
    omega (arith, c.loop-pass.invariant.events, all, left, blank)

pub returns-clause-commits : goal.returns-clause-commits
returns-clause-commits c = λ is.
    let all = ap (sum_by (λ (p : PassView). p.commits)) (take_all c.loop-pass.pass-index c.args.passes.now c.loop-pass-test.false) in
    let left = ap (sum_by (λ (own : Counters). own.commits)) c.deref.ensures.value in
    let blank = c.are_blank.ensures.commits is in
    omega (arith, c.loop-pass.invariant.commits, all, left, blank)
