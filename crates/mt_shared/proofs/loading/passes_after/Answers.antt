use Rattle.std.proofs.Common.{◌≡◌, ◌+◌, ◌∷◌, [], ℕ, List, false, arith, sym, subst, ap, length}
use Rattle.std.proofs.lemmas.List.{length-append}
use Rattle.mt_shared.specs.Passes.{PassView, IsNewPass, ComesFirst}
use Rattle.mt_shared.proofs.PassLemmas.{one_more_after}
use Rattle.mt_shared.proofs.loading.passes_after.Goals as goal

pub loop-number-preserved : goal.loop-number-preserved
loop-number-preserved c =
    let old = c.loop-number.invariant in
    let next : c.loop-number.number + 1 ≡ 1 + length c.loop-number.passes.items = omega (arith, old.count) in
    let new = subst (λ (n : ℕ). IsNewPass false n c.new.result) next c.new.ensures in
    let items = c.in_ok-push-2.ensures.items in
    let more = length-append c.loop-number.passes.items (c.new.result ∷ []) in
    let long = ap (λ (ps : List PassView). length ps) items in
    record {
      count = omega (arith, long, more, old.count);
      each = subst (λ (ps : List PassView). ComesFirst c.args.commits ps) (sym items) (one_more_after c.args.commits c.loop-number.passes.items c.new.result old.each new);
    }
