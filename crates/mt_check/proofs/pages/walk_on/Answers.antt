use Rattle.std.proofs.Common.{◌≡◌, ◌+◌, ◌-◌, ◌<◌, ℕ, length, drop, get_or, Some, refl, ◌∙◌, arith, ap}
use Rattle.std.specs.Prelude.{slice_get}
use Rattle.std.proofs.lemmas.Option.{slice_get_read}
use Rattle.std.proofs.lemmas.List.{get_or-drop, get_or-take}
use Rattle.mt_check.proofs.PageLemmas.{standing_next}
use Rattle.mt_check.proofs.pages.walk_on.Goals as goal

pub loop-delta-preserved : goal.loop-delta-preserved
loop-delta-preserved c =
    let deltas = c.args.deltas.now in
    let d = c.delta-item.result in
    let i = c.loop-delta.delta-index in
    let from = c.at-from.ensures in
    let below : c.loop-delta.delta-index < c.args.at - c.at-from.result = omega arith in
    let read : c.delta-item.result ≡ get_or c.args.deltas.now (c.at-from.result + c.loop-delta.delta-index) c.delta-item.result =
    c.delta-item.is ∙ get_or-take (c.args.at - c.at-from.result) (drop c.at-from.result deltas) i d below ∙ get_or-drop c.at-from.result deltas i d in
    let place : c.at-from.result + c.loop-delta.delta-index ≡ c.args.state.now.at + c.loop-delta.delta-index = omega (arith, from) in
    let found : slice_get c.args.deltas.now (c.args.state.now.at + c.loop-delta.delta-index) ≡ Some c.delta-item.result =
    slice_get_read deltas (length deltas) (c.args.state.now.at + i) d refl (omega arith) (read ∙ ap (λ (n : ℕ). get_or deltas n d) place) in
    let on = standing_next c.args.state.now.columns deltas c.args.state.now.spec (c.args.state.now.at + i) c.loop-delta.state c.apply.new.self d
    c.requires.sound c.loop-delta.invariant.at c.loop-delta.invariant.standing found c.in_ok-apply.ensures.ok c.in_ok-apply.ensures.afresh in
    record { at = (let e = on.at in omega (arith, e)); standing = on.standing }
