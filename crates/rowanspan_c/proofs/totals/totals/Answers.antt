use Rattle.std.proofs.Common.{refl, sym, subst, arith}
use Rattle.mt_types.specs.declared.refusal.Refusal.TheVariants.{Behind}
use Rattle.rowanspan_c.specs.Told.{TellsRefusal}
use Rattle.rowanspan_c.proofs.TotalsRead.{none_totalled, behind_totalled, state_totalled}
use Rattle.rowanspan_c.proofs.totals.totals.Goals as goal

pub returns-in_default : goal.returns-in_default
returns-in_default c =
    none_totalled c.args.index.now.machine c.args.view.0 c.args.floor c.args.into.now c.args.into.now c.tell_refusal.result c.tell_refusal.new.told
    (sym c.in_default.ensures.view) refl c.tell_refusal.ensures

pub returns-then-at-floor : goal.returns-then-at-floor
returns-then-at-floor c =
    let at = c.at-at.ensures in let low = c.if-at-floor.true in
    behind_totalled c.args.index.now.machine c.args.view.0 c.args.floor c.args.into.now c.args.into.now c.tell_refusal-then-at-floor.result c.tell_refusal-then-at-floor.new.told c.in-Some.state.now
    (sym c.in-Some.ensures.view) (omega (arith, at, low)) refl
    (subst (λ at. TellsRefusal (Behind at) c.tell_refusal-then-at-floor.result c.tell_refusal-then-at-floor.new.told) c.at-at.ensures c.tell_refusal-then-at-floor.ensures)

pub returns : goal.returns
returns c =
    let at = c.at-at.ensures in let high = c.if-at-floor.false in
    state_totalled c.args.index.now.machine c.args.view.0 c.args.floor c.args.into.now c.tell_totals.new.into c.tell_totals.result c.tell_totals.new.told c.in-Some.state.now
    (sym c.in-Some.ensures.view) (omega (arith, at, high)) c.tell_totals.ensures
