use Rattle.std.proofs.Common.{◌≡◌, ℕ, List, Bool, ap, inl, sym, subst}
use Rattle.std.specs.Prelude.{Option, Ok, IfSome, MatchBool}
use Rattle.mt_types.specs.declared.event.Request.TheVariants.{Remove}
use Rattle.mt_shared.specs.Passes.{PassView}
use Rattle.mt_shared.specs.Tidies.{PurgesAfter}
use Rattle.mt_shared.proofs.TidiedLemmas.{purges_there, purges_nowhere}
use Rattle.mt_shared.proofs.changing.drive_and_keep.Goals as goal
use Rattle.mt_shared.proofs.changing.drive_and_keep.Goals.{then-has_changed+in-Some, then-has_changed+in_default, else-has_changed}

pub returns-clause-kept : goal.returns-clause-kept
returns-clause-kept g c =
    let does = g.S.Shared.does in
    let looks = g.S.Shared.looks in
    let request = c.args.request in
    let m = c.drive_and_turn-ended.new.shared in
    let r = c.drive_and_turn-ended.new.pass in
    let follows : g.row.S.Denot → PassView → Type 0 = λ t q. PurgesAfter does looks request m r t q in
    inl (
      m,
      r,
      c.drive_and_turn-ended.ensures.kept,
      elim c.if-has_changed.branch [
        | then-has_changed+in-Some w ↦
            subst (λ (b : Bool). MatchBool b (follows c.if-has_changed.shared c.if-has_changed.pass) ((c.if-has_changed.shared ≡ m) × (c.if-has_changed.pass ≡ r))) w.if-has_changed.ensures
            (subst (λ t. follows t c.if-has_changed.pass) (sym w.shared-is) (subst (follows w.tidy_after.new.shared) (sym w.pass-is)
            (purges_there does looks request w.in-Some.place m r w.tidy_after.new.shared w.tidy_after.new.pass
            (subst (λ (found : Option (List ℕ)). IfSome found (λ (place : List ℕ). request ≡ Remove place)) w.in-Some.is c.in_ok-place.ensures.some) w.tidy_after.ensures)))
        | then-has_changed+in_default w ↦
            subst (λ (b : Bool). MatchBool b (follows c.if-has_changed.shared c.if-has_changed.pass) ((c.if-has_changed.shared ≡ m) × (c.if-has_changed.pass ≡ r))) w.if-has_changed.ensures
            (subst (λ t. follows t c.if-has_changed.pass) (sym w.shared-is) (subst (follows m) (sym w.pass-is)
            (purges_nowhere does looks request m r (c.in_ok-place.ensures.none (ap (λ f. Ok f) w.in_default.is)))))
        | else-has_changed w ↦
            subst (λ (b : Bool). MatchBool b (follows c.if-has_changed.shared c.if-has_changed.pass) ((c.if-has_changed.shared ≡ m) × (c.if-has_changed.pass ≡ r))) w.if-has_changed.ensures
            (w.shared-is, w.pass-is)
      ],
    )
