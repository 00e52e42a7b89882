-- What follows a call that has changed something.
use Rattle.std.proofs.Common.{◌≡◌, ℕ, List, refl, sym, subst, inl, inr}
use Rattle.mt_types.specs.declared.event.Request.{Request}
use Rattle.mt_types.specs.declared.event.Request.TheVariants.{Remove}
use Rattle.mt_shared.specs.Passes.{PassView}
use Rattle.mt_shared.specs.Drives.{EventLaw}
use Rattle.mt_shared.specs.Tidies.{LookLaw, PurgesAfter, PurgesIfEmptied}
use Rattle.mt_walk.specs.Removes.{RemovesNone}

-- it was a remove: tidies follow at its key
pub purges_there : {S : Type 0} (does : EventLaw S) (looks : LookLaw S) (request : Request) (key : List ℕ) (s : S) (p : PassView) (t : S) (q : PassView)
    → request ≡ Remove key → PurgesIfEmptied does looks s p key t q → PurgesAfter does looks request s p t q
purges_there does looks request key s p t q is purges = subst (λ (r : Request). PurgesAfter does looks r s p t q) (sym is) (inl purges)

-- there is no place for tidies: none follow
pub purges_nowhere : {S : Type 0} (does : EventLaw S) (looks : LookLaw S) (request : Request) (s : S) (p : PassView)
    → RemovesNone request → PurgesAfter does looks request s p s p
purges_nowhere does looks (Remove key) s p none = inr (none, refl, refl)
purges_nowhere does looks _ s p none = (refl, refl)
