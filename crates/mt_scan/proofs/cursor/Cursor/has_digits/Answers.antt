use Rattle.std.proofs.Common.{ℕ, List, ap, subst}
use Rattle.mt_slice.specs.Place.{Place}
use Rattle.mt_scan.specs.Cursor.{CursorView, place_from}
use Rattle.mt_scan.specs.Onward.{HasDigits}
use Rattle.mt_scan.proofs.CursorLemmas.{restarted}
use Rattle.mt_scan.proofs.cursor.Cursor.has_digits.Goals as goal

pub returns : goal.returns
returns c =
    subst (λ (p : Place). HasDigits p)
    (ap (λ (v : CursorView). v.at) (restarted c.self.inside.slices.items c.self.inside.class c.self.inside.depth c.self.invariant.within c.args.self.now c.self.view_is))
    (subst (λ (slices : List ℕ). HasDigits (place_from c.self.inside.class slices)) c.deref.ensures.value (c.first_of-first.ensures.digits c.self.inside.class))
