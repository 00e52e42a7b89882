-- What the first sign that is seen says.
use Rattle.std.proofs.Common.{ℕ, ◌≡◌, ◌<◌, ◌==◌, inl, inr, length, Option, Some, None, Bool, true, false, if◌then◌else◌, refl, sym, ◌∙◌, arith}
use Rattle.std.proofs.lemmas.Bool.{eqb-true}
use Rattle.std.proofs.lemmas.Bool.Decides.{eqb_tells}
use Rattle.mt_types.specs.declared.numbers.NodeNo.{NodeNo}
use Rattle.mt_border.specs.declared.entry.RightLink.{RightLink}
use Rattle.mt_steps.specs.declared.reader.Glance.{Glance}
use Rattle.mt_remove.specs.declared.noted.Came.{Came}
use Rattle.mt_remove.specs.declared.noted.Came.TheVariants.{Head as FromHead, Child as AsChild, Left as FromLeft}
use Rattle.mt_remove.specs.declared.noted.Noted.{Noted}
use Rattle.mt_remove.specs.declared.noted.OneChild.{OneChild}
use Rattle.mt_remove.specs.declared.sign.Sign.{Sign}
use Rattle.mt_remove.specs.declared.sign.Sign.TheVariants.{Nothing, Empty, LoneChild}
use Rattle.mt_remove.specs.declared.sign.Emptied.TheVariants.{Child as ByChild, Root as ByRoot}
use Rattle.mt_remove.specs.Noted.{was_empty, last_sign, layer_sign, lone_sign, border_sign, sign_of}

-- an interior led to the border, not the first of its layer; one with one child was noted; or the border above was
abbrev pub SignTells : ℕ → Came → Option NodeNo → Option OneChild → Sign → Type 0
SignTells low came above single Nothing = Unit {0}
SignTells low came above single (LoneChild one) = single ≡ Some one
SignTells low came above single (Empty (ByChild parent) glance) = (came ≡ AsChild parent false) × (0 < low) × (length glance.order.live ≡ 0)
SignTells low came above single (Empty (ByRoot upper) glance) = (above ≡ Some upper) × (length glance.order.live ≡ 0) × (glance.right ≡ None)

above_0 : (low : ℕ) → (low == 0) ≡ false → 0 < low
above_0 low is = elim (eqb_tells low 0) [ inl same ↦ absurd (let clash : true ≡ false = sym same.0 ∙ is in cc) | inr other ↦ let differ = other.1 in omega (arith, differ) ]

module _ (low : ℕ) where
  layer_tells : (came : Came) (above : Option NodeNo) (single : Option OneChild) (glance : Option Glance) → SignTells low came above single (layer_sign low came above glance)
  layer_tells FromLeft above single glance = tt
  layer_tells (AsChild parent is_one) above single glance = tt
  layer_tells FromHead None single glance = tt
  layer_tells FromHead (Some upper) single None = tt
  layer_tells FromHead (Some upper) single (Some glance) = go (was_empty glance) refl (low == 0) glance.right refl
    where
      go : (empty : Bool) → was_empty glance ≡ empty → (least : Bool) (right : Option RightLink) → glance.right ≡ right
          → SignTells low FromHead (Some upper) single (if empty then (if least then last_sign glance right upper else Nothing) else Nothing)
      go false is least right of = tt
      go true is false right of = tt
      go true is true None of = (refl, eqb-true (length glance.order.live) 0 is, of)
      go true is true (Some link) of = tt

  lone_tells : (came : Came) (above : Option NodeNo) (single : Option OneChild) (sign : Sign) → SignTells low came above single sign → SignTells low came above single (lone_sign single sign)
  lone_tells came above None sign tells = tells
  lone_tells came above (Some one) sign tells = refl

  border_tells : (came : Came) (above : Option NodeNo) (single : Option OneChild) (glance : Option Glance) (sign : Sign) → SignTells low came above single sign → SignTells low came above single (border_sign low came glance sign)
  border_tells FromHead above single glance sign tells = tells
  border_tells FromLeft above single glance sign tells = tells
  border_tells (AsChild parent true) above single glance sign tells = tells
  border_tells (AsChild parent false) above single None sign tells = tells
  border_tells (AsChild parent false) above single (Some glance) sign tells = go (was_empty glance) refl (low == 0) refl
    where
      go : (empty : Bool) → was_empty glance ≡ empty → (least : Bool) → (low == 0) ≡ least → SignTells low (AsChild parent false) above single (if empty then (if least then sign else Empty (ByChild parent) glance) else sign)
      go false is least of = tells
      go true is true of = tells
      go true is false of = (refl, above_0 low of, eqb-true (length glance.order.live) 0 is)

pub sign_tells : (low : ℕ) (noted : Noted) → SignTells low noted.came noted.above noted.lone (sign_of low noted)
sign_tells low noted =
    border_tells low noted.came noted.above noted.lone noted.glance (lone_sign noted.lone (layer_sign low noted.came noted.above noted.glance))
    (lone_tells low noted.came noted.above noted.lone (layer_sign low noted.came noted.above noted.glance) (layer_tells low noted.came noted.above noted.lone noted.glance))
