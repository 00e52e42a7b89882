-- The small histories of wrong pages against the promise.
use Rattle.std.proofs.Common.{◌≡◌, ℕ, ◌+◌, true, false, [], ◌∷◌, ◌++◌, ap, sym, subst, refl, arith}
use Rattle.std.proofs.lemmas.Bool.{false≢true}
use Rattle.mt_promise.proofs.PageLemmas.{legal_views}
use Rattle.mt_promise.specs.History.{History, Happening, happening}
use Rattle.mt_promise.specs.Headline.{NoneDrops, applies, drops, takes_on, one_if}
use Rattle.mt_promise.specs.Examples.{PageAfterDropIsRefuted, PageLeftBehindIsRefuted, PageAfterDropIsNotRight, PageLeftBehindIsNotRight, page_after_drop, page_left_behind}
use Rattle.mt_types.specs.declared.numbers.CallNo.{CallNo}
use Rattle.mt_types.specs.declared.numbers.ViewNo.{ViewNo}
use Rattle.mt_types.specs.declared.event.Event.{Event}
use Rattle.mt_types.specs.declared.event.Event.TheVariants.{Step, Apply, ViewDrop, Collect}
use Rattle.mt_types.specs.declared.event.Outcome.TheVariants.{Done, Applied, Dropped}
use Rattle.mt_types.specs.declared.event.Reply.{Reply}
use Rattle.mt_types.specs.declared.view.Page.{Page}

-- the newest happening, or else one of no meaning, and what happened before it
abbrev nothing : Happening
nothing = happening Collect Dropped 0

abbrev newest : History → Happening
newest [] = nothing
newest (x ∷ past) = x

abbrev older : History → History
older [] = []
older (x ∷ past) = past

abbrev first_view : ViewNo
first_view = record { 0 = 1 }

abbrev drop_first : Happening
drop_first = happening (ViewDrop first_view) Dropped 0

abbrev apply_first : Happening
apply_first = happening (Apply first_view) (Applied 1) 0

-- after a drop none stands that was built before
dropped : (past later until : History) (call : CallNo) (reply : Reply) (note : ℕ) → drop_first ∷ past ≡ later ++ happening (Step call) (Done reply) note ∷ until
    → NoneDrops first_view later → ⊥
dropped past [] until call reply note e kept =
    let clash : ◌≡◌ {A = Event} (ViewDrop first_view) (Step call) = ap (λ (z : History). (newest z).event) e in cc
dropped past (x ∷ later) until call reply note e kept =
    let is : drop_first ≡ x = ap newest e in
    let so : drops first_view drop_first ≡ false = subst (λ (y : Happening). drops first_view y ≡ false) (sym is) kept.0 in
    false≢true (sym so)

-- after an apply none stands where it opened
applied : (past later until : History) (call : CallNo) (reply : Reply) (note : ℕ) → apply_first ∷ past ≡ later ++ happening (Step call) (Done reply) note ∷ until
    → takes_on first_view past apply_first ≡ true → 0 ≡ note + applies first_view (happening (Step call) (Done reply) note ∷ until) later → ⊥
applied past [] until call reply note e takes place =
    let clash : ◌≡◌ {A = Event} (Apply first_view) (Step call) = ap (λ (z : History). (newest z).event) e in cc
applied past (x ∷ later) until call reply note e takes place =
    let end : History = happening (Step call) (Done reply) note ∷ until in
    let is : apply_first ≡ x = ap newest e in
    let before : past ≡ later ++ end = ap older e in
    let here : takes_on first_view (later ++ end) x ≡ true =
    subst (λ (y : Happening). takes_on first_view (later ++ end) y ≡ true) is (subst (λ (z : History). takes_on first_view z apply_first ≡ true) before takes) in
    let one : one_if (takes_on first_view (later ++ end) x) ≡ 1 = ap one_if here in
    omega (arith, place, one)

abbrev page_at : ℕ → Page
page_at at = record { at = at; count = 0; sums = 0 ∷ []; rows = [] }

pub after_drop : PageAfterDropIsNotRight
after_drop right =
    let (floor, (spec, stands, shows)) = right first_view 0 [] 10 (page_at 0) 0 [] (older page_after_drop) refl in
    dropped (older (older page_after_drop)) stands.built.later stands.until stands.built.number stands.reply stands.built.end_note stands.built.ended stands.kept

pub left_behind : PageLeftBehindIsNotRight
left_behind right =
    let (floor, (spec, stands, shows)) = right first_view 0 [] 10 (page_at 0) 0 [] (older page_left_behind) refl in
    applied (older (older page_left_behind)) stands.built.later stands.until stands.built.number stands.reply stands.built.end_note stands.built.ended refl stands.place

pub after_drop_refuted : PageAfterDropIsRefuted
after_drop_refuted legal = after_drop (legal_views 1 page_after_drop legal)

pub left_behind_refuted : PageLeftBehindIsRefuted
left_behind_refuted legal = left_behind (legal_views 1 page_left_behind legal)
