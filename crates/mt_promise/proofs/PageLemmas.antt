-- The law of views.
use Rattle.std.proofs.Common.{◌≡◌, ◌≤◌, ℕ, Bool, List, length, Option, Some, None, ap, sym, subst, refl, inl, inr, arith}
use Rattle.std.specs.Prelude.{nat_lt}
use Rattle.std.proofs.lemmas.Bool.{cases_Bool}
use borrow.Author.Tests.{ltb-false}
use Rattle.mt_promise.proofs.FinishedLemmas.{legal_before, finished}
use Rattle.mt_promise.proofs.ViewLemmas.{HasStood, view_has_stood}
use Rattle.mt_promise.proofs.StandLemmas.{views_within}
use Rattle.mt_promise.specs.Headline.{LegalViewsAreRight, ShowsAfresh, StandsAt}
use Rattle.mt_promise.specs.History.{History, happening, StandingView, moment, view_of}
use Rattle.mt_promise.specs.Legal.{Legal, MayReadView, MayRead, MayShow, page_of}
use Rattle.mt_types.specs.Limits.{page_fault, refused_if}
use Rattle.mt_types.specs.declared.view.Page.{Page}
use Rattle.mt_types.specs.declared.view.ViewSpec.{ViewSpec}
use Rattle.mt_types.specs.declared.numbers.ViewNo.{ViewNo}
use Rattle.mt_types.specs.declared.event.Request.TheVariants.{Build}
use Rattle.mt_types.specs.declared.event.Answer.{Answer}
use Rattle.mt_promise.specs.RightAnswers.{RightAnswer}
use Rattle.mt_types.specs.declared.event.Event.TheVariants.{ViewRead}
use Rattle.mt_types.specs.declared.event.Outcome.TheVariants.{View, Refused}
use Rattle.mt_types.specs.declared.refusal.Refusal.{Refusal}
use Rattle.mt_types.specs.declared.refusal.Refusal.TheVariants.{Behind}

-- which view a page is of
pub record IsPageOf (C : ℕ) (past : History) (n floor : ℕ) (start : List ℕ) (limit : ℕ) (page : Page) : Type 0 where
  pub v : StandingView
  pub found : view_of n (moment past).views ≡ Some v
  pub floor_met : floor ≤ v.at
  pub is : page ≡ page_of C (moment past) v start limit

shown_page : (C : ℕ) (past : History) (n floor : ℕ) (start : List ℕ) (limit : ℕ) (page : Page) (v : StandingView) → view_of n (moment past).views ≡ Some v
    → MayShow C (moment past) v start limit (refused_if (nat_lt v.at floor) (Behind v.at)) (View page) → IsPageOf C past n floor start limit page
shown_page C past n floor start limit page v at may =
    elim (cases_Bool (nat_lt v.at floor)) [
      | inl b ↦
          let refused : View page ≡ Refused (Behind v.at) = subst (λ (t : Bool). MayShow C (moment past) v start limit (refused_if t (Behind v.at)) (View page)) b may in cc
      | inr b ↦
          let shown = subst (λ (t : Bool). MayShow C (moment past) v start limit (refused_if t (Behind v.at)) (View page)) b may in
          elim shown [
            | inl e ↦ let same : page ≡ page_of C (moment past) v start limit = cc in
                record { v = v; found = at; floor_met = ltb-false v.at floor b; is = same }
            | inr e ↦ cc
          ]
    ]

read_page : (C : ℕ) (past : History) (n floor : ℕ) (start : List ℕ) (limit : ℕ) (page : Page) (r : Option StandingView) → view_of n (moment past).views ≡ r
    → MayRead C (moment past) r floor start limit (View page) → IsPageOf C past n floor start limit page
read_page C past n floor start limit page None at may = cc
read_page C past n floor start limit page (Some v) at may = shown_page C past n floor start limit page v at may

pub asked_page : (C : ℕ) (past : History) (n floor : ℕ) (start : List ℕ) (limit : ℕ) (page : Page) (r : Option Refusal)
    → MayReadView C (moment past) r n floor start limit (View page) → IsPageOf C past n floor start limit page
asked_page C past n floor start limit page None may = read_page C past n floor start limit page (view_of n (moment past).views) refl may
asked_page C past n floor start limit page (Some refusal) may = cc

shows_afresh : (C : ℕ) (past : History) (v : StandingView) (start : List ℕ) (limit : ℕ) → v.at ≤ length (moment past).commits
    → ShowsAfresh C past v.spec start limit (page_of C (moment past) v start limit)
shows_afresh C past v start limit within = record { reached = within; count = refl; sums = refl; rows = refl }

-- in a legal history a view that has stood opened at a number of commits of its build
stands_at : (C : ℕ) (past : History) → Legal C past → (view : ViewNo) (spec : ViewSpec) (at : ℕ) → HasStood past view spec at → StandsAt past view spec at
stands_at C past legal view spec at s =
    let done = finished C past legal (Build spec) s.reply s.before s.until s.built in
    let right = subst (λ (answer : Answer). RightAnswer C s.until done.call (Build spec) answer s.built.end_note) s.answer done.answer in
    let from = done.right.from in
    let to = done.right.to in
    record {
      reply = s.reply;
      before = s.before;
      until = s.until;
      built = s.built;
      answer = s.answer;
      opened_from = omega (arith, from, right.1);
      opened_to = omega (arith, to, right.2);
      kept = s.kept_since;
      place = s.place;
    }

pub legal_views : LegalViewsAreRight
legal_views C h legal view floor start limit page note later past e =
    let whole = subst (λ (z : History). Legal C z) e legal in
    let here = legal_before C later (happening (ViewRead view floor start limit) (View page) note) past whole in
    let p = asked_page C past view.0 floor start limit page (page_fault start limit) here.1 in
    let within = views_within C past here.0 view.0 p.v p.found in
    let afresh = subst (λ (q : Page). ShowsAfresh C past p.v.spec start limit q) (sym p.is) (shows_afresh C past p.v start limit within) in
    let same_at : page.at ≡ p.v.at = ap (λ (q : Page). q.at) p.is in
    let stands = subst (λ (n : ℕ). StandsAt past view p.v.spec n) (sym same_at) (stands_at C past here.0 view p.v.spec p.v.at (view_has_stood past view p.v p.found)) in
    (omega (arith, same_at, p.floor_met), (p.v.spec, stands, afresh))
