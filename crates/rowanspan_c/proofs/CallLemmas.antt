-- What comes of calls on what a handle holds, case by case.
use Rattle.std.proofs.Common.{◌≡◌, ◌<◌, ◌≤◌, ℕ, suc, List, Bool, refl, sym, ap, subst, inl, inr, arith}
use Rattle.std.specs.Prelude.{Option, Some, None, Result, Ok, Err, IfOk, IfErr, MatchOption}
use Rattle.std.specs.Option.{option_or}
use Rattle.std.proofs.lemmas.Bool.Decides.{leb_tells}
use Rattle.mt_types.specs.declared.event.Answer.{Answer}
use Rattle.mt_types.specs.declared.event.Event.{Event}
use Rattle.mt_types.specs.declared.event.Outcome.{Outcome}
use Rattle.mt_types.specs.declared.event.Outcome.TheVariants.{View, Refused}
use Rattle.mt_types.specs.declared.event.Request.{Request}
use Rattle.mt_types.specs.declared.refusal.Refusal.{Refusal}
use Rattle.mt_types.specs.declared.refusal.Refusal.TheVariants.{NoMemory, NoSuchView, Behind}
use Rattle.mt_types.specs.declared.view.Page.{Page}
use Rattle.mt_types.specs.Limits.{open_fault, refused_if}
use Rattle.mt_types.specs.RefusalNumbers.{refusal_number}
use Rattle.mt_view.specs.State.{StateView}
use Rattle.mt_index.specs.declared.options.Options.{Options}
use Rattle.mt_index.specs.Events.{IsOpened}
use Rattle.mt_index.specs.Stands.{ReadsPage}
use Rattle.mt_map.specs.Tidies.{ChangeComesTo, MapMakes, MapView}
use Rattle.mt_map.specs.Views.{IsStopped, KeepsUp}
use Rattle.rowanspan_c.specs.declared.changing.TheConstants.{MOST_TURNS}
use Rattle.rowanspan_c.specs.Questions.{IsCausedBy, state_refusal}
use Rattle.rowanspan_c.specs.Told.{TellsCount, TellsEnd, TellsOutcome}
use Rattle.rowanspan_c.specs.Calls.{Changes, KeepsViews, Meets, Opens}

-- ---- a change

pub changes_closed : (held next : Option MapView) (request : Request) → held ≡ None → next ≡ None
    → Changes held request next 100 0
changes_closed held next request is after =
    subst (λ (h : Option MapView). Changes h request next 100 0) (sym is) (after, (refl, refl))

pub changes_done : (held next : Option MapView) (s t : MapView) (request : Request)
    (ended : Result Answer Refusal) (status told : ℕ) → held ≡ Some s → next ≡ Some t → ChangeComesTo s request ended t
    → TellsEnd ended status told → Changes held request next status told
changes_done held next s t request ended status told is after ends tells =
    subst (λ (h : Option MapView). Changes h request next status told) (sym is) (t, after, ended, ends, tells)

-- ---- an event

pub meets_closed : (held next : Option MapView) (event : Event) → held ≡ None → next ≡ None
    → Meets held event next 100 0
meets_closed held next event is after =
    subst (λ (h : Option MapView). Meets h event next 100 0) (sym is) (after, (refl, refl))

pub meets_done : (held next : Option MapView) (s t : MapView) (event : Event) (outcome : Outcome)
    (status told : ℕ) → held ≡ Some s → next ≡ Some t → MapMakes s event outcome t
    → TellsOutcome outcome status told → Meets held event next status told
meets_done held next s t event outcome status told is after makes tells =
    subst (λ (h : Option MapView). Meets h event next status told) (sym is) (t, after, outcome, makes, tells)

pub keeps_closed : (held next : Option MapView) → held ≡ None → next ≡ None → KeepsViews held next 100 0
keeps_closed held next is after = subst (λ (h : Option MapView). KeepsViews h next 100 0) (sym is) (after, (refl, refl))

pub keeps_done : (held next : Option MapView) (s t : MapView) (kept : Result ℕ Refusal) (status told : ℕ)
    → held ≡ Some s → next ≡ Some t → IfOk kept (λ applied. KeepsUp s.machine MOST_TURNS applied t.machine)
    → IfErr kept (λ refusal. IsStopped s.machine MOST_TURNS refusal t.machine) → t.tidies ≡ s.tidies
    → TellsCount kept status told → KeepsViews held next status told
keeps_done held next s t kept status told is after keeps stops tidies tells =
    subst (λ (h : Option MapView). KeepsViews h next status told) (sym is) (t, after, kept, keeps, stops, tidies, tells)

-- ---- a page

-- a page that is refused has that cause, and one that is shown has none
pub page_caused : (fault : Option Refusal) (there : Option StateView) (floor : ℕ) (start : List ℕ) (limit : ℕ)
    (refusal : Refusal) → ReadsPage fault there floor start limit (Refused refusal)
    → IsCausedBy (option_or fault (state_refusal there floor)) refusal
page_caused (Some due) there floor start limit refusal reads =
    let same : ◌≡◌ {A = Outcome} (Refused refusal) (Refused due) = reads in cc
page_caused None None floor start limit refusal reads =
    let same : ◌≡◌ {A = Outcome} (Refused refusal) (Refused NoSuchView) = reads in cc
page_caused None (Some state) floor start limit refusal reads =
    elim (leb_tells (suc state.at) floor) [
      | inl low ↦ subst (λ (b : Bool). IsCausedBy (refused_if b (Behind state.at)) refusal) (sym low.0)
          (elim reads [
            | inl behind ↦ let same : ◌≡◌ {A = Outcome} (Refused refusal) (Refused (Behind state.at)) = behind.1 in cc
            | inr there ↦ absurd (let here : suc state.at ≤ floor = low.1 in let above : floor ≤ state.at = there.0 in omega (arith, here, above))
          ])
      | inr high ↦ subst (λ (b : Bool). IsCausedBy (refused_if b (Behind state.at)) refusal) (sym high.0)
          (elim reads [
            | inl behind ↦ absurd (let above : floor < suc state.at = high.1 in let under : state.at < floor = behind.0 in omega (arith, above, under))
            | inr there ↦ elim there.1 [
              | inl shows ↦ absurd (let clash : ◌≡◌ {A = Outcome} (Refused refusal) (View _) = shows in cc)
              | inr wants ↦ let same : ◌≡◌ {A = Outcome} (Refused refusal) (Refused NoMemory) = wants in cc
            ]
          ])
    ]

pub page_fits : (fault : Option Refusal) (there : Option StateView) (floor : ℕ) (start : List ℕ) (limit : ℕ)
    (page : Page) → ReadsPage fault there floor start limit (View page)
    → option_or fault (state_refusal there floor) ≡ None
page_fits (Some due) there floor start limit page reads =
    absurd (let clash : ◌≡◌ {A = Outcome} (View page) (Refused due) = reads in cc)
page_fits None None floor start limit page reads =
    absurd (let clash : ◌≡◌ {A = Outcome} (View page) (Refused NoSuchView) = reads in cc)
page_fits None (Some state) floor start limit page reads =
    elim reads [
      | inl behind ↦ absurd (let clash : ◌≡◌ {A = Outcome} (View page) (Refused (Behind state.at)) = behind.1 in cc)
      | inr there ↦ elim (leb_tells (suc state.at) floor) [
        | inl low ↦ absurd (let here : suc state.at ≤ floor = low.1 in let above : floor ≤ state.at = there.0 in omega (arith, here, above))
        | inr high ↦ ap (λ (b : Bool). refused_if b (Behind state.at)) high.0
      ]
    ]

-- ---- faults

-- what is not refused has no fault
pub no_fault : {A : Type 0} (fault : Option Refusal) (ended : Result A Refusal) (found : A) (P : Type 0)
    → ended ≡ Ok found → MatchOption fault P (λ (refusal : Refusal). ended ≡ Err refusal) → fault ≡ None
no_fault None ended found P is clash = refl
no_fault (Some refusal) ended found P is clash = cc

pub neither : (first second : Option Refusal) → first ≡ None → second ≡ None → option_or first second ≡ None
neither first second none still = subst (λ (f : Option Refusal). option_or f second ≡ None) (sym none) still

-- ---- an opening

pub opens_held : (held next : Option MapView) (s : MapView) (options : Options) → held ≡ Some s → next ≡ Some s
    → Opens held options next 101
opens_held held next s options is after =
    subst (λ (h : Option MapView). Opens h options next 101) (sym is) (after, refl)

pub opens_done : (held next : Option MapView) (t : MapView) (options : Options) → held ≡ None → next ≡ Some t
    → IsOpened options t.machine × (t.tidies ≡ options.tidies)
    → open_fault options.columns options.log_capacity options.log_retention ≡ None → Opens held options next 0
opens_done held next t options is after opened fits =
    subst (λ (h : Option MapView). Opens h options next 0) (sym is) (inl (t, after, opened.0, opened.1, refl, fits))

pub opens_not : (held next : Option MapView) (options : Options) (refusal : Refusal) (status : ℕ) → held ≡ None
    → next ≡ None → IsCausedBy (open_fault options.columns options.log_capacity options.log_retention) refusal
    → status ≡ refusal_number refusal → Opens held options next status
opens_not held next options refusal status is after caused told =
    subst (λ (h : Option MapView). Opens h options next status) (sym is) (inr (refusal, caused, after, told))
