-- Steps of a call that hasn't finished, and the one that ends them.
use Rattle.std.proofs.Common.{◌≡◌, ◌<◌, ℕ, ◌+◌, true, List, [], ◌∷◌, ◌++◌, length, map, refl, subst, sym, ◌∙◌, arith, length-append}
use Rattle.std.proofs.lemmas.List.{map-append}
use Rattle.std.proofs.lemmas.List.Elements.{All-nil, All-push}
use Rattle.mt_types.specs.declared.numbers.CallNo.{CallNo}
use Rattle.mt_types.specs.declared.event.Event.{Event}
use Rattle.mt_types.specs.declared.event.Event.TheVariants.{Step}
use Rattle.mt_types.specs.declared.event.Outcome.{Outcome}
use Rattle.mt_promise.specs.History.{History, GoesOn}
use Rattle.mt_promise.proofs.HistoryLemmas.{GoesOn-append}
use Rattle.mt_index.specs.Stands.{MachineView}
use Rattle.mt_script.specs.Machine.{Leads, IsAsBefore}
use Rattle.mt_script.specs.Script.{goes_on, AllGoOn, Happens, Steps, Finishes}

pub as_before : (s between t : MachineView) → IsAsBefore between t → IsAsBefore s between → IsAsBefore s t
as_before s between t late early = (late.0 ∙ early.0, late.1 ∙ early.1)

-- one step fewer than n, none of which finished the call
pub record Passes (n : ℕ) (past : History) (call : CallNo) (h : History) : Type 0 where
  pub outcomes : List Outcome
  pub go_on : AllGoOn outcomes
  pub count : length outcomes + 1 ≡ n
  pub stepped : Steps past call outcomes h

pub Passes-none : (s : MachineView) (call : CallNo) → Leads s (λ past h. Passes 1 past call h) s
Passes-none s call past stands = (past, record { outcomes = []; go_on = All-nil (λ (o : Outcome). goes_on o ≡ true); count = refl; stepped = refl }, stands)

Steps-push : (past between h : History) (call : CallNo) (outcomes : List Outcome) (outcome : Outcome) → Steps past call outcomes between → Happens between (Step call) outcome h → Steps past call (outcomes ++ outcome ∷ []) h
Steps-push past between h call outcomes outcome stepped one =
    subst (λ (es : List Event). GoesOn past es (outcomes ++ outcome ∷ []) h) (sym (map-append (λ (o : Outcome). Step call) outcomes (outcome ∷ [])))
    (subst (λ (t : History). GoesOn past (map (λ (o : Outcome). Step call) outcomes ++ Step call ∷ []) (outcomes ++ outcome ∷ []) t) (sym one.1)
    (GoesOn-append past between _ outcomes (Step call) outcome one.0 stepped))

pub Passes-more : (s between t : MachineView) (n : ℕ) (call : CallNo) (outcome : Outcome) → Leads s (λ past h. Passes n past call h) between → Leads between (λ past h. Happens past (Step call) outcome h) t → goes_on outcome ≡ true
    → Leads s (λ past h. Passes (n + 1) past call h) t
Passes-more s between t n call outcome so_far step on past stands =
    let led = so_far past stands in
    let more = step led.0 led.2 in
    let one : length (outcome ∷ []) ≡ 1 = refl in (
      more.0,
      record {
        outcomes = led.1.outcomes ++ outcome ∷ [];
        go_on = All-push (λ (o : Outcome). goes_on o ≡ true) led.1.outcomes outcome led.1.go_on on;
        count = omega (arith, led.1.count, length-append led.1.outcomes (outcome ∷ []), one);
        stepped = Steps-push past led.0 more.0 call led.1.outcomes outcome led.1.stepped more.1;
      },
      more.2,
    )

pub Passes-end : (s between t : MachineView) (n : ℕ) (call : CallNo) (outcome : Outcome) → Leads s (λ past h. Passes n past call h) between → Leads between (λ past h. Happens past (Step call) outcome h) t
    → n < 1000001 → (goes_on outcome ≡ true → n ≡ 1000000) → Leads s (λ past h. Finishes past call outcome h) t
Passes-end s between t n call outcome so_far step few ended past stands =
    let led = so_far past stands in
    let more = step led.0 led.2 in (
      more.0,
      record {
        before = led.1.outcomes;
        go_on = led.1.go_on;
        few = omega (arith, led.1.count, few);
        stepped = Steps-push past led.0 more.0 call led.1.outcomes outcome led.1.stepped more.1;
        ended = λ on. let last = ended on in omega (arith, led.1.count, last);
      },
      more.2,
    )
