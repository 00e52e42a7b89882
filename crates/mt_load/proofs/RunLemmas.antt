-- What a put that runs alone leaves of a moment, besides commits: as many views and epochs, and one call more.
use Rattle.std.proofs.Common.{◌≡◌, ℕ, ◌+◌, ◌==◌, true, false, Bool, List, [], ◌∷◌, ◌++◌, Option, Some, None, ap, sym, subst, refl, ◌∙◌, arith}
use Rattle.std.specs.Prelude.{if◌then◌else◌, find, map}
use Rattle.std.specs.List.{AllByRecursion}
use Rattle.mt_types.specs.declared.numbers.PassNo.{PassNo}
use Rattle.mt_types.specs.declared.numbers.CallNo.{CallNo}
use Rattle.mt_types.specs.declared.event.Event.{Event}
use Rattle.mt_types.specs.declared.event.Event.TheVariants.{Begin, Step}
use Rattle.mt_types.specs.declared.event.Outcome.{Outcome}
use Rattle.mt_types.specs.declared.event.Outcome.TheVariants.{Call, Moved, Again, Commit, Done, Refused}
use Rattle.mt_types.specs.declared.event.Reply.{Reply}
use Rattle.mt_types.specs.declared.event.Request.{Request}
use Rattle.mt_types.specs.declared.event.Request.TheVariants.{Put}
use Rattle.mt_promise.specs.History.{History, Happening, Moment, OpenCall, moment, happening, call_of, new_call, replace_call, after_event, after_call_step, after_step}
use Rattle.mt_promise.specs.Alone.{AreStepsOf, GoesOnBy, RunsAlone, RunsThrough}

-- each open call asks for this
abbrev AskFor : Request → List OpenCall → Type 0
AskFor request calls = AllByRecursion (λ (call : OpenCall). call.request ≡ request) calls

-- as many calls have begun, views were built and epochs have passed, and each open call asks for this
record IsDuring (b u e : ℕ) (request : Request) (m : Moment) : Type 0 where
  pub begun : m.begun ≡ b
  pub built : m.built ≡ u
  pub epoch : m.epoch ≡ e
  pub asks : AskFor request m.calls

either_asks : (request : Request) (b : Bool) (first call : OpenCall) (rest : Option OpenCall) → first.request ≡ request → (rest ≡ Some call → call.request ≡ request) → (if b then Some first else rest) ≡ Some call → call.request ≡ request
either_asks request true first call rest own others is = let same : first ≡ call = cc in subst (λ (c : OpenCall). c.request ≡ request) same own
either_asks request false first call rest own others is = others is

found_asks : (request : Request) (n : ℕ) (calls : List OpenCall) (call : OpenCall) → AskFor request calls → call_of n calls ≡ Some call → call.request ≡ request
found_asks request n [] call asks at = absurd (let clash : ◌≡◌ {A = Option OpenCall} None (Some call) = at in cc)
found_asks request n (first ∷ calls) call asks at = either_asks request (first.number == n) first call (call_of n calls) asks.0 (found_asks request n calls call asks.1) at

one_asks : (request : Request) (b : Bool) (new first : OpenCall) → new.request ≡ request → first.request ≡ request → (if b then new else first).request ≡ request
one_asks request true new first is own = is
one_asks request false new first is own = own

replaced_ask : (request : Request) (new : OpenCall) (calls : List OpenCall) → new.request ≡ request → AskFor request calls → AskFor request (replace_call new calls)
replaced_ask request new [] is asks = tt
replaced_ask request new (first ∷ calls) is asks = (one_asks request (first.number == new.number) new first is asks.0, replaced_ask request new calls is asks.1)

module _ (begun built epoch : ℕ) (request : Request) where
  -- a step by which the call continues
  goes_on : (m : Moment) (call : OpenCall) (o : Outcome) (opens : ℕ) → IsDuring begun built epoch request m → call.request ≡ request → GoesOnBy o → IsDuring begun built epoch request (after_step m call o opens)
  goes_on m call Moved opens is asks on = record { begun = is.begun; built = is.built; epoch = is.epoch; asks = replaced_ask request (record call { moves = call.moves + 1 }) m.calls asks is.asks }
  goes_on m call Again opens is asks on = record { begun = is.begun; built = is.built; epoch = is.epoch; asks = replaced_ask request (record call { moves = 0 }) m.calls asks is.asks }
  goes_on m call (Commit number) opens is asks on = record { begun = is.begun; built = is.built; epoch = is.epoch; asks = replaced_ask request (record call { committed = Some number; moves = 0 }) m.calls asks is.asks }
  goes_on m call _ opens is asks on = absurd on

  goes_on_at : (m : Moment) (n : ℕ) (found : Option OpenCall) → call_of n m.calls ≡ found → (o : Outcome) (opens : ℕ) → IsDuring begun built epoch request m → GoesOnBy o → IsDuring begun built epoch request (after_call_step m found o opens)
  goes_on_at m n None at o opens is on = is
  goes_on_at m n (Some call) at o opens is on = goes_on m call o opens is (found_asks request n m.calls call is.asks at) on

  still : (m : Moment) (n : ℕ) → IsDuring begun built epoch request m → IsDuring begun built epoch request (record m { happened = n })
  still m n is = record { begun = is.begun; built = is.built; epoch = is.epoch; asks = is.asks }

  during : (number : CallNo) (steps before : History) → AreStepsOf number steps → IsDuring begun built epoch request (moment before) → IsDuring begun built epoch request (moment (steps ++ before))
  during number [] before are is = is
  during number (x ∷ steps) before are is =
      let m = moment (steps ++ before) in
      let was = during number steps before are.2 is in
      let later = goes_on_at m number.0 (call_of number.0 m.calls) refl x.outcome x.opens was are.1 in
      still _ _ (subst (λ (e : Event). IsDuring begun built epoch request (after_event m e x.outcome x.opens)) (sym are.0) later)

-- what is left when it has ended
pub record IsOneCallMore (before after : Moment) : Type 0 where
  pub begun : after.begun ≡ before.begun + 1
  pub built : after.built ≡ before.built
  pub epoch : after.epoch ≡ before.epoch

no_more : (n : ℕ) → n + 0 ≡ n
no_more n = omega arith

module _ (key : List ℕ) (sets : List (ℕ × List ℕ)) where
  ends : (begun built epoch : ℕ) (m : Moment) (found : Option OpenCall) (n : ℕ) → call_of n m.calls ≡ found → (reply : Reply) (opens : ℕ) → IsDuring begun built epoch (Put key sets) m
      → ((after_call_step m found (Done reply) opens).begun ≡ begun) × ((after_call_step m found (Done reply) opens).built ≡ built) × ((after_call_step m found (Done reply) opens).epoch ≡ epoch)
  ends begun built epoch m None n at reply opens is = (is.begun, is.built, is.epoch)
  ends begun built epoch m (Some call) n at reply opens is =
      let asks = found_asks (Put key sets) n m.calls call is.asks at in (
        is.begun,
        ap (λ (r : Request). (after_step m (record call { request = r }) (Done reply) opens).built) asks ∙ no_more m.built ∙ is.built,
        is.epoch,
      )

  pub put_through : (pass : PassNo) (number : CallNo) (before after : History) (reply : Reply) → RunsThrough pass number (Put key sets) before (Done reply) after → IsOneCallMore (moment before) (moment after)
  put_through pass number before after reply ran =
      let run = ran.run in
      let m = moment before in
      let begin : History = happening (Begin run.pass (Put key sets)) (Call number) run.note ∷ before in
      let first : IsDuring (m.begun + 1) m.built m.epoch (Put key sets) (moment begin) =
      record { begun = refl; built = refl; epoch = refl; asks = subst (λ (calls : List OpenCall). AskFor (Put key sets) (calls ++ new_call m run.pass.0 (Put key sets) number.0 ∷ [])) (sym run.nothing_open) (refl, tt) } in
      let last_step = subst (λ (h : History). IsDuring (m.begun + 1) m.built m.epoch (Put key sets) (moment h)) (sym run.is_past) (during (m.begun + 1) m.built m.epoch (Put key sets) number run.steps begin run.are_steps first) in
      let last = ends (m.begun + 1) m.built m.epoch (moment ran.past) (call_of number.0 (moment ran.past).calls) number.0 refl reply ran.note last_step in
      subst (λ (h : History). IsOneCallMore m (moment h)) (sym ran.is_after) (record { begun = last.0; built = last.1; epoch = last.2 })
