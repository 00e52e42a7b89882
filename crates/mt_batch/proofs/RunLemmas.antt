-- A put that runs alone: it builds no view, and advances no epoch.
use Rattle.std.proofs.Common.{◌≡◌, ◌≤◌, ◌+◌, ◌==◌, ℕ, Bool, List, [], ◌∷◌, ◌++◌, length, Option, Some, None, refl, sym, ap, subst, ◌∙◌, arith}
use Rattle.std.specs.Prelude.{if◌then◌else◌}
use Rattle.std.proofs.lemmas.Bool.{eq-eqb}
use Rattle.std.proofs.lemmas.List.{append_assoc}
use Rattle.mt_types.specs.declared.numbers.PassNo.{PassNo}
use Rattle.mt_types.specs.declared.numbers.CallNo.{CallNo}
use Rattle.mt_types.specs.declared.refusal.Refusal.{Refusal}
use Rattle.mt_types.specs.declared.event.Event.{Event}
use Rattle.mt_types.specs.declared.event.Event.TheVariants.{Begin, Step}
use Rattle.mt_types.specs.declared.event.Outcome.{Outcome}
use Rattle.mt_types.specs.declared.event.Outcome.TheVariants.{Call, Moved, Again, Commit, Done, Refused}
use Rattle.mt_types.specs.declared.event.Request.{Request}
use Rattle.mt_types.specs.declared.event.Request.TheVariants.{Put}
use Rattle.mt_types.specs.declared.event.Reply.{Reply}
use Rattle.mt_promise.specs.History.{History, Happening, Moment, OpenCall, happening, moment, call_of, new_call, replace_call, after_event, after_call_step, after_step, view_built}
use Rattle.mt_promise.specs.Alone.{AreStepsOf, GoesOnBy as Continues, IsTurnedAway, RunsAlone, RunsThrough}

same_number : (n : ℕ) (call : OpenCall) (other : Option OpenCall) → (if n == n then Some call else other) ≡ Some call
same_number n call other = ap (λ (b : Bool). if b then Some call else other) (eq-eqb n n refl)

found_alone : (calls : List OpenCall) (call : OpenCall) (number : ℕ) → calls ≡ call ∷ [] → call.number ≡ number → call_of number calls ≡ Some call
found_alone calls call number is numbered = ap (call_of number) is ∙ ap (λ (n : ℕ). call_of n (call ∷ [])) (sym numbered) ∙ same_number call.number call None

replaced_alone : (calls : List OpenCall) (call new : OpenCall) → calls ≡ call ∷ [] → new.number ≡ call.number → replace_call new calls ≡ new ∷ []
replaced_alone calls call new is same = ap (replace_call new) is ∙ ap (λ (n : ℕ). (if call.number == n then new else call) ∷ []) same ∙ ap (λ (b : Bool). (if b then new else call) ∷ []) (eq-eqb call.number call.number refl)

no_more : (n : ℕ) → n + 0 ≡ n
no_more n = omega arith

module _ (key : List ℕ) (sets : List (ℕ × List ℕ)) (number : CallNo) (before : History) where
  abbrev request : Request
  request = Put key sets

  -- the put is the only open call, and nothing was built since, nor has an epoch advanced
  record IsOpen (m : Moment) : Type 0 where
    pub call : OpenCall
    pub calls : m.calls ≡ call ∷ []
    pub numbered : call.number ≡ number.0
    pub asks : call.request ≡ request
    pub built : m.built ≡ (moment before).built
    pub epoch : m.epoch ≡ (moment before).epoch
    pub begun : m.begun ≡ (moment before).begun + 1

  begins : (pass : PassNo) (note : ℕ) → (moment before).calls ≡ [] → IsOpen (moment (happening (Begin pass request) (Call number) note ∷ before))
  begins pass note none = record {
    call = new_call (moment before) pass.0 request number.0;
    calls = ap (λ (l : List OpenCall). l ++ new_call (moment before) pass.0 request number.0 ∷ []) none;
    numbered = refl;
    asks = refl;
    built = refl;
    epoch = refl;
    begun = refl;
  }

  module _ (h : History) (open_ : IsOpen (moment h)) where
    as_step : (outcome : Outcome) (opens : ℕ) → after_event (moment h) (Step number) outcome opens ≡ after_step (moment h) open_.call outcome opens
    as_step outcome opens = ap (λ (r : Option OpenCall). after_call_step (moment h) r outcome opens) (found_alone (moment h).calls open_.call number.0 open_.calls open_.numbered)

    again : (new : OpenCall) (m : Moment) → new.number ≡ open_.call.number → new.request ≡ open_.call.request → m.calls ≡ replace_call new (moment h).calls → m.built ≡ (moment h).built → m.epoch ≡ (moment h).epoch → m.begun ≡ (moment h).begun → IsOpen m
    again new m same asks calls built epoch begun = record {
      call = new;
      calls = calls ∙ replaced_alone (moment h).calls open_.call new open_.calls same;
      numbered = same ∙ open_.numbered;
      asks = asks ∙ open_.asks;
      built = built ∙ open_.built;
      epoch = epoch ∙ open_.epoch;
      begun = begun ∙ open_.begun;
    }

    steps_on : (outcome : Outcome) (opens : ℕ) → Continues outcome → IsOpen (moment (happening (Step number) outcome opens ∷ h))
    steps_on Moved opens on = again (record open_.call { moves = open_.call.moves + 1 }) _ refl refl (ap (λ (m : Moment). m.calls) (as_step Moved opens)) (ap (λ (m : Moment). m.built) (as_step Moved opens)) (ap (λ (m : Moment). m.epoch) (as_step Moved opens)) (ap (λ (m : Moment). m.begun) (as_step Moved opens))
    steps_on Again opens on = again (record open_.call { moves = 0 }) _ refl refl (ap (λ (m : Moment). m.calls) (as_step Again opens)) (ap (λ (m : Moment). m.built) (as_step Again opens)) (ap (λ (m : Moment). m.epoch) (as_step Again opens)) (ap (λ (m : Moment). m.begun) (as_step Again opens))
    steps_on (Commit n) opens on = again (record open_.call { committed = Some n; moves = 0 }) _ refl refl (ap (λ (m : Moment). m.calls) (as_step (Commit n) opens)) (ap (λ (m : Moment). m.built) (as_step (Commit n) opens)) (ap (λ (m : Moment). m.epoch) (as_step (Commit n) opens)) (ap (λ (m : Moment). m.begun) (as_step (Commit n) opens))
    steps_on _ opens on = absurd on

    -- its end
    done_built : (reply : Reply) (opens : ℕ) → (moment (happening (Step number) (Done reply) opens ∷ h)).built ≡ (moment before).built
    done_built reply opens =
        ap (λ (m : Moment). m.built) (as_step (Done reply) opens)
        ∙ ap (λ (r : Request). (moment h).built + length (view_built r reply.answer opens)) open_.asks
        ∙ no_more (moment h).built ∙ open_.built

    done_epoch : (reply : Reply) (opens : ℕ) → (moment (happening (Step number) (Done reply) opens ∷ h)).epoch ≡ (moment before).epoch
    done_epoch reply opens = ap (λ (m : Moment). m.epoch) (as_step (Done reply) opens) ∙ open_.epoch

    refused_built : (refusal : Refusal) (opens : ℕ) → (moment (happening (Step number) (Refused refusal) opens ∷ h)).built ≡ (moment before).built
    refused_built refusal opens = ap (λ (m : Moment). m.built) (as_step (Refused refusal) opens) ∙ open_.built

    refused_epoch : (refusal : Refusal) (opens : ℕ) → (moment (happening (Step number) (Refused refusal) opens ∷ h)).epoch ≡ (moment before).epoch
    refused_epoch refusal opens = ap (λ (m : Moment). m.epoch) (as_step (Refused refusal) opens) ∙ open_.epoch

    done_begun : (reply : Reply) (opens : ℕ) → (moment (happening (Step number) (Done reply) opens ∷ h)).begun ≡ (moment before).begun + 1
    done_begun reply opens = ap (λ (m : Moment). m.begun) (as_step (Done reply) opens) ∙ open_.begun

    refused_begun : (refusal : Refusal) (opens : ℕ) → (moment (happening (Step number) (Refused refusal) opens ∷ h)).begun ≡ (moment before).begun + 1
    refused_begun refusal opens = ap (λ (m : Moment). m.begun) (as_step (Refused refusal) opens) ∙ open_.begun

  steps_all : (past steps : History) → IsOpen (moment past) → AreStepsOf number steps → IsOpen (moment (steps ++ past))
  steps_all past [] open_ are = open_
  steps_all past (x ∷ steps) open_ are =
      let earlier = steps_all past steps open_ are.2 in
      subst (λ (e : Event). IsOpen (moment (happening e x.outcome x.opens ∷ steps ++ past))) (sym are.0) (steps_on (steps ++ past) earlier x.outcome x.opens are.1)

  open_at : (past : History) → RunsAlone request number before past → IsOpen (moment past)
  open_at past run = subst (λ (h : History). IsOpen (moment h)) (sym run.is_past)
      (steps_all (happening (Begin run.pass request) (Call number) run.note ∷ before) run.steps (begins run.pass run.note run.nothing_open) run.are_steps)

  -- ---- what a run leaves as it was, and that so many calls more have begun
  pub record Leaves (calls : ℕ) (later : History) : Type 0 where
    pub own : History
    pub block : later ≡ own ++ before
    pub built : (moment later).built ≡ (moment before).built
    pub epoch : (moment later).epoch ≡ (moment before).epoch
    pub begun : (moment before).begun + calls ≤ (moment later).begun

  blocked : (past later : History) (last : Happening) → (run : RunsAlone request number before past) → later ≡ last ∷ past → (own : History) × (later ≡ own ++ before)
  blocked past later last run is = (
    last ∷ run.steps ++ happening (Begin run.pass request) (Call number) run.note ∷ [],
    is ∙ ap (λ (h : History). last ∷ h) (run.is_past ∙ sym (append_assoc run.steps (happening (Begin run.pass request) (Call number) run.note ∷ []) before)),
  )

  pub done_leaves : (pass : PassNo) (reply : Reply) (later : History) → RunsThrough pass number request before (Done reply) later → Leaves 1 later
  done_leaves pass reply later ran =
      let open_ = open_at ran.past ran.run in
      let (own, block) = blocked ran.past later (happening (Step number) (Done reply) ran.note) ran.run ran.is_after in
      record {
        own = own;
        block = block;
        built = ap (λ (h : History). (moment h).built) ran.is_after ∙ done_built ran.past open_ reply ran.note;
        epoch = ap (λ (h : History). (moment h).epoch) ran.is_after ∙ done_epoch ran.past open_ reply ran.note;
        begun = let is = ap (λ (h : History). (moment h).begun) ran.is_after ∙ done_begun ran.past open_ reply ran.note in omega (arith, is);
      }

  pub refused_leaves : (pass : PassNo) (refusal : Refusal) (later : History) → RunsThrough pass number request before (Refused refusal) later → Leaves 0 later
  refused_leaves pass refusal later ran =
      let open_ = open_at ran.past ran.run in
      let (own, block) = blocked ran.past later (happening (Step number) (Refused refusal) ran.note) ran.run ran.is_after in
      record {
        own = own;
        block = block;
        built = ap (λ (h : History). (moment h).built) ran.is_after ∙ refused_built ran.past open_ refusal ran.note;
        epoch = ap (λ (h : History). (moment h).epoch) ran.is_after ∙ refused_epoch ran.past open_ refusal ran.note;
        begun = let is = ap (λ (h : History). (moment h).begun) ran.is_after ∙ refused_begun ran.past open_ refusal ran.note in omega (arith, is);
      }

  pub turned_leaves : (pass : PassNo) (refusal : Refusal) (later : History) → IsTurnedAway pass request before refusal later → Leaves 0 later
  turned_leaves pass refusal later is = record {
    own = happening (Begin pass request) (Refused refusal) 0 ∷ [];
    block = is;
    built = ap (λ (h : History). (moment h).built) is;
    epoch = ap (λ (h : History). (moment h).epoch) is;
    begun = let same = ap (λ (h : History). (moment h).begun) is in omega (arith, same);
  }
