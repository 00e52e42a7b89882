-- What is known of an open call of a legal history: how it began.
use Rattle.std.proofs.Common.{◌≡◌, ◌≤◌, ℕ, ◌==◌, ◌+◌, Bool, List, [], ◌∷◌, ◌++◌, length, Option, Some, None, ◌∙◌, ap, sym, subst, refl, inl, inr, ◌⊎◌, arith}
use Rattle.std.specs.Prelude.{if◌then◌else◌}
use Rattle.std.proofs.lemmas.Bool.Decides.{eqb_tells}
use Rattle.mt_promise.proofs.NumberedLemmas.{found, found_before_filter, found_before_map, found_before_append}
use Rattle.mt_promise.proofs.HistoryLemmas.{happened_is}
use Rattle.mt_promise.specs.History.{History, happening, Moment, OpenCall, moment, call_of, replace_call, without_call, new_call, after_event, after_step, after_call_step}
use Rattle.mt_promise.specs.Legal.{Legal, MayHappen, MayBegin}
use Rattle.mt_types.specs.declared.numbers.PassNo.{PassNo}
use Rattle.mt_types.specs.declared.numbers.CallNo.{CallNo}
use Rattle.mt_types.specs.declared.event.Event.{Event}
use Rattle.mt_types.specs.declared.event.Event.TheVariants.{Begin, Step, Apply, ViewRead, ViewDrop, Advance, Collect}
use Rattle.mt_types.specs.declared.event.Outcome.{Outcome}
use Rattle.mt_types.specs.declared.event.Outcome.TheVariants.{Call, Moved, Again, Commit, Done, Applied, Dropped, Epoch, Refused}
use Rattle.mt_types.specs.declared.event.Request.{Request}
use Rattle.mt_types.specs.declared.refusal.Refusal.{Refusal}

-- what a step leaves of a call
pub record SameCall (old new : OpenCall) : Type 0 where
  pub number : new.number ≡ old.number
  pub pass : new.pass ≡ old.pass
  pub request : new.request ≡ old.request
  pub began : new.began ≡ old.began
  pub from : new.from ≡ old.from

same_call : (call : OpenCall) → SameCall call call
same_call call = record { number = refl; pass = refl; request = refl; began = refl; from = refl }

-- the call of this number began by this event
pub record IsBegun (m : Moment) (e : Event) (o : Outcome) (n : ℕ) (call : OpenCall) : Type 0 where
  pub pass : PassNo
  pub request : Request
  pub number : CallNo
  pub event : e ≡ Begin pass request
  pub outcome : o ≡ Call number
  pub is : call ≡ new_call m pass.0 request number.0
  pub named : number.0 ≡ n

replaced_number : (new call : OpenCall) → (if call.number == new.number then new else call).number ≡ call.number
replaced_number new call =
    elim (eqb_tells call.number new.number) [
      | inl p ↦ rw p.0 (sym p.1)
      | inr p ↦ rw p.0
    ]

-- what is found after one call was replaced
replaced_call : (calls : List OpenCall) (new call : OpenCall) (k : ℕ) → call_of k calls ≡ Some call → SameCall call new → (n : ℕ) (y : OpenCall)
    → call_of n (replace_call new calls) ≡ Some y → (old : OpenCall) × (call_of n calls ≡ Some old) × SameCall old y
replaced_call calls new call k at same n y e =
    let r = found_before_map (λ (c : OpenCall). c.number) (λ (c : OpenCall). if c.number == new.number then new else c) (replaced_number new) n calls y e in
    let old_number : r.0.number ≡ n = found (λ (c : OpenCall). c.number) n calls r.0 r.1 in
    let call_number : call.number ≡ k = found (λ (c : OpenCall). c.number) k calls call at in
    elim (eqb_tells r.0.number new.number) [
      | inl p ↦
          let is : y ≡ new = r.2 ∙ ap (λ (b : Bool). if b then new else r.0) p.0 in
          let here : n ≡ k = sym old_number ∙ p.1 ∙ same.number ∙ call_number in
          let again : call_of n calls ≡ Some call = subst (λ (m : ℕ). call_of m calls ≡ Some call) (sym here) at in
          (call, again, subst (λ (z : OpenCall). SameCall call z) (sym is) same)
      | inr p ↦
          let is : y ≡ r.0 = r.2 ∙ ap (λ (b : Bool). if b then new else r.0) p.0 in
          (r.0, r.1, subst (λ (z : OpenCall). SameCall r.0 z) (sym is) (same_call r.0))
    ]

filtered_call : (calls : List OpenCall) (k n : ℕ) (y : OpenCall)
    → call_of n (without_call k calls) ≡ Some y → (old : OpenCall) × (call_of n calls ≡ Some old) × SameCall old y
filtered_call calls k n y e = (y, found_before_filter (λ (c : OpenCall). c.number) k n calls y e, same_call y)

-- each call that is open after a step was open before
call_before_step : (m : Moment) (call : OpenCall) (k : ℕ) → call_of k m.calls ≡ Some call → (o : Outcome) (opens n : ℕ) (y : OpenCall)
    → call_of n (after_step m call o opens).calls ≡ Some y → (old : OpenCall) × (call_of n m.calls ≡ Some old) × SameCall old y
call_before_step m call k at Moved opens n y e =
    replaced_call m.calls _ call k at (record { number = refl; pass = refl; request = refl; began = refl; from = refl }) n y e
call_before_step m call k at Again opens n y e =
    replaced_call m.calls _ call k at (record { number = refl; pass = refl; request = refl; began = refl; from = refl }) n y e
call_before_step m call k at (Commit number) opens n y e =
    replaced_call m.calls _ call k at (record { number = refl; pass = refl; request = refl; began = refl; from = refl }) n y e
call_before_step m call k at (Done reply) opens n y e = filtered_call m.calls call.number n y e
call_before_step m call k at (Refused refusal) opens n y e = filtered_call m.calls call.number n y e
call_before_step m call k at _ opens n y e = (y, e, same_call y)

call_before_call_step : (m : Moment) (k : ℕ) (r : Option OpenCall) → call_of k m.calls ≡ r → (o : Outcome) (opens n : ℕ) (y : OpenCall)
    → call_of n (after_call_step m r o opens).calls ≡ Some y → (old : OpenCall) × (call_of n m.calls ≡ Some old) × SameCall old y
call_before_call_step m k None at o opens n y e = (y, e, same_call y)
call_before_call_step m k (Some call) at o opens n y e = call_before_step m call k at o opens n y e

-- each call that is open after an event was open before, or began by it
pub call_before : (m : Moment) (e : Event) (o : Outcome) (opens n : ℕ) (y : OpenCall) → call_of n (after_event m e o opens).calls ≡ Some y
    → ((old : OpenCall) × (call_of n m.calls ≡ Some old) × SameCall old y) ⊎ IsBegun m e o n y
call_before m (Begin pass request) (Call number) opens n y e =
    elim (found_before_append (λ (c : OpenCall). c.number) n m.calls (new_call m pass.0 request number.0) y e) [
      | inl old ↦ inl (y, old, same_call y)
      | inr new ↦ inr (record { pass = pass; request = request; number = number; event = refl; outcome = refl; is = new.0; named = new.1 })
    ]
call_before m (Step call) o opens n y e = inl (call_before_call_step m call.0 (call_of call.0 m.calls) refl o opens n y e)
call_before m (Apply view) (Applied number) opens n y e = inl (y, e, same_call y)
call_before m (ViewDrop view) Dropped opens n y e = inl (y, e, same_call y)
call_before m Advance (Epoch number) opens n y e = inl (y, e, same_call y)
call_before m (ViewRead view floor start limit) o opens n y e = inl (y, e, same_call y)
call_before m Collect o opens n y e = inl (y, e, same_call y)
call_before m _ _ opens n y e = inl (y, e, same_call y)

-- as many calls have begun after a step as before
begun_by_step : (m : Moment) (r : Option OpenCall) (o : Outcome) (opens : ℕ) → (after_call_step m r o opens).begun ≡ m.begun
begun_by_step m None o opens = refl
begun_by_step m (Some call) Moved opens = refl
begun_by_step m (Some call) _ opens = refl

-- calls that have begun stay so
pub begun_rises : (m : Moment) (e : Event) (o : Outcome) (opens : ℕ) → m.begun ≤ (after_event m e o opens).begun
begun_rises m (Begin pass request) (Call number) opens = omega arith
begun_rises m (Step call) o opens = let e = begun_by_step m (call_of call.0 m.calls) o opens in omega arith
begun_rises m (Apply view) (Applied number) opens = omega arith
begun_rises m (ViewDrop view) Dropped opens = omega arith
begun_rises m Advance (Epoch number) opens = omega arith
begun_rises m (ViewRead view floor start limit) o opens = omega arith
begun_rises m Collect o opens = omega arith
begun_rises m _ _ opens = omega arith

call_number : (m : Moment) (r : Option Refusal) (number : CallNo) → MayBegin m r (Call number) → number.0 ≡ m.begun + 1
call_number m (Some refusal) number may = cc
call_number m None number may = elim may [ inl e ↦ let k : number ≡ record { 0 = m.begun + 1 } = cc in ap (λ (c : CallNo). c.0) k | inr e ↦ cc ]

-- a call that begins has the next number
pub begins_next : (C : ℕ) (past : History) (pass : PassNo) (request : Request) (number : CallNo) (opens : ℕ)
    → MayHappen C past (Begin pass request) (Call number) opens → number.0 ≡ (moment past).begun + 1
begins_next C past pass request number opens may = call_number (moment past) _ number may

-- an event that begins a call raises the number of calls that have begun to the number of the call
new_begun : (C : ℕ) (past : History) (e : Event) (o : Outcome) (opens : ℕ) → MayHappen C past e o opens
    → (pass : PassNo) (request : Request) (number : CallNo) → e ≡ Begin pass request → o ≡ Call number
    → (number.0 ≡ (moment past).begun + 1) × ((after_event (moment past) e o opens).begun ≡ (moment past).begun + 1)
new_begun C past e o opens may pass request number is_begin is_call =
    let named = subst (λ (z : Event). MayHappen C past z o opens) is_begin may in
    let answered = subst (λ (z : Outcome). MayHappen C past (Begin pass request) z opens) is_call named in
    let counted = subst (λ (z : Outcome). (after_event (moment past) (Begin pass request) z opens).begun ≡ (moment past).begun + 1) (sym is_call) refl in
    (begins_next C past pass request number opens answered, subst (λ (z : Event). (after_event (moment past) z o opens).begun ≡ (moment past).begun + 1) (sym is_begin) counted)

-- the number of an open call is that of a call that has begun
pub open_has_begun : (C : ℕ) (h : History) → Legal C h → (n : ℕ) (call : OpenCall) → call_of n (moment h).calls ≡ Some call → n ≤ (moment h).begun
open_has_begun C [] legal n call e = cc
open_has_begun C (x ∷ h) legal n call e =
    let rises = begun_rises (moment h) x.event x.outcome x.opens in
    elim (call_before (moment h) x.event x.outcome x.opens n call e) [
      | inl old ↦ let k = open_has_begun C h legal.0 n old.0 old.1 in omega arith
      | inr new ↦
          let counted = new_begun C h x.event x.outcome x.opens legal.1 new.pass new.request new.number new.event new.outcome in
          omega (arith, counted.0, counted.1, new.named)
    ]

-- the number of a call that began is that of a call that has begun
pub number_has_begun : (C : ℕ) (between before : History) (pass : PassNo) (request : Request) (number : CallNo) (note : ℕ)
    → Legal C (between ++ happening (Begin pass request) (Call number) note ∷ before)
    → number.0 ≤ (moment (between ++ happening (Begin pass request) (Call number) note ∷ before)).begun
number_has_begun C [] before pass request number note legal =
    let next = begins_next C before pass request number note legal.1 in omega arith
number_has_begun C (x ∷ between) before pass request number note legal =
    let k = number_has_begun C between before pass request number note legal.0 in
    let rises = begun_rises (moment (between ++ happening (Begin pass request) (Call number) note ∷ before)) x.event x.outcome x.opens in
    omega arith

-- how an open call began
pub record BeganSo (call : OpenCall) (pass : PassNo) (request : Request) (before : History) : Type 0 where
  pub pass_is : call.pass ≡ pass.0
  pub request_is : call.request ≡ request
  pub began_is : call.began ≡ length before
  pub from_is : call.from ≡ length (moment before).commits

-- a call that is open began as the begin of its number says
pub began_so : (C : ℕ) (between before : History) (pass : PassNo) (request : Request) (number : CallNo) (note : ℕ)
    → Legal C (between ++ happening (Begin pass request) (Call number) note ∷ before)
    → (call : OpenCall) → call_of number.0 (moment (between ++ happening (Begin pass request) (Call number) note ∷ before)).calls ≡ Some call
    → BeganSo call pass request before
began_so C [] before pass request number note legal call e =
    elim (call_before (moment before) (Begin pass request) (Call number) note number.0 call e) [
      | inl old ↦
          let next = begins_next C before pass request number note legal.1 in
          let k = open_has_begun C before legal.0 number.0 old.0 old.1 in
          absurd (omega arith)
      | inr new ↦
          let same_pass : new.pass ≡ pass = cc (new.event) in
          let same_request : new.request ≡ request = cc (new.event) in
          record {
            pass_is = ap (λ (c : OpenCall). c.pass) new.is ∙ ap (λ (p : PassNo). p.0) same_pass;
            request_is = ap (λ (c : OpenCall). c.request) new.is ∙ same_request;
            began_is = ap (λ (c : OpenCall). c.began) new.is ∙ happened_is before;
            from_is = ap (λ (c : OpenCall). c.from) new.is;
          }
    ]
began_so C (x ∷ between) before pass request number note legal call e =
    let past = between ++ happening (Begin pass request) (Call number) note ∷ before in
    elim (call_before (moment past) x.event x.outcome x.opens number.0 call e) [
      | inl old ↦
          let so = began_so C between before pass request number note legal.0 old.0 old.1 in
          record {
            pass_is = old.2.pass ∙ so.pass_is;
            request_is = old.2.request ∙ so.request_is;
            began_is = old.2.began ∙ so.began_is;
            from_is = old.2.from ∙ so.from_is;
          }
      | inr new ↦
          let counted = new_begun C past x.event x.outcome x.opens legal.1 new.pass new.request new.number new.event new.outcome in
          let k = number_has_begun C between before pass request number note legal.0 in
          absurd (omega (arith, counted.0, new.named, k))
    ]
