-- How many calls are open in a legal history: no more than there may be.
use Rattle.std.proofs.Common.{ℕ, ◌≡◌, ◌≤◌, ◌+◌, List, [], ◌∷◌, ◌++◌, length, Option, Some, None, refl, arith}
use Rattle.std.proofs.lemmas.List.{length-map, length-append}
use Rattle.std.proofs.lemmas.List.Sums.{length-filter, count_by-le-length}
use Rattle.std.specs.Prelude.{not, ◌==◌, if◌then◌else◌}
use Rattle.mt_types.specs.declared.limits.TheConstants.{MAX_OPEN_CALLS}
use Rattle.mt_types.specs.declared.refusal.Refusal.{Refusal}
use Rattle.mt_types.specs.declared.event.Event.{Event}
use Rattle.mt_types.specs.declared.event.Event.TheVariants.{Begin, Step, Apply, ViewRead, ViewDrop, Advance, Collect}
use Rattle.mt_types.specs.declared.event.Outcome.{Outcome}
use Rattle.mt_types.specs.declared.event.Outcome.TheVariants.{Call, Moved, Again, Commit, Done, Applied, Dropped, Epoch, Refused}
use Rattle.mt_promise.specs.History.{History, Moment, OpenCall, moment, call_of, without_call, after_event, after_call_step, new_call}
use Rattle.mt_promise.specs.Legal.{Legal, MayHappen, MayBegin, begin_fault, view_places}
use Rattle.mt_index.proofs.NumberLemmas.{begun_few}

fewer : (number : ℕ) (calls : List OpenCall) → length (without_call number calls) ≤ length calls
fewer number calls =
    let as_many = length-filter (λ (call : OpenCall). not (call.number == number)) calls in
    let counted = count_by-le-length (λ (call : OpenCall). not (call.number == number)) calls in
    omega (arith, as_many, counted)

by_call : (m : Moment) (call : Option OpenCall) (outcome : Outcome) (opens : ℕ) → length (after_call_step m call outcome opens).calls ≤ length m.calls
by_call m None outcome opens = omega arith
by_call m (Some call) Moved opens = let same = length-map m.calls (λ (c : OpenCall). if c.number == call.number then record call { moves = call.moves + 1 } else c) in omega (arith, same)
by_call m (Some call) Again opens = let same = length-map m.calls (λ (c : OpenCall). if c.number == call.number then record call { moves = 0 } else c) in omega (arith, same)
by_call m (Some call) (Commit number) opens = let same = length-map m.calls (λ (c : OpenCall). if c.number == call.number then record call { committed = Some number; moves = 0 } else c) in omega (arith, same)
by_call m (Some call) (Done reply) opens = fewer call.number m.calls
by_call m (Some call) (Refused refusal) opens = fewer call.number m.calls
by_call m (Some call) _ opens = omega arith

by_event : (C : ℕ) (past : History) (event : Event) (outcome : Outcome) (opens : ℕ) → MayHappen C past event outcome opens → length (moment past).calls ≤ MAX_OPEN_CALLS → length (after_event (moment past) event outcome opens).calls ≤ MAX_OPEN_CALLS
by_event C past (Begin pass request) (Call number) opens may few = by_fault (begin_fault C (moment past).begun (length (moment past).calls) (view_places (moment past)) request) refl may
  where
    by_fault : (fault : Option Refusal) → begin_fault C (moment past).begun (length (moment past).calls) (view_places (moment past)) request ≡ fault → MayBegin (moment past) fault (Call number) → length ((moment past).calls ++ new_call (moment past) pass.0 request number.0 ∷ []) ≤ MAX_OPEN_CALLS
    by_fault (Some refusal) is clash = absurd (let never : Call number ≡ Refused refusal = clash in cc)
    by_fault None is any =
        let room = begun_few C (moment past).begun (length (moment past).calls) (view_places (moment past)) request is in
        let longer = length-append (moment past).calls (new_call (moment past) pass.0 request number.0 ∷ []) in
        omega (arith, room, longer)
by_event C past (Begin pass request) _ opens may few = few
by_event C past (Step call) outcome opens may few = let less = by_call (moment past) (call_of call.0 (moment past).calls) outcome opens in omega (arith, less, few)
by_event C past (Apply view) (Applied number) opens may few = few
by_event C past (Apply view) _ opens may few = few
by_event C past (ViewRead view floor start limit) outcome opens may few = few
by_event C past (ViewDrop view) Dropped opens may few = few
by_event C past (ViewDrop view) _ opens may few = few
by_event C past Advance (Epoch number) opens may few = few
by_event C past Advance _ opens may few = few
by_event C past Collect outcome opens may few = few

pub few_open : (C : ℕ) (h : History) → Legal C h → length (moment h).calls ≤ MAX_OPEN_CALLS
few_open C [] legal = omega arith
few_open C (x ∷ past) (legal, may) = by_event C past x.event x.outcome x.opens may (few_open C past legal)
