-- What an event that may happen does to the number of commits, and what its outcome may be.
use Rattle.std.proofs.Common.{ℕ, ◌+◌, ◌≡◌, ◌≤◌, Bool, true, false, List, ◌∷◌, ◌++◌, length, Option, Some, None, zero, suc, ap, sym, ◌∙◌, subst, refl, arith, inl, inr}
use Rattle.std.specs.Prelude.{MatchBool, nat_lt}
use Rattle.mt_types.specs.Numbers.{greatest_number}
use Rattle.mt_types.specs.Limits.{page_fault, refused_if}
use Rattle.std.proofs.lemmas.List.{length-append}
use Rattle.std.proofs.lemmas.Bool.Decides.{nat_tests}
use Rattle.mt_types.specs.declared.numbers.PassNo.{PassNo}
use Rattle.mt_types.specs.declared.numbers.CallNo.{CallNo}
use Rattle.mt_types.specs.declared.numbers.ViewNo.{ViewNo}
use Rattle.mt_types.specs.declared.row.Change.{Change}
use Rattle.mt_types.specs.declared.refusal.Refusal.{Refusal}
use Rattle.mt_types.specs.declared.refusal.Refusal.TheVariants.{NoMemory, NoSuchCall, NoSuchView, Behind, Spent}
use Rattle.mt_types.specs.declared.event.Event.{Event}
use Rattle.mt_types.specs.declared.event.Event.TheVariants.{Begin, Step, Apply, ViewRead, ViewDrop, Advance, Collect}
use Rattle.mt_types.specs.declared.event.Request.{Request}
use Rattle.mt_types.specs.declared.event.Request.TheVariants.{Put, PutIf, Remove}
use Rattle.mt_types.specs.declared.event.Outcome.{Outcome}
use Rattle.mt_types.specs.declared.event.Outcome.TheVariants.{Call, Moved, Again, Commit, Done, Applied, Current, View, Dropped, Epoch, Freed, Refused}
use Rattle.mt_promise.specs.History.{History, Moment, OpenCall, StandingView, happening, moment, call_of, view_of, meant_view, change_of, after_event, after_begin, after_step, after_call_step, after_apply, after_drop, after_advance}
use Rattle.mt_promise.specs.Legal.{MayHappen, MayBegin, MayStepAt, MayStep, MayCommit, MayApply, MayReadView, MayRead, MayShow, MayDrop, IsOrLacksMemory, page_of, begin_fault, view_places}
use Rattle.mt_promise.proofs.NumberedLemmas.{found}
use Rattle.mt_index.specs.Events.{commit_count}
use Rattle.mt_shared.specs.Passes.{seen_in, Suits}

-- an outcome that commits nothing and shows nothing
abbrev IsQuiet : Outcome → Type 0
IsQuiet o = (commit_count o ≡ 0) × (seen_in o ≡ 0)

quiet : (o p : Outcome) → o ≡ p → IsQuiet p → IsQuiet o
quiet o p is q = subst IsQuiet (sym is) q

lacks : (o p : Outcome) → IsQuiet p → IsOrLacksMemory p o → IsQuiet o
lacks o p q may = elim may [ inl e ↦ quiet o p e q | inr e ↦ quiet o (Refused NoMemory) e (refl, refl) ]

begin_quiet : (m : Moment) (fault : Option Refusal) (o : Outcome) → MayBegin m fault o → IsQuiet o
begin_quiet m (Some r) o may = quiet o (Refused r) may (refl, refl)
begin_quiet m None o may = lacks o (Call (record { 0 = m.begun + 1 })) (refl, refl) may

apply_either : (b : Bool) (n : ℕ) (o : Outcome) → MatchBool b (IsOrLacksMemory (Applied n) o) (o ≡ Current) → IsQuiet o
apply_either true n o may = lacks o (Applied n) (refl, refl) may
apply_either false n o may = quiet o Current may (refl, refl)

apply_quiet : (m : Moment) (view : ℕ) (v : Option StandingView) (o : Outcome) → MayApply m view v o → IsQuiet o
apply_quiet m zero None o may = quiet o Current may (refl, refl)
apply_quiet m (suc n) None o may = quiet o (Refused NoSuchView) may (refl, refl)
apply_quiet m zero (Some v) o may = apply_either _ _ o may
apply_quiet m (suc n) (Some v) o may = apply_either _ _ o may

show_quiet : (C : ℕ) (m : Moment) (v : StandingView) (start : List ℕ) (limit : ℕ) (fault : Option Refusal) (o : Outcome) → MayShow C m v start limit fault o → IsQuiet o
show_quiet C m v start limit (Some r) o may = quiet o (Refused r) may (refl, refl)
show_quiet C m v start limit None o may = lacks o (View _) (refl, refl) may

read_quiet : (C : ℕ) (m : Moment) (v : Option StandingView) (floor : ℕ) (start : List ℕ) (limit : ℕ) (o : Outcome) → MayRead C m v floor start limit o → IsQuiet o
read_quiet C m None floor start limit o may = quiet o (Refused NoSuchView) may (refl, refl)
read_quiet C m (Some v) floor start limit o may = show_quiet C m v start limit _ o may

page_quiet : (C : ℕ) (m : Moment) (fault : Option Refusal) (view floor : ℕ) (start : List ℕ) (limit : ℕ) (o : Outcome) → MayReadView C m fault view floor start limit o → IsQuiet o
page_quiet C m (Some r) view floor start limit o may = quiet o (Refused r) may (refl, refl)
page_quiet C m None view floor start limit o may = read_quiet C m _ floor start limit o may

drop_quiet : (v : Option StandingView) (o : Outcome) → MayDrop v o → IsQuiet o
drop_quiet None o may = quiet o (Refused NoSuchView) may (refl, refl)
drop_quiet (Some v) o may = quiet o Dropped may (refl, refl)

advance_quiet : (b : Bool) (n : ℕ) (o : Outcome) → MatchBool b (o ≡ Epoch n) (o ≡ Refused Spent) → IsQuiet o
advance_quiet true n o may = quiet o (Epoch n) may (refl, refl)
advance_quiet false n o may = quiet o (Refused Spent) may (refl, refl)

-- ---- how many commits there are then
abbrev Grows : Moment → Moment → Outcome → Type 0
Grows m n o = length n.commits ≡ length m.commits + commit_count o

stays : (m n : Moment) (o : Outcome) → n.commits ≡ m.commits → IsQuiet o → Grows m n o
stays m n o same q = let e = ap (λ (cs : List Change). length cs) same in omega (arith, e, q.0)

begin_same : (m : Moment) (pass : ℕ) (request : Request) (o : Outcome) → (after_begin m pass request o).commits ≡ m.commits
begin_same m pass request (Call number) = refl
begin_same m pass request _ = refl

apply_same : (m : Moment) (view : ℕ) (o : Outcome) → (after_apply m view o).commits ≡ m.commits
apply_same m view (Applied number) = refl
apply_same m view _ = refl

drop_same : (m : Moment) (view : ℕ) (o : Outcome) → (after_drop m view o).commits ≡ m.commits
drop_same m view Dropped = refl
drop_same m view _ = refl

advance_same : (m : Moment) (o : Outcome) → (after_advance m o).commits ≡ m.commits
advance_same m (Epoch number) = refl
advance_same m _ = refl

commit_one : (C : ℕ) (past : History) (call : OpenCall) (request : Request) (number : ℕ) (cs : List Change) → MayCommit C past call request number → length (cs ++ change_of request) ≡ length cs + 1
commit_one C past call (Put key sets) number cs may = length-append cs (change_of (Put key sets))
commit_one C past call (PutIf key sets version) number cs may = length-append cs (change_of (PutIf key sets version))
commit_one C past call (Remove key) number cs may = length-append cs (change_of (Remove key))
commit_one C past call _ number cs may = absurd may

step_grows : (C : ℕ) (past : History) (call : OpenCall) (o : Outcome) (opens : ℕ) → MayStep C past call o opens → Grows (moment past) (after_step (moment past) call o opens) o
step_grows C past call Moved opens may = omega arith
step_grows C past call Again opens may = omega arith
step_grows C past call (Commit number) opens may = commit_one C past call call.request number (moment past).commits may
step_grows C past call (Done reply) opens may = omega arith
step_grows C past call (Refused refusal) opens may = omega arith
step_grows C past call _ opens may = absurd may

call_grows : (C : ℕ) (past : History) (r : Option OpenCall) (o : Outcome) (opens : ℕ) → MayStepAt C past r o opens → Grows (moment past) (after_call_step (moment past) r o opens) o
call_grows C past None o opens may = stays (moment past) (moment past) o refl (quiet o (Refused NoSuchCall) may (refl, refl))
call_grows C past (Some call) o opens may = step_grows C past call o opens may

pub event_grows : (C : ℕ) (past : History) (e : Event) (o : Outcome) (opens : ℕ) → MayHappen C past e o opens
    → length (moment (happening e o opens ∷ past)).commits ≡ length (moment past).commits + commit_count o
event_grows C past (Begin pass request) o opens may = stays (moment past) (after_event (moment past) (Begin pass request) o opens) o (begin_same (moment past) pass.0 request o) (begin_quiet (moment past) (begin_fault C (moment past).begun (length (moment past).calls) (view_places (moment past)) request) o may)
event_grows C past (Step call) o opens may = call_grows C past (call_of call.0 (moment past).calls) o opens may
event_grows C past (Apply view) o opens may = stays (moment past) (after_event (moment past) (Apply view) o opens) o (apply_same (moment past) view.0 o) (apply_quiet (moment past) view.0 (meant_view view.0 (moment past).views) o may)
event_grows C past (ViewRead view floor start limit) o opens may = stays (moment past) (after_event (moment past) (ViewRead view floor start limit) o opens) o refl (page_quiet C (moment past) (page_fault start limit) view.0 floor start limit o may)
event_grows C past (ViewDrop view) o opens may = stays (moment past) (after_event (moment past) (ViewDrop view) o opens) o (drop_same (moment past) view.0 o) (drop_quiet (view_of view.0 (moment past).views) o may)
event_grows C past Advance o opens may = stays (moment past) (after_event (moment past) Advance o opens) o (advance_same (moment past) o) (advance_quiet (nat_lt (moment past).epoch greatest_number) ((moment past).epoch + 1) o may)
event_grows C past Collect o opens may = stays (moment past) (after_event (moment past) Collect o opens) o refl (quiet o (Freed may.0) may.1 (refl, refl))

-- ---- what an outcome shows
shows_nothing : (m : Moment) (o : Outcome) → IsQuiet o → seen_in o ≤ length m.commits
shows_nothing m o q = omega (arith, q.1)

step_shows : (C : ℕ) (past : History) (call : OpenCall) (o : Outcome) (opens : ℕ) → MayStep C past call o opens → seen_in o ≤ length (moment past).commits
step_shows C past call Moved opens may = omega arith
step_shows C past call Again opens may = omega arith
step_shows C past call (Commit number) opens may = omega arith
step_shows C past call (Done reply) opens may = omega (arith, may.to)
step_shows C past call (Refused refusal) opens may = omega arith
step_shows C past call _ opens may = absurd may

call_shows : (C : ℕ) (past : History) (r : Option OpenCall) (o : Outcome) (opens : ℕ) → MayStepAt C past r o opens → seen_in o ≤ length (moment past).commits
call_shows C past None o opens may = shows_nothing (moment past) o (quiet o (Refused NoSuchCall) may (refl, refl))
call_shows C past (Some call) o opens may = step_shows C past call o opens may

-- no more than was committed
pub event_shows : (C : ℕ) (past : History) (e : Event) (o : Outcome) (opens : ℕ) → MayHappen C past e o opens → seen_in o ≤ length (moment past).commits
event_shows C past (Begin pass request) o opens may = shows_nothing (moment past) o (begin_quiet (moment past) (begin_fault C (moment past).begun (length (moment past).calls) (view_places (moment past)) request) o may)
event_shows C past (Step call) o opens may = call_shows C past (call_of call.0 (moment past).calls) o opens may
event_shows C past (Apply view) o opens may = shows_nothing (moment past) o (apply_quiet (moment past) view.0 (meant_view view.0 (moment past).views) o may)
event_shows C past (ViewRead view floor start limit) o opens may = shows_nothing (moment past) o (page_quiet C (moment past) (page_fault start limit) view.0 floor start limit o may)
event_shows C past (ViewDrop view) o opens may = shows_nothing (moment past) o (drop_quiet (view_of view.0 (moment past).views) o may)
event_shows C past Advance o opens may = shows_nothing (moment past) o (advance_quiet (nat_lt (moment past).epoch greatest_number) ((moment past).epoch + 1) o may)
event_shows C past Collect o opens may = shows_nothing (moment past) o (quiet o (Freed may.0) may.1 (refl, refl))

-- ---- what outcome suits an event
pub begin_suits : (pass named : PassNo) (request : Request) (m : Moment) (fault : Option Refusal) (o : Outcome) → MayBegin m fault o → Suits pass (Begin named request) o
begin_suits pass named request m (Some r) o may = subst (λ (p : Outcome). Suits pass (Begin named request) p) (sym may) tt
begin_suits pass named request m None o may =
    elim may [
      | inl e ↦ subst (λ (p : Outcome). Suits pass (Begin named request) p) (sym e) tt
      | inr e ↦ subst (λ (p : Outcome). Suits pass (Begin named request) p) (sym e) tt
    ]

abbrev call_no : ℕ → CallNo
call_no n = record { 0 = n }

abbrev pass_no : ℕ → PassNo
pass_no n = record { 0 = n }

open_suits : (C : ℕ) (past : History) (pass : PassNo) (call : CallNo) (c : OpenCall) → c.number ≡ call.0 → c.pass ≡ pass.0 → (o : Outcome) (opens : ℕ) → MayStep C past c o opens → Suits pass (Step call) o
open_suits C past pass call c numbered own Moved opens may = tt
open_suits C past pass call c numbered own Again opens may = tt
open_suits C past pass call c numbered own (Commit number) opens may = tt
open_suits C past pass call c numbered own (Done reply) opens may =
    (ap call_no (may.number ∙ numbered), ap pass_no (may.pass ∙ own))
open_suits C past pass call c numbered own (Refused refusal) opens may = tt
open_suits C past pass call c numbered own _ opens may = absurd may

pub step_suits : (C : ℕ) (past : History) (pass : PassNo) (call : CallNo) (r : Option OpenCall) → call_of call.0 (moment past).calls ≡ r → ((c : OpenCall) → r ≡ Some c → c.pass ≡ pass.0)
    → (o : Outcome) (opens : ℕ) → MayStepAt C past r o opens → Suits pass (Step call) o
step_suits C past pass call None at own o opens may = subst (λ (p : Outcome). Suits pass (Step call) p) (sym may) tt
step_suits C past pass call (Some c) at own o opens may = open_suits C past pass call c (found (λ (x : OpenCall). x.number) call.0 (moment past).calls c at) (own c refl) o opens may

-- the one outcome that there may be
suits_as : (pass : PassNo) (e : Event) (p o : Outcome) → Suits pass e p → o ≡ p → Suits pass e o
suits_as pass e p o fits is = subst (λ (w : Outcome). Suits pass e w) (sym is) fits

suits_either : (pass : PassNo) (e : Event) (p o : Outcome) → Suits pass e p → Suits pass e (Refused NoMemory) → IsOrLacksMemory p o → Suits pass e o
suits_either pass e p o fits lacking may = elim may [ inl is ↦ suits_as pass e p o fits is | inr is ↦ suits_as pass e (Refused NoMemory) o lacking is ]

takes_suits : (pass : PassNo) (view : ViewNo) (b : Bool) (n : ℕ) (o : Outcome) → MatchBool b (IsOrLacksMemory (Applied n) o) (o ≡ Current) → Suits pass (Apply view) o
takes_suits pass view true n o may = suits_either pass (Apply view) (Applied n) o tt tt may
takes_suits pass view false n o may = suits_as pass (Apply view) Current o tt may

pub apply_suits : (pass : PassNo) (view : ViewNo) (m : Moment) (asked : ℕ) (v : Option StandingView) (o : Outcome) → MayApply m asked v o → Suits pass (Apply view) o
apply_suits pass view m zero None o may = suits_as pass (Apply view) Current o tt may
apply_suits pass view m (suc n) None o may = suits_as pass (Apply view) (Refused NoSuchView) o tt may
apply_suits pass view m zero (Some v) o may = takes_suits pass view (nat_lt v.at (length m.commits)) (v.at + 1) o may
apply_suits pass view m (suc n) (Some v) o may = takes_suits pass view (nat_lt v.at (length m.commits)) (v.at + 1) o may

-- if no refusal is due, the view is not before the floor
not_before : (b : Bool) (refusal : Refusal) → refused_if b refusal ≡ None → b ≡ false
not_before true refusal is = cc
not_before false refusal is = refl

reaches : (at floor : ℕ) → nat_lt at floor ≡ false → floor ≤ at
reaches at floor is = grind (arith, nat_tests)

show_suits : (pass : PassNo) (view : ViewNo) (C : ℕ) (m : Moment) (v : StandingView) (floor : ℕ) (start : List ℕ) (limit : ℕ) (fault : Option Refusal) → refused_if (nat_lt v.at floor) (Behind v.at) ≡ fault
    → (o : Outcome) → MayShow C m v start limit fault o → Suits pass (ViewRead view floor start limit) o
show_suits pass view C m v floor start limit (Some refusal) due o may = suits_as pass (ViewRead view floor start limit) (Refused refusal) o tt may
show_suits pass view C m v floor start limit None due o may =
    suits_either pass (ViewRead view floor start limit) (View (page_of C m v start limit)) o (reaches v.at floor (not_before (nat_lt v.at floor) (Behind v.at) due)) tt may

view_suits : (pass : PassNo) (view : ViewNo) (C : ℕ) (m : Moment) (v : Option StandingView) (floor : ℕ) (start : List ℕ) (limit : ℕ) (o : Outcome) → MayRead C m v floor start limit o → Suits pass (ViewRead view floor start limit) o
view_suits pass view C m None floor start limit o may = suits_as pass (ViewRead view floor start limit) (Refused NoSuchView) o tt may
view_suits pass view C m (Some v) floor start limit o may = show_suits pass view C m v floor start limit (refused_if (nat_lt v.at floor) (Behind v.at)) refl o may

pub drop_suits : (pass : PassNo) (view : ViewNo) (v : Option StandingView) (o : Outcome) → MayDrop v o → Suits pass (ViewDrop view) o
drop_suits pass view None o may = suits_as pass (ViewDrop view) (Refused NoSuchView) o tt may
drop_suits pass view (Some v) o may = suits_as pass (ViewDrop view) Dropped o tt may

pub page_suits : (pass : PassNo) (view : ViewNo) (C : ℕ) (m : Moment) (fault : Option Refusal) (asked floor : ℕ) (start : List ℕ) (limit : ℕ) (o : Outcome) → MayReadView C m fault asked floor start limit o
    → Suits pass (ViewRead view floor start limit) o
page_suits pass view C m (Some refusal) asked floor start limit o may = suits_as pass (ViewRead view floor start limit) (Refused refusal) o tt may
page_suits pass view C m None asked floor start limit o may = view_suits pass view C m (view_of asked m.views) floor start limit o may
