-- A call that has committed says in its reply which commit is its own.
use Rattle.std.proofs.Common.{◌≡◌, ◌<◌, ◌≤◌, ℕ, ◌==◌, ◌+◌, Bool, List, ◌∷◌, ◌++◌, length, Option, Some, None, ◌∙◌, ap, sym, subst, refl, inl, inr, arith, length-append, []}
use Rattle.std.specs.Prelude.{if◌then◌else◌, slice_get, zero, suc}
use Rattle.std.proofs.lemmas.Bool.Decides.{eqb_tells}
use Rattle.mt_types.specs.declared.row.Change.{Change}
use Rattle.mt_types.specs.declared.row.Change.TheVariants.{Put as PutChange, Drop}
use Rattle.mt_types.specs.declared.event.Event.{Event}
use Rattle.mt_types.specs.declared.event.Event.TheVariants.{Begin, Step, Apply, ViewRead, ViewDrop, Advance, Collect}
use Rattle.mt_types.specs.declared.event.Outcome.{Outcome}
use Rattle.mt_types.specs.declared.event.Outcome.TheVariants.{Call, Moved, Again, Commit, Done, Applied, Dropped, Epoch, Refused}
use Rattle.mt_types.specs.declared.event.Request.{Request}
use Rattle.mt_types.specs.declared.event.Request.TheVariants.{Get, Put, PutIf, Remove, Range, Tidy, Build}
use Rattle.mt_types.specs.declared.event.Answer.{Answer}
use Rattle.mt_types.specs.declared.event.Answer.TheVariants.{Absent, Stored, Removed}
use Rattle.mt_types.specs.declared.event.Reply.{Reply}
use Rattle.mt_promise.specs.History.{History, Moment, OpenCall, moment, call_of, new_call, replace_call, without_call, after_event, after_step, after_call_step, change_of}
use Rattle.mt_promise.specs.Legal.{Legal, MayHappen, MayStep, MayStepAt}
use Rattle.mt_promise.specs.RightAnswers.{RightAnswer}
use Rattle.mt_promise.specs.Finished.{IsWithin, HasMade, FinishedCallsHaveMade}
use Rattle.mt_promise.proofs.NumberedLemmas.{found_before_filter, found_before_map, found_before_append}
use Rattle.mt_promise.proofs.CallLemmas.{began_so}
use Rattle.mt_promise.proofs.FinishedLemmas.{legal_before, done_call}

-- ---- its own change
get_added : (xs : List Change) (x : Change) → slice_get (xs ++ x ∷ []) (length xs) ≡ Some x
get_added [] x = refl
get_added (y ∷ xs) x = get_added xs x

get_before : (xs ys : List Change) (i : ℕ) (x : Change) → slice_get xs i ≡ Some x → slice_get (xs ++ ys) i ≡ Some x
get_before [] ys i x e = let clash : ◌≡◌ {A = Option Change} None (Some x) = e in cc
get_before (y ∷ xs) ys zero x e = e
get_before (y ∷ xs) ys (suc i) x e = get_before xs ys i x e

-- an open call that has committed has made its change since its begin
pub record HasCommitted (commits : List Change) (call : OpenCall) (number : ℕ) : Type 0 where
  pub since : call.from < number
  pub until : number ≤ length commits
  pub change : Change
  pub own : change_of call.request ≡ change ∷ []
  pub place : ℕ
  pub counted : number ≡ place + 1
  pub there : slice_get commits place ≡ Some change

-- what is known of an open call
abbrev Knows : List Change → OpenCall → Type 0
Knows commits call = (call.from ≤ length commits) × ((number : ℕ) → call.committed ≡ Some number → HasCommitted commits call number)

committed_still : (m n : Moment) (more : List Change) (call : OpenCall) (number : ℕ) → n.commits ≡ m.commits ++ more → HasCommitted m.commits call number → HasCommitted n.commits call number
committed_still m n more call number is had = record {
  since = had.since;
  until = (let long = ap length is ∙ length-append m.commits more in let most = had.until in omega (arith, long, most));
  change = had.change;
  own = had.own;
  place = had.place;
  counted = had.counted;
  there = subst (λ (l : List Change). slice_get l had.place ≡ Some had.change) (sym is) (get_before m.commits more had.place had.change had.there);
}

knows_still : (m n : Moment) (more : List Change) (call : OpenCall) → n.commits ≡ m.commits ++ more → Knows m.commits call → Knows n.commits call
knows_still m n more call is knows = (
  (let long = ap length is ∙ length-append m.commits more in let least = knows.0 in omega (arith, long, least)),
  λ number e. committed_still m n more call number is (knows.1 number e),
)

knows_moved : (m : Moment) (call new : OpenCall) → new.from ≡ call.from → new.committed ≡ call.committed → new.request ≡ call.request → Knows m.commits call → Knows m.commits new
knows_moved m call new from committed request knows = (
  subst (λ (n : ℕ). n ≤ length m.commits) (sym from) knows.0,
  λ number e. (let had = knows.1 number (sym committed ∙ e) in record {
    since = subst (λ (n : ℕ). n < number) (sym from) had.since;
    until = had.until;
    change = had.change;
    own = ap change_of request ∙ had.own;
    place = had.place;
    counted = had.counted;
    there = had.there;
  }),
)

-- what a commit may be
pub commit_next : (C : ℕ) (past : History) (call : OpenCall) (request : Request) (number note : ℕ) → MayStep C past (record call { request = request }) (Commit number) note
    → (number ≡ length (moment past).commits + 1) × ((change : Change) × (change_of request ≡ change ∷ []))
commit_next C past call (Put key sets) number note may = (may.0, (PutChange key sets, refl))
commit_next C past call (PutIf key sets version) number note may = (may.0, (PutChange key sets, refl))
commit_next C past call (Remove key) number note may = (may.0, (Drop key, refl))
commit_next C past call _ number note may = absurd may

none_added : (commits : List Change) → commits ≡ commits ++ []
none_added [] = refl
none_added (x ∷ commits) = ap (λ (l : List Change). x ∷ l) (none_added commits)

abbrev AllKnow : Moment → Type 0
AllKnow m = (n : ℕ) (call : OpenCall) → call_of n m.calls ≡ Some call → Knows m.commits call

pub replaced_number : (new call : OpenCall) → (if call.number == new.number then new else call).number ≡ call.number
replaced_number new call = elim (eqb_tells call.number new.number) [ inl p ↦ rw p.0 (sym p.1) | inr p ↦ rw p.0 ]

-- after one call was replaced
know_replaced : (m n : Moment) (more : List Change) (new : OpenCall) → n.commits ≡ m.commits ++ more → n.calls ≡ replace_call new m.calls → AllKnow m → Knows n.commits new → AllKnow n
know_replaced m n more new is calls all own = λ k y e.
    let r = found_before_map (λ (c : OpenCall). c.number) (λ (c : OpenCall). if c.number == new.number then new else c) (replaced_number new) k m.calls y (sym (ap (call_of k) calls) ∙ e) in
    elim (eqb_tells r.0.number new.number) [
      | inl p ↦ subst (λ (z : OpenCall). Knows n.commits z) (sym (r.2 ∙ ap (λ (b : Bool). if b then new else r.0) p.0)) own
      | inr p ↦ subst (λ (z : OpenCall). Knows n.commits z) (sym (r.2 ∙ ap (λ (b : Bool). if b then new else r.0) p.0)) (knows_still m n more r.0 is (all k r.0 r.1))
    ]

know_fewer : (m n : Moment) (number : ℕ) → n.commits ≡ m.commits → n.calls ≡ without_call number m.calls → AllKnow m → AllKnow n
know_fewer m n number is calls all = λ k y e.
    knows_still m n [] y (is ∙ none_added m.commits) (all k y (found_before_filter (λ (c : OpenCall). c.number) number k m.calls y (sym (ap (call_of k) calls) ∙ e)))

know_after_step : (C : ℕ) (past : History) (k : ℕ) (call : OpenCall) → call_of k (moment past).calls ≡ Some call → (o : Outcome) (note : ℕ) → MayStep C past call o note → AllKnow (moment past) → AllKnow (after_step (moment past) call o note)
know_after_step C past k call at Moved note may all =
    let m = moment past in
    know_replaced m (after_step m call Moved note) [] (record call { moves = call.moves + 1 }) (none_added m.commits) refl all (knows_moved m call (record call { moves = call.moves + 1 }) refl refl refl (all k call at))
know_after_step C past k call at Again note may all =
    let m = moment past in
    know_replaced m (after_step m call Again note) [] (record call { moves = 0 }) (none_added m.commits) refl all (knows_moved m call (record call { moves = 0 }) refl refl refl (all k call at))
know_after_step C past k call at (Commit number) note may all =
    let m = moment past in
    let n = after_step m call (Commit number) note in
    let (next, (change, own)) = commit_next C past call call.request number note may in
    let knows = all k call at in
    let least = knows.0 in
    let added : n.commits ≡ m.commits ++ change ∷ [] = ap (λ (l : List Change). m.commits ++ l) own in
    let long = ap length added ∙ length-append m.commits (change ∷ []) in
    know_replaced m n (change_of call.request) (record call { committed = Some number; moves = 0 }) refl refl all (
      omega (arith, least, long),
      λ other e. (let same : number ≡ other = cc in record {
        since = omega (arith, least, next, same);
        until = omega (arith, long, next, same);
        change = change;
        own = own;
        place = length m.commits;
        counted = omega (arith, next, same);
        there = subst (λ (l : List Change). slice_get l (length m.commits) ≡ Some change) (sym added) (get_added m.commits change);
      }),
    )
know_after_step C past k call at (Done reply) note may all = know_fewer (moment past) (after_step (moment past) call (Done reply) note) call.number refl refl all
know_after_step C past k call at (Refused refusal) note may all = know_fewer (moment past) (after_step (moment past) call (Refused refusal) note) call.number refl refl all
know_after_step C past k call at _ note may all = absurd may

know_after_call : (C : ℕ) (past : History) (k : ℕ) (r : Option OpenCall) → call_of k (moment past).calls ≡ r → (o : Outcome) (note : ℕ) → MayStepAt C past r o note → AllKnow (moment past) → AllKnow (after_call_step (moment past) r o note)
know_after_call C past k None at o note may all = all
know_after_call C past k (Some call) at o note may all = know_after_step C past k call at o note may all

know_after : (C : ℕ) (past : History) (e : Event) (o : Outcome) (note : ℕ) → MayHappen C past e o note → AllKnow (moment past) → AllKnow (after_event (moment past) e o note)
know_after C past (Begin pass request) (Call number) note may all = λ k y e.
    elim (found_before_append (λ (c : OpenCall). c.number) k (moment past).calls (new_call (moment past) pass.0 request number.0) y e) [
      | inl old ↦ all k y old
      | inr new ↦ subst (λ (z : OpenCall). Knows (moment past).commits z) (sym new.0) (omega arith, λ n none. (let clash : ◌≡◌ {A = Option ℕ} None (Some n) = none in cc))
    ]
know_after C past (Step call) o note may all = know_after_call C past call.0 (call_of call.0 (moment past).calls) refl o note may all
know_after C past (Apply view) (Applied number) note may all = all
know_after C past (ViewDrop view) Dropped note may all = all
know_after C past Advance (Epoch number) note may all = all
know_after C past (ViewRead view floor start limit) o note may all = all
know_after C past Collect o note may all = all
know_after C past _ _ note may all = all

all_know : (C : ℕ) (h : History) → Legal C h → AllKnow (moment h)
all_know C [] legal = λ n call e. let clash : ◌≡◌ {A = Option OpenCall} None (Some call) = e in cc
all_know C (x ∷ h) legal = know_after C h x.event x.outcome x.opens legal.1 (all_know C h legal.0)

one_change : (change own : Change) → ◌≡◌ {A = List Change} (change ∷ []) (own ∷ []) → change ≡ own
one_change change own e = cc e

within : (past : History) (call : OpenCall) (reply : Reply) (number : ℕ) (change : Change) → reply.from ≡ call.from → reply.to ≡ length (moment past).commits → change_of call.request ≡ change ∷ [] → HasCommitted (moment past).commits call number → IsWithin reply number change (moment past)
within past call reply number change from to is had = record {
  since = subst (λ (n : ℕ). n < number) (sym from) had.since;
  until = subst (λ (n : ℕ). number ≤ n) (sym to) had.until;
  place = had.place;
  counted = had.counted;
  there = had.there ∙ ap (λ (c : Change). Some c) (one_change had.change change (sym had.own ∙ is));
}

made_by : (C : ℕ) (past : History) (call : OpenCall) (request : Request) (reply : Reply) (answer : Answer) (note : ℕ) → reply.answer ≡ answer → call.request ≡ request → reply.from ≡ call.from → reply.to ≡ length (moment past).commits
    → RightAnswer C past call request answer note → Knows (moment past).commits call → HasMade request reply (moment past)
made_by C past call (Put key sets) reply (Stored number) note is asks from to right knows =
    (number, is, within past call reply number (PutChange key sets) from to (ap change_of asks) (knows.1 number right))
made_by C past call (PutIf key sets version) reply (Stored number) note is asks from to right knows =
    (number, is, within past call reply number (PutChange key sets) from to (ap change_of asks) (knows.1 number right))
made_by C past call (Remove key) reply (Removed number) note is asks from to right knows =
    inr (number, is, within past call reply number (Drop key) from to (ap change_of asks) (knows.1 number right))
made_by C past call (Remove key) reply Absent note is asks from to right knows = inl is
made_by C past call (Get key asked) reply answer note is asks from to right knows = tt
made_by C past call (Range start limit asked) reply answer note is asks from to right knows = tt
made_by C past call (Tidy key) reply answer note is asks from to right knows = tt
made_by C past call (Build spec) reply answer note is asks from to right knows = tt
made_by C past call _ reply _ note is asks from to right knows = absurd right

pub have_made : FinishedCallsHaveMade
have_made C h request reply before past legal f =
    let whole = subst (λ (z : History). Legal C z) f.ended legal in
    let end = legal_before C f.later _ past whole in
    let (call, at, right) = done_call C past f.number.0 (call_of f.number.0 (moment past).calls) refl reply f.end_note end.1 in
    let so = began_so C f.between before f.pass request f.number f.begin_note (subst (λ (z : History). Legal C z) f.begun end.0) call (subst (λ (z : History). call_of f.number.0 (moment z).calls ≡ Some call) f.begun at) in
    made_by C past call request reply reply.answer f.end_note refl so.request_is right.from right.to
    (subst (λ (q : Request). RightAnswer C past call q reply.answer f.end_note) so.request_is right.answer) (all_know C past end.0 f.number.0 call at)
