-- The commits of a legal history: they only grow, and an open call that has committed made the one of its number.
use Rattle.std.proofs.Common.{◌≡◌, ◌≤◌, ◌<◌, ℕ, zero, suc, ◌+◌, ◌-◌, ◌==◌, List, [], ◌∷◌, ◌++◌, take, length, Option, Some, None, refl, ap, sym, ◌∙◌, subst, arith, inl, inr, ◌⊎◌, append_assoc, length-append}
use Rattle.std.specs.Prelude.{slice_get, if◌then◌else◌}
use Rattle.std.specs.FinMap.{get}
use Rattle.std.proofs.lemmas.Bool.Decides.{eqb_tells}
use Rattle.mt_types.specs.Rows.{after, version_of}
use Rattle.mt_types.specs.declared.row.Change.{Change}
use Rattle.mt_types.specs.declared.row.Change.TheVariants.{Put as PutChange, Drop as DropChange}
use Rattle.mt_types.specs.declared.event.Event.{Event}
use Rattle.mt_types.specs.declared.event.Event.TheVariants.{Begin, Step, Apply, ViewRead, ViewDrop, Advance, Collect}
use Rattle.mt_types.specs.declared.event.Outcome.{Outcome}
use Rattle.mt_types.specs.declared.event.Outcome.TheVariants.{Call, Moved, Again, Commit, Done, Applied, Dropped, Epoch, Refused}
use Rattle.mt_types.specs.declared.event.Request.{Request}
use Rattle.mt_types.specs.declared.event.Request.TheVariants.{Put, PutIf, Remove}
use Rattle.mt_promise.specs.History.{History, Moment, OpenCall, moment, call_of, replace_call, new_call, after_event, after_call_step, change_of}
use Rattle.mt_promise.specs.Legal.{Legal, MayHappen, MayStepAt, MayCommit}
use Rattle.mt_promise.proofs.NumberedLemmas.{found_before_filter, found_before_map, found_before_append}

-- a list continues another
abbrev pub GoesOnFrom : List Change → List Change → Type 0
GoesOnFrom longer cs = (rest : List Change) × (longer ≡ cs ++ rest)

none_more : (cs : List Change) → cs ≡ cs ++ []
none_more [] = refl
none_more (c ∷ cs) = ap (λ (ds : List Change). c ∷ ds) (none_more cs)

same_commits : (cs : List Change) → GoesOnFrom cs cs
same_commits cs = ([], none_more cs)

commits_by_step : (m : Moment) (r : Option OpenCall) (o : Outcome) (note : ℕ) → GoesOnFrom (after_call_step m r o note).commits m.commits
commits_by_step m None o note = same_commits m.commits
commits_by_step m (Some call) (Commit number) note = (change_of call.request, refl)
commits_by_step m (Some call) _ note = same_commits m.commits

commits_go_on : (m : Moment) (e : Event) (o : Outcome) (note : ℕ) → GoesOnFrom (after_event m e o note).commits m.commits
commits_go_on m (Begin pass request) (Call number) note = same_commits m.commits
commits_go_on m (Step call) o note = commits_by_step m (call_of call.0 m.calls) o note
commits_go_on m (Apply view) (Applied number) note = same_commits m.commits
commits_go_on m (ViewDrop view) Dropped note = same_commits m.commits
commits_go_on m Advance (Epoch number) note = same_commits m.commits
commits_go_on m _ o note = same_commits m.commits

-- the commits of a history continue those of each past of it
pub commits_since : (newer past : History) → GoesOnFrom (moment (newer ++ past)).commits (moment past).commits
commits_since [] past = same_commits (moment past).commits
commits_since (x ∷ newer) past =
    let before = commits_since newer past in
    let more = commits_go_on (moment (newer ++ past)) x.event x.outcome x.opens in (
      before.0 ++ more.0,
      more.1 ∙ ap (λ (cs : List Change). cs ++ more.0) before.1 ∙ append_assoc (moment past).commits before.0 more.0,
    )

take_front : (cs rest : List Change) → take (length cs) (cs ++ rest) ≡ cs
take_front [] rest = refl
take_front (c ∷ cs) rest = ap (λ (ds : List Change). c ∷ ds) (take_front cs rest)

-- they are its first ones
pub first_commits : (longer cs : List Change) → GoesOnFrom longer cs → take (length cs) longer ≡ cs
first_commits longer cs g = ap (λ (ds : List Change). take (length cs) ds) g.1 ∙ take_front cs g.0

pub fewer_commits : (longer cs : List Change) → GoesOnFrom longer cs → length cs ≤ length longer
fewer_commits longer cs g = let size = ap (λ (ds : List Change). length ds) g.1 ∙ length-append cs g.0 in omega (arith, size)

get_front : (cs rest : List Change) (i : ℕ) (c : Change) → slice_get cs i ≡ Some c → slice_get (cs ++ rest) i ≡ Some c
get_front [] rest i c e = cc
get_front (d ∷ cs) rest zero c e = e
get_front (d ∷ cs) rest (suc i) c e = get_front cs rest i c e

get_last : (cs : List Change) (c : Change) → slice_get (cs ++ c ∷ []) (length cs) ≡ Some c
get_last [] c = refl
get_last (d ∷ cs) c = get_last cs c

-- a change stays at its place
pub change_stays : (longer cs : List Change) (i : ℕ) (c : Change) → GoesOnFrom longer cs → slice_get cs i ≡ Some c → slice_get longer i ≡ Some c
change_stays longer cs i c g e = ap (λ (ds : List Change). slice_get ds i) g.1 ∙ get_front cs g.0 i c e

-- a number of them that there were
pub take_within : (cs rest : List Change) (n : ℕ) → n ≤ length cs → take n (cs ++ rest) ≡ take n cs
take_within cs rest zero h = refl
take_within [] rest (suc n) h = absurd (omega arith)
take_within (c ∷ cs) rest (suc n) h = ap (λ (ds : List Change). c ∷ ds) (take_within cs rest n (omega arith))

first_stay : (longer cs : List Change) (n : ℕ) → GoesOnFrom longer cs → n ≤ length cs → take n longer ≡ take n cs
first_stay longer cs n g h = ap (λ (ds : List Change). take n ds) g.1 ∙ take_within cs g.0 n h

-- before the commit of a conditional put the key's row was of the version asked
abbrev pub IsOver : ℕ → List Change → Request → ℕ → Type 0
IsOver C cs (PutIf key sets version) number = version_of (get (after C (take (number - 1) cs)) key) ≡ version
IsOver C cs _ number = Unit {0}

over_stays : (C : ℕ) (longer cs : List Change) (request : Request) (number : ℕ) → GoesOnFrom longer cs → number ≤ length cs → IsOver C cs request number → IsOver C longer request number
over_stays C longer cs (PutIf key sets version) number g within over =
    ap (λ (ds : List Change). version_of (get (after C ds) key)) (first_stay longer cs (number - 1) g (omega arith)) ∙ over
over_stays C longer cs _ number g within over = tt

-- what is so of an open call: it began at no more commits, and where it has committed, the commit of its number is the
--     change that it asks for, over the row that it asks for
pub record Made (C : ℕ) (cs : List Change) (from : ℕ) (request : Request) (number : ℕ) : Type 0 where
  pub change : Change
  pub asked : change_of request ≡ change ∷ []
  pub above : from < number
  pub within : number ≤ length cs
  pub at : slice_get cs (number - 1) ≡ Some change
  pub over : IsOver C cs request number

pub made_stays : (C : ℕ) (longer cs : List Change) (from : ℕ) (request : Request) (number : ℕ) → GoesOnFrom longer cs → Made C cs from request number → Made C longer from request number
made_stays C longer cs from request number g m =
    let more = fewer_commits longer cs g in
    let w = m.within in
    record {
      change = m.change;
      asked = m.asked;
      above = m.above;
      within = omega (arith, w, more);
      at = change_stays longer cs (number - 1) m.change g m.at;
      over = over_stays C longer cs request number g m.within m.over;
    }

pub record Kept (C : ℕ) (cs : List Change) (from : ℕ) (committed : Option ℕ) (request : Request) : Type 0 where
  pub began : from ≤ length cs
  pub made : (number : ℕ) → committed ≡ Some number → Made C cs from request number

abbrev pub CallKept : ℕ → List Change → OpenCall → Type 0
CallKept C cs call = Kept C cs call.from call.committed call.request

kept_more : (C : ℕ) (longer cs : List Change) (from : ℕ) (committed : Option ℕ) (request : Request) → GoesOnFrom longer cs → Kept C cs from committed request → Kept C longer from committed request
kept_more C longer cs from committed request g k =
    let more = fewer_commits longer cs g in
    record {
      began = (let b = k.began in omega (arith, b, more));
      made = λ number e. made_stays C longer cs from request number g (k.made number e);
    }

-- what is found after a call was replaced is the new one, or was found before
replaced : (calls : List OpenCall) (new : OpenCall) (n : ℕ) (y : OpenCall) → call_of n (replace_call new calls) ≡ Some y → (y ≡ new) ⊎ (call_of n calls ≡ Some y)
replaced calls new n y e =
    let r = found_before_map (λ (c : OpenCall). c.number) (λ (c : OpenCall). if c.number == new.number then new else c) (same_number new) n calls y e in
    elim (eqb_tells r.0.number new.number) [
      | inl p ↦ inl (r.2 ∙ ap (λ b. if b then new else r.0) p.0)
      | inr p ↦ let is : y ≡ r.0 = r.2 ∙ ap (λ b. if b then new else r.0) p.0 in inr (r.1 ∙ ap Some (sym is))
    ]
  where
    same_number : (new call : OpenCall) → (if call.number == new.number then new else call).number ≡ call.number
    same_number new call = elim (eqb_tells call.number new.number) [ inl p ↦ rw p.0 (sym p.1) | inr p ↦ rw p.0 ]

abbrev AllKept : ℕ → Moment → Type 0
AllKept C m = (n : ℕ) (call : OpenCall) → call_of n m.calls ≡ Some call → CallKept C m.commits call

-- the next commit makes a change that was asked for, over the commits before it
made_next : (C : ℕ) (cs : List Change) (from : ℕ) (request : Request) (change : Change) (number : ℕ) → change_of request ≡ change ∷ [] → number ≡ length cs + 1 → from ≤ length cs
    → (take (number - 1) (cs ++ change ∷ []) ≡ cs → IsOver C (cs ++ change ∷ []) request number) → Made C (cs ++ change ∷ []) from request number
made_next C cs from request change number asked next began over =
    let size = length-append cs (change ∷ []) in
    let place : number - 1 ≡ length cs = omega (arith, next) in
    record {
      change = change;
      asked = asked;
      above = omega (arith, next, began);
      within = omega (arith, next, size);
      at = ap (λ (i : ℕ). slice_get (cs ++ change ∷ []) i) place ∙ get_last cs change;
      over = over (ap (λ (i : ℕ). take i (cs ++ change ∷ [])) place ∙ take_front cs (change ∷ []));
    }

-- the commit that a call makes
made_now : (C : ℕ) (past : History) (call : OpenCall) (request : Request) (number from : ℕ) → MayCommit C past call request number → from ≤ length (moment past).commits
    → Made C ((moment past).commits ++ change_of request) from request number
made_now C past call (Put key sets) number from may began = made_next C (moment past).commits from (Put key sets) (PutChange key sets) number refl may.0 began (λ before. tt)
made_now C past call (PutIf key sets version) number from may began =
    made_next C (moment past).commits from (PutIf key sets version) (PutChange key sets) number refl may.0 began
    (λ before. ap (λ (ds : List Change). version_of (get (after C ds) key)) before ∙ may.2)
made_now C past call (Remove key) number from may began = made_next C (moment past).commits from (Remove key) (DropChange key) number refl may.0 began (λ before. tt)
made_now C past call _ number from may began = absurd may

kept_by_step : (C : ℕ) (past : History) (k : ℕ) (r : Option OpenCall) → call_of k (moment past).calls ≡ r → (o : Outcome) (note : ℕ) → MayStepAt C past r o note → AllKept C (moment past)
    → AllKept C (after_call_step (moment past) r o note)
kept_by_step C past k None at o note may kept n y e = kept n y e
kept_by_step C past k (Some call) at (Commit number) note may kept n y e =
    let m = moment past in
    let was = kept k call at in
    let new : OpenCall = record call { committed = Some number; moves = 0 } in
    let g : GoesOnFrom ((moment past).commits ++ change_of call.request) (moment past).commits = (change_of call.request, refl) in
    elim (replaced m.calls new n y e) [
      | inl is ↦
          let here : CallKept C (m.commits ++ change_of call.request) new = record {
            began = (kept_more C (m.commits ++ change_of call.request) m.commits call.from call.committed call.request g was).began;
            made = λ i f.
                let same : number ≡ i = cc in
                subst (λ (j : ℕ). Made C (m.commits ++ change_of call.request) call.from call.request j) same (made_now C past call call.request number call.from may was.began);
          } in
          subst (λ (z : OpenCall). CallKept C (m.commits ++ change_of call.request) z) (sym is) here
      | inr old ↦ kept_more C (m.commits ++ change_of call.request) m.commits y.from y.committed y.request g (kept n y old)
    ]
kept_by_step C past k (Some call) at Moved note may kept n y e =
    elim (replaced (moment past).calls (record call { moves = call.moves + 1 }) n y e) [
      | inl is ↦ subst (λ (z : OpenCall). CallKept C (moment past).commits z) (sym is) (kept k call at)
      | inr old ↦ kept n y old
    ]
kept_by_step C past k (Some call) at Again note may kept n y e =
    elim (replaced (moment past).calls (record call { moves = 0 }) n y e) [
      | inl is ↦ subst (λ (z : OpenCall). CallKept C (moment past).commits z) (sym is) (kept k call at)
      | inr old ↦ kept n y old
    ]
kept_by_step C past k (Some call) at (Done reply) note may kept n y e = kept n y (found_before_filter (λ (c : OpenCall). c.number) call.number n (moment past).calls y e)
kept_by_step C past k (Some call) at (Refused refusal) note may kept n y e = kept n y (found_before_filter (λ (c : OpenCall). c.number) call.number n (moment past).calls y e)
kept_by_step C past k (Some call) at _ note may kept n y e = kept n y e

kept_by_event : (C : ℕ) (past : History) (e : Event) (o : Outcome) (note : ℕ) → MayHappen C past e o note → AllKept C (moment past) → AllKept C (after_event (moment past) e o note)
kept_by_event C past (Begin pass request) (Call number) note may kept n y e =
    elim (found_before_append (λ (c : OpenCall). c.number) n (moment past).calls (new_call (moment past) pass.0 request number.0) y e) [
      | inl old ↦ kept n y old
      | inr new ↦ subst (λ (z : OpenCall). CallKept C (moment past).commits z) (sym new.0) (record { began = omega arith; made = λ i f. cc })
    ]
kept_by_event C past (Step call) o note may kept n y e = kept_by_step C past call.0 (call_of call.0 (moment past).calls) refl o note may kept n y e
kept_by_event C past (Apply view) (Applied number) note may kept n y e = kept n y e
kept_by_event C past (ViewDrop view) Dropped note may kept n y e = kept n y e
kept_by_event C past Advance (Epoch number) note may kept n y e = kept n y e
kept_by_event C past (ViewRead view floor start limit) o note may kept n y e = kept n y e
kept_by_event C past Collect o note may kept n y e = kept n y e
kept_by_event C past _ _ note may kept n y e = kept n y e

-- each open call of a legal history
pub calls_kept : (C : ℕ) (h : History) → Legal C h → AllKept C (moment h)
calls_kept C [] legal n call e = cc
calls_kept C (x ∷ h) legal n call e = kept_by_event C h x.event x.outcome x.opens legal.1 (calls_kept C h legal.0) n call e
