-- Two finished calls that name one commit are one: each commit was made by a step of one call.
use Rattle.std.proofs.Common.{◌≡◌, ◌≤◌, ℕ, ◌==◌, ◌+◌, Bool, List, [], ◌∷◌, ◌++◌, length, Option, Some, None, ◌∙◌, ap, sym, subst, refl, inl, inr, ◌⊎◌, arith, length-append}
use Rattle.std.specs.Prelude.{if◌then◌else◌}
use Rattle.std.proofs.lemmas.Bool.Decides.{eqb_tells}
use Rattle.mt_types.specs.declared.numbers.CallNo.{CallNo}
use Rattle.mt_types.specs.declared.row.Change.{Change}
use Rattle.mt_types.specs.declared.event.Event.{Event}
use Rattle.mt_types.specs.declared.event.Event.TheVariants.{Begin, Step, Apply, ViewRead, ViewDrop, Advance, Collect}
use Rattle.mt_types.specs.declared.event.Outcome.{Outcome}
use Rattle.mt_types.specs.declared.event.Outcome.TheVariants.{Call, Moved, Again, Commit, Done, Applied, Dropped, Epoch, Refused}
use Rattle.mt_types.specs.declared.event.Request.{Request}
use Rattle.mt_types.specs.declared.event.Request.TheVariants.{Put, PutIf, Remove}
use Rattle.mt_types.specs.declared.event.Answer.{Answer}
use Rattle.mt_types.specs.declared.event.Answer.TheVariants.{Stored, Removed}
use Rattle.mt_types.specs.declared.event.Reply.{Reply}
use Rattle.mt_promise.specs.History.{History, Happening, happening, Moment, OpenCall, moment, call_of, new_call, replace_call, without_call, after_event, after_step, after_call_step, change_of}
use Rattle.mt_promise.specs.Legal.{Legal, MayHappen, MayStep, MayStepAt}
use Rattle.mt_promise.specs.RightAnswers.{RightAnswer}
use Rattle.mt_promise.specs.Headline.{IsFinished}
use Rattle.mt_promise.specs.Finished.{commit_named, CommitsAreNamedOnce}
use Rattle.mt_promise.proofs.NumberedLemmas.{found, found_before_filter, found_before_map, found_before_append}
use Rattle.mt_promise.proofs.FinishedLemmas.{legal_before, done_call}
use Rattle.mt_promise.proofs.OnceLemmas.{places, calls_finish_once}
use Rattle.mt_promise.proofs.OwnChange.{commit_next, replaced_number}

-- ---- commits are counted on
commits_by_step : (m : Moment) (r : Option OpenCall) (o : Outcome) (note : ℕ) → length m.commits ≤ length (after_call_step m r o note).commits
commits_by_step m None o note = omega arith
commits_by_step m (Some call) (Commit number) note = let long = length-append m.commits (change_of call.request) in omega (arith, long)
commits_by_step m (Some call) _ note = omega arith

commits_rise : (m : Moment) (e : Event) (o : Outcome) (note : ℕ) → length m.commits ≤ length (after_event m e o note).commits
commits_rise m (Begin pass request) (Call number) note = omega arith
commits_rise m (Step call) o note = commits_by_step m (call_of call.0 m.calls) o note
commits_rise m (Apply view) (Applied number) note = omega arith
commits_rise m (ViewDrop view) Dropped note = omega arith
commits_rise m Advance (Epoch number) note = omega arith
commits_rise m (ViewRead view floor start limit) o note = omega arith
commits_rise m Collect o note = omega arith
commits_rise m _ _ note = omega arith

commits_since : (mid h : History) → length (moment h).commits ≤ length (moment (mid ++ h)).commits
commits_since [] h = omega arith
commits_since (x ∷ mid) h =
    let a = commits_since mid h in
    let b = commits_rise (moment (mid ++ h)) x.event x.outcome x.opens in omega (arith, a, b)

-- ---- the step by which a commit was made
pub record IsMadeBy (h : History) (call number : ℕ) : Type 0 where
  pub step : CallNo
  pub named : step.0 ≡ call
  pub note : ℕ
  pub later : History
  pub past : History
  pub made : h ≡ later ++ happening (Step step) (Commit number) note ∷ past

made_since : (x : Happening) (h : History) (call number : ℕ) → IsMadeBy h call number → IsMadeBy (x ∷ h) call number
made_since x h call number is = record {
  step = is.step;
  named = is.named;
  note = is.note;
  later = x ∷ is.later;
  past = is.past;
  made = ap (λ (l : History). x ∷ l) is.made;
}

made_before : (later h : History) (call number : ℕ) → IsMadeBy h call number → IsMadeBy (later ++ h) call number
made_before [] h call number is = is
made_before (x ∷ later) h call number is = made_since x (later ++ h) call number (made_before later h call number is)

-- the number of a commit that is made
next_commit : (C : ℕ) (past : History) (r : Option OpenCall) (number note : ℕ) → MayStepAt C past r (Commit number) note
    → (number ≡ length (moment past).commits + 1) × (length (after_call_step (moment past) r (Commit number) note).commits ≡ number)
next_commit C past None number note may = cc
next_commit C past (Some call) number note may =
    let (next, (change, own)) = commit_next C past call call.request number note may in
    let long = length-append (moment past).commits (change_of call.request) ∙ ap (λ (l : List Change). length (moment past).commits + length l) own in
    (next, long ∙ sym next)

-- each commit has one such step
later_commit : (C : ℕ) (mid past : History) (step other : CallNo) (number note mark : ℕ)
    → Legal C (happening (Step other) (Commit number) mark ∷ mid ++ happening (Step step) (Commit number) note ∷ past) → ⊥
later_commit C mid past step other number note mark legal =
    let x = happening (Step step) (Commit number) note in
    let before = mid ++ x ∷ past in
    let first = next_commit C past (call_of step.0 (moment past).calls) number note (legal_before C mid x past legal.0).1 in
    let second = next_commit C before (call_of other.0 (moment before).calls) number mark legal.1 in
    let since = commits_since mid (x ∷ past) in
    let had = first.1 in
    let next = second.0 in
    absurd (omega (arith, since, had, next))

same_step : (step other : CallNo) (number note mark : ℕ) → happening (Step step) (Commit number) note ≡ happening (Step other) (Commit number) mark → step ≡ other
same_step step other number note mark e =
    let events : Step step ≡ Step other = ap (λ (x : Happening). x.event) e in cc

pub made_by_one : (C : ℕ) (h : History) (call other number : ℕ) → Legal C h → IsMadeBy h call number → IsMadeBy h other number → call ≡ other
made_by_one C h call other number legal one two =
    let x = happening (Step one.step) (Commit number) one.note in
    let y = happening (Step two.step) (Commit number) two.note in
    elim (places one.later two.later x y one.past two.past (sym one.made ∙ two.made)) [
      | inl is ↦ sym one.named ∙ ap (λ (n : CallNo). n.0) (same_step one.step two.step number one.note two.note is.0) ∙ two.named
      | inr apart ↦ elim apart [
        | inl first ↦
            let at = legal_before C one.later x one.past (subst (λ (l : History). Legal C l) one.made legal) in
            absurd (later_commit C first.0 two.past two.step one.step number two.note one.note (subst (λ (l : History). Legal C (x ∷ l)) first.1 at))
        | inr second ↦
            let at = legal_before C two.later y two.past (subst (λ (l : History). Legal C l) two.made legal) in
            absurd (later_commit C second.0 one.past one.step two.step number one.note two.note (subst (λ (l : History). Legal C (y ∷ l)) second.1 at))
      ]
    ]

-- ---- an open call that has committed did so by a step of its own
abbrev AllMade : History → Type 0
AllMade h = (k : ℕ) (call : OpenCall) (number : ℕ) → call_of k (moment h).calls ≡ Some call → call.committed ≡ Some number → IsMadeBy h k number

-- the call that is found after one was replaced was found before, or is the new one
replaced : (calls : List OpenCall) (new : OpenCall) (k : ℕ) (y : OpenCall) → call_of k (replace_call new calls) ≡ Some y
    → ((y ≡ new) × (new.number ≡ k)) ⊎ (call_of k calls ≡ Some y)
replaced calls new k y e =
    let r = found_before_map (λ (c : OpenCall). c.number) (λ (c : OpenCall). if c.number == new.number then new else c) (replaced_number new) k calls y e in
    elim (eqb_tells r.0.number new.number) [
      | inl p ↦ inl (
        r.2 ∙ ap (λ (b : Bool). if b then new else r.0) p.0,
        sym p.1 ∙ found (λ (c : OpenCall). c.number) k calls r.0 r.1,
      )
      | inr p ↦ let is : y ≡ r.0 = r.2 ∙ ap (λ (b : Bool). if b then new else r.0) p.0 in inr (r.1 ∙ ap Some (sym is))
    ]

-- the call was replaced by one that has committed the same
made_replaced : (x : Happening) (past : History) (call new : OpenCall) (k : ℕ) → call_of k (moment past).calls ≡ Some call → new.number ≡ call.number → new.committed ≡ call.committed → AllMade past
    → (n : ℕ) (y : OpenCall) (number : ℕ) → call_of n (replace_call new (moment past).calls) ≡ Some y → y.committed ≡ Some number → IsMadeBy (x ∷ past) n number
made_replaced x past call new k at same committed all n y number e has = elim (replaced (moment past).calls new n y e) [
  | inl own ↦
      let named : k ≡ n = sym (found (λ (c : OpenCall). c.number) k (moment past).calls call at) ∙ sym same ∙ own.1 in
      made_since x past n number (all n call number (subst (λ (i : ℕ). call_of i (moment past).calls ≡ Some call) named at) (sym committed ∙ sym (ap (λ (c : OpenCall). c.committed) own.0) ∙ has))
  | inr old ↦ made_since x past n number (all n y number old has)
]

made_fewer : (x : Happening) (past : History) (gone : ℕ) → AllMade past
    → (n : ℕ) (y : OpenCall) (number : ℕ) → call_of n (without_call gone (moment past).calls) ≡ Some y → y.committed ≡ Some number → IsMadeBy (x ∷ past) n number
made_fewer x past gone all n y number e has =
    made_since x past n number (all n y number (found_before_filter (λ (c : OpenCall). c.number) gone n (moment past).calls y e) has)

made_by_step : (C : ℕ) (past : History) (step : CallNo) (call : OpenCall) → call_of step.0 (moment past).calls ≡ Some call → (o : Outcome) (note : ℕ) → MayStep C past call o note → AllMade past
    → (n : ℕ) (y : OpenCall) (number : ℕ) → call_of n (after_step (moment past) call o note).calls ≡ Some y → y.committed ≡ Some number → IsMadeBy (happening (Step step) o note ∷ past) n number
made_by_step C past step call at Moved note may all n y number e has =
    made_replaced (happening (Step step) Moved note) past call (record call { moves = call.moves + 1 }) step.0 at refl refl all n y number e has
made_by_step C past step call at Again note may all n y number e has =
    made_replaced (happening (Step step) Again note) past call (record call { moves = 0 }) step.0 at refl refl all n y number e has
made_by_step C past step call at (Commit made) note may all n y number e has =
    elim (replaced (moment past).calls (record call { committed = Some made; moves = 0 }) n y e) [
      | inl own ↦
          let is : ◌≡◌ {A = Option ℕ} (Some made) (Some number) = sym (ap (λ (c : OpenCall). c.committed) own.0) ∙ has in
          let same : made ≡ number = cc is in
          record {
            step = step;
            named = sym (found (λ (c : OpenCall). c.number) step.0 (moment past).calls call at) ∙ own.1;
            note = note;
            later = [];
            past = past;
            made = ap (λ (m : ℕ). happening (Step step) (Commit m) note ∷ past) same;
          }
      | inr old ↦ made_since (happening (Step step) (Commit made) note) past n number (all n y number old has)
    ]
made_by_step C past step call at (Done reply) note may all n y number e has = made_fewer (happening (Step step) (Done reply) note) past call.number all n y number e has
made_by_step C past step call at (Refused refusal) note may all n y number e has = made_fewer (happening (Step step) (Refused refusal) note) past call.number all n y number e has
made_by_step C past step call at _ note may all n y number e has = absurd may

made_by_call : (C : ℕ) (past : History) (step : CallNo) (r : Option OpenCall) → call_of step.0 (moment past).calls ≡ r → (o : Outcome) (note : ℕ) → MayStepAt C past r o note → AllMade past
    → (n : ℕ) (y : OpenCall) (number : ℕ) → call_of n (after_call_step (moment past) r o note).calls ≡ Some y → y.committed ≡ Some number → IsMadeBy (happening (Step step) o note ∷ past) n number
made_by_call C past step None at o note may all n y number e has = made_since (happening (Step step) o note) past n number (all n y number e has)
made_by_call C past step (Some call) at o note may all n y number e has = made_by_step C past step call at o note may all n y number e has

made_by_event : (C : ℕ) (past : History) (e : Event) (o : Outcome) (note : ℕ) → MayHappen C past e o note → AllMade past
    → (n : ℕ) (y : OpenCall) (number : ℕ) → call_of n (after_event (moment past) e o note).calls ≡ Some y → y.committed ≡ Some number → IsMadeBy (happening e o note ∷ past) n number
made_by_event C past (Begin pass request) (Call begun) note may all n y number e has =
    elim (found_before_append (λ (c : OpenCall). c.number) n (moment past).calls (new_call (moment past) pass.0 request begun.0) y e) [
      | inl old ↦ made_since (happening (Begin pass request) (Call begun) note) past n number (all n y number old has)
      | inr new ↦ let none : ◌≡◌ {A = Option ℕ} None (Some number) = sym (ap (λ (c : OpenCall). c.committed) new.0) ∙ has in cc
    ]
made_by_event C past (Begin pass request) o note may all n y number e has = made_since (happening (Begin pass request) o note) past n number (all n y number e has)
made_by_event C past (Step step) o note may all n y number e has = made_by_call C past step (call_of step.0 (moment past).calls) refl o note may all n y number e has
made_by_event C past (Apply view) (Applied count) note may all n y number e has = made_since (happening (Apply view) (Applied count) note) past n number (all n y number e has)
made_by_event C past (Apply view) o note may all n y number e has = made_since (happening (Apply view) o note) past n number (all n y number e has)
made_by_event C past (ViewDrop view) Dropped note may all n y number e has = made_since (happening (ViewDrop view) Dropped note) past n number (all n y number e has)
made_by_event C past (ViewDrop view) o note may all n y number e has = made_since (happening (ViewDrop view) o note) past n number (all n y number e has)
made_by_event C past Advance (Epoch count) note may all n y number e has = made_since (happening Advance (Epoch count) note) past n number (all n y number e has)
made_by_event C past Advance o note may all n y number e has = made_since (happening Advance o note) past n number (all n y number e has)
made_by_event C past (ViewRead view floor start limit) o note may all n y number e has = made_since (happening (ViewRead view floor start limit) o note) past n number (all n y number e has)
made_by_event C past Collect o note may all n y number e has = made_since (happening Collect o note) past n number (all n y number e has)

pub all_made : (C : ℕ) (h : History) → Legal C h → AllMade h
all_made C [] legal = λ k call number e has. (let clash : ◌≡◌ {A = Option OpenCall} None (Some call) = e in cc)
all_made C (x ∷ h) legal = made_by_event C h x.event x.outcome x.opens legal.1 (all_made C h legal.0)

-- ---- a finished call that names a commit made it
has_committed : (C : ℕ) (past : History) (call : OpenCall) (request : Request) (answer : Answer) (number note : ℕ) → commit_named answer ≡ Some number → RightAnswer C past call request answer note → call.committed ≡ Some number
has_committed C past call (Put key sets) (Stored made) number note is right = right ∙ is
has_committed C past call (PutIf key sets version) (Stored made) number note is right = right ∙ is
has_committed C past call (Remove key) (Removed made) number note is right = right ∙ is
has_committed C past call _ (Stored made) number note is right = absurd right
has_committed C past call _ (Removed made) number note is right = absurd right
has_committed C past call request _ number note is right = let clash : ◌≡◌ {A = Option ℕ} None (Some number) = is in cc

pub finished_made : (C : ℕ) (h : History) (request : Request) (reply : Reply) (before past : History) (number : ℕ) → Legal C h
    → (f : IsFinished h request reply before past) → commit_named reply.answer ≡ Some number → IsMadeBy h f.number.0 number
finished_made C h request reply before past number legal f named =
    let x = happening (Step f.number) (Done reply) f.end_note in
    let whole = subst (λ (z : History). Legal C z) f.ended legal in
    let end = legal_before C f.later x past whole in
    let (call, at, right) = done_call C past f.number.0 (call_of f.number.0 (moment past).calls) refl reply f.end_note end.1 in
    let made = all_made C past end.0 f.number.0 call number at (has_committed C past call call.request reply.answer number f.end_note named right.answer) in
    subst (λ (z : History). IsMadeBy z f.number.0 number) (sym f.ended) (made_before f.later (x ∷ past) f.number.0 number (made_since x past f.number.0 number made))

pub commits_are_named_once : CommitsAreNamedOnce
commits_are_named_once C h request other reply again before early past late number legal f g named also =
    let one = finished_made C h request reply before past number legal f named in
    let two = finished_made C h other again early late number legal g also in
    calls_finish_once C h request other reply again before early past late legal f g (made_by_one C h f.number.0 g.number.0 number legal one two)
