-- The views of a legal history: their numbers rise, and none is at a number past the commits.
use Rattle.std.proofs.Common.{◌≡◌, ◌≤◌, ◌<◌, ◌+◌, ◌==◌, ℕ, zero, Bool, not, List, [], ◌∷◌, ◌++◌, map, length, Option, Some, None, ap, sym, subst, refl, inl, inr, ◌⊎◌, ◌∙◌, arith}
use Rattle.std.specs.Prelude.{filter, if◌then◌else◌, nat_lt, MatchBool}
use Rattle.std.proofs.lemmas.Bool.{cases_Bool}
use Rattle.std.proofs.lemmas.Bool.Decides.{eqb_tells}
use Rattle.std.proofs.lemmas.List.{length-append}
use borrow.Author.Tests.{ltb-true}
use Rattle.mt_promise.proofs.NumberedLemmas.{found}
use Rattle.mt_promise.proofs.ViewLemmas.{IsNew, view_before}
use Rattle.mt_promise.specs.History.{History, Moment, OpenCall, StandingView, moment, call_of, view_of, meant_view, furthest, move_view, view_built, after_event, after_call_step, change_of}
use Rattle.mt_promise.specs.RightAnswers.{RightAnswer}
use Rattle.mt_promise.specs.Legal.{Legal, MayHappen, MayApply, MayStepAt, IsOrLacksMemory}
use Rattle.mt_types.specs.declared.numbers.ViewNo.{ViewNo}
use Rattle.mt_types.specs.declared.view.ViewSpec.{ViewSpec}
use Rattle.mt_types.specs.declared.event.Event.{Event}
use Rattle.mt_types.specs.declared.event.Event.TheVariants.{Begin, Step, Apply, ViewDrop, Advance}
use Rattle.mt_types.specs.declared.event.Outcome.{Outcome}
use Rattle.mt_types.specs.declared.event.Outcome.TheVariants.{Call, Commit, Done, Applied, Current, Dropped, Epoch}
use Rattle.mt_types.specs.declared.event.Request.{Request}
use Rattle.mt_types.specs.declared.event.Request.TheVariants.{Get, Put, PutIf, Remove, Range, Tidy, Build}
use Rattle.mt_types.specs.declared.event.Answer.{Answer}
use Rattle.mt_types.specs.declared.event.Answer.TheVariants.{Absent, Built}

-- the numbers of views rise, above low and up to high
abbrev pub Rising : ℕ → List StandingView → ℕ → Type 0
Rising low [] high = low ≤ high
Rising low (v ∷ views) high = (low < v.number) × Rising v.number views high

abbrev pub AmongViews : StandingView → List StandingView → Type 0
AmongViews v [] = ⊥
AmongViews v (w ∷ views) = (v ≡ w) ⊎ AmongViews v views

rising_from : (low lower high : ℕ) (views : List StandingView) → Rising low views high → lower ≤ low → Rising lower views high
rising_from low lower high [] r le = omega (arith, r, le)
rising_from low lower high (v ∷ views) r le = (omega (arith, r.0, le), r.1)

rising_append : (low high : ℕ) (views : List StandingView) (v : StandingView) → Rising low views high → v.number ≡ high + 1 → Rising low (views ++ v ∷ []) (high + 1)
rising_append low high [] v r e = (omega (arith, r, e), omega (arith, e))
rising_append low high (w ∷ views) v r e = (r.0, rising_append w.number high views v r.1 e)

rising_filter : (low high : ℕ) (p : StandingView → Bool) (views : List StandingView) → Rising low views high → Rising low (filter p views) high
rising_filter low high p [] r = r
rising_filter low high p (v ∷ views) r =
    let rest = rising_filter v.number high p views r.1 in
    elim (cases_Bool (p v)) [
      | inl yes_ ↦ rw yes_ (r.0, rest)
      | inr no_ ↦ rw no_ (rising_from v.number low high (filter p views) rest (omega (arith, r.0)))
    ]

rising_map : (f : StandingView → StandingView) → ((v : StandingView) → (f v).number ≡ v.number) → (low high : ℕ) (views : List StandingView)
    → Rising low views high → Rising low (map f views) high
rising_map f same low high [] r = r
rising_map f same low high (v ∷ views) r = (
  subst (λ (n : ℕ). low < n) (sym (same v)) r.0,
  subst (λ (n : ℕ). Rising n (map f views) high) (sym (same v)) (rising_map f same v.number high views r.1),
)

among_above : (low high : ℕ) (views : List StandingView) (v : StandingView) → Rising low views high → AmongViews v views → low < v.number
among_above low high [] v r a = absurd a
among_above low high (w ∷ views) v r a =
    elim a [
      | inl e ↦ subst (λ (z : StandingView). low < z.number) (sym e) r.0
      | inr later ↦ let k = among_above w.number high views v r.1 later in omega (arith, r.0, k)
    ]

-- each view is found by its number
among_found : (low high : ℕ) (views : List StandingView) (v : StandingView) → Rising low views high → AmongViews v views → view_of v.number views ≡ Some v
among_found low high [] v r a = absurd a
among_found low high (w ∷ views) v r a =
    elim a [
      | inl e ↦ elim (eqb_tells w.number v.number) [
        | inl p ↦ rw p.0 (ap Some (sym e))
        | inr p ↦ absurd (p.1 (ap (λ (z : StandingView). z.number) (sym e)))
      ]
      | inr later ↦ let above = among_above w.number high views v r.1 later in elim (eqb_tells w.number v.number) [
        | inl p ↦ absurd (omega (arith, p.1, above))
        | inr p ↦ rw p.0 (among_found w.number high views v r.1 later)
      ]
    ]

-- the view that is furthest behind is among the views
furthest_among : (best : Option StandingView) (views : List StandingView) (v : StandingView) → furthest best views ≡ Some v → (best ≡ Some v) ⊎ AmongViews v views
furthest_among best [] v e = inl e
furthest_among None (w ∷ views) v e =
    elim (furthest_among (Some w) views v e) [ inl p ↦ let is : v ≡ w = cc in inr (inl is) | inr a ↦ inr (inr a) ]
furthest_among (Some best) (w ∷ views) v e =
    elim (furthest_among (Some (if nat_lt w.at best.at then w else best)) views v e) [
      | inl p ↦ elim (cases_Bool (nat_lt w.at best.at)) [
        | inl b ↦ let q = rw b at p in let is : v ≡ w = cc in inr (inl is)
        | inr b ↦ let q = rw b at p in inl q
      ]
      | inr a ↦ inr (inr a)
    ]

-- the view that an Apply means is found by its number
meant_found : (low high : ℕ) (views : List StandingView) (k : ℕ) (v : StandingView) → Rising low views high → meant_view k views ≡ Some v → view_of v.number views ≡ Some v
meant_found low high views k v r e =
    elim (cases_Bool (k == zero)) [
      | inl b ↦
          let f : furthest None views ≡ Some v = sym (ap (λ (t : Bool). if t then furthest None views else view_of k views) b) ∙ e in
          elim (furthest_among None views v f) [ inl q ↦ cc | inr a ↦ among_found low high views v r a ]
      | inr b ↦
          let f : view_of k views ≡ Some v = sym (ap (λ (t : Bool). if t then furthest None views else view_of k views) b) ∙ e in
          let number : v.number ≡ k = found (λ (w : StandingView). w.number) k views v f in
          subst (λ (n : ℕ). view_of n views ≡ Some v) (sym number) f
    ]

-- the numbers after an event rise too
rising_after_build : (m : Moment) (request : Request) (answer : Answer) (opens : ℕ) → Rising 0 m.views m.built
    → ((number : ViewNo) → answer ≡ Built number → number.0 ≡ m.built + 1) → Rising 0 (m.views ++ view_built request answer opens) (m.built + length (view_built request answer opens))
rising_after_build m (Build spec) (Built number) opens r next = rising_append 0 m.built m.views _ r (next number refl)
rising_after_build m _ _ opens r next = rising_same m.views m.built r
  where
    append_none : (views : List StandingView) → views ++ [] ≡ views
    append_none [] = refl
    append_none (v ∷ views) = ap (λ (z : List StandingView). v ∷ z) (append_none views)

    rising_same : (views : List StandingView) (high : ℕ) → Rising 0 views high → Rising 0 (views ++ []) (high + 0)
    rising_same views high r =
        let e : high + 0 ≡ high = omega arith in
        subst (λ (n : ℕ). Rising 0 (views ++ []) n) (sym e) (subst (λ (z : List StandingView). Rising 0 z high) (sym (append_none views)) r)

built_next : (C : ℕ) (past : History) (call : OpenCall) (request : Request) (answer : Answer) (note : ℕ) → RightAnswer C past call request answer note
    → (number : ViewNo) → answer ≡ Built number → number.0 ≡ (moment past).built + 1
built_next C past call (Build spec) (Built k) note right number e =
    let same : k ≡ number = cc in ap (λ (w : ViewNo). w.0) (sym same) ∙ right.0
built_next C past call request Absent note right number e = cc
built_next C past call (Get key columns) (Built k) note right number e = absurd right
built_next C past call (Put key sets) (Built k) note right number e = absurd right
built_next C past call (PutIf key sets version) (Built k) note right number e = absurd right
built_next C past call (Remove key) (Built k) note right number e = absurd right
built_next C past call (Range start limit columns) (Built k) note right number e = absurd right
built_next C past call (Tidy key) (Built k) note right number e = absurd right
built_next C past call request _ note right number e = cc

rising_after_step : (C : ℕ) (past : History) (r : Option OpenCall) (o : Outcome) (note : ℕ) → MayStepAt C past r o note
    → Rising 0 (moment past).views (moment past).built → Rising 0 (after_call_step (moment past) r o note).views (after_call_step (moment past) r o note).built
rising_after_step C past None o note may r = r
rising_after_step C past (Some call) (Done reply) note may r =
    rising_after_build (moment past) call.request reply.answer note r (built_next C past call call.request reply.answer note may.answer)
rising_after_step C past (Some call) _ note may r = r

rising_move : (r : Option StandingView) (views : List StandingView) (high : ℕ) → Rising 0 views high → Rising 0 (move_view r views) high
rising_move None views high h = h
rising_move (Some moved) views high h = rising_map (λ (w : StandingView). if w.number == moved.number then record w { at = w.at + 1 } else w) same 0 high views h
  where
    same : (w : StandingView) → (if w.number == moved.number then record w { at = w.at + 1 } else w).number ≡ w.number
    same w = elim (eqb_tells w.number moved.number) [ inl p ↦ rw p.0 | inr p ↦ rw p.0 ]

rising_after : (C : ℕ) (past : History) (e : Event) (o : Outcome) (note : ℕ) → MayHappen C past e o note
    → Rising 0 (moment past).views (moment past).built → Rising 0 (after_event (moment past) e o note).views (after_event (moment past) e o note).built
rising_after C past (Begin pass request) (Call number) note may r = r
rising_after C past (Step call) o note may r = rising_after_step C past (call_of call.0 (moment past).calls) o note may r
rising_after C past (Apply view) (Applied number) note may r = rising_move (meant_view view.0 (moment past).views) (moment past).views (moment past).built r
rising_after C past (ViewDrop view) Dropped note may r = rising_filter 0 (moment past).built (λ (v : StandingView). not (v.number == view.0)) (moment past).views r
rising_after C past Advance (Epoch number) note may r = r
rising_after C past _ o note may r = r

-- the numbers of the views of a legal history rise, up to the number of views that were built
pub views_rise : (C : ℕ) (h : History) → Legal C h → Rising 0 (moment h).views (moment h).built
views_rise C [] legal = omega arith
views_rise C (x ∷ h) legal = rising_after C h x.event x.outcome x.opens legal.1 (views_rise C h legal.0)

commits_by_step : (m : Moment) (r : Option OpenCall) (o : Outcome) (note : ℕ) → length m.commits ≤ length (after_call_step m r o note).commits
commits_by_step m None o note = omega arith
commits_by_step m (Some call) (Commit number) note = omega (arith, length-append m.commits (change_of call.request))
commits_by_step m (Some call) _ note = omega arith

-- what was committed stays so
commits_rise : (m : Moment) (e : Event) (o : Outcome) (note : ℕ) → length m.commits ≤ length (after_event m e o note).commits
commits_rise m (Begin pass request) (Call number) note = omega arith
commits_rise m (Step call) o note = commits_by_step m (call_of call.0 m.calls) o note
commits_rise m (Apply view) (Applied number) note = omega arith
commits_rise m (ViewDrop view) Dropped note = omega arith
commits_rise m Advance (Epoch number) note = omega arith
commits_rise m _ o note = omega arith

-- a view that an Apply advances was behind
was_behind : (m : Moment) (k : ℕ) (v : StandingView) (number : ℕ) → MayApply m k (Some v) (Applied number) → v.at < length m.commits
was_behind m k v number may =
    elim (cases_Bool (nat_lt v.at (length m.commits))) [
      | inl b ↦ ltb-true v.at (length m.commits) b
      | inr b ↦
          let current : Applied number ≡ Current =
          subst (λ (t : Bool). MatchBool t (IsOrLacksMemory (Applied (v.at + 1)) (Applied number)) (Applied number ≡ Current)) b may in cc
    ]

meant_behind : (C : ℕ) (past : History) (e : Event) (o : Outcome) (note : ℕ) → MayHappen C past e o note → (view : ViewNo) (number : ℕ) → e ≡ Apply view → o ≡ Applied number
    → (v : StandingView) → meant_view view.0 (moment past).views ≡ Some v → v.at < length (moment past).commits
meant_behind C past e o note may view number is_apply is_applied v meant =
    let named = subst (λ (z : Event). MayHappen C past z o note) is_apply may in
    let answered = subst (λ (z : Outcome). MayHappen C past (Apply view) z note) is_applied named in
    was_behind (moment past) view.0 v number (subst (λ (r : Option StandingView). MayApply (moment past) view.0 r (Applied number)) meant answered)

-- a view that is built opens at no more than the commits
opens_within : (C : ℕ) (past : History) (call : OpenCall) (spec : ViewSpec) (answer : Answer) (number : ViewNo) (note : ℕ) → answer ≡ Built number
    → RightAnswer C past call (Build spec) answer note → note ≤ length (moment past).commits
opens_within C past call spec answer number note e right =
    let named = subst (λ (a : Answer). RightAnswer C past call (Build spec) a note) e right in named.2

new_within : (C : ℕ) (past : History) (e : Event) (o : Outcome) (note n : ℕ) (v : StandingView) → MayHappen C past e o note → IsNew (moment past) e o note n v
    → v.at ≤ length (moment past).commits
new_within C past e o note n v may new =
    let named = subst (λ (z : Event). MayHappen C past z o note) new.event may in
    let answered = subst (λ (z : Outcome). MayHappen C past (Step new.call) z note) new.outcome named in
    let right = subst (λ (r : Option OpenCall). MayStepAt C past r (Done new.reply) note) new.found answered in
    let asked = subst (λ (q : Request). RightAnswer C past new.caller q new.reply.answer note) new.request right.answer in
    let within = opens_within C past new.caller new.spec new.reply.answer new.number note new.answer asked in
    omega (arith, new.is_at, within)

-- no view of a legal history is at a number past the commits
pub views_within : (C : ℕ) (h : History) → Legal C h → (n : ℕ) (v : StandingView) → view_of n (moment h).views ≡ Some v → v.at ≤ length (moment h).commits
views_within C [] legal n v e = cc
views_within C (x ∷ h) legal n v e =
    let rise = commits_rise (moment h) x.event x.outcome x.opens in
    elim (view_before (moment h) x.event x.outcome x.opens n v e) [
      | inl k ↦ let old = views_within C h legal.0 n k.old k.found in omega (arith, rise, old, k.at)
      | inr other ↦ elim other [
        | inl k ↦
            let moved_found = meant_found 0 (moment h).built (moment h).views k.view.0 k.moved (views_rise C h legal.0) k.meant in
            let old_number : k.old.number ≡ n = found (λ (w : StandingView). w.number) n (moment h).views k.old k.found in
            let here : k.moved.number ≡ n = sym k.same ∙ old_number in
            let again : view_of n (moment h).views ≡ Some k.moved = subst (λ (i : ℕ). view_of i (moment h).views ≡ Some k.moved) here moved_found in
            let is : k.old ≡ k.moved = cc (k.found, again) in
            let behind = meant_behind C h x.event x.outcome x.opens legal.1 k.view k.number k.event k.outcome k.moved k.meant in
            let same_at : k.old.at ≡ k.moved.at = ap (λ (w : StandingView). w.at) is in
            omega (arith, rise, behind, k.at, same_at)
        | inr new ↦ let within = new_within C h x.event x.outcome x.opens n v legal.1 new in omega (arith, rise, within)
      ]
    ]
