-- Finished calls: each began once and ended once, and has made its own change.
use Rattle.std.proofs.Common.{◌≡◌, ◌<◌, ◌≤◌, ℕ, ◌+◌, ◌∷◌, ◌++◌, length, Option, Some, None, ◌∙◌, ap, sym, subst, refl, inl, inr, ◌⊎◌, arith, append_assoc, []}
use Rattle.mt_types.specs.declared.numbers.PassNo.{PassNo}
use Rattle.mt_types.specs.declared.numbers.CallNo.{CallNo}
use Rattle.mt_types.specs.declared.numbers.ViewNo.{ViewNo}
use Rattle.mt_types.specs.declared.event.Event.{Event}
use Rattle.mt_types.specs.declared.event.Event.TheVariants.{Begin, Step, Apply, ViewRead, ViewDrop, Advance, Collect}
use Rattle.mt_types.specs.declared.event.Outcome.{Outcome}
use Rattle.mt_types.specs.declared.event.Outcome.TheVariants.{Call, Done, Applied, Dropped, Epoch}
use Rattle.mt_types.specs.declared.event.Request.{Request}
use Rattle.mt_types.specs.declared.event.Request.TheVariants.{Build}
use Rattle.mt_types.specs.declared.event.Answer.{Answer}
use Rattle.mt_types.specs.declared.event.Answer.TheVariants.{Absent, Found, Stored, Removed, Rows as RowsAnswer, Tidied, Built}
use Rattle.mt_types.specs.declared.event.Reply.{Reply}
use Rattle.mt_promise.specs.History.{History, Happening, happening, Moment, OpenCall, moment, call_of, without_call, after_event, after_call_step, view_built}
use Rattle.mt_promise.specs.Legal.{Legal, MayHappen}
use Rattle.mt_promise.specs.RightAnswers.{RightAnswer}
use Rattle.mt_promise.specs.Headline.{IsFinished}
use Rattle.mt_promise.specs.Finished.{FinishedCallsCarryTheirOwn, CallsFinishOnce, ViewsAreBuiltOnce}
use Rattle.mt_promise.proofs.NumberedLemmas.{found, left_out}
use Rattle.mt_promise.proofs.CallLemmas.{begins_next, number_has_begun, begun_rises, call_before, open_has_begun, began_so}
use Rattle.mt_promise.proofs.FinishedLemmas.{legal_before, done_call, finished}

same_head : (x y : Happening) (p q : History) → ◌≡◌ {A = History} (x ∷ p) (y ∷ q) → (x ≡ y) × (p ≡ q)
same_head x y p q e = (cc e, cc e)

-- they are one, or one of them came later
pub places : (a b : History) (x y : Happening) (p q : History) → a ++ x ∷ p ≡ b ++ y ∷ q
    → ((x ≡ y) × (p ≡ q)) ⊎ ((mid : History) × (p ≡ mid ++ y ∷ q)) ⊎ ((mid : History) × (q ≡ mid ++ x ∷ p))
places [] [] x y p q e = inl (same_head x y p q e)
places [] (z ∷ b) x y p q e = inr (inl (b, (same_head x z p (b ++ y ∷ q) e).1))
places (z ∷ a) [] x y p q e = inr (inr (a, sym (same_head z y (a ++ x ∷ p) q e).1))
places (z ∷ a) (w ∷ b) x y p q e = places a b x y p q (same_head z w (a ++ x ∷ p) (b ++ y ∷ q) e).1

-- ---- a begin
abbrev begin_of : {h : History} {request : Request} {reply : Reply} {before past : History} → IsFinished h request reply before past → Happening
begin_of {h} {request} f = happening (Begin f.pass request) (Call f.number) f.begin_note

abbrev end_of : {h : History} {request : Request} {reply : Reply} {before past : History} → IsFinished h request reply before past → Happening
end_of {h} {request} {reply} f = happening (Step f.number) (Done reply) f.end_note

-- the history, up to the begin of a finished call
up_to_begin : (h : History) (request : Request) (reply : Reply) (before past : History) → (f : IsFinished h request reply before past)
    → h ≡ (f.later ++ end_of f ∷ f.between) ++ begin_of f ∷ before
up_to_begin h request reply before past f =
    f.ended ∙ ap (λ (l : History). f.later ++ end_of f ∷ l) f.begun ∙ sym (append_assoc f.later (end_of f ∷ f.between) (begin_of f ∷ before))

-- a call that begins later has a greater number
later_begin : (C : ℕ) (mid before : History) (pass own : PassNo) (request other : Request) (number next : CallNo) (note mark : ℕ)
    → Legal C (happening (Begin own other) (Call next) mark ∷ mid ++ happening (Begin pass request) (Call number) note ∷ before) → number.0 < next.0
later_begin C mid before pass own request other number next note mark legal =
    let had = number_has_begun C mid before pass request number note legal.0 in
    let now = begins_next C (mid ++ happening (Begin pass request) (Call number) note ∷ before) own other next mark legal.1 in
    omega (arith, had, now)

begun_once : (C : ℕ) (h : History) (request other : Request) (reply again : Reply) (before early past late : History) → Legal C h
    → (f : IsFinished h request reply before past) → (g : IsFinished h other again early late) → f.number.0 ≡ g.number.0 → (begin_of f ≡ begin_of g) × (before ≡ early)
begun_once C h request other reply again before early past late legal f g same =
    let one = up_to_begin h request reply before past f in
    let two = up_to_begin h other again early late g in
    elim (places (f.later ++ end_of f ∷ f.between) (g.later ++ end_of g ∷ g.between) (begin_of f) (begin_of g) before early (sym one ∙ two)) [
      | inl is ↦ is
      | inr apart ↦ elim apart [
        | inl first ↦
            let at = legal_before C (f.later ++ end_of f ∷ f.between) (begin_of f) before (subst (λ (l : History). Legal C l) one legal) in
            let less = later_begin C first.0 early g.pass f.pass other request g.number f.number g.begin_note f.begin_note (subst (λ (l : History). Legal C (begin_of f ∷ l)) first.1 at) in
            absurd (omega (arith, less, same))
        | inr second ↦
            let at = legal_before C (g.later ++ end_of g ∷ g.between) (begin_of g) early (subst (λ (l : History). Legal C l) two legal) in
            let less = later_begin C second.0 before f.pass g.pass request other f.number g.number f.begin_note g.begin_note (subst (λ (l : History). Legal C (begin_of g ∷ l)) second.1 at) in
            absurd (omega (arith, less, same))
      ]
    ]

-- ---- an end
-- a call that has ended
abbrev IsOver : ℕ → History → Type 0
IsOver n h = (n ≤ (moment h).begun) × (call_of n (moment h).calls ≡ None)

none_or_some : (r : Option OpenCall) → (r ≡ None) ⊎ ((call : OpenCall) × (r ≡ Some call))
none_or_some None = inl refl
none_or_some (Some call) = inr (call, refl)

no_call : (call : OpenCall) → ◌≡◌ {A = Option OpenCall} None (Some call) → ⊥
no_call call e = cc

-- it stays so
over_still : (C : ℕ) (h : History) (x : Happening) (n : ℕ) → Legal C (x ∷ h) → IsOver n h → IsOver n (x ∷ h)
over_still C h x n legal over =
    let rises = begun_rises (moment h) x.event x.outcome x.opens in
    let most = over.0 in (
      omega (arith, rises, most),
      elim (none_or_some (call_of n (moment (x ∷ h)).calls)) [
        | inl none ↦ none
        | inr some ↦ elim (call_before (moment h) x.event x.outcome x.opens n some.0 some.1) [
          | inl old ↦ absurd (no_call old.0 (sym over.1 ∙ old.1))
          | inr new ↦
              let may = subst (λ (o : Outcome). MayHappen C h (Begin new.pass new.request) o x.opens) new.outcome (subst (λ (e : Event). MayHappen C h e x.outcome x.opens) new.event legal.1) in
              let next = begins_next C h new.pass new.request new.number x.opens may in
              let named = new.named in
              absurd (omega (arith, most, next, named))
        ]
      ],
    )

over_since : (C : ℕ) (mid h : History) (n : ℕ) → Legal C (mid ++ h) → IsOver n h → IsOver n (mid ++ h)
over_since C [] h n legal over = over
over_since C (x ∷ mid) h n legal over = over_still C (mid ++ h) x n legal (over_since C mid h n legal.0 over)

-- once done it is over
done_over : (C : ℕ) (past : History) (number : CallNo) (reply : Reply) (note : ℕ) → Legal C (happening (Step number) (Done reply) note ∷ past) → IsOver number.0 (happening (Step number) (Done reply) note ∷ past)
done_over C past number reply note legal =
    let (call, at, right) = done_call C past number.0 (call_of number.0 (moment past).calls) refl reply note legal.1 in
    let named : call.number ≡ number.0 = found (λ (c : OpenCall). c.number) number.0 (moment past).calls call at in
    let had = open_has_begun C past legal.0 number.0 call at in (
      subst (λ (r : Option OpenCall). number.0 ≤ (after_call_step (moment past) r (Done reply) note).begun) (sym at) had,
      ap (λ (r : Option OpenCall). call_of number.0 (after_call_step (moment past) r (Done reply) note).calls) at
          ∙ ap (λ (n : ℕ). call_of n (without_call call.number (moment past).calls)) (sym named)
          ∙ left_out (λ (c : OpenCall). c.number) call.number (moment past).calls,
    )

not_later : (C : ℕ) (mid past : History) (number other : CallNo) (reply again : Reply) (note mark : ℕ) → number.0 ≡ other.0
    → Legal C (happening (Step other) (Done again) mark ∷ mid ++ happening (Step number) (Done reply) note ∷ past) → ⊥
not_later C mid past number other reply again note mark same legal =
    let before = mid ++ happening (Step number) (Done reply) note ∷ past in
    let over = over_since C mid (happening (Step number) (Done reply) note ∷ past) number.0 legal.0 (done_over C past number reply note (legal_end mid legal.0)) in
    let (call, at, right) = done_call C before other.0 (call_of other.0 (moment before).calls) refl again mark legal.1 in
    no_call call (sym over.1 ∙ ap (λ (n : ℕ). call_of n (moment before).calls) same ∙ at)
  where
    legal_end : (mid : History) → Legal C (mid ++ happening (Step number) (Done reply) note ∷ past) → Legal C (happening (Step number) (Done reply) note ∷ past)
    legal_end mid l = legal_before C mid (happening (Step number) (Done reply) note) past l

ended_once : (C : ℕ) (h : History) (request other : Request) (reply again : Reply) (before early past late : History) → Legal C h
    → (f : IsFinished h request reply before past) → (g : IsFinished h other again early late) → f.number.0 ≡ g.number.0 → (end_of f ≡ end_of g) × (past ≡ late)
ended_once C h request other reply again before early past late legal f g same =
    elim (places f.later g.later (end_of f) (end_of g) past late (sym f.ended ∙ g.ended)) [
      | inl is ↦ is
      | inr apart ↦ elim apart [
        | inl first ↦
            let at = legal_before C f.later (end_of f) past (subst (λ (l : History). Legal C l) f.ended legal) in
            absurd (not_later C first.0 late g.number f.number again reply g.end_note f.end_note (sym same) (subst (λ (l : History). Legal C (end_of f ∷ l)) first.1 at))
        | inr second ↦
            let at = legal_before C g.later (end_of g) late (subst (λ (l : History). Legal C l) g.ended legal) in
            absurd (not_later C second.0 past f.number g.number reply again f.end_note g.end_note same (subst (λ (l : History). Legal C (end_of g ∷ l)) second.1 at))
      ]
    ]

same_request : (pass own : PassNo) (request other : Request) (number next : CallNo) (note mark : ℕ) → happening (Begin pass request) (Call number) note ≡ happening (Begin own other) (Call next) mark → request ≡ other
same_request pass own request other number next note mark e =
    let events : Begin pass request ≡ Begin own other = ap (λ (x : Happening). x.event) e in cc

same_reply : (number next : CallNo) (reply again : Reply) (note mark : ℕ) → happening (Step number) (Done reply) note ≡ happening (Step next) (Done again) mark → reply ≡ again
same_reply number next reply again note mark e =
    let outcomes : Done reply ≡ Done again = ap (λ (x : Happening). x.outcome) e in cc

pub calls_finish_once : CallsFinishOnce
calls_finish_once C h request other reply again before early past late legal f g same =
    let began = begun_once C h request other reply again before early past late legal f g same in
    let ended = ended_once C h request other reply again before early past late legal f g same in (
      began.1,
      ended.1,
      same_request f.pass g.pass request other f.number g.number f.begin_note g.begin_note began.0,
      same_reply f.number g.number reply again f.end_note g.end_note ended.0,
    )

-- ---- what a reply carries
pub carries : FinishedCallsCarryTheirOwn
carries C h request reply before past legal f =
    let done = finished C h legal request reply before past f in
    let whole = subst (λ (z : History). Legal C z) f.ended legal in
    let end = legal_before C f.later (end_of f) past whole in
    let (call, at, right) = done_call C past f.number.0 (call_of f.number.0 (moment past).calls) refl reply f.end_note end.1 in
    let so = began_so C f.between before f.pass request f.number f.begin_note (subst (λ (z : History). Legal C z) f.begun end.0) call (subst (λ (z : History). call_of f.number.0 (moment z).calls ≡ Some call) f.begun at) in
    record {
      pass = right.pass ∙ so.pass_is;
      number = right.number ∙ found (λ (c : OpenCall). c.number) f.number.0 (moment past).calls call at;
      from = right.from ∙ so.from_is;
      to = right.to;
    }

-- ---- the view that a build gives
built_by_step : (m : Moment) (r : Option OpenCall) (o : Outcome) (note : ℕ) → m.built ≤ (after_call_step m r o note).built
built_by_step m None o note = omega arith
built_by_step m (Some call) (Done reply) note = omega arith
built_by_step m (Some call) _ note = omega arith

built_rises : (m : Moment) (e : Event) (o : Outcome) (note : ℕ) → m.built ≤ (after_event m e o note).built
built_rises m (Begin pass request) (Call number) note = omega arith
built_rises m (Step call) o note = built_by_step m (call_of call.0 m.calls) o note
built_rises m (Apply view) (Applied number) note = omega arith
built_rises m (ViewDrop view) Dropped note = omega arith
built_rises m Advance (Epoch number) note = omega arith
built_rises m (ViewRead view floor start limit) o note = omega arith
built_rises m Collect o note = omega arith
built_rises m _ _ note = omega arith

built_since : (mid h : History) → (moment h).built ≤ (moment (mid ++ h)).built
built_since [] h = omega arith
built_since (x ∷ mid) h =
    let a = built_since mid h in
    let b = built_rises (moment (mid ++ h)) x.event x.outcome x.opens in omega (arith, a, b)

-- a build that is done gives the next number, which is then taken
next_view : (C : ℕ) (past : History) (call : OpenCall) (request : Request) (answer : Answer) (view : ViewNo) (note : ℕ) → answer ≡ Built view → RightAnswer C past call request answer note
    → (view.0 ≡ (moment past).built + 1) × (length (view_built request answer note) ≡ 1)
next_view C past call (Build spec) (Built number) view note e right = let same : number ≡ view = cc in (sym (ap (λ (v : ViewNo). v.0) same) ∙ right.0, refl)
next_view C past call request Absent view note e right = let clash : Absent ≡ Built view = e in cc
next_view C past call request (Found row) view note e right = let clash : Found row ≡ Built view = e in cc
next_view C past call request (Stored n) view note e right = let clash : Stored n ≡ Built view = e in cc
next_view C past call request (Removed n) view note e right = let clash : Removed n ≡ Built view = e in cc
next_view C past call request (RowsAnswer pairs) view note e right = let clash : RowsAnswer pairs ≡ Built view = e in cc
next_view C past call request (Tidied rule) view note e right = let clash : Tidied rule ≡ Built view = e in cc
next_view C past call _ (Built number) view note e right = absurd right

built_then : (C : ℕ) (past : History) (number : CallNo) (reply : Reply) (note : ℕ) (view : ViewNo) → reply.answer ≡ Built view → Legal C (happening (Step number) (Done reply) note ∷ past)
    → (view.0 ≡ (moment past).built + 1) × ((moment (happening (Step number) (Done reply) note ∷ past)).built ≡ view.0)
built_then C past number reply note view is legal =
    let (call, at, right) = done_call C past number.0 (call_of number.0 (moment past).calls) refl reply note legal.1 in
    let (next, one) = next_view C past call call.request reply.answer view note is right.answer in (
      next,
      ap (λ (r : Option OpenCall). (after_call_step (moment past) r (Done reply) note).built) at ∙ ap (λ (n : ℕ). (moment past).built + n) one ∙ sym next,
    )

not_built_later : (C : ℕ) (mid past : History) (number other : CallNo) (reply again : Reply) (note mark : ℕ) (view : ViewNo) → reply.answer ≡ Built view → again.answer ≡ Built view
    → Legal C (happening (Step other) (Done again) mark ∷ mid ++ happening (Step number) (Done reply) note ∷ past) → ⊥
not_built_later C mid past number other reply again note mark view is so legal =
    let first = happening (Step number) (Done reply) note ∷ past in
    let a = (built_then C past number reply note view is (legal_before C mid (happening (Step number) (Done reply) note) past legal.0)).1 in
    let b = built_since mid first in
    let c = (built_then C (mid ++ first) other again mark view so legal).0 in
    omega (arith, a, b, c)

pub views_are_built_once : ViewsAreBuiltOnce
views_are_built_once C h request other reply again before early past late view legal f g is so =
    elim (places f.later g.later (end_of f) (end_of g) past late (sym f.ended ∙ g.ended)) [
      | inl same ↦ (same.1, same_reply f.number g.number reply again f.end_note g.end_note same.0)
      | inr apart ↦ elim apart [
        | inl first ↦
            let at = legal_before C f.later (end_of f) past (subst (λ (l : History). Legal C l) f.ended legal) in
            absurd (not_built_later C first.0 late g.number f.number again reply g.end_note f.end_note view so is (subst (λ (l : History). Legal C (end_of f ∷ l)) first.1 at))
        | inr second ↦
            let at = legal_before C g.later (end_of g) late (subst (λ (l : History). Legal C l) g.ended legal) in
            absurd (not_built_later C second.0 past f.number g.number reply again f.end_note g.end_note view is so (subst (λ (l : History). Legal C (end_of g ∷ l)) second.1 at))
      ]
    ]
