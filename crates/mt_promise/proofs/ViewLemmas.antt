-- What is known of a standing view of a history: how it was built, and where it stands.
use Rattle.std.proofs.Common.{◌≡◌, ◌+◌, ◌==◌, ℕ, Bool, true, false, arith, List, [], ◌∷◌, ◌++◌, Option, Some, None, ap, sym, subst, refl, inl, inr, ◌⊎◌, ◌∙◌}
use Rattle.std.specs.Prelude.{if◌then◌else◌}
use Rattle.std.proofs.lemmas.Bool.Decides.{eqb_tells}
use Rattle.mt_promise.proofs.NumberedLemmas.{found, left_out, found_before_filter, found_before_map, found_before_append}
use Rattle.mt_promise.proofs.CallLemmas.{call_before}
use Rattle.mt_promise.specs.Headline.{IsFinished, NoneDrops, applies, drops, drops_by, takes_on, takes_on_by, is_view, one_if}
use Rattle.mt_promise.specs.History.{History, Happening, happening, Moment, OpenCall, StandingView, moment, call_of, view_of, meant_view, move_view, view_built, without_view, after_event, after_call_step}
use Rattle.mt_types.specs.declared.numbers.PassNo.{PassNo}
use Rattle.mt_types.specs.declared.numbers.CallNo.{CallNo}
use Rattle.mt_types.specs.declared.numbers.ViewNo.{ViewNo}
use Rattle.mt_types.specs.declared.view.ViewSpec.{ViewSpec}
use Rattle.mt_types.specs.declared.event.Event.{Event}
use Rattle.mt_types.specs.declared.event.Event.TheVariants.{Begin, Step, Apply, ViewRead, ViewDrop, Advance, Collect}
use Rattle.mt_types.specs.declared.event.Outcome.{Outcome}
use Rattle.mt_types.specs.declared.event.Outcome.TheVariants.{Call, Moved, Again, Commit, Done, Applied, Dropped, Epoch, Refused}
use Rattle.mt_types.specs.declared.event.Request.{Request}
use Rattle.mt_types.specs.declared.event.Request.TheVariants.{Build}
use Rattle.mt_types.specs.declared.event.Answer.{Answer}
use Rattle.mt_types.specs.declared.event.Answer.TheVariants.{Built}
use Rattle.mt_types.specs.declared.event.Reply.{Reply}

-- the view was there, and stands where it stood
pub record IsKept (m : Moment) (e : Event) (o : Outcome) (n : ℕ) (v : StandingView) : Type 0 where
  pub old : StandingView
  pub found : view_of n m.views ≡ Some old
  pub spec : v.spec ≡ old.spec
  pub at : v.at ≡ old.at
  pub undropped : drops_by (record { 0 = n }) e o ≡ false
  pub untaken : takes_on_by (record { 0 = n }) m e o ≡ false

-- the view was there, and advanced by one commit
pub record IsMoved (m : Moment) (e : Event) (o : Outcome) (n : ℕ) (v : StandingView) : Type 0 where
  pub old : StandingView
  pub found : view_of n m.views ≡ Some old
  pub spec : v.spec ≡ old.spec
  pub at : v.at ≡ old.at + 1
  pub view : ViewNo
  pub number : ℕ
  pub event : e ≡ Apply view
  pub outcome : o ≡ Applied number
  pub moved : StandingView
  pub meant : meant_view view.0 m.views ≡ Some moved
  pub same : old.number ≡ moved.number
  pub undropped : drops_by (record { 0 = n }) e o ≡ false
  pub taken : takes_on_by (record { 0 = n }) m e o ≡ true

-- the view is built by this event
pub record IsNew (m : Moment) (e : Event) (o : Outcome) (opens n : ℕ) (v : StandingView) : Type 0 where
  pub call : CallNo
  pub caller : OpenCall
  pub reply : Reply
  pub spec : ViewSpec
  pub number : ViewNo
  pub event : e ≡ Step call
  pub outcome : o ≡ Done reply
  pub found : call_of call.0 m.calls ≡ Some caller
  pub request : caller.request ≡ Build spec
  pub answer : reply.answer ≡ Built number
  pub named : number.0 ≡ n
  pub is_spec : v.spec ≡ spec
  pub is_at : v.at ≡ opens

abbrev Comes : Moment → Event → Outcome → ℕ → ℕ → StandingView → Type 0
Comes m e o opens n v = IsKept m e o n v ⊎ (IsMoved m e o n v ⊎ IsNew m e o opens n v)

kept : (m : Moment) (e : Event) (o : Outcome) (opens n : ℕ) (v : StandingView)
    → drops_by (record { 0 = n }) e o ≡ false → takes_on_by (record { 0 = n }) m e o ≡ false
    → view_of n m.views ≡ Some v → Comes m e o opens n v
kept m e o opens n v undropped untaken at =
    inl (record { old = v; found = at; spec = refl; at = refl; undropped = undropped; untaken = untaken })

-- what a call builds
built_view : (m : Moment) (k : CallNo) (caller : OpenCall) → call_of k.0 m.calls ≡ Some caller → (reply : Reply) (opens n : ℕ) (v : StandingView)
    → (request : Request) → caller.request ≡ request → (answer : Answer) → reply.answer ≡ answer
    → view_of n (m.views ++ view_built request answer opens) ≡ Some v → Comes m (Step k) (Done reply) opens n v
built_view m k caller at reply opens n v (Build spec) asks (Built number) answers e =
    elim (found_before_append (λ (w : StandingView). w.number) n m.views (record { number = number.0; spec = spec; at = opens }) v e) [
      | inl old ↦ kept m (Step k) (Done reply) opens n v refl refl old
      | inr new ↦ inr (inr (record {
        call = k;
        caller = caller;
        reply = reply;
        spec = spec;
        number = number;
        event = refl;
        outcome = refl;
        found = at;
        request = asks;
        answer = answers;
        named = new.1;
        is_spec = ap (λ (w : StandingView). w.spec) new.0;
        is_at = ap (λ (w : StandingView). w.at) new.0;
      }))
    ]
built_view m k caller at reply opens n v _ asks _ answers e = kept m (Step k) (Done reply) opens n v refl refl (appended_none m.views n v e)
  where
    appended_none : (views : List StandingView) (n : ℕ) (v : StandingView) → view_of n (views ++ []) ≡ Some v → view_of n views ≡ Some v
    appended_none [] n v e = e
    appended_none (w ∷ views) n v e =
        elim (eqb_tells w.number n) [
          | inl p ↦ rw p.0 (rw p.0 at e)
          | inr p ↦ let rest = rw p.0 at e in rw p.0 (appended_none views n v rest)
        ]

view_before_step : (m : Moment) (k : CallNo) (r : Option OpenCall) → call_of k.0 m.calls ≡ r → (o : Outcome) (opens n : ℕ) (v : StandingView)
    → view_of n (after_call_step m r o opens).views ≡ Some v → Comes m (Step k) o opens n v
view_before_step m k None at o opens n v e = kept m (Step k) o opens n v refl refl e
view_before_step m k (Some caller) at Moved opens n v e = kept m (Step k) Moved opens n v refl refl e
view_before_step m k (Some caller) at Again opens n v e = kept m (Step k) Again opens n v refl refl e
view_before_step m k (Some caller) at (Commit number) opens n v e = kept m (Step k) (Commit number) opens n v refl refl e
view_before_step m k (Some caller) at (Done reply) opens n v e =
    built_view m k caller at reply opens n v caller.request refl reply.answer refl e
view_before_step m k (Some caller) at (Refused refusal) opens n v e = kept m (Step k) (Refused refusal) opens n v refl refl e
view_before_step m k (Some caller) at o opens n v e = kept m (Step k) o opens n v refl refl e

moved_number : (moved w : StandingView) → (if w.number == moved.number then record w { at = w.at + 1 } else w).number ≡ w.number
moved_number moved w = elim (eqb_tells w.number moved.number) [ inl p ↦ rw p.0 | inr p ↦ rw p.0 ]

-- whether an apply takes a view on, by the view that it means
taken_by : (m : Moment) (view : ViewNo) (number n : ℕ) (r : Option StandingView) → meant_view view.0 m.views ≡ r → (b : Bool) → is_view (record { 0 = n }) r ≡ b
    → takes_on_by (record { 0 = n }) m (Apply view) (Applied number) ≡ b
taken_by m view number n r meant b e = ap (λ (found_view : Option StandingView). is_view (record { 0 = n }) found_view) meant ∙ e

view_before_apply : (m : Moment) (view : ViewNo) (number : ℕ) (r : Option StandingView) → meant_view view.0 m.views ≡ r → (opens n : ℕ) (v : StandingView)
    → view_of n (move_view r m.views) ≡ Some v → Comes m (Apply view) (Applied number) opens n v
view_before_apply m view number None meant opens n v e =
    kept m (Apply view) (Applied number) opens n v refl (taken_by m view number n None meant false refl) e
view_before_apply m view number (Some moved) meant opens n v e =
    let step = λ (w : StandingView). if w.number == moved.number then record w { at = w.at + 1 } else w in
    let r = found_before_map (λ (w : StandingView). w.number) step (moved_number moved) n m.views v e in
    let named : r.0.number ≡ n = found (λ (w : StandingView). w.number) n m.views r.0 r.1 in
    elim (eqb_tells r.0.number moved.number) [
      | inl p ↦
          let is : v ≡ record r.0 { at = r.0.at + 1 } = r.2 ∙ ap (λ (b : Bool). if b then record r.0 { at = r.0.at + 1 } else r.0) p.0 in
          let it : (moved.number == n) ≡ true = elim (eqb_tells moved.number n) [ inl q ↦ q.0 | inr q ↦ absurd (q.1 (sym p.1 ∙ named)) ] in
          inr (inl (record {
            old = r.0;
            found = r.1;
            spec = ap (λ (w : StandingView). w.spec) is;
            at = ap (λ (w : StandingView). w.at) is;
            view = view;
            number = number;
            event = refl;
            outcome = refl;
            moved = moved;
            meant = meant;
            same = p.1;
            undropped = refl;
            taken = taken_by m view number n (Some moved) meant true it;
          }))
      | inr p ↦
          let is : v ≡ r.0 = r.2 ∙ ap (λ (b : Bool). if b then record r.0 { at = r.0.at + 1 } else r.0) p.0 in
          let other : (moved.number == n) ≡ false = elim (eqb_tells moved.number n) [ inl q ↦ absurd (p.1 (named ∙ sym q.1)) | inr q ↦ q.0 ] in
          inl (record {
            old = r.0;
            found = r.1;
            spec = ap (λ (w : StandingView). w.spec) is;
            at = ap (λ (w : StandingView). w.at) is;
            undropped = refl;
            untaken = taken_by m view number n (Some moved) meant false other;
          })
    ]

view_before_drop : (m : Moment) (view : ViewNo) (opens n : ℕ) (v : StandingView) → view_of n (without_view view.0 m.views) ≡ Some v
    → Comes m (ViewDrop view) Dropped opens n v
view_before_drop m view opens n v e =
    let other : (view.0 == n) ≡ false = elim (eqb_tells view.0 n) [
      | inl p ↦
          let gone = left_out (λ (w : StandingView). w.number) n m.views in
          let there = subst (λ (k : ℕ). view_of n (without_view k m.views) ≡ Some v) p.1 e in
          cc
      | inr p ↦ p.0
    ] in
    kept m (ViewDrop view) Dropped opens n v other refl (found_before_filter (λ (w : StandingView). w.number) view.0 n m.views v e)

-- each view that exists after an event existed before, or is built by it
pub view_before : (m : Moment) (e : Event) (o : Outcome) (opens n : ℕ) (v : StandingView) → view_of n (after_event m e o opens).views ≡ Some v
    → IsKept m e o n v ⊎ (IsMoved m e o n v ⊎ IsNew m e o opens n v)
view_before m (Begin pass request) (Call number) opens n v e = kept m (Begin pass request) (Call number) opens n v refl refl e
view_before m (Begin pass request) o opens n v e = kept m (Begin pass request) o opens n v refl refl e
view_before m (Step call) o opens n v e = view_before_step m call (call_of call.0 m.calls) refl o opens n v e
view_before m (Apply view) (Applied number) opens n v e = view_before_apply m view number (meant_view view.0 m.views) refl opens n v e
view_before m (Apply view) o opens n v e = kept m (Apply view) o opens n v refl refl e
view_before m (ViewDrop view) Dropped opens n v e = view_before_drop m view opens n v e
view_before m (ViewDrop view) o opens n v e = kept m (ViewDrop view) o opens n v refl refl e
view_before m Advance (Epoch number) opens n v e = kept m Advance (Epoch number) opens n v refl refl e
view_before m Advance o opens n v e = kept m Advance o opens n v refl refl e
view_before m (ViewRead view floor start limit) o opens n v e = kept m (ViewRead view floor start limit) o opens n v refl refl e
view_before m Collect o opens n v e = kept m Collect o opens n v refl refl e

-- the begin of an open call stands in the history
pub record HasBegun (h : History) (n : ℕ) (call : OpenCall) : Type 0 where
  pub pass : PassNo
  pub request : Request
  pub number : CallNo
  pub note : ℕ
  pub between : History
  pub before : History
  pub begun : h ≡ between ++ happening (Begin pass request) (Call number) note ∷ before
  pub named : number.0 ≡ n
  pub asked : call.request ≡ request

pub call_has_begun : (h : History) (n : ℕ) (call : OpenCall) → call_of n (moment h).calls ≡ Some call → HasBegun h n call
call_has_begun [] n call e = cc
call_has_begun (x ∷ h) n call e =
    elim (call_before (moment h) x.event x.outcome x.opens n call e) [
      | inl old ↦
          let b = call_has_begun h n old.0 old.1 in
          record {
            pass = b.pass;
            request = b.request;
            number = b.number;
            note = b.note;
            between = x ∷ b.between;
            before = b.before;
            begun = ap (λ (z : History). x ∷ z) b.begun;
            named = b.named;
            asked = old.2.request ∙ b.asked;
          }
      | inr new ↦ record {
        pass = new.pass;
        request = new.request;
        number = new.number;
        note = x.opens;
        between = [];
        before = h;
        begun = ap (λ (e : Event). happening e x.outcome x.opens ∷ h) new.event ∙ ap (λ (o : Outcome). happening (Begin new.pass new.request) o x.opens ∷ h) new.outcome;
        named = new.named;
        asked = ap (λ (c : OpenCall). c.request) new.is;
      }
    ]

-- what is known of a standing view by the history alone: who built it, and what came of it since
pub record HasStood (h : History) (view : ViewNo) (spec : ViewSpec) (at : ℕ) : Type 0 where
  pub reply : Reply
  pub before : History
  pub until : History
  pub built : IsFinished h (Build spec) reply before until
  pub answer : reply.answer ≡ Built view
  pub kept_since : NoneDrops view built.later
  pub place : at ≡ built.end_note + applies view (happening (Step built.number) (Done reply) built.end_note ∷ until) built.later

-- after an event that doesn't drop it, and takes it on or not
later_stood : (x : Happening) (h : History) (view : ViewNo) (spec : ViewSpec) (at : ℕ) → HasStood h view spec at → drops view x ≡ false
    → (taken : Bool) → takes_on view h x ≡ taken → (now : ℕ) → now ≡ at + one_if taken → HasStood (x ∷ h) view spec now
later_stood x h view spec at b undropped taken takes now is =
    let end : History = happening (Step b.built.number) (Done b.reply) b.built.end_note ∷ b.until in
    let again : takes_on view (b.built.later ++ end) x ≡ taken = ap (λ (z : History). takes_on view z x) (sym b.built.ended) ∙ takes in
    let more : one_if (takes_on view (b.built.later ++ end) x) ≡ one_if taken = ap one_if again in
    record {
      reply = b.reply;
      before = b.before;
      until = b.until;
      answer = b.answer;
      built = record {
        pass = b.built.pass;
        number = b.built.number;
        begin_note = b.built.begin_note;
        end_note = b.built.end_note;
        between = b.built.between;
        later = x ∷ b.built.later;
        begun = b.built.begun;
        ended = ap (λ (z : History). x ∷ z) b.built.ended;
      };
      kept_since = (undropped, b.kept_since);
      place = omega (arith, is, b.place, more);
    }

new_stood : (x : Happening) (h : History) (view : ViewNo) (v : StandingView) → IsNew (moment h) x.event x.outcome x.opens view.0 v → HasStood (x ∷ h) view v.spec v.at
new_stood x h view v new =
    let b = call_has_begun h new.call.0 new.caller new.found in
    let same_number : b.number ≡ new.call = ap (λ (k : ℕ). let c : CallNo = record { 0 = k } in c) b.named in
    let same_view : new.number ≡ view = ap (λ (k : ℕ). let w : ViewNo = record { 0 = k } in w) new.named in
    let asks : b.request ≡ Build v.spec = sym b.asked ∙ new.request ∙ ap Build (sym new.is_spec) in
    record {
      reply = new.reply;
      before = b.before;
      until = h;
      answer = new.answer ∙ ap Built same_view;
      built = record {
        pass = b.pass;
        number = b.number;
        begin_note = b.note;
        end_note = x.opens;
        between = b.between;
        later = [];
        begun = b.begun ∙ ap (λ (q : Request). b.between ++ happening (Begin b.pass q) (Call b.number) b.note ∷ b.before) asks;
        ended = ap (λ (e : Event). happening e x.outcome x.opens ∷ h) new.event
            ∙ ap (λ (o : Outcome). happening (Step new.call) o x.opens ∷ h) new.outcome
            ∙ ap (λ (c : CallNo). happening (Step c) (Done new.reply) x.opens ∷ h) (sym same_number);
      };
      kept_since = tt;
      place = let at = new.is_at in omega (arith, at);
    }

-- each standing view was built, and stands where what came since has led it
pub view_has_stood : (h : History) (view : ViewNo) (v : StandingView) → view_of view.0 (moment h).views ≡ Some v → HasStood h view v.spec v.at
view_has_stood [] view v e = cc
view_has_stood (x ∷ h) view v e =
    elim (view_before (moment h) x.event x.outcome x.opens view.0 v e) [
      | inl k ↦
          let old = later_stood x h view k.old.spec k.old.at (view_has_stood h view k.old k.found) k.undropped false k.untaken v.at (let at = k.at in omega (arith, at)) in
          subst (λ (s : ViewSpec). HasStood (x ∷ h) view s v.at) (sym k.spec) old
      | inr other ↦ elim other [
        | inl k ↦
            let old = later_stood x h view k.old.spec k.old.at (view_has_stood h view k.old k.found) k.undropped true k.taken v.at k.at in
            subst (λ (s : ViewSpec). HasStood (x ∷ h) view s v.at) (sym k.spec) old
        | inr new ↦ new_stood x h view v new
      ]
    ]
