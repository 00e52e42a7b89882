-- What a legal history says of a call that has finished.
use Rattle.std.proofs.Common.{◌≡◌, ℕ, [], ◌∷◌, ◌++◌, length, Option, Some, None, ap, subst, refl, arith}
use Rattle.mt_promise.proofs.HistoryLemmas.{Sometime-end}
use Rattle.mt_promise.proofs.CallLemmas.{BeganSo, began_so}
use Rattle.mt_promise.specs.Headline.{IsFinished, AtSomeMoment, AtEachMoment}
use Rattle.mt_promise.specs.History.{History, Happening, happening, Moment, OpenCall, moment, call_of, Sometime, Throughout}
use Rattle.mt_promise.specs.RightAnswers.{RightAnswer}
use Rattle.mt_promise.specs.Legal.{Legal, MayStepAt, RightReply}
use Rattle.mt_types.specs.declared.numbers.PassNo.{PassNo}
use Rattle.mt_types.specs.declared.event.Event.TheVariants.{Begin, Step}
use Rattle.mt_types.specs.declared.event.Outcome.TheVariants.{Call, Done}
use Rattle.mt_types.specs.declared.event.Request.{Request}
use Rattle.mt_types.specs.declared.event.Reply.{Reply}

-- each past of a legal history is legal, and its next event may happen
pub legal_before : (C : ℕ) (later : History) (x : Happening) (past : History) → Legal C (later ++ x ∷ past) → Legal C (x ∷ past)
legal_before C [] x past legal = legal
legal_before C (y ∷ later) x past legal = legal_before C later x past legal.0

-- what is known when a call is done
pub record IsDone (C : ℕ) (request : Request) (reply : Reply) (before past : History) (note : ℕ) : Type 0 where
  pub call : OpenCall
  pub legal : Legal C past
  pub so : (pass : PassNo) × BeganSo call pass request before
  pub right : RightReply C past call reply note
  pub answer : RightAnswer C past call request reply.answer note

-- the call that a step ends is open, and its reply is right
pub done_call : (C : ℕ) (past : History) (k : ℕ) (r : Option OpenCall) → call_of k (moment past).calls ≡ r → (reply : Reply) (note : ℕ)
    → MayStepAt C past r (Done reply) note → (call : OpenCall) × (call_of k (moment past).calls ≡ Some call) × RightReply C past call reply note
done_call C past k None at reply note may = cc
done_call C past k (Some call) at reply note may = (call, at, may)

pub finished : (C : ℕ) (h : History) → Legal C h → (request : Request) (reply : Reply) (before past : History)
    → (f : IsFinished h request reply before past) → IsDone C request reply before past f.end_note
finished C h legal request reply before past f =
    let whole = subst (λ (z : History). Legal C z) f.ended legal in
    let end = legal_before C f.later (happening (Step f.number) (Done reply) f.end_note) past whole in
    let done = done_call C past f.number.0 (call_of f.number.0 (moment past).calls) refl reply f.end_note end.1 in
    let start = f.between ++ happening (Begin f.pass request) (Call f.number) f.begin_note ∷ before in
    let legal_start = subst (λ (z : History). Legal C z) f.begun end.0 in
    let open_start = subst (λ (z : History). call_of f.number.0 (moment z).calls ≡ Some done.0) f.begun done.1 in
    let so = began_so C f.between before f.pass request f.number f.begin_note legal_start done.0 open_start in
    record {
      call = done.0;
      legal = end.0;
      so = (f.pass, so);
      right = done.2;
      answer = subst (λ (q : Request). RightAnswer C past done.0 q reply.answer f.end_note) so.request_is done.2.answer;
    }

-- what was so at some moment since the begin
pub at_some_moment : (before past : History) (began : ℕ) (P : Moment → Type 0) → began ≡ length before → Sometime began P past → AtSomeMoment before past P
at_some_moment before past began P e s =
    let r = Sometime-end began P past s in
    record { newer = r.0; then = r.1; before_end = r.2; since_begin = omega (arith, e, r.3); holds = r.4 }

-- what is so at each moment since the begin
pub at_each_moment : (before past : History) (began : ℕ) (P : Moment → Type 0) → began ≡ length before → AtEachMoment before past P → Throughout began P past
at_each_moment before [] began P e each = λ since. each [] [] refl (omega (arith, e, since))
at_each_moment before (x ∷ past) began P e each = (
  λ since. each [] (x ∷ past) refl (omega (arith, e, since)),
  at_each_moment before past began P e (λ newer then is. each (x ∷ newer) then (ap (λ (z : History). x ∷ z) is)),
)
