-- One call alone, put or remove, from begin to end, after a history with no open call.
use Rattle.std.proofs.Common.{◌≡◌, ◌<◌, ◌==◌, ◌+◌, ℕ, Bool, false, List, [], ◌∷◌, ◌++◌, length, Option, Some, None, ◌∙◌, ap, sym, subst, refl, inl, arith, length-append}
use Rattle.std.specs.Prelude.{if◌then◌else◌, not}
use Rattle.std.proofs.lemmas.List.{append-nil}
use Rattle.std.proofs.lemmas.Bool.{eq-eqb, lt-leb}
use Rattle.mt_types.specs.Numbers.{greatest_number}
use Rattle.mt_types.specs.Limits.{request_fault}
use Rattle.mt_types.specs.declared.refusal.Refusal.{Refusal}
use Rattle.mt_types.specs.declared.numbers.PassNo.{PassNo}
use Rattle.mt_types.specs.declared.numbers.CallNo.{CallNo}
use Rattle.mt_types.specs.declared.event.Event.TheVariants.{Begin, Step}
use Rattle.mt_types.specs.declared.event.Outcome.TheVariants.{Call, Commit, Done}
use Rattle.mt_types.specs.declared.event.Request.{Request}
use Rattle.mt_types.specs.declared.event.Answer.{Answer}
use Rattle.mt_types.specs.declared.event.Reply.{Reply}
use Rattle.mt_promise.specs.History.{History, happening, Moment, OpenCall, StandingView, view_built, moment, call_of, new_call, replace_call, without_call, after_event, after_call_step, after_step, change_of}
use Rattle.mt_promise.specs.RightAnswers.{RightAnswer}
use Rattle.mt_promise.specs.Legal.{Legal, MayHappen, MayBegin, MayStepAt, MayCommit, begin_fault, is_build, view_places}
use Rattle.mt_reach.specs.Reach.{IsClosedAt}

abbrev pub pass : PassNo
pass = record { 0 = 0 }

-- the number of the next call
abbrev pub next : History → CallNo
next h = record { 0 = (moment h).begun + 1 }

same_number : (n : ℕ) (call : OpenCall) (other : Option OpenCall) → (if n == n then Some call else other) ≡ Some call
same_number n call other = ap (λ (b : Bool). if b then Some call else other) (eq-eqb n n refl)

found_alone : (calls : List OpenCall) (call : OpenCall) (number : ℕ) → calls ≡ call ∷ [] → call.number ≡ number → call_of number calls ≡ Some call
found_alone calls call number is numbered = ap (call_of number) is ∙ ap (λ (n : ℕ). call_of n (call ∷ [])) (sym numbered) ∙ same_number call.number call None

replaced_alone : (calls : List OpenCall) (call new : OpenCall) → calls ≡ call ∷ [] → new.number ≡ call.number → replace_call new calls ≡ new ∷ []
replaced_alone calls call new is same = ap (replace_call new) is ∙ ap (λ (n : ℕ). (if call.number == n then new else call) ∷ []) same ∙ ap (λ (b : Bool). (if b then new else call) ∷ []) (eq-eqb call.number call.number refl)

without_alone : (calls : List OpenCall) (call : OpenCall) → calls ≡ call ∷ [] → without_call call.number calls ≡ []
without_alone calls call is = ap (without_call call.number) is ∙ ap (λ (b : Bool). if not b then call ∷ [] else []) (eq-eqb call.number call.number refl)

no_more : (k : ℕ) → k + 0 ≡ k
no_more k = omega arith

-- nothing refuses the begin
unrefused : (C begun opened places : ℕ) (request : Request) → request_fault C request ≡ None → is_build request ≡ false → begun < greatest_number → opened ≡ 0
    → begin_fault C begun opened places request ≡ None
unrefused C begun opened places request fits plain unspent none =
    rw (fits, lt-leb greatest_number begun unspent, none, plain) refl

-- a call alone of this request has made its change, and nothing else
pub record IsOneCallOn (h : History) (request : Request) (later : History) : Type 0 where
  pub own : History
  pub block : later ≡ own ++ h
  pub commits : (moment later).commits ≡ (moment h).commits ++ change_of request
  pub begun : (moment later).begun ≡ (moment h).begun + 1
  pub calls : (moment later).calls ≡ []
  pub built : (moment later).built ≡ (moment h).built
  pub views : (moment later).views ≡ (moment h).views
  pub epoch : (moment later).epoch ≡ (moment h).epoch

-- a request alone, made to its end
module _ (C : ℕ) (h : History) (legal : Legal C h) (none_open : (moment h).calls ≡ []) (unspent : (moment h).begun < greatest_number) (request : Request)
    (fits : request_fault C request ≡ None) (plain : is_build request ≡ false) where
  abbrev pub begun : History
  begun = happening (Begin pass request) (Call (next h)) 0 ∷ h

  abbrev pub call : OpenCall
  call = new_call (moment h) pass.0 request (next h).0

  may_begin : MayHappen C h (Begin pass request) (Call (next h)) 0
  may_begin =
      subst (λ (f : Option Refusal). MayBegin (moment h) f (Call (next h)))
      (sym (unrefused C (moment h).begun (length (moment h).calls) (view_places (moment h)) request fits plain unspent (ap length none_open)))
      (inl refl)

  calls_begun : (moment begun).calls ≡ call ∷ []
  calls_begun = ap (λ (l : List OpenCall). l ++ call ∷ []) none_open

  found_begun : call_of (next h).0 (moment begun).calls ≡ Some call
  found_begun = found_alone (moment begun).calls call (next h).0 calls_begun refl

  abbrev pub number : ℕ
  number = length (moment h).commits + 1

  abbrev pub committed : History
  committed = happening (Step (next h)) (Commit number) 0 ∷ begun

  abbrev pub call_committed : OpenCall
  call_committed = record call { committed = Some number; moves = 0 }

  commits_as : after_event (moment begun) (Step (next h)) (Commit number) 0 ≡ after_step (moment begun) call (Commit number) 0
  commits_as = ap (λ (r : Option OpenCall). after_call_step (moment begun) r (Commit number) 0) found_begun

  calls_committed : (moment committed).calls ≡ call_committed ∷ []
  calls_committed = ap (λ (m : Moment). m.calls) commits_as ∙ replaced_alone (moment begun).calls call call_committed calls_begun refl

  pub commits_committed : (moment committed).commits ≡ (moment h).commits ++ change_of request
  commits_committed = ap (λ (m : Moment). m.commits) commits_as

  found_committed : call_of (next h).0 (moment committed).calls ≡ Some call_committed
  found_committed = found_alone (moment committed).calls call_committed (next h).0 calls_committed refl

  may_commit : MayCommit C begun call request number → MayHappen C begun (Step (next h)) (Commit number) 0
  may_commit may = subst (λ (r : Option OpenCall). MayStepAt C begun r (Commit number) 0) (sym found_begun) may

  abbrev pub reply_of : Answer → Reply
  reply_of answer = record { pass = pass; call = next h; from = length (moment h).commits; to = length (moment committed).commits; answer = answer }

  abbrev pub done : Answer → History
  done answer = happening (Step (next h)) (Done (reply_of answer)) 0 ∷ committed

  may_end : (answer : Answer) → RightAnswer C committed call_committed request answer 0 → MayHappen C committed (Step (next h)) (Done (reply_of answer)) 0
  may_end answer right =
      subst (λ (r : Option OpenCall). MayStepAt C committed r (Done (reply_of answer)) 0) (sym found_committed)
      (record { pass = refl; number = refl; from = refl; to = refl; answer = right })

  ends_as : (answer : Answer) → after_event (moment committed) (Step (next h)) (Done (reply_of answer)) 0 ≡ after_step (moment committed) call_committed (Done (reply_of answer)) 0
  ends_as answer = ap (λ (r : Option OpenCall). after_call_step (moment committed) r (Done (reply_of answer)) 0) found_committed

  pub legal_done : (answer : Answer) → MayCommit C begun call request number → RightAnswer C committed call_committed request answer 0 → Legal C (done answer)
  legal_done answer may right = (((legal, may_begin), may_commit may), may_end answer right)

  pub commits_done : (answer : Answer) → (moment (done answer)).commits ≡ (moment h).commits ++ change_of request
  commits_done answer = ap (λ (m : Moment). m.commits) (ends_as answer) ∙ commits_committed

  pub one_call_done : (answer : Answer) → view_built request answer 0 ≡ [] → IsOneCallOn h request (done answer)
  one_call_done answer unbuilt = record {
    own = happening (Step (next h)) (Done (reply_of answer)) 0 ∷ happening (Step (next h)) (Commit number) 0 ∷ happening (Begin pass request) (Call (next h)) 0 ∷ [];
    block = refl;
    commits = commits_done answer;
    begun = ap (λ (m : Moment). m.begun) (ends_as answer) ∙ ap (λ (m : Moment). m.begun) commits_as;
    calls = ap (λ (m : Moment). m.calls) (ends_as answer) ∙ without_alone (moment committed).calls call_committed calls_committed;
    built =
        ap (λ (m : Moment). m.built) (ends_as answer)
        ∙ ap (λ (l : List StandingView). (moment committed).built + length l) unbuilt
        ∙ no_more (moment committed).built
        ∙ ap (λ (m : Moment). m.built) commits_as;
    views =
        ap (λ (m : Moment). m.views) (ends_as answer)
        ∙ ap (λ (l : List StandingView). (moment committed).views ++ l) unbuilt
        ∙ append-nil (moment committed).views
        ∙ ap (λ (m : Moment). m.views) commits_as;
    epoch = ap (λ (m : Moment). m.epoch) (ends_as answer) ∙ ap (λ (m : Moment). m.epoch) commits_as;
  }

-- a call of one change after a closed history leaves a closed one
pub closed_on : (h later : History) (n : ℕ) (request : Request) → IsClosedAt n h → length (change_of request) ≡ 1 → IsOneCallOn h request later → IsClosedAt (n + 1) later
closed_on h later n request closed one on =
    let long = length-append (moment h).commits (change_of request) in
    record {
      commits = ap length on.commits ∙ long ∙ ap (λ (k : ℕ). length (moment h).commits + k) one ∙ ap (λ (k : ℕ). k + 1) closed.commits;
      begun = on.begun ∙ ap (λ (k : ℕ). k + 1) closed.begun;
      calls = on.calls;
      built = on.built ∙ closed.built;
      views = on.views ∙ closed.views;
      epoch = on.epoch ∙ closed.epoch;
    }
