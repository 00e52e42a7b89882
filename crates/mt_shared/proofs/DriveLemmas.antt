-- A drive continues with an event, and ends with one.
use Rattle.std.proofs.Common.{arith, sym, ap, subst, ◌≡◌, ◌≤◌, ◌⊎◌, ◌∙◌, ◌∷◌, ◌++◌, [], List, ℕ, refl, append_assoc, append-nil, inl, inr}
use Rattle.std.specs.Prelude.{All, Result, Ok, Err, Some, IfOk, IfErr}
use Rattle.std.proofs.lemmas.List.Elements.{All-append, All-push, All-nil, All-cons, All-head, All-tail}
use Rattle.mt_types.specs.declared.numbers.PassNo.{PassNo}
use Rattle.mt_types.specs.declared.numbers.CallNo.{CallNo}
use Rattle.mt_types.specs.declared.refusal.Refusal.{Refusal}
use Rattle.mt_types.specs.declared.refusal.Refusal.TheVariants.{WrongPass, Spent}
use Rattle.mt_types.specs.declared.event.Event.{Event}
use Rattle.mt_types.specs.declared.event.Event.TheVariants.{Begin, Step}
use Rattle.mt_types.specs.declared.event.Request.{Request}
use Rattle.mt_types.specs.declared.event.Reply.{Reply}
use Rattle.mt_types.specs.declared.event.Outcome.{Outcome}
use Rattle.mt_types.specs.declared.event.Outcome.TheVariants.{Call, Moved, Again, Commit, Done, Refused}
use Rattle.mt_index.specs.Events.{GoesOnAtOnce}
use Rattle.mt_shared.specs.declared.driving.Started.{Started}
use Rattle.mt_shared.specs.declared.driving.Started.TheVariants.{Refused as RefusedStart}
use Rattle.mt_shared.specs.declared.trace.Entry.{Entry}
use Rattle.mt_shared.specs.declared.trace.Trace.{Trace}
use Rattle.mt_shared.specs.declared.trace.Trace.TheVariants.{Off, On, Lost}
use Rattle.mt_shared.specs.Traces.{entry, Gains}
use Rattle.mt_shared.specs.Passes.{PassView, IsTold, Suits, Counts, seen_in}
use Rattle.mt_shared.specs.Drives.{EventLaw, Runs, HasGone, IsBegun, IsStarted, Continues, IsStep, IsRunStep, whole, IsDriven, IsCut, IsRefused, IsReplyTo, IsDrive, Ends, EndsIn, EndsNone}

-- ---- a trace gains
pub gains_none : (t : Trace) → Gains t [] t
gains_none Off = tt
gains_none (On v) = sym (append-nil v.items)
gains_none Lost = tt

pub gains_more : (a b c : Trace) (xs ys : List Entry) → Gains a xs b → Gains b ys c → Gains a (xs ++ ys) c
gains_more Off Off Off xs ys g f = tt
gains_more (On u) (On v) (On w) xs ys g f = f ∙ ap (λ (l : List Entry). l ++ ys) g ∙ append_assoc u.items xs ys
gains_more (On u) (On v) Lost xs ys g f = tt
gains_more (On u) Lost Lost xs ys g f = tt
gains_more Lost Lost Lost xs ys g f = tt
gains_more Off Off (On w) xs ys g f = absurd f
gains_more Off Off Lost xs ys g f = absurd f
gains_more Off (On v) c xs ys g f = absurd g
gains_more Off Lost c xs ys g f = absurd g
gains_more (On u) Off c xs ys g f = absurd g
gains_more (On u) (On v) Off xs ys g f = absurd f
gains_more (On u) Lost Off xs ys g f = absurd f
gains_more (On u) Lost (On w) xs ys g f = absurd f
gains_more Lost Off c xs ys g f = absurd g
gains_more Lost (On v) c xs ys g f = absurd g
gains_more Lost Lost Off xs ys g f = absurd f
gains_more Lost Lost (On w) xs ys g f = absurd f

-- ---- one more event
module _ {S : Type 0} (does : EventLaw S) where
  pub runs_more : (s : S) (p : PassView) (xs : List Entry) (m : S) (r : PassView) (x : Entry) (t : S) (q : PassView) → Runs does s p xs m r → does m r x.event x.outcome t q → Runs does s p (xs ++ x ∷ []) t q
  runs_more s p [] m r x t q run d =
      (t, q, subst (λ (v : S). does v p x.event x.outcome t q) run.0 (subst (λ (v : PassView). does m v x.event x.outcome t q) run.1 d), (refl, refl))
  runs_more s p (y ∷ xs) m r x t q run d = (run.0, run.1, run.2, runs_more run.0 run.1 xs m r x t q run.3 d)

  pub runs_on : (s : S) (p : PassView) (xs : List Entry) (m : S) (r : PassView) (ys : List Entry) (t : S) (q : PassView) → Runs does s p xs m r → Runs does m r ys t q → Runs does s p (xs ++ ys) t q
  runs_on s p [] m r ys t q run more = subst (λ (v : S). Runs does v p ys t q) run.0 (subst (λ (v : PassView). Runs does m v ys t q) run.1 more)
  runs_on s p (x ∷ xs) m r ys t q run more = (run.0, run.1, run.2, runs_on run.0 run.1 xs m r ys t q run.3 more)

  -- the events of a drive whose call has begun
  pub record Begun (s : S) (p : PassView) (request : Request) (call : CallNo) (t : S) (q : PassView) : Type 0 where
    pub steps : List Entry
    pub are_steps : All (IsStep p.number call) steps
    pub runs : Runs does s p (entry p.number (Begin p.number request) (Call call) ∷ steps) t q
    pub traced : Gains p.trace (entry p.number (Begin p.number request) (Call call) ∷ steps) q.trace
    pub number : q.number ≡ p.number

  pub begins : (s : S) (p : PassView) (request : Request) (call : CallNo) (o : Outcome) (t : S) (q : PassView)
      → does s p (Begin p.number request) o t q → o ≡ Call call → Counts p (Begin p.number request) o q → Begun s p request call t q
  begins s p request call o t q d is counts = record {
    steps = [];
    are_steps = All-nil (IsStep p.number call);
    runs = (t, q, subst (λ (x : Outcome). does s p (Begin p.number request) x t q) is d, (refl, refl));
    traced = subst (λ (x : Outcome). Gains p.trace (entry p.number (Begin p.number request) x ∷ []) q.trace) is counts.trace;
    number = counts.number;
  }

  pub goes_on : (s : S) (p : PassView) (request : Request) (call : CallNo) (m : S) (r : PassView) (o : Outcome) (t : S) (q : PassView)
      → Begun s p request call m r → does m r (Step call) o t q → Continues o → Counts r (Step call) o q → Begun s p request call t q
  goes_on s p request call m r o t q b d more counts =
      let x = entry p.number (Step call) o in
      record {
        steps = b.steps ++ x ∷ [];
        are_steps = All-push (IsStep p.number call) b.steps x b.are_steps (record { pass = refl; event = refl; outcome = more });
        runs = runs_more s p (entry p.number (Begin p.number request) (Call call) ∷ b.steps) m r x t q b.runs d;
        traced = gains_more p.trace r.trace q.trace (entry p.number (Begin p.number request) (Call call) ∷ b.steps) (x ∷ []) b.traced (subst (λ (n : PassNo). Gains r.trace (entry n (Step call) o ∷ []) q.trace) b.number counts.trace);
        number = counts.number ∙ b.number;
      }

  -- steps of a run are steps of the call
  at_once : (o : Outcome) → GoesOnAtOnce o → Continues o
  at_once Moved on = tt
  at_once (Commit number) on = tt
  at_once _ on = absurd on

  run_steps : (n : PassNo) (call : CallNo) (xs : List Entry) → All (IsRunStep n call) xs → All (IsStep n call) xs
  run_steps n call [] all = All-nil (IsStep n call)
  run_steps n call (x ∷ xs) all =
      let one = All-head (IsRunStep n call) x xs all in
      All-cons (IsStep n call) x xs (record { pass = one.pass; event = one.event; outcome = at_once x.outcome one.outcome })
      (run_steps n call xs (All-tail (IsRunStep n call) x xs all))

  -- the steps of a run, but for its last
  pub run_on : (s : S) (p : PassView) (request : Request) (call : CallNo) (m : S) (r : PassView) (o : Outcome) (t : S) (q : PassView)
      → Begun s p request call m r → (g : HasGone does m r call o t q) → Begun s p request call g.then g.between
  run_on s p request call m r o t q b g = record {
    steps = b.steps ++ g.steps;
    are_steps = All-append (IsStep p.number call) b.steps g.steps b.are_steps (subst (λ (n : PassNo). All (IsStep n call) g.steps) b.number (run_steps r.number call g.steps g.are_steps));
    runs = runs_on s p (entry p.number (Begin p.number request) (Call call) ∷ b.steps) m r g.steps g.then g.between b.runs g.runs;
    traced = gains_more p.trace r.trace g.between.trace (entry p.number (Begin p.number request) (Call call) ∷ b.steps) g.steps b.traced g.traced;
    number = g.number ∙ b.number;
  }

  pub driven : (s : S) (p : PassView) (request : Request) (call : CallNo) (m : S) (r : PassView) (o : Outcome) (t : S) (q : PassView) (reply : Reply)
      → Begun s p request call m r → does m r (Step call) o t q → o ≡ Done reply → Counts r (Step call) o q → reply.call ≡ call → IsDriven does s p request reply t q
  driven s p request call m r o t q reply b d is counts same =
      let P : CallNo → Type 0 = λ c. All (IsStep p.number c) b.steps × Runs does s p (whole p.number request c b.steps (Done reply)) t q × Gains p.trace (whole p.number request c b.steps (Done reply)) q.trace in
      let x = entry p.number (Step call) (Done reply) in
      let run = runs_more s p (entry p.number (Begin p.number request) (Call call) ∷ b.steps) m r x t q b.runs (subst (λ (w : Outcome). does m r (Step call) w t q) is d) in
      let gain = gains_more p.trace r.trace q.trace (entry p.number (Begin p.number request) (Call call) ∷ b.steps) (x ∷ []) b.traced (subst (λ (n : PassNo). Gains r.trace (entry n (Step call) (Done reply) ∷ []) q.trace) b.number (subst (λ (w : Outcome). Gains r.trace (entry r.number (Step call) w ∷ []) q.trace) is counts.trace)) in
      let all = subst P (sym same) (b.are_steps, run, gain) in
      record { steps = b.steps; are_steps = all.0; runs = all.1; traced = all.2 }

  pub cut : (s : S) (p : PassView) (request : Request) (call : CallNo) (m : S) (r : PassView) (o : Outcome) (t : S) (q : PassView) (refusal : Refusal)
      → Begun s p request call m r → does m r (Step call) o t q → EndsIn refusal p.seen o → IsCut does s p request refusal t q
  cut s p request call m r o t q refusal b d ends = record {
    call = call;
    steps = b.steps;
    last = o;
    are_steps = b.are_steps;
    runs = runs_more s p (entry p.number (Begin p.number request) (Call call) ∷ b.steps) m r (entry p.number (Step call) o) t q b.runs d;
    ends = ends;
  }

-- ---- what a pass learns
no_end_refused : (o : Outcome) (refusal : Refusal) → EndsNone o → o ≡ Refused refusal → ⊥
no_end_refused o refusal none is = subst (λ (w : Outcome). EndsNone w) is none

-- an event that was refused as none of the pass is a refusal
unmade : (o : Outcome) → ((o ≡ Refused WrongPass) ⊎ (o ≡ Refused Spent)) → EndsNone o → ⊥
unmade o is none = elim is [ inl e ↦ no_end_refused o WrongPass none e | inr e ↦ no_end_refused o Spent none e ]

call_ends_none : (o : Outcome) (call : CallNo) → o ≡ Call call → EndsNone o
call_ends_none o call is = subst (λ (w : Outcome). EndsNone w) (sym is) tt

continues : (pass : PassNo) (call : CallNo) (o : Outcome) → EndsNone o → Suits pass (Step call) o → Continues o
continues pass call Moved none suits = tt
continues pass call Again none suits = tt
continues pass call (Commit number) none suits = tt
continues pass call (Done reply) none suits = absurd none
continues pass call (Refused refusal) none suits = absurd none
continues pass call _ none suits = absurd suits

-- so it was made
pub counted : (p : PassView) (e : Event) (o : Outcome) (q : PassView) → EndsNone o → IsTold p e o q → Counts p e o q × Suits p.number e o
counted p e o q none told = elim told [ inl u ↦ absurd (unmade o u.0 none) | inr m ↦ m ]

pub told_number : (p : PassView) (e : Event) (o : Outcome) (q : PassView) → IsTold p e o q → q.number ≡ p.number
told_number p e o q told = elim told [ inl u ↦ ap (λ (x : PassView). x.number) u.1 | inr m ↦ m.0.number ]

pub told_seen : (p : PassView) (e : Event) (o : Outcome) (q : PassView) → IsTold p e o q → p.seen ≤ q.seen
told_seen p e o q told = elim told [ inl u ↦ (let same = ap (λ (x : PassView). x.seen) u.1 in omega (arith, same)) | inr m ↦ (let sees = m.0.seen in omega (arith, sees)) ]

module _ {S : Type 0} (does : EventLaw S) (s : S) (p : PassView) (request : Request) where
  pub begins_told : (call : CallNo) (o : Outcome) (t : S) (q : PassView) (named : PassNo) → named ≡ p.number → does s p (Begin named request) o t q → o ≡ Call call → IsTold p (Begin named request) o q → Begun does s p request call t q
  begins_told call o t q named same d is told =
      subst (λ (n : PassNo). does s p (Begin n request) o t q → IsTold p (Begin n request) o q → Begun does s p request call t q) (sym same)
      (λ d' told'. begins does s p request call o t q d' is (counted p (Begin p.number request) o q (call_ends_none o call is) told').0) d told

  pub goes_on_told : (call : CallNo) (m : S) (r : PassView) (o : Outcome) (t : S) (q : PassView) → Begun does s p request call m r → does m r (Step call) o t q → EndsNone o → IsTold r (Step call) o q → Begun does s p request call t q
  goes_on_told call m r o t q b d none told =
      let (counts, suits) = counted r (Step call) o q none told in
      goes_on does s p request call m r o t q b d (continues r.number call o none suits) counts

  -- what a drive gives that a step has ended
  pub record IsEnded (end : Result Reply Refusal) (t : S) (q : PassView) : Type 0 where
    pub reply : IfOk end (λ reply. IsReplyTo p reply q)
    pub driven : IfOk end (λ reply. IsDriven does s p request reply t q)
    pub refused : IfErr end (λ refusal. IsRefused does s p request refusal t q)

  reply_told : (call : CallNo) (m : S) (r : PassView) (o : Outcome) (t : S) (q : PassView) (reply : Reply) → Begun does s p request call m r → does m r (Step call) o t q → o ≡ Done reply → p.seen ≤ reply.from
      → Counts r (Step call) o q → Suits r.number (Step call) o → IsEnded (Ok reply) t q
  reply_told call m r o t q reply b d is late counts suits =
      let own : (reply.call ≡ call) × (reply.pass ≡ r.number) = subst (λ (w : Outcome). Suits r.number (Step call) w) is suits in
      let sees = counts.seen in
      let shown = ap seen_in is in
      record {
        reply = record { pass = own.1 ∙ b.number; from = late; to = omega (arith, sees, shown) };
        driven = driven does s p request call m r o t q reply b d is counts own.0;
        refused = tt;
      }

  pub ends_told : (call : CallNo) (m : S) (r : PassView) (o : Outcome) (t : S) (q : PassView) (seen : ℕ) (end : Result Reply Refusal) → Begun does s p request call m r → does m r (Step call) o t q → seen ≡ p.seen → Ends seen o (Some end) → IsTold r (Step call) o q → IsEnded end t q
  ends_told call m r o t q seen (Ok reply) b d same ends told =
      let late : p.seen ≤ reply.from = let l = ends.1 in omega (arith, same, l) in
      elim told [
        | inl u ↦ absurd (elim u.0 [ inl e ↦ clash WrongPass reply (sym e ∙ ends.0) | inr e ↦ clash Spent reply (sym e ∙ ends.0) ])
        | inr c ↦ reply_told call m r o t q reply b d ends.0 late c.0 c.1
      ]
    where
      clash : (refusal : Refusal) (reply : Reply) → Refused refusal ≡ Done reply → ⊥
      clash refusal reply e = cc
  ends_told call m r o t q seen (Err refusal) b d same ends told = record {
    reply = tt;
    driven = tt;
    refused = inr (cut does s p request call m r o t q refusal b d (subst (λ (n : ℕ). EndsIn refusal n o) same ends));
  }

  -- a run by which the call continues, and one that ends it
  pub goes_through : (call : CallNo) (m : S) (r : PassView) (o : Outcome) (t : S) (q : PassView) → Begun does s p request call m r → HasGone does m r call o t q → EndsNone o → Begun does s p request call t q
  goes_through call m r o t q b g none = goes_on_told call g.then g.between o t q (run_on does s p request call m r o t q b g) g.made none g.told

  pub run_ends : (call : CallNo) (m : S) (r : PassView) (o : Outcome) (t : S) (q : PassView) (seen : ℕ) (end : Result Reply Refusal) → Begun does s p request call m r → HasGone does m r call o t q → seen ≡ p.seen → Ends seen o (Some end) → IsEnded end t q
  run_ends call m r o t q seen end b g same ends = ends_told call g.then g.between o t q seen end (run_on does s p request call m r o t q b g) g.made same ends g.told

  pub starts : (call : CallNo) (t : S) (q : PassView) → IsBegun does s p request (Call call) t q → Begun does s p request call t q
  starts call t q b = begins_told call (Call call) t q p.number refl b.0 refl b.1

-- what a run leaves of a pass
module _ {S : Type 0} (does : EventLaw S) (s : S) (p : PassView) (call : CallNo) (o : Outcome) (t : S) (q : PassView) (g : HasGone does s p call o t q) where
  pub run_number : q.number ≡ p.number
  run_number = told_number g.between (Step call) o q g.told ∙ g.number

  pub run_seen : p.seen ≤ q.seen
  run_seen = let before = g.seen in let rises = told_seen g.between (Step call) o q g.told in omega (arith, before, rises)

-- ---- how a call that was started is driven to its end
module _ {S : Type 0} (does : EventLaw S) (s : S) (p : PassView) (request : Request) where
  -- the call has begun, and has been driven so far
  pub record IsUnderWay (call : CallNo) (t : S) (q : PassView) : Type 0 where
    pub run : Begun does s p request call t q
    pub number : q.number ≡ p.number
    pub seen : p.seen ≤ q.seen

  pub start_refused : (refusal : Refusal) (t : S) (q : PassView) → IsStarted does s p request (RefusedStart refusal) t q → IsDrive does s p request (Err refusal) t q
  start_refused refusal t q (d, told) = record {
    number = told_number p (Begin p.number request) (Refused refusal) q told;
    seen = told_seen p (Begin p.number request) (Refused refusal) q told;
    reply = tt;
    driven = tt;
    refused = inl d;
  }

  pub begun_goes : (call : CallNo) (t : S) (q : PassView) → IsBegun does s p request (Call call) t q → IsUnderWay call t q
  begun_goes call t q begun = record {
    run = starts does s p request call t q begun;
    number = told_number p (Begin p.number request) (Call call) q begun.1;
    seen = told_seen p (Begin p.number request) (Call call) q begun.1;
  }

  pub run_goes : (call : CallNo) (m : S) (r : PassView) (last : Outcome) (t : S) (q : PassView) → IsUnderWay call m r → HasGone does m r call last t q → EndsNone last → IsUnderWay call t q
  run_goes call m r last t q w gone none =
      let before = w.seen in
      let more = run_seen does m r call last t q gone in
      record {
        run = goes_through does s p request call m r last t q w.run gone none;
        number = run_number does m r call last t q gone ∙ w.number;
        seen = omega (arith, before, more);
      }

  pub run_finishes : (call : CallNo) (m : S) (r : PassView) (last : Outcome) (t : S) (q : PassView) (seen : ℕ) (end : Result Reply Refusal) → IsUnderWay call m r → HasGone does m r call last t q → seen ≡ p.seen → Ends seen last (Some end) → IsDrive does s p request end t q
  run_finishes call m r last t q seen end w gone same ends =
      let ended = run_ends does s p request call m r last t q seen end w.run gone same ends in
      let before = w.seen in
      let more = run_seen does m r call last t q gone in
      record {
        number = run_number does m r call last t q gone ∙ w.number;
        seen = omega (arith, before, more);
        reply = ended.reply;
        driven = ended.driven;
        refused = ended.refused;
      }

-- whatever call was started and led here is under way
abbrev pub UnderWay : {S : Type 0} → EventLaw S → ℕ → Started → S → PassView → CallNo → S → PassView → Type 0
UnderWay {S} does seen started m r call t q =
    (s : S) (p : PassView) (request : Request) → seen ≡ p.seen → IsStarted does s p request started m r → IsUnderWay does s p request call t q
