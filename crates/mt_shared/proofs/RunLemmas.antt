-- Steps of a run that are counted together are counted one by one; and a run on what a lock keeps is one somewhere.
use Rattle.std.proofs.Common.{arith, sym, ap, subst, ◌≡◌, ◌+◌, ◌-◌, ◌^◌, ◌≤◌, ◌<◌, ◌∙◌, ◌∷◌, [], List, ℕ, refl, length, get_or, set, map, Bool, true, false, ◌||◌, ◌&&◌, not, eqb, leb}
use Rattle.std.specs.Prelude.{All, MatchBool, max, sum_by}
use Rattle.std.proofs.lemmas.Bool.{eq-eqb}
use Rattle.std.proofs.lemmas.List.{get_or-set_same, set-get_or, set-set, length-set}
use Rattle.std.proofs.lemmas.List.Elements.{All-nil, All-cons, All-head, All-tail}
use Rattle.std.proofs.lemmas.List.Sums.{sum_by-append}
use Rattle.mt_types.specs.Numbers.{greatest_number}
use Rattle.mt_types.specs.declared.numbers.PassNo.{PassNo}
use Rattle.mt_types.specs.declared.numbers.CallNo.{CallNo}
use Rattle.mt_types.specs.declared.event.Event.{Event}
use Rattle.mt_types.specs.declared.event.Event.TheVariants.{Begin, Step}
use Rattle.mt_types.specs.declared.event.Request.{Request}
use Rattle.mt_types.specs.declared.event.Outcome.{Outcome}
use Rattle.mt_types.specs.declared.event.Outcome.TheVariants.{Call, Moved, Commit, Refused}
use Rattle.mt_types.specs.declared.refusal.Refusal.{Refusal}
use Rattle.mt_types.specs.declared.refusal.Refusal.TheVariants.{WrongPass, Spent}
use Rattle.mt_index.specs.declared.running.Run.{Run}
use Rattle.mt_index.specs.Calls.{pass_at}
use Rattle.mt_index.specs.Events.{GoesOnAtOnce, GoesThrough, Makes, MakesSteps, commit_count}
use Rattle.mt_commit.specs.Log.{newest}
use Rattle.mt_promise.specs.History.{History, happening}
use Rattle.mt_index.specs.Stands.{MachineView, Stands}
use Rattle.mt_index.proofs.EventLemmas.{pass-kept}
use Rattle.mt_index.proofs.RunLemmas.{begun_pass}
use Rattle.mt_shared.specs.declared.counters.Counters.{Counters}
use Rattle.mt_shared.specs.declared.trace.Entry.{Entry}
use Rattle.mt_shared.specs.declared.trace.Trace.{Trace}
use Rattle.mt_shared.specs.declared.trace.Trace.TheVariants.{Off}
use Rattle.mt_shared.specs.Traces.{entry, Gains}
use Rattle.mt_shared.specs.Passes.{PassView, IsTold, pass_after, seen_in}
use Rattle.mt_shared.specs.Counters.{counters_after, counters_with}
use Rattle.mt_shared.specs.declared.driving.Started.{Started}
use Rattle.mt_shared.specs.declared.driving.Started.TheVariants.{Refused as RefusedStart, Begun, Ran}
use Rattle.mt_shared.specs.Drives.{EventLaw, Runs, IsRunStep, HasGone, IsBegun, IsStarted}
use Rattle.mt_shared.specs.Inner.{InnerView, IsInner, IsMade, IsUnmade, Does, DoesSomewhere, has_counters, is_foreign, is_other, is_wrong, is_spent}
use Rattle.mt_shared.proofs.InnerLemmas.{counters_bounds, counters_within, commits_then, does_make, has_its_counters, in_counters, keeps, not_spent}
use Rattle.mt_shared.proofs.DriveLemmas.{gains_none}
use Rattle.mt_shared.proofs.ToldLemmas.{does_tell}

kept_at : (s : InnerView) (p : PassView) (e : Event) (o : Outcome) (t : InnerView) (q : PassView) (b c : Bool) → b ≡ is_wrong s p.number e → IsInner s
    → MatchBool b (IsUnmade WrongPass s p o t q) (MatchBool c (IsUnmade Spent s p o t q) (IsMade s p e o t q)) → IsInner t
kept_at s p e o t q true c is k h = subst IsInner (sym h.1) k
kept_at s p e o t q false true is k h = subst IsInner (sym h.1) k
kept_at s p e o t q false false is k h =
    let then = keeps s t.machine e o (p.number.0 - 1) h.own (counters_with o h.own) k h.makes (in_counters s p.number e is).0 (sym h.is_counters) refl p.number t.trace h.trace in
    subst (λ n. IsInner (record { machine = t.machine; events = n; counters = t.counters; trace = t.trace; tidies = t.tidies })) (sym h.events)
    (subst (λ (bs : List Counters). IsInner (record { machine = t.machine; events = s.events + 1; counters = bs; trace = t.trace; tidies = t.tidies })) (sym h.counters)
    (subst (λ (tidies : Bool). IsInner (record { machine = t.machine; events = s.events + 1; counters = set s.counters (p.number.0 - 1) (counters_with o h.own); trace = t.trace; tidies = tidies })) (sym h.tidies) then))

pub does_keep : (s : InnerView) (p : PassView) (e : Event) (o : Outcome) (t : InnerView) (q : PassView) → IsInner s → Does s p e o t q → IsInner t
does_keep s p e o t q k h = kept_at s p e o t q (is_wrong s p.number e) (is_spent s p) refl k h

pub runs_keep : (s : InnerView) (p : PassView) (xs : List Entry) (t : InnerView) (q : PassView) → IsInner s → Runs Does s p xs t q → IsInner t
runs_keep s p [] t q k run = subst IsInner (sym run.0) k
runs_keep s p (x ∷ xs) t q k run = runs_keep run.0 run.1 xs t q (does_keep s p x.event x.outcome run.0 run.1 k run.2) run.3

-- ---- one more event, where nothing is traced
-- what the lock keeps, with this number of events and these counters at a place
abbrev pub now_kept : InnerView → ℕ → MachineView → ℕ → Counters → InnerView
now_kept s i m events own = record { machine = m; events = events; counters = set s.counters i own; trace = Off; tidies = s.tidies }

abbrev pub pass_with : PassView → ℕ → ℕ → ℕ → PassView
pass_with p events commits seen = record p { events = events; commits = commits; seen = seen }

module _ (s : InnerView) (p : PassView) (there : has_counters p.number s.counters ≡ true) (within : p.number.0 - 1 < length s.counters) (off : p.trace ≡ Off) where
  right : (m : MachineView) (events : ℕ) (own : Counters) (e : Event) → is_foreign m p.number e ≡ false → is_wrong (now_kept s (p.number.0 - 1) m events own) p.number e ≡ false
  right m events own e is_own =
      ap (λ n. not (not (eqb p.number.0 0) && leb p.number.0 n) || is_foreign m p.number e) (length-set s.counters (p.number.0 - 1) own)
      ∙ ap (λ (b : Bool). not b || is_foreign m p.number e) there ∙ is_own

  pub one_more : (m n : MachineView) (events : ℕ) (own : Counters) (made commits seen : ℕ) (e : Event) (o : Outcome) → is_foreign m p.number e ≡ false → (events ≡ greatest_number → ⊥) → (made ≡ greatest_number → ⊥) → Makes m e o n
      → Does (now_kept s (p.number.0 - 1) m events own) (pass_with p made commits seen) e o
      (now_kept s (p.number.0 - 1) n (events + 1) (counters_with o own)) (pass_with p (made + 1) (commits + commit_count o) (max seen (seen_in o)))
  one_more m n events own made commits seen e o is_own more again makes =
      let i = p.number.0 - 1 in
      does_make (now_kept s i m events own) (pass_with p made commits seen) e o (now_kept s i n (events + 1) (counters_with o own)) (pass_with p (made + 1) (commits + commit_count o) (max seen (seen_in o)))
      (sym (right m events own e is_own)) (not_spent (now_kept s i m events own) (pass_with p made commits seen) more again) (record {
        makes = makes;
        events = refl;
        own = own;
        is_counters = get_or-set_same s.counters i own own within;
        counters = sym (set-set s.counters i own (counters_with o own));
        trace = tt;
        counts = record {
          number = refl;
          events = refl;
          commits = refl;
          seen = refl;
          trace = subst (λ (t : Trace). Gains t (entry p.number e o ∷ []) t) (sym off) tt;
        };
        tidies = refl;
      })

  -- ---- steps of a run
  abbrev step_of : CallNo → Outcome → Entry
  step_of call o = entry p.number (Step call) o

  -- these steps were made one by one, and so they are counted
  record Counted (m n : MachineView) (call : CallNo) (events : ℕ) (own : Counters) (made commits seen : ℕ) (os : List Outcome) : Type 0 where
    pub events_then : ℕ
    pub counters_then : Counters
    pub made_then : ℕ
    pub commits_then : ℕ
    pub seen_then : ℕ
    pub runs : Runs Does (now_kept s (p.number.0 - 1) m events own) (pass_with p made commits seen) (map (step_of call) os) (now_kept s (p.number.0 - 1) n events_then counters_then) (pass_with p made_then commits_then seen_then)
    pub events_are : events_then ≡ events + length os
    pub counters_events : counters_then.events ≡ own.events + length os
    pub counters_commits : counters_then.commits ≡ own.commits + sum_by commit_count os
    pub counters_seen : counters_then.seen ≡ own.seen
    pub made_is : made_then ≡ made + length os
    pub commits_are : commits_then ≡ commits + sum_by commit_count os
    pub seen_is : seen_then ≡ seen
    pub is_own : pass_at call.0 n.calls.calls ≡ pass_at call.0 m.calls.calls

  shows_none : (o : Outcome) → GoesOnAtOnce o → seen_in o ≡ 0
  shows_none Moved on = refl
  shows_none (Commit number) on = refl
  shows_none _ on = absurd on

  counted : (m n : MachineView) (call : CallNo) (events : ℕ) (own : Counters) (made commits seen : ℕ) (os : List Outcome) → is_other (pass_at call.0 m.calls.calls) p.number ≡ false → events + length os ≤ greatest_number → made + length os ≤ greatest_number
      → All GoesOnAtOnce os → MakesSteps m call os n → Counted m n call events own made commits seen os
  counted m n call events own made commits seen [] is_own more again on same = record {
    events_then = events;
    counters_then = own;
    made_then = made;
    commits_then = commits;
    seen_then = seen;
    runs = (ap (λ (x : MachineView). now_kept s (p.number.0 - 1) x events own) same, refl);
    events_are = omega arith;
    counters_events = omega arith;
    counters_commits = omega arith;
    counters_seen = refl;
    made_is = omega arith;
    commits_are = omega arith;
    seen_is = refl;
    is_own = ap (λ (x : MachineView). pass_at call.0 x.calls.calls) same;
  }
  counted m n call events own made commits seen (o ∷ os) is_own more again on (next, one, rest) =
      let goes = All-head GoesOnAtOnce o os on in
      let kept = pass-kept m next call o one goes in
      let none = shows_none o goes in
      let first = one_more m next events own made commits seen (Step call) o is_own (λ e. omega (arith, e, more)) (λ e. omega (arith, e, again)) one in
      let later = counted next n call (events + 1) (counters_with o own) (made + 1) (commits + commit_count o) (max seen (seen_in o)) os (ap (λ (x : _). is_other x p.number) kept ∙ is_own) (omega (arith, more)) (omega (arith, again)) (All-tail GoesOnAtOnce o os on) rest in
      let a = later.events_are in let b = later.counters_events in let c = later.counters_commits in let d = later.counters_seen in
      let e = later.made_is in let f = later.commits_are in let g = later.seen_is in
      let whole = sum_by-append commit_count (o ∷ []) os in
      record {
        events_then = later.events_then;
        counters_then = later.counters_then;
        made_then = later.made_then;
        commits_then = later.commits_then;
        seen_then = later.seen_then;
        runs = (now_kept s (p.number.0 - 1) next (events + 1) (counters_with o own), pass_with p (made + 1) (commits + commit_count o) (max seen (seen_in o)), first, later.runs);
        events_are = omega (arith, a);
        counters_events = omega (arith, b);
        counters_commits = omega (arith, c, whole);
        counters_seen = omega (arith, d, none);
        made_is = omega (arith, e);
        commits_are = omega (arith, f, whole);
        seen_is = omega (arith, g, none);
        is_own = later.is_own ∙ kept;
      }

  go_steps : (call : CallNo) (os : List Outcome) → All GoesOnAtOnce os → All (IsRunStep p.number call) (map (step_of call) os)
  go_steps call [] on = All-nil (IsRunStep p.number call)
  go_steps call (o ∷ os) on = All-cons (IsRunStep p.number call) (step_of call o) (map (step_of call) os) (record { pass = refl; event = refl; outcome = All-head GoesOnAtOnce o os on }) (go_steps call os (All-tail GoesOnAtOnce o os on))

  gains_off : (xs : List Entry) → Gains p.trace xs p.trace
  gains_off xs = subst (λ (t : Trace). Gains t xs t) (sym off) tt

  -- what the lock keeps is itself with the counters that it has
  same_kept : (b : Counters) → s.trace ≡ Off → b ≡ get_or s.counters (p.number.0 - 1) b → now_kept s (p.number.0 - 1) s.machine s.events b ≡ s
  same_kept b none at =
      ap (λ (bs : List Counters). record { machine = s.machine; events = s.events; counters = bs; trace = Off; tidies = s.tidies }) (ap (set s.counters (p.number.0 - 1)) at ∙ set-get_or s.counters (p.number.0 - 1) b)
      ∙ ap (λ (t : Trace). record { machine = s.machine; events = s.events; counters = s.counters; trace = t; tidies = s.tidies }) (sym none)

  -- counters and passes by their counts
  counters_is : (x y : Counters) → x.events ≡ y.events → x.commits ≡ y.commits → x.seen ≡ y.seen → x ≡ y
  counters_is x y a b c =
      ap (λ n. record { events = n; commits = x.commits; seen = x.seen }) a
      ∙ ap (λ n. record { events = y.events; commits = n; seen = x.seen }) b
      ∙ ap (λ n. record { events = y.events; commits = y.commits; seen = n }) c

  pass_is : (a b c x y z : ℕ) → a ≡ x → b ≡ y → c ≡ z → pass_with p a b c ≡ pass_with p x y z
  pass_is a b c x y z e f g = ap (λ n. pass_with p n b c) e ∙ ap (λ n. pass_with p x n c) f ∙ ap (λ n. pass_with p x y n) g

  -- A RUN, counted as the code counts it
  pub goes : (call : CallNo) (run : Run) (n : MachineView) (b : Counters) → IsInner s → s.trace ≡ Off → is_other (pass_at call.0 s.machine.calls.calls) p.number ≡ false → b ≡ get_or s.counters (p.number.0 - 1) b
      → s.events + run.steps < 2 ^ 64 → p.events + run.steps < 2 ^ 64 → GoesThrough s.machine call run n
      → HasGone Does s p call run.last (record { machine = n; events = s.events + run.steps; counters = set s.counters (p.number.0 - 1) (counters_after run b); trace = s.trace; tidies = s.tidies }) (pass_after run p)
  goes call run n b k none is_own at here there' g =
      let i = p.number.0 - 1 in
      let many = g.many in
      let whole = g.commits in
      let made = counted s.machine g.before call s.events b p.events p.commits p.seen g.outcomes is_own (omega (arith, here, many)) (omega (arith, there', many)) g.go_on g.steps in
      let a = made.events_are in let be = made.counters_events in let bc = made.counters_commits in let bs = made.counters_seen in
      let e = made.made_is in let f = made.commits_are in let x = made.seen_is in
      let runs = subst (λ (m : InnerView). Runs Does m p (map (step_of call) g.outcomes) (now_kept s i g.before made.events_then made.counters_then) (pass_with p made.made_then made.commits_then made.seen_then)) (same_kept b none at) made.runs in
      let last = one_more g.before n made.events_then made.counters_then made.made_then made.commits_then made.seen_then (Step call) run.last (ap (λ (w : _). is_other w p.number) made.is_own ∙ is_own) (λ q. omega (arith, q, a, here, many)) (λ q. omega (arith, q, e, there', many)) g.last in
      let then : InnerView = record { machine = n; events = s.events + run.steps; counters = set s.counters i (counters_after run b); trace = Off; tidies = s.tidies } in
      let is_then : now_kept s i n (made.events_then + 1) (counters_with run.last made.counters_then) ≡ then =
      ap (λ (v : ℕ). now_kept s i n v (counters_with run.last made.counters_then)) (omega (arith, a, many))
      ∙ ap (λ (v : Counters). now_kept s i n (s.events + run.steps) v) (counters_is (counters_with run.last made.counters_then) (counters_after run b) (omega (arith, be, many)) (omega (arith, bc, whole)) (ap (λ (v : ℕ). max v (seen_in run.last)) bs)) in
      let is_pass : pass_with p (made.made_then + 1) (made.commits_then + commit_count run.last) (max made.seen_then (seen_in run.last)) ≡ pass_after run p =
      pass_is _ _ _ _ _ _ (omega (arith, e, many)) (omega (arith, f, whole)) (ap (λ (v : ℕ). max v (seen_in run.last)) x) in
      let between = pass_with p made.made_then made.commits_then made.seen_then in
      let does = subst (λ (t : InnerView). Does (now_kept s i g.before made.events_then made.counters_then) between (Step call) run.last t (pass_after run p)) is_then
      (subst (λ (q : PassView). Does (now_kept s i g.before made.events_then made.counters_then) between (Step call) run.last (now_kept s i n (made.events_then + 1) (counters_with run.last made.counters_then)) q) is_pass last) in
      subst (λ (t : Trace). HasGone Does s p call run.last (record { machine = n; events = s.events + run.steps; counters = set s.counters i (counters_after run b); trace = t; tidies = s.tidies }) (pass_after run p)) (sym none) (record {
        steps = map (step_of call) g.outcomes;
        are_steps = go_steps call g.outcomes g.go_on;
        then = now_kept s i g.before made.events_then made.counters_then;
        between = between;
        runs = runs;
        traced = gains_off (map (step_of call) g.outcomes);
        number = refl;
        seen = omega (arith, x);
        events = omega (arith, e);
        made = does;
        told = does_tell _ between (Step call) run.last then (pass_after run p) (runs_keep s p (map (step_of call) g.outcomes) _ between k runs) does;
      })

  -- a begin, counted as the code counts it
  pub opens : (request : Request) (run : Run) (n : MachineView) (b : Counters) → s.trace ≡ Off → b ≡ get_or s.counters (p.number.0 - 1) b → s.events + 1 < 2 ^ 64 → p.events + 1 < 2 ^ 64 → run.steps ≡ 1 → run.commits ≡ 0 → commit_count run.last ≡ 0
      → Makes s.machine (Begin p.number request) run.last n
      → Does s p (Begin p.number request) run.last (record { machine = n; events = s.events + 1; counters = set s.counters (p.number.0 - 1) (counters_after run b); trace = s.trace; tidies = s.tidies }) (pass_after run p)
  opens request run n b none at here there' one none_made zero makes =
      let i = p.number.0 - 1 in
      let is_own : not (eqb p.number.0 p.number.0) ≡ false = ap not (eq-eqb p.number.0 p.number.0 refl) in
      let made = one_more s.machine n s.events b p.events p.commits p.seen (Begin p.number request) run.last is_own (λ q. omega (arith, q, here)) (λ q. omega (arith, q, there')) makes in
      let is_then : now_kept s i n (s.events + 1) (counters_with run.last b) ≡ record { machine = n; events = s.events + 1; counters = set s.counters i (counters_after run b); trace = Off; tidies = s.tidies } =
      ap (λ (v : Counters). now_kept s i n (s.events + 1) v) (counters_is (counters_with run.last b) (counters_after run b) (omega (arith, one)) (omega (arith, none_made, zero)) refl) in
      let is_pass : pass_with p (p.events + 1) (p.commits + commit_count run.last) (max p.seen (seen_in run.last)) ≡ pass_after run p =
      pass_is _ _ _ _ _ _ (omega (arith, one)) (omega (arith, none_made, zero)) refl in
      subst (λ (t : Trace). Does s p (Begin p.number request) run.last (record { machine = n; events = s.events + 1; counters = set s.counters i (counters_after run b); trace = t; tidies = s.tidies }) (pass_after run p)) (sym none)
      (subst (λ (m : InnerView). Does m p (Begin p.number request) run.last (record { machine = n; events = s.events + 1; counters = set s.counters i (counters_after run b); trace = Off; tidies = s.tidies }) (pass_after run p)) (same_kept b none at)
      (subst (λ (t : InnerView). Does (now_kept s i s.machine s.events b) p (Begin p.number request) run.last t (pass_after run p)) is_then
      (subst (λ (q : PassView). Does (now_kept s i s.machine s.events b) p (Begin p.number request) run.last (now_kept s i n (s.events + 1) (counters_with run.last b)) q) is_pass made)))

-- a run of what the lock keeps, as the code counts it
pub gone_as_counted : (s : InnerView) (p q : PassView) (call : CallNo) (run : Run) (n : MachineView) (b : Counters) (counters : List Counters) (events : ℕ) (number : PassNo) → IsInner s → (s.trace ≡ Off) × (p.trace ≡ Off) → number ≡ p.number → false ≡ is_wrong s number (Step call)
    → b ≡ get_or s.counters (p.number.0 - 1) b → s.events + run.steps < 2 ^ 64 → p.events + run.steps < 2 ^ 64 → GoesThrough s.machine call run n → counters ≡ set s.counters (p.number.0 - 1) (counters_after run b) → events ≡ s.events + run.steps → q ≡ pass_after run p
    → HasGone Does s p call run.last (record { machine = n; events = events; counters = counters; trace = s.trace; tidies = s.tidies }) q
gone_as_counted s p q call run n b counters events number k off same mine at here far went counters_are events_are pass_is' =
    let is_own = subst (λ (m : PassNo). false ≡ is_wrong s m (Step call)) same mine in
    let both = in_counters s p.number (Step call) is_own in
    subst (λ (e : ℕ). HasGone Does s p call run.last (record { machine = n; events = e; counters = counters; trace = s.trace; tidies = s.tidies }) q) (sym events_are)
    (subst (λ (bs : List Counters). HasGone Does s p call run.last (record { machine = n; events = s.events + run.steps; counters = bs; trace = s.trace; tidies = s.tidies }) q) (sym counters_are)
    (subst (λ (r : PassView). HasGone Does s p call run.last (record { machine = n; events = s.events + run.steps; counters = set s.counters (p.number.0 - 1) (counters_after run b); trace = s.trace; tidies = s.tidies }) r) (sym pass_is')
    (goes s p (has_its_counters s p.number (Step call) is_own) both.0 off.1 call run n b k off.0 both.1 at here far went)))

pub gone_keep : (s : InnerView) (p : PassView) (call : CallNo) (o : Outcome) (t : InnerView) (q : PassView) → IsInner s → HasGone Does s p call o t q → IsInner t
gone_keep s p call o t q k g = does_keep g.then g.between (Step call) o t q (runs_keep s p g.steps g.then g.between k g.runs) g.made

-- a begin and a run of what the lock keeps, counted together
pub starts_own : (s : InnerView) (p : PassView) (request : Request) (call : CallNo) (run : Run) (begun n : MachineView) (b : Counters) → IsInner s → (s.trace ≡ Off) × (p.trace ≡ Off) → has_counters p.number s.counters ≡ true → b ≡ get_or s.counters (p.number.0 - 1) b
    → s.events + (run.steps + 1) < 2 ^ 64 → p.events + (run.steps + 1) < 2 ^ 64 → Makes s.machine (Begin p.number request) (Call call) begun → GoesThrough begun call run n
    → IsStarted Does s p request (Ran call run.last) (record { machine = n; events = s.events + (run.steps + 1); counters = set s.counters (p.number.0 - 1) (counters_after (record run { steps = run.steps + 1 }) b); trace = s.trace; tidies = s.tidies }) (pass_after (record run { steps = run.steps + 1 }) p)
starts_own s p request call run begun n b k off there at here far makes went =
    let i = p.number.0 - 1 in
    let within = counters_within p.number s.counters there in
    let first : Run = record { steps = 1; commits = 0; last = Call call } in
    let one : Counters = counters_after first b in
    let mid : InnerView = record { machine = begun; events = s.events + 1; counters = set s.counters i one; trace = s.trace; tidies = s.tidies } in
    let r : PassView = pass_after first p in
    let does : Does s p (Begin p.number request) (Call call) mid r = opens s p there within off.1 request first begun b off.0 at (omega (arith, here)) (omega (arith, far)) refl refl refl makes in
    let there_too = ap (λ n. not (eqb p.number.0 0) && leb p.number.0 n) (length-set s.counters i one) ∙ there in
    let (h, st, long, told) = k.stands in
    let is_own = ap (λ (w : _). is_other w p.number) (begun_pass s.machine begun h p.number request call st makes) ∙ ap not (eq-eqb p.number.0 p.number.0 refl) in
    let kept = does_keep s p (Begin p.number request) (Call call) mid r k does in
    let gone : HasGone Does mid r call run.last (record { machine = n; events = s.events + 1 + run.steps; counters = set (set s.counters i one) i (counters_after run one); trace = s.trace; tidies = s.tidies }) (pass_after run r) =
    goes mid r there_too (counters_within p.number mid.counters there_too) off.1 call run n one kept off.0 is_own (sym (get_or-set_same s.counters i one one within)) (omega (arith, here)) (omega (arith, far)) went in
    let then_is = set-set s.counters i one (counters_after run one) ∙ ap (set s.counters i)
    (counters_is s p there within off.1 (counters_after run one) (counters_after (record run { steps = run.steps + 1 }) b) (omega arith) (omega arith) (omega arith)) in
    let pass_then = pass_is s p there within off.1 (p.events + 1 + run.steps) (p.commits + 0 + run.commits) (max (max p.seen 0) (seen_in run.last)) (p.events + (run.steps + 1)) (p.commits + run.commits) (max p.seen (seen_in run.last)) (omega arith) (omega arith) (omega arith) in (
      mid,
      r,
      (does, does_tell s p (Begin p.number request) (Call call) mid r k does),
      subst (λ (q : PassView). HasGone Does mid r call run.last (record { machine = n; events = s.events + (run.steps + 1); counters = set s.counters i (counters_after (record run { steps = run.steps + 1 }) b); trace = s.trace; tidies = s.tidies }) q) pass_then
          (subst (λ (bs : List Counters). HasGone Does mid r call run.last (record { machine = n; events = s.events + (run.steps + 1); counters = bs; trace = s.trace; tidies = s.tidies }) (pass_after run r)) then_is
          (subst (λ (e : ℕ). HasGone Does mid r call run.last (record { machine = n; events = e; counters = set (set s.counters i one) i (counters_after run one); trace = s.trace; tidies = s.tidies }) (pass_after run r)) (omega arith) gone)),
    )

-- counters are within what was counted
pub counters_fits : (s : InnerView) (p : PassView) (items : List Counters) (b : Counters) → IsInner s → has_counters p.number s.counters ≡ true → items ≡ s.counters → b ≡ get_or items (p.number.0 - 1) b → (b.events ≤ s.events) × (b.commits ≤ newest s.machine.log)
counters_fits s p items b k there same at = counters_bounds s (p.number.0 - 1) b k (counters_within p.number s.counters there) (at ∙ ap (λ (bs : List Counters). get_or bs (p.number.0 - 1) b) same)

-- as the code counts them
module _ (s : InnerView) (p q : PassView) (request : Request) (n : MachineView) (b : Counters) (items counters : List Counters) (events : ℕ) (off : (s.trace ≡ Off) × (p.trace ≡ Off)) (there : has_counters p.number s.counters ≡ true) (same : items ≡ s.counters) (at : b ≡ get_or items (p.number.0 - 1) b) where
  at_own : b ≡ get_or s.counters (p.number.0 - 1) b
  at_own = at ∙ ap (λ (bs : List Counters). get_or bs (p.number.0 - 1) b) same

  set_own : (run : Run) → counters ≡ set items (p.number.0 - 1) (counters_after run b) → set s.counters (p.number.0 - 1) (counters_after run b) ≡ counters
  set_own run is = ap (λ (bs : List Counters). set bs (p.number.0 - 1) (counters_after run b)) (sym same) ∙ sym is

  pub refused_as_counted : (refusal : Refusal) → s.events + 1 < 2 ^ 64 → p.events + 1 < 2 ^ 64 → Makes s.machine (Begin p.number request) (Refused refusal) n → counters ≡ set items (p.number.0 - 1) (counters_after (record { steps = 1; commits = 0; last = Refused refusal }) b) → events ≡ s.events + 1
      → q ≡ pass_after (record { steps = 1; commits = 0; last = Refused refusal }) p → Does s p (Begin p.number request) (Refused refusal) (record { machine = n; events = events; counters = counters; trace = s.trace; tidies = s.tidies }) q
  refused_as_counted refusal here far makes counters_are events_are pass_is' =
      let run : Run = record { steps = 1; commits = 0; last = Refused refusal } in
      subst (λ (e : ℕ). Does s p (Begin p.number request) (Refused refusal) (record { machine = n; events = e; counters = counters; trace = s.trace; tidies = s.tidies }) q) (sym events_are)
      (subst (λ (bs : List Counters). Does s p (Begin p.number request) (Refused refusal) (record { machine = n; events = s.events + 1; counters = bs; trace = s.trace; tidies = s.tidies }) q) (set_own run counters_are)
      (subst (λ (r : PassView). Does s p (Begin p.number request) (Refused refusal) (record { machine = n; events = s.events + 1; counters = set s.counters (p.number.0 - 1) (counters_after run b); trace = s.trace; tidies = s.tidies }) r) (sym pass_is')
      (opens s p there (counters_within p.number s.counters there) off.1 request run n b off.0 at_own here far refl refl refl makes)))

  pub ran_as_counted : (call : CallNo) (run : Run) (begun : MachineView) → IsInner s → s.events + (run.steps + 1) < 2 ^ 64 → p.events + (run.steps + 1) < 2 ^ 64 → Makes s.machine (Begin p.number request) (Call call) begun → GoesThrough begun call run n
      → counters ≡ set items (p.number.0 - 1) (counters_after (record run { steps = run.steps + 1 }) b) → events ≡ s.events + (run.steps + 1) → q ≡ pass_after (record run { steps = run.steps + 1 }) p
      → IsStarted Does s p request (Ran call run.last) (record { machine = n; events = events; counters = counters; trace = s.trace; tidies = s.tidies }) q
  ran_as_counted call run begun k here far makes went counters_are events_are pass_is' =
      let more : Run = record run { steps = run.steps + 1 } in
      subst (λ (e : ℕ). IsStarted Does s p request (Ran call run.last) (record { machine = n; events = e; counters = counters; trace = s.trace; tidies = s.tidies }) q) (sym events_are)
      (subst (λ (bs : List Counters). IsStarted Does s p request (Ran call run.last) (record { machine = n; events = s.events + (run.steps + 1); counters = bs; trace = s.trace; tidies = s.tidies }) q) (set_own more counters_are)
      (subst (λ (r : PassView). IsStarted Does s p request (Ran call run.last) (record { machine = n; events = s.events + (run.steps + 1); counters = set s.counters (p.number.0 - 1) (counters_after more b); trace = s.trace; tidies = s.tidies }) r) (sym pass_is')
      (starts_own s p request call run begun n b k off there at_own here far makes went)))

-- what the lock keeps is kept by a start
pub started_keeps : (s : InnerView) (p : PassView) (request : Request) (call : CallNo) (last : Outcome) (t : InnerView) (q : PassView) → IsInner s → IsStarted Does s p request (Ran call last) t q → IsInner t
started_keeps s p request call last t q k (m, r, begun, gone) = gone_keep m r call last t q (does_keep s p (Begin p.number request) (Call call) m r k begun.0) gone

-- the machine's commits after a run
steps_newest : (m n : MachineView) (call : CallNo) (os : List Outcome) (h : History) → Stands m h → MakesSteps m call os n → (newest n.log ≡ newest m.log + sum_by commit_count os) × ((then : History) × Stands n then)
steps_newest m n call [] h st same = (ap (λ (x : MachineView). newest x.log) same ∙ (let e : newest m.log ≡ newest m.log + 0 = omega arith in e), (h, subst (λ (x : MachineView). Stands x h) (sym same) st))
steps_newest m n call (o ∷ os) h st (next, one, rest) =
    let (opened, then) = one.stands h st in
    let first = (commits_then m next (Step call) o h st one).0 in
    let later = steps_newest next n call os (happening (Step call) o opened ∷ h) then rest in
    let more = later.0 in
    let whole = sum_by-append commit_count (o ∷ []) os in
    (omega (arith, first, more, whole), later.1)

pub run_newest : (m n : MachineView) (call : CallNo) (run : Run) → (h : History) × Stands m h → GoesThrough m call run n → newest n.log ≡ newest m.log + run.commits
run_newest m n call run (h, st) g =
    let (before, (then, stands)) = steps_newest m g.before call g.outcomes h st g.steps in
    let last = (commits_then g.before n (Step call) run.last then stands g.last).0 in
    let is = g.commits in
    omega (arith, before, last, is)

pub start_newest : (m begun n : MachineView) (pass : PassNo) (request : Request) (call : CallNo) (run : Run) → (h : History) × Stands m h → Makes m (Begin pass request) (Call call) begun → GoesThrough begun call run n → newest n.log ≡ newest m.log + run.commits
start_newest m begun n pass request call run (h, st) makes g =
    let (opened, then) = makes.stands h st in
    let first = (commits_then m begun (Begin pass request) (Call call) h st makes).0 in
    let last = run_newest begun n call run (happening (Begin pass request) (Call call) opened ∷ h, then) g in
    omega (arith, first, last)

-- one step is a run
pub goes_once : {S : Type 0} (does : EventLaw S) (s : S) (p : PassView) (call : CallNo) (last : Outcome) (t : S) (q : PassView) → does s p (Step call) last t q → IsTold p (Step call) last q → HasGone does s p call last t q
goes_once does s p call last t q d told = record {
  steps = [];
  are_steps = All-nil (IsRunStep p.number call);
  then = s;
  between = p;
  runs = (refl, refl);
  traced = gains_none p.trace;
  number = refl;
  seen = omega arith;
  events = omega arith;
  made = d;
  told = told;
}

-- ---- on what a lock keeps, somewhere
abbrev pub somewhere : (S : Type 0) → EventLaw S
somewhere S = λ _ p event outcome _ q. DoesSomewhere p event outcome q

module _ {S : Type 0} (x : S) where
  pub runs_somewhere : (s : InnerView) (p : PassView) (xs : List Entry) (t : InnerView) (q : PassView) → IsInner s → Runs Does s p xs t q → Runs (somewhere S) x p xs x q
  runs_somewhere s p [] t q k run = (refl, run.1)
  runs_somewhere s p (y ∷ xs) t q k run =
      let kept = does_keep s p y.event y.outcome run.0 run.1 k run.2 in
      (x, run.1, record { before = s; then = run.0; kept = k; does = run.2; keeps = kept }, runs_somewhere run.0 run.1 xs t q kept run.3)

  pub gone_somewhere : (s : InnerView) (p : PassView) (call : CallNo) (last : Outcome) (t : InnerView) (q : PassView) (y : S) → IsInner s → HasGone Does s p call last t q → HasGone (somewhere S) x p call last y q
  gone_somewhere s p call last t q y k g =
      let between = runs_keep s p g.steps g.then g.between k g.runs in
      record {
        steps = g.steps;
        are_steps = g.are_steps;
        then = x;
        between = g.between;
        runs = runs_somewhere s p g.steps g.then g.between k g.runs;
        traced = g.traced;
        number = g.number;
        seen = g.seen;
        events = g.events;
        made = record { before = g.then; then = t; kept = between; does = g.made; keeps = does_keep g.then g.between (Step call) last t q between g.made };
        told = g.told;
      }

  begun_somewhere : (s : InnerView) (p : PassView) (request : Request) (o : Outcome) (t : InnerView) (q : PassView) (y : S) → IsInner s → IsBegun Does s p request o t q → IsBegun (somewhere S) x p request o y q
  begun_somewhere s p request o t q y k b = (record { before = s; then = t; kept = k; does = b.0; keeps = does_keep s p (Begin p.number request) o t q k b.0 }, b.1)

  pub started_somewhere : (s : InnerView) (p : PassView) (request : Request) (started : Started) (t : InnerView) (q : PassView) (y : S) → IsInner s → IsStarted Does s p request started t q → IsStarted (somewhere S) x p request started y q
  started_somewhere s p request (RefusedStart refusal) t q y k is = begun_somewhere s p request (Refused refusal) t q y k is
  started_somewhere s p request (Begun call) t q y k is = begun_somewhere s p request (Call call) t q y k is
  started_somewhere s p request (Ran call last) t q y k (m, r, b, g) =
      (x, r, begun_somewhere s p request (Call call) m r x k b, gone_somewhere m r call last t q y (does_keep s p (Begin p.number request) (Call call) m r k b.0) g)
