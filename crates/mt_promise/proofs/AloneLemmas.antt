-- The laws of a call alone: what is known of it while it is open, and of its end.
use Rattle.std.proofs.Common.{◌≡◌, ◌<◌, ◌==◌, ℕ, Bool, List, [], ◌∷◌, ◌++◌, length, Option, Some, None, IsSome, ◌∙◌, ap, sym, subst, refl, inl, inr, ◌⊎◌, arith}
use Rattle.std.specs.Prelude.{if◌then◌else◌, not, ◌+◌}
use Rattle.std.specs.FinMap.{get}
use Rattle.std.proofs.lemmas.Bool.{eq-eqb}
use Rattle.std.proofs.lemmas.List.{append-nil}
use Rattle.std.proofs.lemmas.List.Elements.{All-weaker}
use Rattle.mt_types.specs.Rows.{Rows, after, version_of}
use Rattle.mt_types.specs.declared.numbers.PassNo.{PassNo}
use Rattle.mt_types.specs.declared.numbers.CallNo.{CallNo}
use Rattle.mt_types.specs.declared.row.Row.{Row}
use Rattle.mt_types.specs.declared.row.Change.{Change}
use Rattle.mt_types.specs.declared.refusal.Refusal.{Refusal}
use Rattle.mt_types.specs.declared.refusal.Refusal.TheVariants.{OtherVersion}
use Rattle.mt_types.specs.declared.event.Event.{Event}
use Rattle.mt_types.specs.declared.event.Event.TheVariants.{Begin, Step}
use Rattle.mt_types.specs.declared.event.Outcome.{Outcome}
use Rattle.mt_types.specs.declared.event.Outcome.TheVariants.{Call, Moved, Again, Commit, Done, Refused}
use Rattle.mt_types.specs.declared.event.Request.{Request}
use Rattle.mt_types.specs.declared.event.Request.TheVariants.{Get, Put, PutIf, Remove, Range, Tidy, Build}
use Rattle.mt_types.specs.declared.event.Answer.{Answer}
use Rattle.mt_types.specs.declared.event.Answer.TheVariants.{Absent, Found, Stored, Removed, Rows as RowsAnswer, Tidied, Built}
use Rattle.mt_promise.specs.History.{History, Happening, happening, Moment, OpenCall, StandingView, without_call, moment, rows, Sometime, Throughout, call_of, new_call, replace_call, after_event, after_call_step, after_step, change_of, view_built}
use Rattle.mt_promise.specs.RightAnswers.{RightAnswer, RightRange, Shows, Lacks, Stands, HasVersion}
use Rattle.mt_promise.specs.Legal.{Legal, MayHappen, MayStep, MayStepAt, MayEnd}
use Rattle.mt_promise.specs.Alone.{ShowsRow, IsRangeOfMap, IsPlain, IsPlainRefusal, GoesOnBy, AreStepsOf, RunsAlone, LoneCallsArePlain, LoneRefusalsDoNothing}
use Rattle.mt_promise.proofs.HistoryLemmas.{happened_is}
use Rattle.mt_promise.proofs.CallLemmas.{began_so}

-- ---- moments since a begin
throughout_none : (began : ℕ) (P : Moment → Type 0) (h : History) → length h < began → Throughout began P h
throughout_none began P [] before = λ since. absurd (omega (arith, before, since))
throughout_none began P (x ∷ h) before = ((λ since. absurd (omega (arith, before, since))), throughout_none began P h (omega (arith, before)))

throughout_now : (P : Moment → Type 0) (h : History) → P (moment h) → Throughout (length h) P h
throughout_now P [] p = λ since. p
throughout_now P (x ∷ h) p = ((λ since. p), throughout_none (length (x ∷ h)) P h (omega arith))

throughout_weaker : (began : ℕ) (P Q : Moment → Type 0) → ((m : Moment) → P m → Q m) → (h : History) → Throughout began P h → Throughout began Q h
throughout_weaker began P Q weaker [] t = λ since. weaker (moment []) (t since)
throughout_weaker began P Q weaker (x ∷ h) t = ((λ since. weaker (moment (x ∷ h)) (t.0 since)), throughout_weaker began P Q weaker h t.1)

sometime_with : (began : ℕ) (P Q : Moment → Type 0) (h : History) → Throughout began P h → Sometime began Q h → (m : Moment) × P m × Q m
sometime_with began P Q [] t s = (moment [], t s.0, s.1)
sometime_with began P Q (x ∷ h) t s = elim s [
  | inl here ↦ (moment (x ∷ h), t.0 here.0, here.1)
  | inr before ↦ sometime_with began P Q h t.1 before
]

-- ---- the open call
-- which change a call may have made, where these were the rows
abbrev pub MayHaveMade : Request → Rows → Type 0
MayHaveMade (Put key sets) map = Unit {0}
MayHaveMade (PutIf key sets version) map = version_of (get map key) ≡ version
MayHaveMade (Remove key) map = IsSome (get map key)
MayHaveMade _ map = ⊥

abbrev pub SameCommits : History → Moment → Type 0
SameCommits before m = m.commits ≡ (moment before).commits

-- it has made no commit, and the rows are as they were; or its own
abbrev pub HasDone : ℕ → Request → History → History → Option ℕ → List Change → Type 0
HasDone C request before h committed commits =
    ((committed ≡ None) × (commits ≡ (moment before).commits) × Throughout (length before) (SameCommits before) h)
    ⊎ ((committed ≡ Some (length (moment before).commits + 1)) × (commits ≡ (moment before).commits ++ change_of request)
    × MayHaveMade request (rows C (moment before)))

-- the call alone is open at a moment
pub record IsOpenAlone (C : ℕ) (request : Request) (number : CallNo) (before : History) (m : Moment) (call : OpenCall) : Type 0 where
  pub calls : m.calls ≡ call ∷ []
  pub numbered : call.number ≡ number.0
  pub asks : call.request ≡ request
  pub began : call.began ≡ length before
  pub from : call.from ≡ length (moment before).commits
  pub views : m.views ≡ (moment before).views

-- and what it has done
pub record IsSince (C : ℕ) (request : Request) (number : CallNo) (before h : History) : Type 0 where
  pub call : OpenCall
  pub is_open : IsOpenAlone C request number before (moment h) call
  pub done : HasDone C request before h call.committed (moment h).commits

same_number : (n : ℕ) (call : OpenCall) (other : Option OpenCall) → (if n == n then Some call else other) ≡ Some call
same_number n call other = ap (λ (b : Bool). if b then Some call else other) (eq-eqb n n refl)

found_alone : (calls : List OpenCall) (call : OpenCall) (number : ℕ) → calls ≡ call ∷ [] → call.number ≡ number → call_of number calls ≡ Some call
found_alone calls call number is numbered = ap (call_of number) is ∙ ap (λ (n : ℕ). call_of n (call ∷ [])) (sym numbered) ∙ same_number call.number call None

-- ---- its steps
replaced_alone : (calls : List OpenCall) (call new : OpenCall) → calls ≡ call ∷ [] → new.number ≡ call.number → replace_call new calls ≡ new ∷ []
replaced_alone calls call new is same = ap (replace_call new) is ∙ ap (λ (n : ℕ). (if call.number == n then new else call) ∷ []) same ∙ ap (λ (b : Bool). (if b then new else call) ∷ []) (eq-eqb call.number call.number refl)

-- the moment after a step of the call
module _ (C : ℕ) (request : Request) (number : CallNo) (before h : History) (s : IsSince C request number before h) where
  abbrev call : OpenCall
  call = s.call

  pub found : call_of number.0 (moment h).calls ≡ Some call
  found = found_alone (moment h).calls call number.0 s.is_open.calls s.is_open.numbered

  pub after_it : (x : Happening) → x.event ≡ Step number → after_event (moment h) x.event x.outcome x.opens ≡ after_step (moment h) call x.outcome x.opens
  after_it x is =
      ap (λ (e : Event). after_event (moment h) e x.outcome x.opens) is
      ∙ ap (λ (r : Option OpenCall). after_call_step (moment h) r x.outcome x.opens) found

  pub may_step : (x : Happening) → x.event ≡ Step number → MayHappen C h x.event x.outcome x.opens → MayStep C h call x.outcome x.opens
  may_step x is may =
      subst (λ (r : Option OpenCall). MayStepAt C h r x.outcome x.opens) found
      (subst (λ (e : Event). MayHappen C h e x.outcome x.opens) is may)

  -- by a step that makes no commit
  quiet : (x : Happening) → x.event ≡ Step number → (new : OpenCall)
      → after_step (moment h) call x.outcome x.opens ≡ record (moment h) { calls = replace_call new (moment h).calls }
      → new ≡ record call { moves = new.moves } → IsSince C request number before (x ∷ h)
  quiet x is new steps kept =
      let same = after_it x is ∙ steps in
      let commits : (moment (x ∷ h)).commits ≡ (moment h).commits = ap (λ (m : Moment). m.commits) same in
      record {
        call = new;
        is_open = record {
          calls = ap (λ (m : Moment). m.calls) same ∙ replaced_alone (moment h).calls call new s.is_open.calls (ap (λ (c : OpenCall). c.number) kept);
          numbered = ap (λ (c : OpenCall). c.number) kept ∙ s.is_open.numbered;
          asks = ap (λ (c : OpenCall). c.request) kept ∙ s.is_open.asks;
          began = ap (λ (c : OpenCall). c.began) kept ∙ s.is_open.began;
          from = ap (λ (c : OpenCall). c.from) kept ∙ s.is_open.from;
          views = ap (λ (m : Moment). m.views) same ∙ s.is_open.views;
        };
        done = elim s.done [
          | inl none ↦ inl (ap (λ (c : OpenCall). c.committed) kept ∙ none.0, commits ∙ none.1, ((λ since. commits ∙ none.1), none.2))
          | inr one ↦ inr (ap (λ (c : OpenCall). c.committed) kept ∙ one.0, commits ∙ one.1, one.2)
        ];
      }

  -- what a commit may be
  may_make : (q : Request) (n : ℕ) (none : (call.committed ≡ None) × ((moment h).commits ≡ (moment before).commits)) → MayStep C h (record call { request = q }) (Commit n) 0
      → (n ≡ length (moment before).commits + 1) × MayHaveMade q (rows C (moment before))
  may_make (Put key sets) n none may = (may.0 ∙ ap (λ (l : List Change). length l + 1) none.1, tt)
  may_make (PutIf key sets version) n none may = (may.0 ∙ ap (λ (l : List Change). length l + 1) none.1, subst (λ (l : List Change). version_of (get (after C l) key) ≡ version) none.1 may.2)
  may_make (Remove key) n none may = (may.0 ∙ ap (λ (l : List Change). length l + 1) none.1, subst (λ (l : List Change). IsSome (get (after C l) key)) none.1 may.2)
  may_make _ n none may = absurd may

  not_twice : (n k : ℕ) → call.committed ≡ Some k → call.committed ≡ None → ⊥
  not_twice n k some none = let clash : ◌≡◌ {A = Option ℕ} (Some k) None = sym some ∙ none in cc

  none_before : (q : Request) (n : ℕ) → MayStep C h (record call { request = q }) (Commit n) 0 → call.committed ≡ None
  none_before (Put key sets) n may = may.1
  none_before (PutIf key sets version) n may = may.1
  none_before (Remove key) n may = may.1
  none_before _ n may = absurd may

  -- by its commit
  commits_so : (x : Happening) → x.event ≡ Step number → (n : ℕ) → x.outcome ≡ Commit n → MayStep C h call (Commit n) x.opens → IsSince C request number before (x ∷ h)
  commits_so x is n outcome may =
      let asked : MayStep C h (record call { request = request }) (Commit n) 0 = subst (λ (q : Request). MayStep C h (record call { request = q }) (Commit n) 0) s.is_open.asks may in
      let steps = after_it x is ∙ ap (λ (o : Outcome). after_step (moment h) call o x.opens) outcome in
      let new : OpenCall = record call { committed = Some n; moves = 0 } in
      elim s.done [
        | inl none ↦
            let (is_next, made) = may_make request n (none.0, none.1) asked in
            record {
              call = new;
              is_open = record {
                calls = ap (λ (m : Moment). m.calls) steps ∙ replaced_alone (moment h).calls call new s.is_open.calls refl;
                numbered = s.is_open.numbered;
                asks = s.is_open.asks;
                began = s.is_open.began;
                from = s.is_open.from;
                views = ap (λ (m : Moment). m.views) steps ∙ s.is_open.views;
              };
              done = inr (
                ap (λ (k : ℕ). Some k) is_next,
                ap (λ (m : Moment). m.commits) steps ∙ ap (λ (l : List Change). l ++ change_of call.request) none.1 ∙ ap (λ (q : Request). (moment before).commits ++ change_of q) s.is_open.asks,
                made,
              );
            }
        | inr one ↦ absurd (not_twice n _ one.0 (none_before request n asked))
      ]

  -- by each
  pub since_step : (x : Happening) → x.event ≡ Step number → GoesOnBy x.outcome → MayHappen C h x.event x.outcome x.opens → IsSince C request number before (x ∷ h)
  since_step x is goes may = go x.outcome refl goes (may_step x is may)
    where
      go : (o : Outcome) → x.outcome ≡ o → GoesOnBy o → MayStep C h call x.outcome x.opens → IsSince C request number before (x ∷ h)
      go Moved outcome on allowed = quiet x is (record call { moves = call.moves + 1 }) (ap (λ (o : Outcome). after_step (moment h) call o x.opens) outcome) refl
      go Again outcome on allowed = quiet x is (record call { moves = 0 }) (ap (λ (o : Outcome). after_step (moment h) call o x.opens) outcome) refl
      go (Commit n) outcome on allowed = commits_so x is n outcome (subst (λ (o : Outcome). MayStep C h call o x.opens) outcome allowed)
      go _ outcome on allowed = absurd on

-- from its begin on
since_begin : (C : ℕ) (request : Request) (number : CallNo) (before : History) (pass : PassNo) (note : ℕ) → (moment before).calls ≡ []
    → IsSince C request number before (happening (Begin pass request) (Call number) note ∷ before)
since_begin C request number before pass note none = record {
  call = new_call (moment before) pass.0 request number.0;
  is_open = record {
    calls = ap (λ (l : List OpenCall). l ++ new_call (moment before) pass.0 request number.0 ∷ []) none;
    numbered = refl;
    asks = refl;
    began = happened_is before;
    from = refl;
    views = refl;
  };
  done = inl (refl, refl, ((λ since. refl), throughout_now (SameCommits before) before refl));
}

since_steps : (C : ℕ) (request : Request) (number : CallNo) (before : History) (pass : PassNo) (note : ℕ) → (moment before).calls ≡ []
    → (steps : History) → AreStepsOf number steps → Legal C (steps ++ happening (Begin pass request) (Call number) note ∷ before)
    → IsSince C request number before (steps ++ happening (Begin pass request) (Call number) note ∷ before)
since_steps C request number before pass note none [] are legal = since_begin C request number before pass note none
since_steps C request number before pass note none (x ∷ steps) are legal =
    since_step C request number before (steps ++ happening (Begin pass request) (Call number) note ∷ before)
    (since_steps C request number before pass note none steps are.2 legal.0) x are.0 are.1 legal.1

since : (C : ℕ) (request : Request) (number : CallNo) (before past : History) → RunsAlone request number before past → Legal C past → IsSince C request number before past
since C request number before past run legal =
    subst (λ (h : History). IsSince C request number before h) (sym run.is_past)
    (since_steps C request number before run.pass run.note run.nothing_open run.steps run.are_steps (subst (λ (h : History). Legal C h) run.is_past legal))

-- ---- its end
closed_alone : (calls : List OpenCall) (call : OpenCall) → calls ≡ call ∷ [] → without_call call.number calls ≡ []
closed_alone calls call is = ap (without_call call.number) is ∙ ap (λ (b : Bool). if not b then call ∷ [] else []) (eq-eqb call.number call.number refl)

-- the rows at a moment with the same commits
rows_same : (C : ℕ) (before : History) (m : Moment) → SameCommits before m → rows C m ≡ rows C (moment before)
rows_same C before m same = ap (λ (l : List Change). after C l) same

lacked : (C : ℕ) (key : List ℕ) (before h : History) → Throughout (length before) (SameCommits before) h → Sometime (length before) (Lacks C key) h → get (rows C (moment before)) key ≡ None
lacked C key before h same some =
    let (m, is, lacks) = sometime_with (length before) (SameCommits before) (Lacks C key) h same some in
    subst (λ (map : Rows). get map key ≡ None) (rows_same C before m is) lacks

showed : (C : ℕ) (key asked : List ℕ) (row : Row) (before h : History) → Throughout (length before) (SameCommits before) h → Sometime (length before) (Shows C key asked row) h → ShowsRow (rows C (moment before)) asked key row
showed C key asked row before h same some =
    let (m, is, shows) = sometime_with (length before) (SameCommits before) (Shows C key asked row) h same some in
    subst (λ (map : Rows). ShowsRow map asked key row) (rows_same C before m is) shows

ranged : (C : ℕ) (start asked : List ℕ) (limit : ℕ) (pairs : List (List ℕ × Row)) (before h : History) → Throughout (length before) (SameCommits before) h
    → RightRange C (length before) h start asked limit pairs → IsRangeOfMap (rows C (moment before)) asked start limit pairs
ranged C start asked limit pairs before h same right = record {
  rises = right.rises;
  from_start = right.from_start;
  few = right.few;
  stood = All-weaker (λ (pair : List ℕ × Row). Sometime (length before) (Shows C pair.0 asked pair.1) h) (λ (pair : List ℕ × Row). ShowsRow (rows C (moment before)) asked pair.0 pair.1)
      (λ pair some. showed C pair.0 asked pair.1 before h same some) pairs right.stood;
  once = λ key from there enough. right.once key from
      (throughout_weaker (length before) (SameCommits before) (Stands C key) (λ m is. subst (λ (map : Rows). IsSome (get map key)) (sym (rows_same C before m is)) there) h same) enough;
}

-- what it has done, where its answer is right
abbrev pub DidPlainly : ℕ → History → Request → Answer → List Change → ℕ → Type 0
DidPlainly C before request answer commits opens =
    (made : List Change) × IsPlain (rows C (moment before)) (length (moment before).commits) request answer made × (commits ≡ (moment before).commits ++ made)
    × (view_built request answer opens ≡ view_built request answer (length (moment before).commits))

same_some : (n k : ℕ) (committed : Option ℕ) → committed ≡ Some n → committed ≡ Some k → n ≡ k
same_some n k committed one other = let same : ◌≡◌ {A = Option ℕ} (Some n) (Some k) = sym one ∙ other in cc

quiet_commits : (before : History) (commits : List Change) → commits ≡ (moment before).commits → commits ≡ (moment before).commits ++ []
quiet_commits before commits same = same ∙ sym (append-nil (moment before).commits)

module _ (C : ℕ) (before h : History) (call : OpenCall) (opens : ℕ) (began : call.began ≡ length before) (from : call.from ≡ length (moment before).commits) where
  -- a request that makes no change has made none
  unmade : (request : Request) → (MayHaveMade request (rows C (moment before)) → ⊥) → HasDone C request before h call.committed (moment h).commits
      → ((moment h).commits ≡ (moment before).commits) × Throughout (length before) (SameCommits before) h
  unmade request never done = elim done [ inl none ↦ (none.1, none.2) | inr one ↦ absurd (never one.2) ]

  at_begin : (P : Moment → Type 0) → Sometime call.began P h → Sometime (length before) P h
  at_begin P some = subst (λ (b : ℕ). Sometime b P h) began some

  pub did : (request : Request) (answer : Answer) → RightAnswer C h call request answer opens → HasDone C request before h call.committed (moment h).commits
      → DidPlainly C before request answer (moment h).commits opens
  did (Get key asked) Absent right done =
      let (same, all) = unmade (Get key asked) (λ no. no) done in
      ([], (lacked C key before h all (at_begin (Lacks C key) right), refl), quiet_commits before (moment h).commits same, refl)
  did (Get key asked) (Found row) right done =
      let (same, all) = unmade (Get key asked) (λ no. no) done in
      ([], (showed C key asked row before h all (at_begin (Shows C key asked row) right), refl), quiet_commits before (moment h).commits same, refl)
  did (Put key sets) (Stored number) right done = elim done [
    | inl none ↦ (let clash : ◌≡◌ {A = Option ℕ} (Some number) None = sym right ∙ none.0 in cc)
    | inr one ↦ (change_of (Put key sets), (same_some number _ call.committed right one.0, refl), one.1, refl)
  ]
  did (PutIf key sets version) (Stored number) right done = elim done [
    | inl none ↦ (let clash : ◌≡◌ {A = Option ℕ} (Some number) None = sym right ∙ none.0 in cc)
    | inr one ↦ (change_of (PutIf key sets version), (one.2, same_some number _ call.committed right one.0, refl), one.1, refl)
  ]
  did (Remove key) (Removed number) right done = elim done [
    | inl none ↦ (let clash : ◌≡◌ {A = Option ℕ} (Some number) None = sym right ∙ none.0 in cc)
    | inr one ↦ (change_of (Remove key), (one.2, same_some number _ call.committed right one.0, refl), one.1, refl)
  ]
  did (Remove key) Absent right done = elim done [
    | inl none ↦ ([], (lacked C key before h none.2 (at_begin (Lacks C key) right.1), refl), quiet_commits before (moment h).commits none.1, refl)
    | inr one ↦ (let clash : ◌≡◌ {A = Option ℕ} (Some (length (moment before).commits + 1)) None = sym one.0 ∙ right.0 in cc)
  ]
  did (Range start limit asked) (RowsAnswer pairs) right done =
      let (same, all) = unmade (Range start limit asked) (λ no. no) done in
      ([], (ranged C start asked limit pairs before h all (subst (λ (b : ℕ). RightRange C b h start asked limit pairs) began right), refl), quiet_commits before (moment h).commits same, refl)
  did (Tidy key) (Tidied rule) right done =
      let (same, all) = unmade (Tidy key) (λ no. no) done in
      ([], refl, quiet_commits before (moment h).commits same, refl)
  did (Build spec) (Built number) right done =
      let (same, all) = unmade (Build spec) (λ no. no) done in
      let many : length (moment h).commits ≡ length (moment before).commits = ap (λ (l : List Change). length l) same in
      let least = right.1 in
      let most = right.2 in
      let at : opens ≡ length (moment before).commits = omega (arith, from, many, least, most) in
      ([], refl, quiet_commits before (moment h).commits same, ap (view_built (Build spec) (Built number)) at)
  did _ _ right done = absurd right

pub lone_calls_are_plain : LoneCallsArePlain
lone_calls_are_plain C request number reply end before past run legal =
    let s = since C request number before past run legal.0 in
    let x = happening (Step number) (Done reply) end in
    let same = after_it C request number before past s x refl in
    let right = may_step C request number before past s x refl legal.1 in
    let answer = subst (λ (q : Request). RightAnswer C past s.call q reply.answer end) s.is_open.asks right.answer in
    let (made, plain, commits, views) = did C before past s.call end s.is_open.began s.is_open.from request reply.answer answer s.done in
    let so = began_so C run.steps before run.pass request number run.note (subst (λ (h : History). Legal C h) run.is_past legal.0) s.call
    (subst (λ (h : History). call_of number.0 (moment h).calls ≡ Some s.call) run.is_past (found C request number before past s)) in
    record {
      same_pass = right.pass ∙ so.pass_is;
      same_call = right.number ∙ s.is_open.numbered;
      from = right.from ∙ s.is_open.from;
      to = right.to ∙ sym (ap (λ (m : Moment). length m.commits) same);
      made = made;
      plain = plain;
      commits = ap (λ (m : Moment). m.commits) same ∙ commits;
      views = ap (λ (m : Moment). m.views) same ∙ ap (λ (l : List StandingView). l ++ view_built s.call.request reply.answer end) s.is_open.views
          ∙ ap (λ (q : Request). (moment before).views ++ view_built q reply.answer end) s.is_open.asks ∙ ap (λ (l : List StandingView). (moment before).views ++ l) views;
      closed = ap (λ (m : Moment). m.calls) same ∙ closed_alone (moment past).calls s.call s.is_open.calls;
    }

-- a call that has no commit has left the rows as they were
untouched : (C : ℕ) (request : Request) (before h : History) (committed : Option ℕ) (commits : List Change) → committed ≡ None → HasDone C request before h committed commits
    → (commits ≡ (moment before).commits) × Throughout (length before) (SameCommits before) h
untouched C request before h committed commits none done = elim done [
  | inl quiet ↦ (quiet.1, quiet.2)
  | inr one ↦ (let clash : ◌≡◌ {A = Option ℕ} (Some (length (moment before).commits + 1)) None = sym one.0 ∙ none in absurd (cc))
]

-- why it is refused
found_other : (C : ℕ) (key : List ℕ) (found : ℕ) (before h : History) → Throughout (length before) (SameCommits before) h → Sometime (length before) (HasVersion C key found) h → found ≡ version_of (get (rows C (moment before)) key)
found_other C key found before h same some =
    let (m, is, has) = sometime_with (length before) (SameCommits before) (HasVersion C key found) h same some in
    sym (subst (λ (map : Rows). version_of (get map key) ≡ found) (rows_same C before m is) has)

plainly_refused : (C : ℕ) (before h : History) → Throughout (length before) (SameCommits before) h → (request : Request) (refusal : Refusal) → MayEnd C h (length before) request refusal
    → IsPlainRefusal (rows C (moment before)) request refusal
plainly_refused C before h same (PutIf key sets version) (OtherVersion other) may = (found_other C key other before h same may.1, may.0)
plainly_refused C before h same (Get key asked) (OtherVersion other) may = absurd may
plainly_refused C before h same (Put key sets) (OtherVersion other) may = absurd may
plainly_refused C before h same (Remove key) (OtherVersion other) may = absurd may
plainly_refused C before h same (Range start limit asked) (OtherVersion other) may = absurd may
plainly_refused C before h same (Tidy key) (OtherVersion other) may = absurd may
plainly_refused C before h same (Build spec) (OtherVersion other) may = absurd may
plainly_refused C before h same _ _ may = tt

-- a call alone is refused for what may end it
pub lone_refusal_may_end : (C : ℕ) (request : Request) (number : CallNo) (refusal : Refusal) (end : ℕ) (before past : History) → RunsAlone request number before past → Legal C (happening (Step number) (Refused refusal) end ∷ past)
    → MayEnd C past (length before) request refusal
lone_refusal_may_end C request number refusal end before past run legal =
    let s = since C request number before past run legal.0 in
    let may = may_step C request number before past s (happening (Step number) (Refused refusal) end) refl legal.1 in
    subst (λ (q : Request). MayEnd C past (length before) q refusal) s.is_open.asks (subst (λ (n : ℕ). MayEnd C past n s.call.request refusal) s.is_open.began may.1)

pub lone_refusals_do_nothing : LoneRefusalsDoNothing
lone_refusals_do_nothing C request number refusal end before past run legal =
    let s = since C request number before past run legal.0 in
    let x = happening (Step number) (Refused refusal) end in
    let same = after_it C request number before past s x refl in
    let may = may_step C request number before past s x refl legal.1 in
    let (unchanged, all) = untouched C request before past s.call.committed (moment past).commits may.0 s.done in
    let ends = lone_refusal_may_end C request number refusal end before past run legal in
    record {
      plain = plainly_refused C before past all request refusal ends;
      commits = ap (λ (m : Moment). m.commits) same ∙ unchanged;
      views = ap (λ (m : Moment). m.views) same ∙ s.is_open.views;
      closed = ap (λ (m : Moment). m.calls) same ∙ closed_alone (moment past).calls s.call s.is_open.calls;
    }
