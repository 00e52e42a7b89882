-- After each query the views are at the newest change again, unless memory was refused.
use Rattle.std.proofs.Common.{ℕ, ◌≡◌, ◌≤◌, ◌⊎◌, Bool, true, false, inl, inr, List, [], ◌∷◌, ◌++◌, length, refl, sym, ap, subst, ◌∙◌, arith, length-append}
use Rattle.std.specs.Prelude.{zero, suc, ◌+◌, ◌==◌, not, MatchBool, if◌then◌else◌, All, Result, Ok, Err}
use Rattle.std.proofs.lemmas.Bool.{cases_Bool}
use Rattle.std.proofs.lemmas.List.Elements.{All-head, All-tail, All-nil, All-cons}
use Rattle.mt_types.specs.Rows.{Rows}
use Rattle.mt_types.specs.declared.row.Change.{Change}
use Rattle.mt_types.specs.declared.refusal.Refusal.{Refusal}
use Rattle.mt_types.specs.declared.event.Answer.{Answer}
use Rattle.mt_types.specs.declared.event.Answer.TheVariants.{Absent, Found, Stored, Removed, Rows as RowsAnswer, Tidied, Built}
use Rattle.mt_types.specs.declared.event.Reply.{Reply}
use Rattle.mt_types.specs.declared.event.Request.{Request}
use Rattle.mt_types.specs.declared.event.Request.TheVariants.{Get, Put, PutIf, Remove, Range, Tidy, Build}
use Rattle.mt_types.specs.declared.event.Outcome.{Outcome}
use Rattle.mt_types.specs.declared.event.Outcome.TheVariants.{Epoch}
use Rattle.mt_promise.specs.History.{History, Moment, StandingView, after_advance, moment, rows, view_built, without_view}
use Rattle.mt_promise.specs.Alone.{IsPlain}
use Rattle.mt_wire.specs.declared.query.Query.{Query}
use Rattle.mt_wire.specs.declared.query.Query.TheVariants.{Call, Read, ViewRead, ViewDrop, Server}
use Rattle.mt_wire.specs.declared.response.Response.{Response}
use Rattle.mt_wire.specs.Answered.{end_of}
use Rattle.mt_serve.specs.Asking.{call_response, changes, end_changes}
use Rattle.mt_serve.specs.Store.{Store, now, newest}
use Rattle.mt_serve.specs.Plain.{CallRuns, IsReadAtOnce, CallEnds, PlainlyAsks, PlainlyFollows, NoneBehind, MayBeTidied, TidiesPlainly, TidiesPlainlyOnce}
use Rattle.mt_walk.specs.declared.place.TheConstants.{MAX_TIDIES}
use Rattle.mt_serve.specs.Ample.{RanOutBefore, ViewsStayNewest}

-- each of these views is at most this many commits short of the number n
abbrev Close : ℕ → ℕ → List StandingView → Type 0
Close many n views = All (λ (v : StandingView). n ≤ v.at + many) views

close_append : (many n : ℕ) (views more : List StandingView) → Close many n views → Close many n more → Close many n (views ++ more)
close_append many n [] more one two = two
close_append many n (v ∷ views) more one two =
    All-cons (λ (w : StandingView). n ≤ w.at + many) v (views ++ more) (All-head (λ (w : StandingView). n ≤ w.at + many) v views one)
    (close_append many n views more (All-tail (λ (w : StandingView). n ≤ w.at + many) v views one) two)

close_more : (n next many : ℕ) (views : List StandingView) → next ≤ n + many → Close 0 n views → Close many next views
close_more n next many [] most all = All-nil (λ (w : StandingView). next ≤ w.at + many)
close_more n next many (v ∷ views) most all =
    let head = All-head (λ (w : StandingView). n ≤ w.at + 0) v views all in
    All-cons (λ (w : StandingView). next ≤ w.at + many) v views (omega (arith, head, most)) (close_more n next many views most (All-tail (λ (w : StandingView). n ≤ w.at + 0) v views all))

close_fewer : (many n number : ℕ) (views : List StandingView) → Close many n views → Close many n (without_view number views)
close_fewer many n number [] all = All-nil (λ (w : StandingView). n ≤ w.at + many)
close_fewer many n number (v ∷ views) all =
    let rest = close_fewer many n number views (All-tail (λ (w : StandingView). n ≤ w.at + many) v views all) in
    elim (cases_Bool (v.number == number)) [
      | inl b ↦ subst (λ (t : Bool). Close many n (if not t then v ∷ without_view number views else without_view number views)) (sym b) rest
      | inr b ↦ subst (λ (t : Bool). Close many n (if not t then v ∷ without_view number views else without_view number views)) (sym b)
          (All-cons (λ (w : StandingView). n ≤ w.at + many) v (without_view number views) (All-head (λ (w : StandingView). n ≤ w.at + many) v views all) rest)
    ]

-- ---- a call
-- how many changes it makes at most: one, and none unless its answer says so
made_few : (map : Rows) (n : ℕ) (request : Request) (answer : Answer) (made : List Change) → IsPlain map n request answer made → length made ≤ 1
made_few map n (Get key asked) Absent made (none, is) = subst (λ (l : List Change). length l ≤ 1) (sym is) (omega arith)
made_few map n (Get key asked) (Found row) made (shown, is) = subst (λ (l : List Change). length l ≤ 1) (sym is) (omega arith)
made_few map n (Put key sets) (Stored number) made (next, is) = subst (λ (l : List Change). length l ≤ 1) (sym is) (omega arith)
made_few map n (PutIf key sets version) (Stored number) made (same, next, is) = subst (λ (l : List Change). length l ≤ 1) (sym is) (omega arith)
made_few map n (Remove key) (Removed number) made (there, next, is) = subst (λ (l : List Change). length l ≤ 1) (sym is) (omega arith)
made_few map n (Remove key) Absent made (none, is) = subst (λ (l : List Change). length l ≤ 1) (sym is) (omega arith)
made_few map n (Range start limit asked) (RowsAnswer pairs) made (range, is) = subst (λ (l : List Change). length l ≤ 1) (sym is) (omega arith)
made_few map n (Tidy key) (Tidied rule) made is = subst (λ (l : List Change). length l ≤ 1) (sym is) (omega arith)
made_few map n (Build spec) (Built view) made is = subst (λ (l : List Change). length l ≤ 1) (sym is) (omega arith)
made_few map n _ _ made plain = absurd plain

-- the view of a build is at the number of changes that there were
built_close : (request : Request) (answer : Answer) (n next : ℕ) → next ≤ n + 1 → Close 1 next (view_built request answer n)
built_close (Build spec) (Built number) n next most =
    All-cons (λ (w : StandingView). next ≤ w.at + 1) _ [] most (All-nil (λ (w : StandingView). next ≤ w.at + 1))
built_close _ _ n next most = All-nil (λ (w : StandingView). next ≤ w.at + 1)

-- an answer by which nothing is changed
made_none : (map : Rows) (n : ℕ) (request : Request) (answer : Answer) (made : List Change) → IsPlain map n request answer made → end_changes (end_of answer) ≡ false → (made ≡ []) × (view_built request answer n ≡ [])
made_none map n (Get key asked) Absent made (none, is) none_changed = (is, refl)
made_none map n (Get key asked) (Found row) made (shown, is) none_changed = (is, refl)
made_none map n (Remove key) Absent made (none, is) none_changed = (is, refl)
made_none map n (Range start limit asked) (RowsAnswer pairs) made (range, is) none_changed = (is, refl)
made_none map n (Tidy key) (Tidied rule) made is none_changed = (is, refl)
made_none map n (Put key sets) (Stored number) made plain changed = let clash : ◌≡◌ {A = Bool} true false = changed in cc
made_none map n (PutIf key sets version) (Stored number) made plain changed = let clash : ◌≡◌ {A = Bool} true false = changed in cc
made_none map n (Remove key) (Removed number) made plain changed = let clash : ◌≡◌ {A = Bool} true false = changed in cc
made_none map n (Build spec) (Built view) made plain changed = let clash : ◌≡◌ {A = Bool} true false = changed in cc
made_none map n _ _ made plain changed = absurd plain

runs_close : (s t : Store) (request : Request) (result : Result Reply Refusal) → NoneBehind 0 s → CallRuns s request result t → NoneBehind 1 t × (changes (call_response result) ≡ false → NoneBehind 0 t)
runs_close s t request (Ok reply) close done =
    let p = done.plain in
    let few = made_few _ (newest s) request reply.answer p.made p.plain in
    let long = ap length p.commits ∙ length-append (now s).commits p.made in (
      subst (λ (l : List StandingView). Close 1 (newest t) l) (sym p.views)
          (close_append 1 (newest t) (now s).views (view_built request reply.answer (newest s)) (close_more (newest s) (newest t) 1 (now s).views (omega (arith, few, long)) close)
          (built_close request reply.answer (newest s) (newest t) (omega (arith, few, long)))),
      λ none. (let (nothing, unbuilt) = made_none _ (newest s) request reply.answer p.made p.plain none in
          let same : newest t ≡ newest s = long ∙ (let size : length p.made ≡ 0 = ap length nothing in omega (arith, size)) in
          subst (λ (l : List StandingView). Close 0 (newest t) l) (sym p.views)
          (close_append 0 (newest t) (now s).views (view_built request reply.answer (newest s)) (close_more (newest s) (newest t) 0 (now s).views (omega (arith, same)) close)
          (subst (λ (l : List StandingView). Close 0 (newest t) l) (sym unbuilt) (All-nil (λ (w : StandingView). newest t ≤ w.at + 0))))),
    )
runs_close s t request (Err refusal) close (how, nothing) =
    let same = ap length nothing.commits in (
      subst (λ (l : List StandingView). Close 1 (newest t) l) (sym nothing.views) (close_more (newest s) (newest t) 1 (now s).views (omega (arith, same)) close),
      λ none. subst (λ (l : List StandingView). Close 0 (newest t) l) (sym nothing.views) (close_more (newest s) (newest t) 0 (now s).views (omega (arith, same)) close),
    )

-- by a read at once nothing has happened
same_after : (s t : Store) (request : Request) (result : Result Reply Refusal) → IsReadAtOnce s request result t → t ≡ s
same_after s t request (Ok reply) read = read.0
same_after s t request (Err refusal) read = read.0

call_close : (s t : Store) (request : Request) (result : Result Reply Refusal) → NoneBehind 0 s → CallEnds s request result t → NoneBehind 1 t × (changes (call_response result) ≡ false → NoneBehind 0 t)
call_close s t request result close (inl runs) = runs_close s t request result close runs
call_close s t request result close (inr (inr (within, short, same))) =
    let still : NoneBehind 0 t = subst (NoneBehind 0) (sym same) close in
    (close_more (newest t) (newest t) 1 (now t).views (omega arith) still, λ none. still)
call_close s t request result close (inr (inl read)) =
    let still : NoneBehind 0 t = subst (NoneBehind 0) (sym (same_after s t request result read)) close in
    (close_more (newest t) (newest t) 1 (now t).views (omega arith) still, λ none. still)

-- ---- a query
asks_close : (s t : Store) (query : Query) (response : Response) → NoneBehind 0 s → PlainlyAsks s query response t → NoneBehind 1 t × (changes response ≡ false → NoneBehind 0 t)
asks_close s t (Call request) response close (result, ends, is) =
    let (one, none) = call_close s t request result close ends in
    (one, λ same. none (ap changes (sym is) ∙ same))
asks_close s t (ViewRead view floor start limit) response close (result, inr (same, shown), is) =
    let still : NoneBehind 0 t = subst (NoneBehind 0) (sym same) close in
    (close_more (newest t) (newest t) 1 (now t).views (omega arith) still, λ none. still)
asks_close s t (ViewRead view floor start limit) response close (result, inl ((all, (note, past)), may), is) =
    let still : NoneBehind 0 t = subst (λ (h : History). Close 0 (length (moment h).commits) (moment h).views) (sym past) close in
    (close_more (newest t) (newest t) 1 (now t).views (omega arith) still, λ none. still)
asks_close s t (ViewDrop view) response close (Ok done, ((all, (note, past)), may), is) =
    let still : NoneBehind 0 t = subst (λ (h : History). Close 0 (length (moment h).commits) (moment h).views) (sym past) (close_fewer 0 (newest s) view.0 (now s).views close) in
    (close_more (newest t) (newest t) 1 (now t).views (omega arith) still, λ none. still)
asks_close s t (ViewDrop view) response close (Err refusal, ((all, (note, past)), may), is) =
    let still : NoneBehind 0 t = subst (λ (h : History). Close 0 (length (moment h).commits) (moment h).views) (sym past) close in
    (close_more (newest t) (newest t) 1 (now t).views (omega arith) still, λ none. still)
asks_close s t (Read query) response close (same, is) =
    let still : NoneBehind 0 t = subst (NoneBehind 0) (sym same) close in
    (close_more (newest t) (newest t) 1 (now t).views (omega arith) still, λ none. still)
asks_close s t (Server query) response close (same, is) =
    let still : NoneBehind 0 t = subst (NoneBehind 0) (sym same) close in
    (close_more (newest t) (newest t) 1 (now t).views (omega arith) still, λ none. still)

-- ---- tidies
tidy_none : (map : Rows) (n : ℕ) (key : List ℕ) (answer : Answer) (made : List Change) → IsPlain map n (Tidy key) answer made → end_changes (end_of answer) ≡ false
tidy_none map n key (Tidied rule) made is = refl
tidy_none map n key _ made plain = absurd plain

tidy_quiet : (s t : Store) (key : List ℕ) (result : Result Reply Refusal) → CallEnds s (Tidy key) result t → changes (call_response result) ≡ false
tidy_quiet s t key (Ok reply) (inl done) = tidy_none (rows s.machine.columns (now s)) (newest s) key reply.answer done.plain.made done.plain.plain
tidy_quiet s t key (Ok reply) (inr (inl (same, read, within, plain))) = absurd read
tidy_quiet s t key (Ok reply) (inr (inr (within, short, same))) = absurd within
tidy_quiet s t key (Err refusal) ends = refl

once_close : (s t : Store) (key : List ℕ) (took : Bool) → NoneBehind 0 s → TidiesPlainlyOnce s key took t → NoneBehind 0 t
once_close s t key took close (inl (result, ends, is)) = (call_close s t (Tidy key) result close ends).1 (tidy_quiet s t key result ends)
once_close s t key took close (inr (none, same)) = subst (NoneBehind 0) (sym same) close

tidies_close : (s t : Store) (key : List ℕ) (tidies : ℕ) → NoneBehind 0 s → TidiesPlainly s key tidies t → NoneBehind 0 t
tidies_close s t key zero close same = subst (NoneBehind 0) (sym same) close
tidies_close s t key (suc tidies) close (m, before, one) = once_close m t key true (tidies_close s m key tidies close before) one

-- an epoch leaves calls, changes and views
pub advanced_calls : (m : Moment) (outcome : Outcome) → (after_advance m outcome).calls ≡ m.calls
advanced_calls m (Epoch number) = refl
advanced_calls m _ = refl

pub advanced_views : (m : Moment) (outcome : Outcome) → (after_advance m outcome).views ≡ m.views
advanced_views m (Epoch number) = refl
advanced_views m _ = refl

advanced_commits : (m : Moment) (outcome : Outcome) → (after_advance m outcome).commits ≡ m.commits
advanced_commits m (Epoch number) = refl
advanced_commits m _ = refl

tidied_close : (s t : Store) (query : Query) → NoneBehind 0 s → MayBeTidied query s t → NoneBehind 0 t
tidied_close s t (Call (Remove key)) close (inl done) =
    let (all, (note, past)) = done.frees.0 in
    let (before, (other, later)) = done.advances.0 in
    let tidied : NoneBehind 0 done.tidied = elim done.tidies [
      | inl most ↦ tidies_close s done.tidied key MAX_TIDIES close most
      | inr fewer ↦ (let (tidies, less, m, before, (took, one)) = fewer in once_close m done.tidied key took (tidies_close s m key tidies close before) one)
    ] in
    let advanced : NoneBehind 0 done.next =
    subst (λ (h : History). Close 0 (length (moment h).commits) (moment h).views) (sym later)
    (subst (λ (l : List StandingView). Close 0 (length (after_advance (now done.tidied) done.advanced).commits) l) (sym (advanced_views (now done.tidied) done.advanced))
    (subst (λ (l : List Change). Close 0 (length l) (now done.tidied).views) (sym (advanced_commits (now done.tidied) done.advanced)) tidied)) in
    subst (λ (h : History). Close 0 (length (moment h).commits) (moment h).views) (sym past) advanced
tidied_close s t (Call (Remove key)) close (inr same) = subst (NoneBehind 0) (sym same) close
tidied_close s t query close same = subst (NoneBehind 0) (sym same) close

pub views_stay_newest : ViewsStayNewest
views_stay_newest s t query response close (asked, asks, after) = by_change (changes response) refl after
  where
    by_change : (b : Bool) → changes response ≡ b → MatchBool b (PlainlyFollows query asked t) (t ≡ asked) → NoneBehind 0 t ⊎ RanOutBefore query t
    by_change true e (up, kept, tidied) = elim (kept.newest (asks_close s asked query response close asks).0) [
      | inl close ↦ inl (tidied_close up t query close tidied)
      | inr ran ↦ inr (asked, up, kept.turns, kept.happens, ran, tidied)
    ]
    by_change false e is = inl (subst (NoneBehind 0) (sym is) ((asks_close s asked query response close asks).1 e))
