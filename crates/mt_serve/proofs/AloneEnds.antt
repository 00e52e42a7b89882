-- How a call that is driven alone ends.
use Rattle.std.proofs.Common.{ℕ, ◌≡◌, ◌<◌, ◌≤◌, Bool, false, inl, inr, List, [], ◌∷◌, ◌++◌, length, Option, Some, None, refl, sym, ap, subst, ◌∙◌, arith, length-append}
use Rattle.std.specs.Prelude.{◌+◌, nat_le, MatchOption, count_by, Result, Ok, Err}
use Rattle.std.specs.Option.{option_or}
use Rattle.std.proofs.lemmas.Bool.Decides.{leb_tells}
use Rattle.mt_types.specs.Numbers.{greatest_number}
use Rattle.mt_types.specs.Limits.{refused_if, request_fault}
use Rattle.mt_types.specs.declared.limits.TheConstants.{MAX_VIEWS, MAX_OPEN_CALLS}
use Rattle.mt_types.specs.declared.numbers.PassNo.{PassNo}
use Rattle.mt_types.specs.declared.numbers.CallNo.{CallNo}
use Rattle.mt_types.specs.declared.refusal.Refusal.{Refusal}
use Rattle.mt_types.specs.declared.refusal.Refusal.TheVariants.{NoMemory, Spent, TooManyCalls, TooManyViews}
use Rattle.mt_types.specs.declared.event.Event.TheVariants.{Begin, Step}
use Rattle.mt_types.specs.declared.event.Outcome.{Outcome}
use Rattle.mt_types.specs.declared.event.Outcome.TheVariants.{Call as Called, Done, Refused}
use Rattle.mt_types.specs.declared.event.Answer.{Answer}
use Rattle.mt_types.specs.declared.event.Answer.TheVariants.{Built}
use Rattle.mt_types.specs.declared.event.Reply.{Reply}
use Rattle.mt_types.specs.declared.event.Request.{Request}
use Rattle.mt_types.specs.declared.event.Request.TheVariants.{Get, Put, PutIf, Remove, Range, Tidy, Build}
use Rattle.mt_promise.specs.History.{History, happening, Moment, OpenCall, StandingView, moment, rows, view_built}
use Rattle.mt_promise.specs.Legal.{Legal, MayBegin, MayStepAt, begin_fault, view_places, is_build}
use Rattle.mt_promise.specs.RightAnswers.{RightAnswer}
use Rattle.mt_promise.specs.Alone.{IsPlainRefusal}
use Rattle.mt_promise.proofs.AloneLemmas.{lone_calls_are_plain, lone_refusals_do_nothing}
use Rattle.mt_shared.specs.Traces.{entry}
use Rattle.mt_shared.specs.Passes.{PassView}
use Rattle.mt_shared.specs.Drives.{IsCut, IsDrive, EndsIn}
use Rattle.mt_shared.specs.Inner.{InnerView, Does, is_foreign}
use Rattle.mt_serve.specs.Store.{Store, EndsBy, fault}
use Rattle.mt_serve.specs.Plain.{IsAlone, CallRuns, GivesNext, store_of}
use Rattle.mt_serve.proofs.CauseLemmas.{any_cause, begin_plainly}
use Rattle.mt_serve.proofs.CallLemmas.{refused_says}
use Rattle.mt_serve.proofs.AloneEvents.{keeping, Goes, goes, leads_one}
use Rattle.mt_serve.proofs.AloneLemmas.{IsWhole, Reached, found, only_call, own_begin, own_step, refused_for, whole_run}

-- ---- limits of a begin
or_none : (a b : Option Refusal) → option_or a b ≡ None → b ≡ None
or_none None b e = e
or_none (Some x) b e = let clash : ◌≡◌ {A = Option Refusal} (Some x) None = e in cc

places_none : (m : Moment) → m.calls ≡ [] → view_places m ≡ length m.views
places_none m none = ap (λ (l : List OpenCall). length m.views + count_by (λ (c : OpenCall). is_build c.request) l) none ∙ (let zero : length m.views + 0 ≡ length m.views = omega arith in zero)

fault_alone : (C : ℕ) (m : Moment) (request : Request) → m.calls ≡ [] → begin_fault C m.begun (length m.calls) (view_places m) request ≡ begin_fault C m.begun 0 (length m.views) request
fault_alone C m request none =
    ap (λ (l : List OpenCall). begin_fault C m.begun (length l) (view_places m) request) none
    ∙ ap (λ (n : ℕ). begin_fault C m.begun 0 n request) (places_none m none)

no_fault : (m : Moment) (fault : Option Refusal) (call : CallNo) → MayBegin m fault (Called call) → fault ≡ None
no_fault m None call may = refl
no_fault m (Some refusal) call may = let clash : Called call ≡ Refused refusal = may in cc

room_for_one : (C begun views : ℕ) (spec : _) → begin_fault C begun 0 views (Build spec) ≡ None → views < MAX_VIEWS
room_for_one C begun views spec none =
    let last = or_none (refused_if (nat_le MAX_OPEN_CALLS 0) TooManyCalls) (refused_if (nat_le MAX_VIEWS views) TooManyViews)
    (or_none (refused_if (nat_le greatest_number begun) Spent) _ (or_none (request_fault C (Build spec)) _ none)) in
    elim (leb_tells MAX_VIEWS views) [
      | inl b ↦ (let clash : ◌≡◌ {A = Option Refusal} (Some TooManyViews) None = sym (ap (λ (t : Bool). refused_if t TooManyViews) b.0) ∙ last in cc)
      | inr b ↦ (let less = b.1 in omega (arith, less))
    ]

room : (C begun : ℕ) (views : List StandingView) (request : Request) (answer : Answer) (at : ℕ) → begin_fault C begun 0 (length views) request ≡ None → length views ≤ MAX_VIEWS
    → length (views ++ view_built request answer at) ≤ MAX_VIEWS
room C begun views (Build spec) (Built number) at none few =
    let less = room_for_one C begun (length views) spec none in
    let long = length-append views (view_built (Build spec) (Built number) at) in omega (arith, less, long)
room C begun views _ _ at none few = let long = length-append views [] in omega (arith, few, long)

-- ---- its end
-- a build that is done gives the next number of a view
gives_next : (C : ℕ) (past : History) (call : OpenCall) (asked : Request) (answer : Answer) (note : ℕ) (s : Store) → (moment past).built ≡ (moment s.past).built → RightAnswer C past call asked answer note → GivesNext s answer
gives_next C past call (Build spec) (Built view) note s same right = right.0 ∙ ap (λ (n : ℕ). n + 1) same
gives_next C past call (Get key asked) (Built view) note s same right = absurd right
gives_next C past call (Put key sets) (Built view) note s same right = absurd right
gives_next C past call (PutIf key sets version) (Built view) note s same right = absurd right
gives_next C past call (Remove key) (Built view) note s same right = absurd right
gives_next C past call (Range start limit asked) (Built view) note s same right = absurd right
gives_next C past call (Tidy key) (Built view) note s same right = absurd right
gives_next C past call asked _ note s same right = tt

-- its last step
record LastStep (s : Store) (request : Request) (pass : PassNo) (call : CallNo) (last : Outcome) (t : InnerView) (q : PassView) : Type 0 where
  m : InnerView
  r : PassView
  at : Reached s request pass call m r
  went : Goes m r at.past (Step call) last t q
  legal : Legal s.machine.columns (happening (Step call) last went.note ∷ at.past)
  ends : EndsBy s pass request call last (store_of t (happening (Step call) last went.note ∷ at.past))

last_step : (s : Store) (t : InnerView) (q : PassView) (request : Request) (pass : PassNo) (call : CallNo) (last : Outcome) → t.events < greatest_number → IsWhole s request pass call (entry pass (Step call) last) t q → LastStep s request pass call last t q
last_step s t q request pass call last few w =
    let at = w.ends.at in
    let own : is_foreign w.ends.m.machine w.ends.r.number (Step call) ≡ false = subst (λ (n : PassNo). is_foreign w.ends.m.machine n (Step call) ≡ false) (sym at.number) (own_step request pass call s.past at.past at.way w.ends.m.machine at.keeps.stands) in
    let went = goes w.ends.m t w.ends.r q at.past (Step call) last at.keeps few own w.ends.does in
    record {
      m = w.ends.m;
      r = w.ends.r;
      at = at;
      went = went;
      legal = subst (λ (C : ℕ). Legal C (happening (Step call) last went.note ∷ at.past)) at.columns went.legal;
      ends = record {
        m = store_of w.ends.m at.past;
        comes = at.comes;
        ends = leads_one w.ends.m t at.past (Step call) last went.note went.happens;
      };
    }

pub drive_ends : (s t : InnerView) (p q : PassView) (h : History) (request : Request) (result : Result Reply Refusal) → IsAlone s p h → t.events < greatest_number → IsDrive Does s p request result t q
    → (final : History) × IsAlone t q final × (t.machine.columns ≡ s.machine.columns) × CallRuns (store_of s h) request result (store_of t final)
drive_ends s t p q h request (Ok reply) a few d =
    let w = whole_run s t p q h request reply.call d.driven.steps (Done reply) a few d.driven.are_steps d.driven.runs in
    let l = last_step (store_of s h) t q request p.number reply.call (Done reply) few w in
    let ends = lone_calls_are_plain s.machine.columns request reply.call reply l.went.note h l.at.past l.at.way.run l.legal in
    let none = sym (fault_alone s.machine.columns (moment h) request a.ended) ∙ no_fault (moment h) (begin_fault s.machine.columns (moment h).begun (length (moment h).calls) (view_places (moment h)) request) reply.call w.may in
    let right = subst (λ (r : Option OpenCall). MayStepAt s.machine.columns l.at.past r (Done reply) l.went.note) (found request p.number reply.call h l.at.past l.at.way) l.legal.1 in
    let same_pass : p.number ≡ reply.pass = sym (λ i. record { 0 = (right.pass ∙ l.at.way.by) i }) in (
      happening (Step reply.call) (Done reply) l.went.note ∷ l.at.past,
      record {
        stands = l.went.keeps.stands;
        ended = ends.closed;
        few_views = subst (λ (l : List StandingView). length l ≤ MAX_VIEWS) (sym ends.views) (room s.machine.columns (moment h).begun (moment h).views request reply.answer (length (moment h).commits) none a.few_views);
        own = l.went.keeps.own;
        seen = l.went.keeps.seen;
        counted = l.went.keeps.counted;
      },
      l.went.columns ∙ l.at.columns,
      record {
        within = none;
        happens = subst (λ (n : PassNo). EndsBy (store_of s h) n request reply.call (Done reply) (store_of t (happening (Step reply.call) (Done reply) l.went.note ∷ l.at.past))) same_pass l.ends;
        plain = record { same_pass = refl; same_call = refl; from = ends.from; to = ends.to; made = ends.made; plain = ends.plain; commits = ends.commits; views = ends.views; closed = ends.closed };
        next = gives_next s.machine.columns l.at.past l.at.way.one l.at.way.one.request reply.answer l.went.note (store_of s h) l.at.way.built right.answer;
      },
    )
drive_ends s t p q h request (Err refusal) a few d = elim d.refused [
  | inl turned ↦
      let went = goes s t p q h (Begin p.number request) (Refused refusal) (keeping s p h a) few (own_begin s.machine p.number request) turned in (
        happening (Begin p.number request) (Refused refusal) went.note ∷ h,
        record { stands = went.keeps.stands; ended = a.ended; few_views = a.few_views; own = went.keeps.own; seen = went.keeps.seen; counted = went.keeps.counted },
        went.columns,
        (
          inl (
            p.number,
            leads_one s t h (Begin p.number request) (Refused refusal) went.note went.happens,
            turned_for (moment h) (begin_fault s.machine.columns (moment h).begun (length (moment h).calls) (view_places (moment h)) request) (fault (store_of s h) request) (fault_alone s.machine.columns (moment h) request a.ended) went.may,
          ),
          record {
            plain = turned_plainly (moment h) (begin_fault s.machine.columns (moment h).begun (length (moment h).calls) (view_places (moment h)) request) refl went.may;
            commits = refl;
            views = refl;
            closed = a.ended;
          },
        ),
      )
  | inr cut ↦ cut_ends cut
]
  where
    turned_for : (m : Moment) (given due : Option Refusal) → given ≡ due → MayBegin m given (Refused refusal) → MatchOption due (refusal ≡ NoMemory) (λ cause. refusal ≡ cause)
    turned_for m given due is may = subst (λ (o : Option Refusal). MatchOption o (refusal ≡ NoMemory) (λ cause. refusal ≡ cause)) is (by_fault given may)
      where
        by_fault : (o : Option Refusal) → MayBegin m o (Refused refusal) → MatchOption o (refusal ≡ NoMemory) (λ cause. refusal ≡ cause)
        by_fault (Some cause) may = let same : refusal ≡ cause = cc in same
        by_fault None may = elim may [ inl call ↦ cc | inr memory ↦ let same : refusal ≡ NoMemory = cc in same ]

    turned_plainly : (m : Moment) (fault : Option Refusal) → fault ≡ begin_fault s.machine.columns (moment h).begun (length (moment h).calls) (view_places (moment h)) request → MayBegin m fault (Refused refusal)
        → IsPlainRefusal (rows s.machine.columns (moment h)) request refusal
    turned_plainly m (Some cause) is may =
        let same : refusal ≡ cause = cc in
        begin_plainly s.machine.columns (moment h).begun (length (moment h).calls) (view_places (moment h)) request (rows s.machine.columns (moment h)) refusal (sym is ∙ ap (λ (x : Refusal). Some x) (sym same))
    turned_plainly m None is may = elim may [
      | inl call ↦ cc
      | inr memory ↦ let same : refusal ≡ NoMemory = cc in subst (λ (x : Refusal). IsPlainRefusal (rows s.machine.columns (moment h)) request x) (sym same) (any_cause (rows s.machine.columns (moment h)) request NoMemory tt)
    ]

    -- a reply from before what the pass had seen: there is none
    none_stale : (reply : Reply) (c : CallNo) → reply.from < p.seen → IsWhole (store_of s h) request p.number c (entry p.number (Step c) (Done reply)) t q → ⊥
    none_stale reply c stale w =
        let l = last_step (store_of s h) t q request p.number c (Done reply) few w in
        let ends = lone_calls_are_plain s.machine.columns request c reply l.went.note h l.at.past l.at.way.run l.legal in
        let from = ends.from in
        let seen = a.seen in
        omega (arith, from, seen, stale)

    refused_end : (c : CallNo) → IsWhole (store_of s h) request p.number c (entry p.number (Step c) (Refused refusal)) t q
        → (final : History) × IsAlone t q final × (t.machine.columns ≡ s.machine.columns) × CallRuns (store_of s h) request (Err refusal) (store_of t final)
    refused_end c w =
        let l = last_step (store_of s h) t q request p.number c (Refused refusal) few w in
        let nothing = lone_refusals_do_nothing s.machine.columns request c refusal l.went.note h l.at.past l.at.way.run l.legal in
        let none = sym (fault_alone s.machine.columns (moment h) request a.ended) ∙ no_fault (moment h) (begin_fault s.machine.columns (moment h).begun (length (moment h).calls) (view_places (moment h)) request) c w.may in (
          happening (Step c) (Refused refusal) l.went.note ∷ l.at.past,
          record {
            stands = l.went.keeps.stands;
            ended = nothing.closed;
            few_views = subst (λ (l : List StandingView). length l ≤ MAX_VIEWS) (sym nothing.views) a.few_views;
            own = l.went.keeps.own;
            seen = l.went.keeps.seen;
            counted = l.went.keeps.counted;
          },
          l.went.columns ∙ l.at.columns,
          (
            inr (
              none,
              (
                p.number,
                c,
                l.ends,
                refused_for request p.number c h l.at.past l.at.way s.machine l.m.machine.columns l.went.note refusal l.went.may
                    (refused_says (store_of s h) p.number request c l.m.machine t.machine l.at.past l.at.way.one (only_call (store_of s h) request p.number c l.m l.r l.at) l.at.way.asks refusal l.went.happens.happens l.at.says),
              ),
            ),
            nothing,
          ),
        )

    by_last : (c : CallNo) (last : Outcome) → EndsIn refusal p.seen last → IsWhole (store_of s h) request p.number c (entry p.number (Step c) last) t q
        → (final : History) × IsAlone t q final × (t.machine.columns ≡ s.machine.columns) × CallRuns (store_of s h) request (Err refusal) (store_of t final)
    by_last c (Refused cause) ends w = refused_end c (subst (λ (x : Refusal). IsWhole (store_of s h) request p.number c (entry p.number (Step c) (Refused x)) t q) ends w)
    by_last c (Done reply) ends w = absurd (none_stale reply c ends.0 w)
    by_last c _ ends w = absurd ends

    cut_ends : IsCut Does s p request refusal t q → (final : History) × IsAlone t q final × (t.machine.columns ≡ s.machine.columns) × CallRuns (store_of s h) request (Err refusal) (store_of t final)
    cut_ends cut = by_last cut.call cut.last cut.ends (whole_run s t p q h request cut.call cut.steps cut.last a few cut.are_steps cut.runs)
