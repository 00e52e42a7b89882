-- How large the answers of a legal history are.
use Rattle.std.proofs.lemmas.Bool.{leb-true}
use Rattle.std.proofs.Common.{◌≡◌, ◌≤◌, ◌+◌, ◌&&◌, ℕ, zero, suc, true, false, T, cond, List, ◌∷◌, ◌++◌, map, length, Option, Some, None, ◌∙◌, ap, sym, subst, refl, inl, inr, arith, [], not}
use Rattle.std.specs.Prelude.{nat_lt, MatchBool, take, filter, nat_le}
use Rattle.std.specs.List.{AllByRecursion}
use Rattle.std.specs.Option.{option_or}
use Rattle.std.specs.declared.cmp.Ordering.{Ordering}
use Rattle.std.specs.declared.cmp.Ordering.TheVariants.{Less, Equal, Greater}
use Rattle.std.specs.Ordering.{is_eq, is_lt, is_ge}
use Rattle.std.specs.FinMap as fin
use Rattle.std.specs.FinMap.{entries, is_sorted}
use Rattle.std.specs.FinMap.Entries.{find, below_all}
use Rattle.std.proofs.lemmas.Cmp.{tied_itself}
use Rattle.std.proofs.lemmas.List.Elements.{recursion_from_All}
use Rattle.mt_types.specs.Keys.{key_cmp}
use Rattle.mt_types.specs.Rows.{Rows, after, shown}
use Rattle.mt_types.specs.Views.{afresh, belongs, column_sums}
use Rattle.mt_types.specs.Limits.{refused_if, key_fault, columns_fault, sets_fault, limit_fault, request_fault, page_fault, open_fault, is_within}
use Rattle.mt_types.specs.Limited.{RowIsLimited, PairIsLimited, PageIsLimited, AnswerIsLimited, OutcomeIsLimited}
use Rattle.mt_types.specs.declared.limits.TheConstants.{MAX_COLUMNS}
use Rattle.mt_types.specs.declared.row.Row.{Row}
use Rattle.mt_types.specs.declared.row.Change.{Change}
use Rattle.mt_types.specs.declared.row.Change.TheVariants.{Put as PutChange, Drop}
use Rattle.mt_types.specs.declared.view.Page.{Page}
use Rattle.mt_types.specs.declared.refusal.Refusal.{Refusal}
use Rattle.mt_types.specs.declared.refusal.Refusal.TheVariants.{NoSuchView, Behind, Spent, BadColumn}
use Rattle.mt_types.specs.Numbers.{greatest_number}
use Rattle.mt_types.specs.declared.numbers.CallNo.{CallNo}
use Rattle.mt_types.specs.declared.event.Reply.{Reply}
use Rattle.mt_types.specs.declared.event.Request.{Request}
use Rattle.mt_types.specs.declared.event.Request.TheVariants.{Get, Put, PutIf, Remove, Range}
use Rattle.mt_types.specs.declared.event.Answer.{Answer}
use Rattle.mt_types.specs.declared.event.Answer.TheVariants.{Found, Rows as RowsAnswer}
use Rattle.mt_types.specs.declared.event.Event.{Event}
use Rattle.mt_types.specs.declared.event.Event.TheVariants.{Begin, Step, Apply, ViewRead, ViewDrop, Advance, Collect}
use Rattle.mt_types.specs.declared.event.Outcome.{Outcome}
use Rattle.mt_types.specs.declared.event.Outcome.TheVariants.{Call, Moved, Again, Commit, Done, Applied, Current, View, Dropped, Epoch, Freed, Refused}
use Rattle.mt_promise.specs.History.{History, Moment, OpenCall, StandingView, moment, rows, call_of, view_of, after_event, after_call_step, after_step, change_of, Sometime}
use Rattle.mt_promise.specs.Alone.{ShowsRow}
use Rattle.mt_promise.specs.RightAnswers.{RightAnswer, Shows}
use Rattle.mt_promise.specs.Legal.{Legal, MayHappen, MayBegin, MayStep, MayStepAt, MayApply, MayReadView, MayRead, MayShow, MayDrop, MayAdvance, IsOrLacksMemory, begin_fault, view_places}
use Rattle.mt_promise.specs.Limited.{OutcomesAreLimited, PlainAnswersAreLimited}
use Rattle.mt_promise.proofs.HistoryLemmas.{Sometime-end}
use Rattle.mt_promise.proofs.CallLemmas.{call_before}
use Rattle.mt_promise.proofs.FinishedLemmas.{done_call}
use Rattle.mt_promise.proofs.PageLemmas.{IsPageOf, asked_page}
use Rattle.mt_promise.proofs.RowLimits.{and_first, and_second, not_refused, neither_of, key_fits, none_long, limit_fits, shown_limited, AreKept, key_order, key_apart, ChangeIsLimited, rows_kept, added, taken, taken_few, filtered, each_of, and_true, not_not}

-- an index that may be opened has few columns
pub opened_few : (C feed keep : ℕ) → open_fault C feed keep ≡ None → C ≤ MAX_COLUMNS
opened_few C feed keep e =
    let columns = neither_of (refused_if (not (is_within 1 MAX_COLUMNS C)) BadColumn) _ e in
    let within = and_true (nat_le 1 C) (nat_le C MAX_COLUMNS) (not_not _ (not_refused _ _ columns.0)) in
    leb-true C MAX_COLUMNS within.1

-- ---- the history: each open call asked within the limits, and so did those that have committed
record IsLimited (C : ℕ) (m : Moment) : Type 0 where
  calls : (n : ℕ) (call : OpenCall) → call_of n m.calls ≡ Some call → request_fault C call.request ≡ None
  changes : AllByRecursion ChangeIsLimited m.commits

begins_well : (C : ℕ) (m : Moment) (request : Request) (number : CallNo) (r : Option Refusal) → begin_fault C m.begun (length m.calls) (view_places m) request ≡ r → MayBegin m r (Call number) → request_fault C request ≡ None
begins_well C m request number None is may = (neither_of (request_fault C request) _ is).0
begins_well C m request number (Some refusal) is may = absurd (cc)

call_asks : (C : ℕ) (past : History) (e : Event) (o : Outcome) (opens : ℕ) → MayHappen C past e o opens → IsLimited C (moment past)
    → (n : ℕ) (call : OpenCall) → call_of n (after_event (moment past) e o opens).calls ≡ Some call → request_fault C call.request ≡ None
call_asks C past e o opens may was n call at =
    elim (call_before (moment past) e o opens n call at) [
      | inl old ↦ subst (λ (q : Request). request_fault C q ≡ None) (sym old.2.request) (was.calls n old.0 old.1)
      | inr new ↦
          let named = subst (λ (z : Event). MayHappen C past z o opens) new.event may in
          let answered = subst (λ (z : Outcome). MayHappen C past (Begin new.pass new.request) z opens) new.outcome named in
          subst (λ (c : OpenCall). request_fault C c.request ≡ None) (sym new.is) (begins_well C (moment past) new.request new.number _ refl answered)
    ]

abbrev AreLimited : List Change → Type 0
AreLimited changes = AllByRecursion ChangeIsLimited changes

-- a commit makes the change for which its call asked
commit_limited : (C : ℕ) (past : History) (call : OpenCall) (request : Request) (number opens : ℕ) → MayStep C past (record call { request = request }) (Commit number) opens
    → request_fault C request ≡ None → AreLimited (moment past).commits → AreLimited ((moment past).commits ++ change_of request)
commit_limited C past call (Put key sets) number opens may asks were =
    let limits = neither_of (key_fault key) (sets_fault C sets) asks in
    let short = neither_of (columns_fault C (map (λ set. set.0) sets)) _ limits.1 in
    added ChangeIsLimited (moment past).commits (PutChange key sets) were (key_fits key limits.0, none_long sets (not_refused _ _ short.1))
commit_limited C past call (PutIf key sets version) number opens may asks were =
    let limits = neither_of (key_fault key) (sets_fault C sets) asks in
    let short = neither_of (columns_fault C (map (λ set. set.0) sets)) _ limits.1 in
    added ChangeIsLimited (moment past).commits (PutChange key sets) were (key_fits key limits.0, none_long sets (not_refused _ _ short.1))
commit_limited C past call (Remove key) number opens may asks were = added ChangeIsLimited (moment past).commits (Drop key) were tt
commit_limited C past call _ number opens may asks were = absurd may

step_limited : (C : ℕ) (past : History) (call : OpenCall) (o : Outcome) (opens : ℕ) → MayStep C past call o opens → request_fault C call.request ≡ None
    → AreLimited (moment past).commits → AreLimited (after_step (moment past) call o opens).commits
step_limited C past call Moved opens may asks were = were
step_limited C past call Again opens may asks were = were
step_limited C past call (Commit number) opens may asks were = commit_limited C past call call.request number opens may asks were
step_limited C past call (Done reply) opens may asks were = were
step_limited C past call (Refused refusal) opens may asks were = were
step_limited C past call _ opens may asks were = absurd may

call_step_limited : (C : ℕ) (past : History) (k : ℕ) (r : Option OpenCall) → call_of k (moment past).calls ≡ r → (o : Outcome) (opens : ℕ) → MayStepAt C past r o opens → IsLimited C (moment past)
    → AreLimited (after_call_step (moment past) r o opens).commits
call_step_limited C past k None at o opens may was = was.changes
call_step_limited C past k (Some call) at o opens may was = step_limited C past call o opens may (was.calls k call at) was.changes

event_limited : (C : ℕ) (past : History) (e : Event) (o : Outcome) (opens : ℕ) → MayHappen C past e o opens → IsLimited C (moment past) → AreLimited (after_event (moment past) e o opens).commits
event_limited C past (Begin pass request) (Call number) opens may was = was.changes
event_limited C past (Step call) o opens may was = call_step_limited C past call.0 (call_of call.0 (moment past).calls) refl o opens may was
event_limited C past (Apply view) (Applied number) opens may was = was.changes
event_limited C past (ViewDrop view) Dropped opens may was = was.changes
event_limited C past Advance (Epoch number) opens may was = was.changes
event_limited C past (ViewRead view floor start limit) o opens may was = was.changes
event_limited C past Collect o opens may was = was.changes
event_limited C past _ _ opens may was = was.changes

limited_at : (C : ℕ) (h : History) → Legal C h → IsLimited C (moment h)
limited_at C [] legal = record { calls = λ n call at. absurd (let clash : ◌≡◌ {A = Option OpenCall} None (Some call) = at in cc); changes = tt }
limited_at C (x ∷ h) legal =
    let was = limited_at C h legal.0 in
    record { calls = call_asks C h x.event x.outcome x.opens legal.1 was; changes = event_limited C h x.event x.outcome x.opens legal.1 was }

-- ---- the answers
legal_end : (C : ℕ) (newer past : History) → Legal C (newer ++ past) → Legal C past
legal_end C [] past legal = legal
legal_end C (x ∷ newer) past legal = legal_end C newer past legal.0

-- what was shown at some moment
shown_then : (C began : ℕ) (past : History) → Legal C past → C ≤ MAX_COLUMNS → (key asked : List ℕ) (answer : Row) → columns_fault C asked ≡ None → Sometime began (Shows C key asked answer) past → PairIsLimited (key, answer)
shown_then C began past legal few key asked answer named some =
    let (newer, earlier, ended, since, stood) = Sometime-end began (Shows C key asked answer) past some in
    let limited = limited_at C earlier (legal_end C newer earlier (subst (λ (z : History). Legal C z) ended legal)) in
    let kept = rows_kept C (moment earlier).commits limited.changes key stood.0 stood.1 in
    (kept.fits, subst (λ (r : Row). RowIsLimited r) (sym stood.2) (shown_limited C asked stood.0 few named kept.many kept.short))

answer_limited : (C : ℕ) (past : History) → Legal C past → C ≤ MAX_COLUMNS → (call : OpenCall) (request : Request) (answer : Answer) (opens : ℕ) → request_fault C request ≡ None
    → RightAnswer C past call request answer opens → AnswerIsLimited answer
answer_limited C past legal few call (Get key asked) (Found row) opens asks right =
    let limits = neither_of (key_fault key) (columns_fault C asked) asks in
    (shown_then C call.began past legal few key asked row limits.1 right).1
answer_limited C past legal few call (Range start limit asked) (RowsAnswer pairs) opens asks right =
    let limits = neither_of (key_fault start) (option_or (columns_fault C asked) (limit_fault limit)) asks in
    let named = neither_of (columns_fault C asked) (limit_fault limit) limits.1 in
    let most = limit_fits limit named.1 in
    let fewer = right.few in (
      omega (arith, most, fewer),
      each_of (λ pair. Sometime call.began (Shows C pair.0 asked pair.1) past) PairIsLimited (λ pair some. shown_then C call.began past legal few pair.0 asked pair.1 named.0 some) pairs
          (recursion_from_All (λ pair. Sometime call.began (Shows C pair.0 asked pair.1) past) pairs right.stood),
    )
answer_limited C past legal few call _ (Found row) opens asks right = absurd right
answer_limited C past legal few call _ (RowsAnswer pairs) opens asks right = absurd right
answer_limited C past legal few call request _ opens asks right = tt

-- what is shown of the rows now
shown_now : (C : ℕ) (past : History) → Legal C past → C ≤ MAX_COLUMNS → (key asked : List ℕ) (answer : Row) → columns_fault C asked ≡ None → ShowsRow (rows C (moment past)) asked key answer → PairIsLimited (key, answer)
shown_now C past legal few key asked answer named (row, there, is) =
    let kept = rows_kept C (moment past).commits (limited_at C past legal).changes key row there in
    (kept.fits, subst (λ (r : Row). RowIsLimited r) (sym is) (shown_limited C asked row few named kept.many kept.short))

pub plain_answers_are_limited : PlainAnswersAreLimited
plain_answers_are_limited C past (Get key asked) (Found row) few legal asks (shown, nothing) =
    let limits = neither_of (key_fault key) (columns_fault C asked) asks in
    (shown_now C past legal few key asked row limits.1 shown).1
plain_answers_are_limited C past (Range start limit asked) (RowsAnswer pairs) few legal asks (range, nothing) =
    let limits = neither_of (key_fault start) (option_or (columns_fault C asked) (limit_fault limit)) asks in
    let named = neither_of (columns_fault C asked) (limit_fault limit) limits.1 in
    let most = limit_fits limit named.1 in
    let fewer = range.few in (
      omega (arith, most, fewer),
      each_of (λ pair. ShowsRow (rows C (moment past)) asked pair.0 pair.1) PairIsLimited (λ pair shown. shown_now C past legal few pair.0 asked pair.1 named.0 shown) pairs
          (recursion_from_All (λ pair. ShowsRow (rows C (moment past)) asked pair.0 pair.1) pairs range.stood),
    )
plain_answers_are_limited C past _ (Found row) few legal asks plain = absurd plain
plain_answers_are_limited C past _ (RowsAnswer pairs) few legal asks plain = absurd plain
plain_answers_are_limited C past request _ few legal asks plain = tt

-- ---- pages
none_below : (x : List ℕ) (es : List (List ℕ × Row)) → T (below_all key_cmp x es) → find key_cmp x es ≡ None
none_below x [] h = refl
none_below x (e ∷ es) h = elim (key_cmp x e.0) as (λ o. T (is_lt o && below_all key_cmp x es) → cond (is_eq o) (Some e.1) (find key_cmp x es) ≡ None) [
  | Less ↦ λ both. none_below x es both
  | Equal ↦ λ both. absurd both
  | Greater ↦ λ both. absurd both
] h

-- what is so of each row that is found under its key is so of each entry
each_entry : (P : List ℕ × Row → Type 0) (es : List (List ℕ × Row)) → T (is_sorted key_cmp es) → ((q : List ℕ) (row : Row) → find key_cmp q es ≡ Some row → P (q, row)) → AllByRecursion P es
each_entry P [] sorted each = tt
each_entry P (e ∷ es) sorted each = (
  each e.0 e.1 (ap (λ (o : Ordering). cond (is_eq o) (Some e.1) (find key_cmp e.0 es)) (tied_itself key_order e.0)),
  each_entry P es (and_second _ _ sorted) (λ q row at. each q row (behind q row at)),
)
  where
    behind : (q : List ℕ) (row : Row) → find key_cmp q es ≡ Some row → cond (is_eq (key_cmp q e.0)) (Some e.1) (find key_cmp q es) ≡ Some row
    behind q row at = elim (key_cmp q e.0) as (λ o. key_cmp q e.0 ≡ o → cond (is_eq o) (Some e.1) (find key_cmp q es) ≡ Some row) [
      | Less ↦ λ is. at
      | Equal ↦ λ is.
          let none = none_below e.0 es (and_first _ _ sorted) in
          let clash : ◌≡◌ {A = Option Row} None (Some row) = sym none ∙ (ap (λ (k : List ℕ). find key_cmp k es) (sym (key_apart q e.0 is)) ∙ at) in absurd (cc)
      | Greater ↦ λ is. at
    ] refl

entries_limited : (C : ℕ) → C ≤ MAX_COLUMNS → (rs : Rows) → AreKept C rs → AllByRecursion PairIsLimited (entries rs)
entries_limited C few rs kept = each_entry PairIsLimited (entries rs) (fin.entries_sorted rs)
    (λ q row at. let k = kept q row (fin.get-entries rs q ∙ at) in let many = k.many in (k.fits, (omega (arith, few, many), k.short)))

sums_many : (column n : ℕ) (pairs : List (List ℕ × Row)) → length (column_sums column n pairs) ≡ n
sums_many column zero pairs = refl
sums_many column (suc n) pairs = ap suc (sums_many (column + 1) n pairs)

-- the rows that a view shows
abbrev shown_by : ℕ → Moment → StandingView → List (List ℕ × Row)
shown_by C m v = afresh v.spec (after C (take v.at m.commits))

shown_limited_by : (C : ℕ) (past : History) → Legal C past → C ≤ MAX_COLUMNS → (v : StandingView) → AllByRecursion PairIsLimited (shown_by C (moment past) v)
shown_limited_by C past legal few v =
    filtered PairIsLimited (belongs v.spec) (entries (after C (take v.at (moment past).commits)))
    (entries_limited C few (after C (take v.at (moment past).commits)) (rows_kept C (take v.at (moment past).commits) (taken ChangeIsLimited v.at (moment past).commits (limited_at C past legal).changes)))

page_limited : (C : ℕ) (past : History) → Legal C past → C ≤ MAX_COLUMNS → (n floor : ℕ) (start : List ℕ) (limit : ℕ) (page : Page) → page_fault start limit ≡ None → IsPageOf C past n floor start limit page → PageIsLimited page
page_limited C past legal few n floor start limit page asks of =
    let many = sums_many 0 C (shown_by C (moment past) of.v) in
    let most = limit_fits limit (neither_of (key_fault start) (limit_fault limit) asks).1 in
    let fewer = taken_few limit (filter (λ pair. is_ge (key_cmp pair.0 start)) (shown_by C (moment past) of.v)) in
    subst (λ (p : Page). PageIsLimited p) (sym of.is) (
      omega (arith, few, many),
      (
        omega (arith, most, fewer),
        taken PairIsLimited limit (filter (λ pair. is_ge (key_cmp pair.0 start)) (shown_by C (moment past) of.v))
            (filtered PairIsLimited (λ pair. is_ge (key_cmp pair.0 start)) (shown_by C (moment past) of.v) (shown_limited_by C past legal few of.v)),
      ),
    )

-- ---- which outcomes answer
abbrev Answers : Outcome → Type 0
Answers (Done reply) = Unit {0}
Answers (View page) = Unit {0}
Answers _ = ⊥

or_lacks : (expected o : Outcome) → (Answers expected → ⊥) → IsOrLacksMemory expected o → Answers o → ⊥
or_lacks expected o never may own = elim may [
  | inl e ↦ never (subst (λ (x : Outcome). Answers x) e own)
  | inr e ↦ subst (λ (x : Outcome). Answers x) e own
]

is_other : (expected o : Outcome) → (Answers expected → ⊥) → o ≡ expected → Answers o → ⊥
is_other expected o never e own = never (subst (λ (x : Outcome). Answers x) e own)

begin_none : (m : Moment) (r : Option Refusal) (o : Outcome) → MayBegin m r o → Answers o → ⊥
begin_none m None o may own = or_lacks (Call (record { 0 = m.begun + 1 })) o (λ x. x) may own
begin_none m (Some refusal) o may own = is_other (Refused refusal) o (λ x. x) may own

apply_none : (m : Moment) (view : ℕ) (r : Option StandingView) (o : Outcome) → MayApply m view r o → Answers o → ⊥
apply_none m zero None o may own = is_other Current o (λ x. x) may own
apply_none m (suc n) None o may own = is_other (Refused NoSuchView) o (λ x. x) may own
apply_none m view (Some v) o may own = elim (nat_lt v.at (length m.commits)) as (λ b. MatchBool b (IsOrLacksMemory (Applied (v.at + 1)) o) (o ≡ Current) → ⊥) [
  | true ↦ λ may_. or_lacks (Applied (v.at + 1)) o (λ x. x) may_ own
  | false ↦ λ may_. is_other Current o (λ x. x) may_ own
] may

drop_none : (r : Option StandingView) (o : Outcome) → MayDrop r o → Answers o → ⊥
drop_none None o may own = is_other (Refused NoSuchView) o (λ x. x) may own
drop_none (Some v) o may own = is_other Dropped o (λ x. x) may own

advance_none : (m : Moment) (o : Outcome) → MayAdvance m o → Answers o → ⊥
advance_none m o may own = elim (nat_lt m.epoch greatest_number) as (λ b. MatchBool b (o ≡ Epoch (m.epoch + 1)) (o ≡ Refused Spent) → ⊥) [
  | true ↦ λ may_. is_other (Epoch (m.epoch + 1)) o (λ x. x) may_ own
  | false ↦ λ may_. is_other (Refused Spent) o (λ x. x) may_ own
] may

step_view : (C : ℕ) (past : History) (r : Option OpenCall) (page : Page) (opens : ℕ) → MayStepAt C past r (View page) opens → ⊥
step_view C past None page opens may = cc
step_view C past (Some call) page opens may = may

read_done : (C : ℕ) (past : History) (r : Option Refusal) (n floor : ℕ) (start : List ℕ) (limit : ℕ) (reply : Reply) → MayReadView C (moment past) r n floor start limit (Done reply) → ⊥
read_done C past (Some refusal) n floor start limit reply may = cc
read_done C past None n floor start limit reply may = at_view (view_of n (moment past).views) may
  where
    at_floor : (v : StandingView) (r : Option Refusal) → MayShow C (moment past) v start limit r (Done reply) → ⊥
    at_floor v None shows = elim shows [ inl e ↦ cc | inr e ↦ cc ]
    at_floor v (Some refusal) shows = cc

    at_view : (v : Option StandingView) → MayRead C (moment past) v floor start limit (Done reply) → ⊥
    at_view None reads = cc
    at_view (Some v) reads = at_floor v (refused_if (nat_lt v.at floor) (Behind v.at)) reads

not_asked : (C : ℕ) (past : History) (r : Option Refusal) (n floor : ℕ) (start : List ℕ) (limit : ℕ) (page : Page) → MayReadView C (moment past) r n floor start limit (View page) → r ≡ None
not_asked C past None n floor start limit page may = refl
not_asked C past (Some refusal) n floor start limit page may = absurd (cc)

done_limited : (C : ℕ) (past : History) → Legal C past → C ≤ MAX_COLUMNS → (e : Event) (reply : Reply) (opens : ℕ) → MayHappen C past e (Done reply) opens → AnswerIsLimited reply.answer
done_limited C past legal few (Step call) reply opens may =
    let done = done_call C past call.0 (call_of call.0 (moment past).calls) refl reply opens may in
    answer_limited C past legal few done.0 done.0.request reply.answer opens ((limited_at C past legal).calls call.0 done.0 done.1) done.2.answer
done_limited C past legal few (Begin pass request) reply opens may = absurd (begin_none (moment past) _ (Done reply) may tt)
done_limited C past legal few (Apply view) reply opens may = absurd (apply_none (moment past) view.0 _ (Done reply) may tt)
done_limited C past legal few (ViewRead view floor start limit) reply opens may = absurd (read_done C past (page_fault start limit) view.0 floor start limit reply may)
done_limited C past legal few (ViewDrop view) reply opens may = absurd (drop_none _ (Done reply) may tt)
done_limited C past legal few Advance reply opens may = absurd (advance_none (moment past) (Done reply) may tt)
done_limited C past legal few Collect reply opens may = absurd (let freed : Done reply ≡ Freed may.0 = may.1 in cc)

view_limited : (C : ℕ) (past : History) → Legal C past → C ≤ MAX_COLUMNS → (e : Event) (page : Page) (opens : ℕ) → MayHappen C past e (View page) opens → PageIsLimited page
view_limited C past legal few (ViewRead view floor start limit) page opens may =
    page_limited C past legal few view.0 floor start limit page (not_asked C past (page_fault start limit) view.0 floor start limit page may)
    (asked_page C past view.0 floor start limit page (page_fault start limit) may)
view_limited C past legal few (Begin pass request) page opens may = absurd (begin_none (moment past) _ (View page) may tt)
view_limited C past legal few (Step call) page opens may = absurd (step_view C past (call_of call.0 (moment past).calls) page opens may)
view_limited C past legal few (Apply view) page opens may = absurd (apply_none (moment past) view.0 _ (View page) may tt)
view_limited C past legal few (ViewDrop view) page opens may = absurd (drop_none _ (View page) may tt)
view_limited C past legal few Advance page opens may = absurd (advance_none (moment past) (View page) may tt)
view_limited C past legal few Collect page opens may = absurd (let freed : View page ≡ Freed may.0 = may.1 in cc)

outcome_limited : (C : ℕ) (past : History) → Legal C past → C ≤ MAX_COLUMNS → (e : Event) (o : Outcome) (opens : ℕ) → MayHappen C past e o opens → OutcomeIsLimited o
outcome_limited C past legal few e (Done reply) opens may = done_limited C past legal few e reply opens may
outcome_limited C past legal few e (View page) opens may = view_limited C past legal few e page opens may
outcome_limited C past legal few e _ opens may = tt

pub outcomes_are_limited : OutcomesAreLimited
outcomes_are_limited C x past few legal = outcome_limited C past legal.0 few x.event x.outcome x.opens legal.1
