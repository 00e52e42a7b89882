-- WHAT A STORE ANSWERS THAT IS SHORT OF NOTHING: a function of the changes so far, the views and the query (but for the
-- rule that a tidy names).
use Rattle.std.specs.Prelude.{ℕ, ◌+◌, ◌≡◌, ◌<◌, ◌⊎◌, ◌==◌, nat_lt, MatchBool, MatchOption, List, map, length, Option, Some, None}
use Rattle.std.specs.FinMap.{get}
use Rattle.mt_types.specs.Rows.{shown, version_of}
use Rattle.mt_types.specs.Limits.{page_fault, request_fault}
use Rattle.mt_types.specs.declared.row.Row.{Row}
use Rattle.mt_types.specs.declared.refusal.Refusal.{Refusal}
use Rattle.mt_types.specs.declared.refusal.Refusal.TheVariants.{BadLimit, NoMemory, ArenaFull, Spent, NoSuchView, Behind, OtherVersion}
use Rattle.mt_types.specs.declared.event.TidyRule.{TidyRule}
use Rattle.mt_types.specs.declared.event.Request.{Request}
use Rattle.mt_types.specs.declared.event.Request.TheVariants.{Get, Put, PutIf, Remove, Range, Tidy, Build}
use Rattle.mt_types.specs.declared.event.Outcome.{Outcome}
use Rattle.mt_promise.specs.History.{Moment, rows, view_of}
use Rattle.mt_promise.specs.Legal.{begin_fault, page_of}
use Rattle.mt_promise.specs.Alone.{IsRangeOfMap}
use Rattle.mt_wire.specs.declared.query.Query.{Query}
use Rattle.mt_wire.specs.declared.query.Query.TheVariants.{Call, ViewRead, ViewDrop, Read, Server}
use Rattle.mt_wire.specs.declared.response.Response.{Response}
use Rattle.mt_wire.specs.declared.response.Response.TheVariants.{Refused, Done, View, Dropped}
use Rattle.mt_wire.specs.declared.response.End.{End}
use Rattle.mt_wire.specs.declared.response.End.TheVariants.{Absent, Found, Committed, Rows as RowsEnd, Tidied, Built}
use Rattle.mt_reads.specs.Quiet.{IsQuietAnswer, quiet_fault}
use Rattle.mt_reads.specs.declared.quiet.QuietRead.{QuietRead}
use Rattle.mt_reads.specs.declared.quiet.QuietAnswer.{QuietAnswer}
use Rattle.mt_shared.specs.Turns.{furthest}
use Rattle.mt_serve.specs.Store.{Store, now, Leads}
use Rattle.mt_serve.specs.Asking.{counts_too_far, found_response, not_alone, quiet_of}
use Rattle.mt_serve.specs.Plain.{PlainlyAnswers, NoneBehind, RanOut, MayBeTidied}

-- nothing was changed, or one change was made
abbrev pub read_so : Moment → End → Response
read_so m end = Done (length m.commits) (length m.commits) end

abbrev pub changed : Moment → Response
changed m = Done (length m.commits) (length m.commits + 1) (Committed (length m.commits + 1))

-- the end of a get, by the row that its key has
abbrev pub row_end : List ℕ → Option Row → End
row_end asked None = Absent
row_end asked (Some row) = Found (shown asked row)

-- the answer to a conditional put, by the version that its key's row has
abbrev pub IsPutIf : Moment → ℕ → ℕ → Response → Type 0
IsPutIf m found version response =
    MatchBool (found == version) (response ≡ changed m) (response ≡ Refused (OtherVersion found))

-- the answer to a call that breaks no limit
abbrev pub IsReply : ℕ → Moment → Request → Response → Type 0
IsReply C m (Get key asked) response = response ≡ read_so m (row_end asked (get (rows C m) key))
IsReply C m (Put key sets) response = response ≡ changed m
IsReply C m (PutIf key sets version) response = IsPutIf m (version_of (get (rows C m) key)) version response
IsReply C m (Remove key) response =
    MatchOption (get (rows C m) key) (response ≡ read_so m Absent) (λ row. response ≡ changed m)
IsReply C m (Range start limit asked) response =
    (pairs : List (List ℕ × Row)) × IsRangeOfMap (rows C m) asked start limit pairs
    × (response ≡ read_so m (RowsEnd pairs))
IsReply C m (Tidy key) response = (rule : TidyRule) × (response ≡ read_so m (Tidied rule))
IsReply C m (Build spec) response = response ≡ read_so m (Built (record { 0 = m.built + 1 }))

-- the first limit that a call breaks: a get and a range need no number of a call, since they may be read at once
abbrev pub limit_broken : ℕ → Moment → Request → Option Refusal
limit_broken C m (Get key asked) = request_fault C (Get key asked)
limit_broken C m (Range start limit asked) = request_fault C (Range start limit asked)
limit_broken C m request = begin_fault C m.begun 0 (length m.views) request

-- the answer to a read of one moment that breaks no limit
abbrev pub IsFoundAnswer : ℕ → Moment → QuietRead → Response → Type 0
IsFoundAnswer C m read response = (answer : QuietAnswer) × IsQuietAnswer (rows C m) read answer
    × (response ≡ found_response (length m.commits) (length m.commits) answer)

-- THE ANSWER TO A QUERY, after these changes, with these views
abbrev pub IsAnswer : ℕ → Moment → Query → Response → Type 0
IsAnswer C m (Call request) response =
    MatchOption (limit_broken C m request) (IsReply C m request response)
    (λ due. response ≡ Refused due)
IsAnswer C m (ViewRead view floor start limit) response =
    MatchOption (page_fault start limit)
    (MatchOption (view_of view.0 m.views) (response ≡ Refused NoSuchView) (λ v.
    MatchBool (nat_lt v.at floor) (response ≡ Refused (Behind v.at)) (response ≡ View (page_of C m v start limit))))
    (λ due. response ≡ Refused due)
IsAnswer C m (ViewDrop view) response =
    MatchOption (view_of view.0 m.views) (response ≡ Refused NoSuchView) (λ v. response ≡ Dropped)
IsAnswer C m (Read query) response = MatchBool (counts_too_far query) (response ≡ Refused BadLimit)
    (MatchOption (quiet_fault C (quiet_of query)) (IsFoundAnswer C m (quiet_of query) response)
    (λ due. response ≡ Refused due))
IsAnswer C m (Server query) response = response ≡ not_alone

-- the store was not short of memory, of nodes or of numbers
abbrev pub IsAmple : Response → Type 0
IsAmple (Refused NoMemory) = ⊥
IsAmple (Refused ArenaFull) = ⊥
IsAmple (Refused Spent) = ⊥
IsAmple _ = Unit {0}

-- Of a store with room in its log, whose views are at its newest change: what is answered plainly and amply is the
-- answer.
abbrev pub AmpleAnswersAreTheirs : Type 0
AmpleAnswersAreTheirs =
    (s t : Store) (query : Query) (response : Response) → 0 < s.machine.log.capacity → NoneBehind 0 s
    → PlainlyAnswers s query response t → IsAmple response → IsAnswer s.machine.columns (now s) query response

-- the last events that led to this store, but for tidies, were turns that advance views, and the last of them ran out of
-- memory
abbrev pub RanOutBefore : Query → Store → Type 0
RanOutBefore query t = (m : Store) × (kept : Store) × (turns : List Outcome)
    × Leads m (map (λ (outcome : Outcome). furthest) turns) turns kept × RanOut turns × MayBeTidied query kept t

-- After each query the views are at the newest change again, unless memory was refused while a view was advanced. Only
-- then can a log become full.
abbrev pub ViewsStayNewest : Type 0
ViewsStayNewest =
    (s t : Store) (query : Query) (response : Response) → NoneBehind 0 s → PlainlyAnswers s query response t
    → NoneBehind 0 t ⊎ RanOutBefore query t

-- two answers to one query are the same, but for the rule that a tidy names
abbrev pub IsSame : Response → Response → Type 0
IsSame (Done start stop (Tidied rule)) (Done from to (Tidied other)) = (start ≡ from) × (stop ≡ to)
IsSame response other = response ≡ other

abbrev pub AnswersAreOne : Type 0
AnswersAreOne =
    (C : ℕ) (m : Moment) (query : Query) (response other : Response) → IsAnswer C m query response
    → IsAnswer C m query other → IsSame response other
