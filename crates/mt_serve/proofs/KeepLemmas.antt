-- Reads leave a store as it is: its changes, its views, and how many views were built.
use Rattle.std.proofs.Common.{◌≡◌, ℕ, Bool, true, false, inl, inr, List, [], ◌∷◌, ◌++◌, length, refl, ap, subst, ◌∙◌, arith, append-nil, Option, None, Some}
use Rattle.std.specs.Prelude.{◌⊎◌, MatchBool, All, map, Result, Ok, Err}
use Rattle.std.proofs.lemmas.List.Elements.{All-head, All-tail}
use Rattle.mt_types.specs.Rows.{Rows}
use Rattle.mt_types.specs.declared.numbers.PassNo.{PassNo}
use Rattle.mt_types.specs.declared.numbers.CallNo.{CallNo}
use Rattle.mt_types.specs.declared.row.Change.{Change}
use Rattle.mt_types.specs.declared.refusal.Refusal.{Refusal}
use Rattle.mt_types.specs.declared.event.Event.TheVariants.{Begin, Step as StepOf}
use Rattle.mt_types.specs.declared.event.Outcome.{Outcome}
use Rattle.mt_types.specs.declared.event.Outcome.TheVariants.{Moved, Again, Commit, Done, Refused, Call as Called}
use Rattle.mt_types.specs.declared.event.Answer.{Answer}
use Rattle.mt_types.specs.declared.event.Answer.TheVariants.{Absent, Found, Stored, Removed, Rows as RowsAnswer, Tidied, Built}
use Rattle.mt_types.specs.declared.event.Request.{Request}
use Rattle.mt_types.specs.declared.event.Request.TheVariants.{Get, Put, PutIf, Remove, Range, Tidy, Build}
use Rattle.mt_types.specs.declared.event.Reply.{Reply}
use Rattle.mt_types.specs.declared.view.Page.{Page}
use Rattle.mt_promise.specs.History.{History, happening, Moment, OpenCall, GoesOn, moment, rows, call_of, after_call_step, view_built}
use Rattle.mt_promise.specs.Alone.{IsPlain}
use Rattle.mt_reads.specs.declared.quiet.QuietAnswer.{QuietAnswer}
use Rattle.mt_reads.specs.declared.quiet.QuietAnswer.TheVariants.{Rows as FoundRows, Pairs as FoundPairs, Count as Counts}
use Rattle.mt_shared.specs.Reads.{IsRead, IsReadAnswer}
use Rattle.mt_shared.specs.Drives.{Continues}
use Rattle.mt_wire.specs.declared.query.Query.{Query}
use Rattle.mt_wire.specs.declared.query.Query.TheVariants.{Call, Read, ViewRead, ViewDrop, Server}
use Rattle.mt_wire.specs.declared.read.ReadQuery.{ReadQuery}
use Rattle.mt_wire.specs.declared.response.Response.{Response}
use Rattle.mt_wire.specs.declared.response.Response.TheVariants.{Refused as Refusing}
use Rattle.mt_wire.specs.declared.server.Role.TheVariants as role
use Rattle.mt_wire.specs.Answered.{end_of}
use Rattle.mt_types.specs.declared.refusal.Refusal.TheVariants.{BadLimit}
use Rattle.mt_talk.specs.Serving.{reads, may_all}
use Rattle.mt_serve.specs.Asking.{call_response, page_response, changes, end_changes, counts_too_far, quiet_of}
use Rattle.mt_serve.specs.Store.{Store, now, newest, EndsBy, ComesTo}
use Rattle.mt_serve.specs.Plain.{CallEnds, CallRuns, IsReadAtOnce, IsTurnedAway, IsGivenUp, IsFound, read_response, PlainlyAsks, PlainlyFollows, PlainlyAnswers, PlainlyAnswersAll}
use Rattle.mt_serve.specs.Reading.{HoldsTheSame, ReadsKeepTheStore}
use Rattle.mt_serve.proofs.OnlyLemmas.{head_reads, tail_reads}

-- ---- the same
pub same_store : (s t : Store) → t ≡ s → HoldsTheSame s t
same_store s t is = record {
  commits = ap (λ (k : Store). (now k).commits) is;
  views = ap (λ (k : Store). (now k).views) is;
  built = ap (λ (k : Store). (now k).built) is;
}

pub same_on : (s m t : Store) → HoldsTheSame s m → HoldsTheSame m t → HoldsTheSame s t
same_on s m t a b = record { commits = b.commits ∙ a.commits; views = b.views ∙ a.views; built = b.built ∙ a.built }

-- ---- how many views were built
unbuilt : (request : Request) (answer : Answer) (n : ℕ) → IsReadAnswer answer → view_built request answer n ≡ []
unbuilt (Build spec) Absent n read = refl
unbuilt (Build spec) (Found row) n read = refl
unbuilt (Build spec) (RowsAnswer pairs) n read = refl
unbuilt (Build spec) (Stored number) n read = absurd read
unbuilt (Build spec) (Removed number) n read = absurd read
unbuilt (Build spec) (Tidied rule) n read = absurd read
unbuilt (Build spec) (Built view) n read = absurd read
unbuilt (Get key asked) answer n read = refl
unbuilt (Range start limit asked) answer n read = refl
unbuilt (Put key sets) answer n read = refl
unbuilt (PutIf key sets version) answer n read = refl
unbuilt (Remove key) answer n read = refl
unbuilt (Tidy key) answer n read = refl

going_built : (m : Moment) (r : Option OpenCall) (o : Outcome) (note : ℕ) → Continues o → (after_call_step m r o note).built ≡ m.built
going_built m None o note on = refl
going_built m (Some call) Moved note on = refl
going_built m (Some call) Again note on = refl
going_built m (Some call) (Commit number) note on = refl
going_built m (Some call) _ note on = absurd on

done_built : (m : Moment) (r : Option OpenCall) (reply : Reply) (note : ℕ) → IsReadAnswer reply.answer → (after_call_step m r (Done reply) note).built ≡ m.built
done_built m None reply note read = refl
done_built m (Some call) reply note read =
    let none = ap length (unbuilt call.request reply.answer note read) in omega (arith, none)

refused_built : (m : Moment) (r : Option OpenCall) (refusal : Refusal) (note : ℕ) → (after_call_step m r (Refused refusal) note).built ≡ m.built
refused_built m None refusal note = refl
refused_built m (Some call) refusal note = refl

steps_built : (past h : History) (number : CallNo) (outcomes : List Outcome) → All Continues outcomes → GoesOn past (map (λ (o : Outcome). StepOf number) outcomes) outcomes h → (moment h).built ≡ (moment past).built
steps_built past h number [] on is = ap (λ (k : History). (moment k).built) is
steps_built past h number (o ∷ outcomes) on (note, more) =
    steps_built (happening (StepOf number) o note ∷ past) h number outcomes (All-tail Continues o outcomes on) more
    ∙ going_built (moment past) (call_of number.0 (moment past).calls) o note (All-head Continues o outcomes on)

comes_built : (s m : Store) (pass : PassNo) (request : Request) (number : CallNo) → ComesTo s pass request number m → (now m).built ≡ (now s).built
comes_built s m pass request number comes =
    let begins = comes.leads.1 in
    steps_built (happening (Begin pass request) (Called number) begins.0 ∷ s.past) m.past number comes.steps comes.continue begins.1

ends_built : (s t : Store) (pass : PassNo) (request : Request) (number : CallNo) (last : Outcome) → ((m : Moment) (r : Option OpenCall) (note : ℕ) → (after_call_step m r last note).built ≡ m.built)
    → EndsBy s pass request number last t → (now t).built ≡ (now s).built
ends_built s t pass request number last leaves ends =
    let one = ends.ends.1 in
    ap (λ (k : History). (moment k).built) one.1
    ∙ leaves (now ends.m) (call_of number.0 (now ends.m).calls) one.0
    ∙ comes_built s ends.m pass request number ends.comes

-- ---- a call that reads
record IsUnmade (request : Request) (answer : Answer) (made : List Change) (n : ℕ) : Type 0 where
  none : made ≡ []
  unviewed : view_built request answer n ≡ []
  read : IsReadAnswer answer
  unchanged : end_changes (end_of answer) ≡ false

reads_none : (map : Rows) (n : ℕ) (request : Request) (answer : Answer) (made : List Change) → IsRead request → IsPlain map n request answer made → IsUnmade request answer made n
reads_none map n (Get key asked) Absent made read (none, is) = record { none = is; unviewed = refl; read = tt; unchanged = refl }
reads_none map n (Get key asked) (Found row) made read (shown, is) = record { none = is; unviewed = refl; read = tt; unchanged = refl }
reads_none map n (Range start limit asked) (RowsAnswer pairs) made read (range, is) = record { none = is; unviewed = refl; read = tt; unchanged = refl }
reads_none map n (Put key sets) answer made read plain = absurd read
reads_none map n (PutIf key sets version) answer made read plain = absurd read
reads_none map n (Remove key) answer made read plain = absurd read
reads_none map n (Tidy key) answer made read plain = absurd read
reads_none map n (Build spec) answer made read plain = absurd read
reads_none map n _ _ made read plain = absurd plain

-- nothing is changed, and the answer doesn't say that something is
abbrev IsKept : Store → Response → Store → Type 0
IsKept s response t = HoldsTheSame s t × (changes response ≡ false)

refused_kept : (s t : Store) (request : Request) (refusal : Refusal) → IsTurnedAway s request refusal t ⊎ IsGivenUp s request refusal t → (now t).built ≡ (now s).built
refused_kept s t request refusal (inl (pass, leads, due)) = ap (λ (k : History). (moment k).built) leads.1.1
refused_kept s t request refusal (inr (within, (pass, number, ends, lacks))) =
    ends_built s t pass request number (Refused refusal) (λ m r note. refused_built m r refusal note) ends

runs_kept : (s t : Store) (request : Request) (result : Result Reply Refusal) → IsRead request → CallRuns s request result t → IsKept s (call_response result) t
runs_kept s t request (Ok reply) read done =
    let p = done.plain in
    let none = reads_none _ (newest s) request reply.answer p.made read p.plain in (
      record {
        commits = p.commits ∙ ap (λ (l : List Change). (now s).commits ++ l) none.none ∙ append-nil (now s).commits;
        views = p.views ∙ ap (λ (l : List _). (now s).views ++ l) none.unviewed ∙ append-nil (now s).views;
        built = ends_built s t reply.pass request reply.call (Done reply) (λ m r note. done_built m r reply note none.read) done.happens;
      },
      none.unchanged,
    )
runs_kept s t request (Err refusal) read (how, nothing) =
    (record { commits = nothing.commits; views = nothing.views; built = refused_kept s t request refusal how }, refl)

at_once_kept : (s t : Store) (request : Request) (result : Result Reply Refusal) → IsReadAtOnce s request result t → IsKept s (call_response result) t
at_once_kept s t request (Ok reply) (same, read, within, plain) =
    (same_store s t same, (reads_none _ (newest s) request reply.answer plain.made read plain.plain).unchanged)
at_once_kept s t request (Err refusal) (same, read, due) = (same_store s t same, refl)

call_kept : (s t : Store) (request : Request) (result : Result Reply Refusal) → IsRead request → CallEnds s request result t → IsKept s (call_response result) t
call_kept s t request result read (inl runs) = runs_kept s t request result read runs
call_kept s t request result read (inr (inl now)) = at_once_kept s t request result now
call_kept s t request result read (inr (inr (within, short, same))) =
    (same_store s t same, ap (λ (r : Result Reply Refusal). changes (call_response r)) short)

-- ---- a query that reads
page_unchanged : (result : Result Page Refusal) → changes (page_response result) ≡ false
page_unchanged (Ok page) = refl
page_unchanged (Err refusal) = refl

found_unchanged : (n : ℕ) (found : Result QuietAnswer Refusal) → changes (read_response n found) ≡ false
found_unchanged n (Ok (FoundRows rows)) = refl
found_unchanged n (Ok (FoundPairs pairs)) = refl
found_unchanged n (Ok (Counts count)) = refl
found_unchanged n (Err refusal) = refl

read_unchanged : (s : Store) (query : ReadQuery) (response : Response) (far : Bool)
    → MatchBool far (response ≡ Refusing BadLimit) ((found : Result QuietAnswer Refusal) × IsFound s (quiet_of query) found × (response ≡ read_response (length (now s).commits) found))
    → changes response ≡ false
read_unchanged s query response true is = ap changes is
read_unchanged s query response false (found, right, is) = ap changes is ∙ found_unchanged (length (now s).commits) found

no_read : {X : Type 0} → ◌≡◌ {A = Bool} false true → X
no_read e = cc

asks_kept : (s t : Store) (query : Query) (response : Response) → reads query ≡ true → PlainlyAsks s query response t → IsKept s response t
asks_kept s t (Call (Get key asked)) response read (result, ends, is) =
    let kept = call_kept s t (Get key asked) result tt ends in (kept.0, ap changes is ∙ kept.1)
asks_kept s t (Call (Range start limit asked)) response read (result, ends, is) =
    let kept = call_kept s t (Range start limit asked) result tt ends in (kept.0, ap changes is ∙ kept.1)
asks_kept s t (Call (Put key sets)) response read asks = no_read read
asks_kept s t (Call (PutIf key sets version)) response read asks = no_read read
asks_kept s t (Call (Remove key)) response read asks = no_read read
asks_kept s t (Call (Tidy key)) response read asks = no_read read
asks_kept s t (Call (Build spec)) response read asks = no_read read
asks_kept s t (ViewRead view floor start limit) response read (result, inr (same, shown), is) =
    (same_store s t same, ap changes is ∙ page_unchanged result)
asks_kept s t (ViewRead view floor start limit) response read (result, inl ((all, (note, past)), may), is) = (
  record {
    commits = ap (λ (k : History). (moment k).commits) past;
    views = ap (λ (k : History). (moment k).views) past;
    built = ap (λ (k : History). (moment k).built) past;
  },
  ap changes is ∙ page_unchanged result,
)
asks_kept s t (ViewDrop view) response read asks = no_read read
asks_kept s t (Read query) response read (same, plain) = (same_store s t same, read_unchanged s query response (counts_too_far query) plain)
asks_kept s t (Server query) response read (same, is) = (same_store s t same, ap changes is)

answers_kept : (s t : Store) (query : Query) (response : Response) → reads query ≡ true → PlainlyAnswers s query response t → HoldsTheSame s t
answers_kept s t query response read (asked, asks, final) =
    let kept = asks_kept s asked query response read asks in
    let same = subst (λ (b : Bool). MatchBool b (PlainlyFollows query asked t) (t ≡ asked)) kept.1 final in
    same_on s asked t kept.0 (same_store asked t same)

pub all_kept : (s t : Store) (queries : List Query) (responses : List Response) → may_all role.Read queries ≡ true → PlainlyAnswersAll s queries responses t → HoldsTheSame s t
all_kept s t [] [] read same = same_store s t same
all_kept s t [] (response ∷ responses) read never = absurd never
all_kept s t (query ∷ queries) [] read never = absurd never
all_kept s t (query ∷ queries) (response ∷ responses) read (then, one, more) =
    same_on s then t (answers_kept s then query response (head_reads query queries read) one)
    (all_kept then t queries responses (tail_reads query queries read) more)

pub reads_keep_the_store : ReadsKeepTheStore
reads_keep_the_store s t [] [] read same = same_store s t same
reads_keep_the_store s t [] (reply ∷ replies) read never = absurd never
reads_keep_the_store s t (frame ∷ frames) [] read never = absurd never
reads_keep_the_store s t (frame ∷ frames) (reply ∷ replies) (read, reads) (then, (version, one), more) =
    same_on s then t (all_kept s then frame.messages reply.messages read one) (reads_keep_the_store then t frames replies reads more)
