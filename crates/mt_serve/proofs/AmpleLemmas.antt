-- What a store answers that is short of nothing, and that there is one such answer.
use Rattle.std.proofs.Common.{ℕ, ◌≡◌, ◌<◌, ◌≤◌, Bool, true, false, inl, inr, List, [], ◌∷◌, length, Option, Some, None, refl, sym, ap, subst, ◌∙◌, arith, length-append}
use Rattle.std.specs.Prelude.{◌+◌, ◌==◌, nat_lt, nat_le, MatchBool, MatchOption, IsSome, min, map, All, Result, Ok, Err, ⊤}
use Rattle.std.specs.Option.{option_or}
use Rattle.std.specs.FinMap.{get}
use Rattle.std.proofs.Math.Nat.{le-min}
use Rattle.std.proofs.lemmas.Bool.{eq-eqb}
use Rattle.std.proofs.lemmas.Bool.Decides.{eqb_tells}
use Rattle.std.proofs.lemmas.List.Elements.{All-head, All-tail}
use Rattle.mt_types.specs.Numbers.{greatest_number, least}
use Rattle.mt_types.specs.Limits.{page_fault, refused_if, request_fault}
use Rattle.mt_shared.specs.Reads.{IsRead}
use Rattle.mt_types.specs.Rows.{Rows, version_of}
use Rattle.mt_types.specs.declared.row.Row.{Row}
use Rattle.mt_types.specs.declared.row.Change.{Change}
use Rattle.mt_types.specs.declared.view.Page.{Page}
use Rattle.mt_types.specs.declared.numbers.PassNo.{PassNo}
use Rattle.mt_types.specs.declared.numbers.CallNo.{CallNo}
use Rattle.mt_types.specs.declared.refusal.Refusal.{Refusal}
use Rattle.mt_types.specs.declared.refusal.Refusal.TheVariants.{NoMemory, ArenaFull, FeedFull, Spent, NoSuchView, Behind, OtherVersion}
use Rattle.mt_types.specs.declared.event.Answer.{Answer}
use Rattle.mt_types.specs.declared.event.Answer.TheVariants as answers
use Rattle.mt_types.specs.declared.event.Reply.{Reply}
use Rattle.mt_types.specs.declared.event.Request.{Request}
use Rattle.mt_types.specs.declared.event.Request.TheVariants.{Get, Put, PutIf, Remove, Range, Tidy, Build}
use Rattle.mt_types.specs.declared.event.Outcome.TheVariants as outcomes
use Rattle.mt_promise.specs.History.{Moment, StandingView, rows, view_of}
use Rattle.mt_promise.specs.Legal.{begin_fault, MayReadView, MayRead, MayShow, MayDrop, page_of}
use Rattle.mt_promise.specs.Alone.{IsPlain, IsPlainRefusal}
use Rattle.mt_serve.proofs.QuietLemmas.{moment_read_is, read_once}
use Rattle.mt_serve.proofs.RangeOnce.{range_once}
use Rattle.mt_index.specs.Viewing.{page_outcome}
use Rattle.mt_shared.specs.Turns.{drop_outcome}
use Rattle.mt_wire.specs.Answered.{end_of}
use Rattle.mt_wire.specs.declared.query.Query.{Query}
use Rattle.mt_wire.specs.declared.query.Query.TheVariants.{Call, Read, ViewRead, ViewDrop, Server}
use Rattle.mt_wire.specs.declared.response.Response.{Response}
use Rattle.mt_wire.specs.declared.response.Response.TheVariants.{Refused, Done, View, Dropped}
use Rattle.mt_wire.specs.declared.response.End.{End}
use Rattle.mt_wire.specs.declared.response.End.TheVariants.{Absent, Found, Committed, Rows as RowsEnd, Tidied, Built}
use Rattle.mt_serve.specs.Asking.{call_response, page_response, drop_response}
use Rattle.mt_serve.specs.Store.{Store, now, newest, fault, slowest_view, IsFull, MayLack}
use Rattle.mt_serve.specs.Plain.{GivesNext, CallRuns, IsReadAtOnce, CallEnds, PlainlyAsks, NoneBehind}
use Rattle.mt_serve.specs.Ample.{read_so, changed, row_end, IsReply, limit_broken, IsAnswer, IsAmple, IsSame, AmpleAnswersAreTheirs, AnswersAreOne}

-- ---- a log that no view holds back is not full
least_of : (n : ℕ) (views : List StandingView) → All (λ (v : StandingView). n ≤ v.at + 0) views → n ≤ least n (map (λ (v : StandingView). v.at) views)
least_of n views all = from n views (omega arith) all
  where
    from : (best : ℕ) (views : List StandingView) → n ≤ best → All (λ (v : StandingView). n ≤ v.at + 0) views → n ≤ least best (map (λ (v : StandingView). v.at) views)
    from best [] most all = most
    from best (v ∷ views) most all =
        let head = All-head (λ (w : StandingView). n ≤ w.at + 0) v views all in
        from (min best v.at) views (le-min most (omega (arith, head))) (All-tail (λ (w : StandingView). n ≤ w.at + 0) v views all)

not_full : (s : Store) (slowest : ℕ) → 0 < s.machine.log.capacity → NoneBehind 0 s → IsFull s slowest → ⊥
not_full s slowest feed close (is, full) =
    let most = least_of (newest s) (now s).views close in
    let same : slowest ≡ slowest_view s = is in
    let far : newest s ≤ slowest = subst (λ (n : ℕ). newest s ≤ n) (sym same) most in
    omega (arith, feed, full, far)

-- ---- calls
same_done : (from to n : ℕ) (end other : End) (stop : ℕ) → from ≡ n → to ≡ stop → end ≡ other → Done from to end ≡ Done n stop other
same_done from to n end other stop first last same = ap (λ (x : ℕ). Done x to end) first ∙ ap (λ (x : ℕ). Done n x end) last ∙ ap (λ (x : End). Done n stop x) same

module _ (C : ℕ) (s : Store) (reply : Reply) (made : List Change) (from : reply.from ≡ newest s) (to : reply.to ≡ newest s + length made) where
  reading : (answer : Answer) (end : End) → made ≡ [] → end_of answer ≡ end → Done reply.from reply.to (end_of answer) ≡ read_so (now s) end
  reading answer end none same =
      let size : length made ≡ 0 = ap length none in
      same_done reply.from reply.to (newest s) (end_of answer) end (newest s) from (omega (arith, to, size)) same

  changing : (number : ℕ) (change : Change) → made ≡ change ∷ [] → number ≡ newest s + 1 → Done reply.from reply.to (Committed number) ≡ changed (now s)
  changing number change one next =
      let size : length made ≡ 1 = ap length one in
      same_done reply.from reply.to (newest s) (Committed number) (Committed (newest s + 1)) (newest s + 1) from (omega (arith, to, size)) (ap Committed next)

  reply_is : (request : Request) (answer : Answer) → IsPlain (rows C (now s)) (newest s) request answer made → GivesNext s answer → IsReply C (now s) request (Done reply.from reply.to (end_of answer))
  reply_is (Get key asked) answers.Absent (none, nothing) next = reading answers.Absent (row_end asked (get (rows C (now s)) key)) nothing (sym (ap (row_end asked) none))
  reply_is (Get key asked) (answers.Found row) ((there, is, shown), nothing) next = reading (answers.Found row) (row_end asked (get (rows C (now s)) key)) nothing (ap Found shown ∙ sym (ap (row_end asked) is))
  reply_is (Put key sets) (answers.Stored number) (is, one) next = changing number _ one is
  reply_is (PutIf key sets version) (answers.Stored number) (same, is, one) next =
      subst (λ (b : Bool). MatchBool b (Done reply.from reply.to (Committed number) ≡ changed (now s)) (Done reply.from reply.to (Committed number) ≡ Refused (OtherVersion (version_of (get (rows C (now s)) key)))))
      (sym (eq-eqb (version_of (get (rows C (now s)) key)) version same)) (changing number _ one is)
  reply_is (Remove key) (answers.Removed number) (there, is, one) next = by_row (get (rows C (now s)) key) there
    where
      by_row : (row : Option Row) → IsSome row → MatchOption row (Done reply.from reply.to (Committed number) ≡ read_so (now s) Absent) (λ r. Done reply.from reply.to (Committed number) ≡ changed (now s))
      by_row (Some row) there = changing number _ one is
      by_row None there = let clash : ◌≡◌ {A = Bool} false true = there in cc
  reply_is (Remove key) answers.Absent (none, nothing) next =
      subst (λ (row : Option Row). MatchOption row (Done reply.from reply.to Absent ≡ read_so (now s) Absent) (λ r. Done reply.from reply.to Absent ≡ changed (now s))) (sym none) (reading answers.Absent Absent nothing refl)
  reply_is (Range start limit asked) (answers.Rows pairs) (range, nothing) next = (pairs, range, reading (answers.Rows pairs) (RowsEnd pairs) nothing refl)
  reply_is (Tidy key) (answers.Tidied rule) nothing next = (rule, reading (answers.Tidied rule) (Tidied rule) nothing refl)
  reply_is (Build spec) (answers.Built view) nothing next = reading (answers.Built view) (Built (record { 0 = (now s).built + 1 })) nothing (ap (λ (n : ℕ). Built (record { 0 = n })) next)
  reply_is _ _ plain next = absurd plain

-- if the store is short of nothing, a call that has begun is refused only if the refusal is the answer to its request
given_up : (C : ℕ) (s : Store) (pass : PassNo) (request : Request) (number : CallNo) (refusal : Refusal) → 0 < s.machine.log.capacity → NoneBehind 0 s → IsAmple (Refused refusal) → MayLack s pass request number refusal
    → IsPlainRefusal (rows C (now s)) request refusal → IsReply C (now s) request (Refused refusal)
given_up C s pass request number NoMemory feed close ample lack plain = absurd ample
given_up C s pass (Put key sets) number ArenaFull feed close ample lack plain = absurd ample
given_up C s pass (Put key sets) number (FeedFull slowest) feed close ample lack plain = absurd (not_full s slowest feed close lack)
given_up C s pass (Put key sets) number Spent feed close ample lack plain = absurd ample
given_up C s pass (PutIf key sets version) number ArenaFull feed close ample lack plain = absurd ample
given_up C s pass (PutIf key sets version) number (FeedFull slowest) feed close ample lack plain = absurd (not_full s slowest feed close lack)
given_up C s pass (PutIf key sets version) number Spent feed close ample lack plain = absurd ample
given_up C s pass (PutIf key sets version) number (OtherVersion found) feed close ample lack (is, other) =
    elim (eqb_tells (version_of (get (rows C (now s)) key)) version) [
      | inl same ↦ absurd (other (is ∙ same.1))
      | inr apart ↦ subst (λ (b : Bool). MatchBool b (Refused (OtherVersion found) ≡ changed (now s)) (Refused (OtherVersion found) ≡ Refused (OtherVersion (version_of (get (rows C (now s)) key)))))
          (sym apart.0) (ap (λ (n : ℕ). Refused (OtherVersion n)) is)
    ]
given_up C s pass (Remove key) number (FeedFull slowest) feed close ample lack plain = absurd (not_full s slowest feed close lack)
given_up C s pass (Remove key) number Spent feed close ample lack plain = absurd ample
given_up C s pass (Build spec) number Spent feed close ample lack plain = absurd ample
given_up C s pass _ number _ feed close ample lack plain = absurd lack

-- a call that breaks no limit breaks none of its request
or_first : (a b : Option Refusal) → option_or a b ≡ None → a ≡ None
or_first None b e = refl
or_first (Some due) b e = cc

unbroken : (C : ℕ) (m : Moment) (request : Request) → begin_fault C m.begun 0 (length m.views) request ≡ None → limit_broken C m request ≡ None
unbroken C m (Get key asked) none = or_first (request_fault C (Get key asked)) _ none
unbroken C m (Range start limit asked) none = or_first (request_fault C (Range start limit asked)) _ none
unbroken C m _ none = none

-- a begin that is refused amply is refused for the limit that the call breaks
abbrev MayTurnAway : Option Refusal → Refusal → Type 0
MayTurnAway fault refusal = MatchOption fault (refusal ≡ NoMemory) (λ due. refusal ≡ due)

spent_or_none : (spent : Bool) (refusal : Refusal) → MayTurnAway (option_or (refused_if spent Spent) None) refusal → IsAmple (Refused refusal) → ⊥
spent_or_none true refusal is ample = subst (λ (r : Refusal). IsAmple (Refused r)) is ample
spent_or_none false refusal is ample = subst (λ (r : Refusal). IsAmple (Refused r)) is ample

read_turned : (fault : Option Refusal) (spent : Bool) (refusal : Refusal) → MayTurnAway (option_or fault (option_or (refused_if spent Spent) None)) refusal → IsAmple (Refused refusal) → fault ≡ Some refusal
read_turned (Some due) spent refusal is ample = ap (λ (r : Refusal). Some r) (sym is)
read_turned None spent refusal is ample = absurd (spent_or_none spent refusal is ample)

fault_turned : (fault : Option Refusal) (refusal : Refusal) → MayTurnAway fault refusal → IsAmple (Refused refusal) → fault ≡ Some refusal
fault_turned (Some due) refusal is ample = ap (λ (r : Refusal). Some r) (sym is)
fault_turned None refusal is ample = absurd (subst (λ (r : Refusal). IsAmple (Refused r)) is ample)

turned : (C : ℕ) (m : Moment) (request : Request) (refusal : Refusal) → MayTurnAway (begin_fault C m.begun 0 (length m.views) request) refusal → IsAmple (Refused refusal) → limit_broken C m request ≡ Some refusal
turned C m (Get key asked) refusal why ample = read_turned (request_fault C (Get key asked)) (nat_le greatest_number m.begun) refusal why ample
turned C m (Range start limit asked) refusal why ample = read_turned (request_fault C (Range start limit asked)) (nat_le greatest_number m.begun) refusal why ample
turned C m _ refusal why ample = fault_turned _ refusal why ample

-- the answer of a call of which the limit is known
abbrev IsCallAnswer : ℕ → Moment → Request → Response → Option Refusal → Type 0
IsCallAnswer C m request response limit = MatchOption limit (IsReply C m request response) (λ due. response ≡ Refused due)

runs_is : (s t : Store) (request : Request) (result : Result Reply Refusal) → 0 < s.machine.log.capacity → NoneBehind 0 s → CallRuns s request result t → IsAmple (call_response result) → IsAnswer s.machine.columns (now s) (Call request) (call_response result)
runs_is s t request (Ok reply) feed close done ample =
    subst (IsCallAnswer s.machine.columns (now s) request (Done reply.from reply.to (end_of reply.answer))) (sym (unbroken s.machine.columns (now s) request done.within))
    (reply_is s.machine.columns s reply done.plain.made done.plain.from (done.plain.to ∙ (ap length done.plain.commits ∙ length-append (now s).commits done.plain.made)) request reply.answer done.plain.plain done.next)
runs_is s t request (Err refusal) feed close (inl (pass, leads, why), nothing) ample =
    subst (IsCallAnswer s.machine.columns (now s) request (Refused refusal)) (sym (turned s.machine.columns (now s) request refusal why ample)) refl
runs_is s t request (Err refusal) feed close (inr (none, (pass, number, ends, lack)), nothing) ample =
    subst (IsCallAnswer s.machine.columns (now s) request (Refused refusal)) (sym (unbroken s.machine.columns (now s) request none))
    (given_up s.machine.columns s pass request number refusal feed close ample lack nothing.plain)

-- a read at once has the limits of its request, and builds no view
read_limit : (C : ℕ) (m : Moment) (request : Request) → IsRead request → limit_broken C m request ≡ request_fault C request
read_limit C m (Get key asked) read = refl
read_limit C m (Range start limit asked) read = refl
read_limit C m _ read = absurd read

read_builds_none : (s : Store) (map : Rows) (n : ℕ) (request : Request) (answer : Answer) (made : List Change) → IsRead request → IsPlain map n request answer made → GivesNext s answer
read_builds_none s map n (Get key asked) answers.Absent made read plain = tt
read_builds_none s map n (Get key asked) (answers.Found row) made read plain = tt
read_builds_none s map n (Range start limit asked) (answers.Rows pairs) made read plain = tt
read_builds_none s map n (Get key asked) _ made read plain = absurd plain
read_builds_none s map n (Range start limit asked) _ made read plain = absurd plain
read_builds_none s map n _ answer made read plain = absurd read

read_is : (s t : Store) (request : Request) (result : Result Reply Refusal) → IsReadAtOnce s request result t → IsAmple (call_response result) → IsAnswer s.machine.columns (now s) (Call request) (call_response result)
read_is s t request (Ok reply) (same, read, none, plain) ample =
    subst (IsCallAnswer s.machine.columns (now s) request (Done reply.from reply.to (end_of reply.answer))) (sym (read_limit s.machine.columns (now s) request read ∙ none))
    (reply_is s.machine.columns s reply plain.made plain.from (plain.to ∙ (ap length plain.commits ∙ length-append (now s).commits plain.made)) request reply.answer plain.plain
    (read_builds_none s (rows s.machine.columns (now s)) (newest s) request reply.answer plain.made read plain.plain))
read_is s t request (Err refusal) (same, read, why) ample =
    subst (IsCallAnswer s.machine.columns (now s) request (Refused refusal)) (sym (read_limit s.machine.columns (now s) request read ∙ fault_turned _ refusal why ample)) refl

call_is : (s t : Store) (request : Request) (result : Result Reply Refusal) → 0 < s.machine.log.capacity → NoneBehind 0 s → CallEnds s request result t → IsAmple (call_response result) → IsAnswer s.machine.columns (now s) (Call request) (call_response result)
call_is s t request result feed close (inl runs) ample = runs_is s t request result feed close runs ample
call_is s t request result feed close (inr (inl read)) ample = read_is s t request result read ample
call_is s t request result feed close (inr (inr (within, short, same))) ample = absurd (subst (λ (r : Result Reply Refusal). IsAmple (call_response r)) short ample)

-- ---- pages and drops
shows : (C : ℕ) (m : Moment) (v : StandingView) (start : List ℕ) (limit : ℕ) (behind : Bool) (result : Result Page Refusal) → MayShow C m v start limit (refused_if behind (Behind v.at)) (page_outcome result) → IsAmple (page_response result)
    → MatchBool behind (page_response result ≡ Refused (Behind v.at)) (page_response result ≡ View (page_of C m v start limit))
shows C m v start limit true (Ok page) may ample = let clash : outcomes.View page ≡ outcomes.Refused (Behind v.at) = may in cc
shows C m v start limit true (Err refusal) may ample = let is : outcomes.Refused refusal ≡ outcomes.Refused (Behind v.at) = may in let same : refusal ≡ Behind v.at = cc is in ap (λ (r : Refusal). Refused r) same
shows C m v start limit false (Ok page) (inl may) ample = let is : outcomes.View page ≡ outcomes.View (page_of C m v start limit) = may in let same : page ≡ page_of C m v start limit = cc is in ap (λ (p : Page). View p) same
shows C m v start limit false (Ok page) (inr may) ample = let clash : outcomes.View page ≡ outcomes.Refused NoMemory = may in cc
shows C m v start limit false (Err refusal) (inl may) ample = let clash : outcomes.Refused refusal ≡ outcomes.View (page_of C m v start limit) = may in cc
shows C m v start limit false (Err refusal) (inr may) ample = let is : outcomes.Refused refusal ≡ outcomes.Refused NoMemory = may in let same : refusal ≡ NoMemory = cc is in absurd (subst (λ (r : Refusal). IsAmple (Refused r)) same ample)

refused_so : (result : Result Page Refusal) (due : Refusal) → page_outcome result ≡ outcomes.Refused due → page_response result ≡ Refused due
refused_so (Ok page) due is = let clash : outcomes.View page ≡ outcomes.Refused due = is in cc
refused_so (Err refusal) due is = let given : outcomes.Refused refusal ≡ outcomes.Refused due = is in let same : refusal ≡ due = cc given in ap (λ (r : Refusal). Refused r) same

reads : (C : ℕ) (m : Moment) (there : Option StandingView) (floor : ℕ) (start : List ℕ) (limit : ℕ) (result : Result Page Refusal) → MayRead C m there floor start limit (page_outcome result) → IsAmple (page_response result)
    → MatchOption there (page_response result ≡ Refused NoSuchView) (λ v. MatchBool (nat_lt v.at floor) (page_response result ≡ Refused (Behind v.at)) (page_response result ≡ View (page_of C m v start limit)))
reads C m None floor start limit result may ample = refused_so result NoSuchView may
reads C m (Some v) floor start limit result may ample = shows C m v start limit (nat_lt v.at floor) result may ample

page_is : (C : ℕ) (m : Moment) (broken : Option Refusal) (view floor : ℕ) (start : List ℕ) (limit : ℕ) (result : Result Page Refusal) → MayReadView C m broken view floor start limit (page_outcome result) → IsAmple (page_response result)
    → MatchOption broken (MatchOption (view_of view m.views) (page_response result ≡ Refused NoSuchView) (λ v.
    MatchBool (nat_lt v.at floor) (page_response result ≡ Refused (Behind v.at)) (page_response result ≡ View (page_of C m v start limit)))) (λ due. page_response result ≡ Refused due)
page_is C m (Some due) view floor start limit result may ample = refused_so result due may
page_is C m None view floor start limit result may ample = reads C m (view_of view m.views) floor start limit result may ample

drop_is : (there : Option StandingView) (result : Result ⊤ Refusal) → MayDrop there (drop_outcome result) → MatchOption there (drop_response result ≡ Refused NoSuchView) (λ v. drop_response result ≡ Dropped)
drop_is None (Ok done) may = let clash : outcomes.Dropped ≡ outcomes.Refused NoSuchView = may in cc
drop_is None (Err refusal) may = let is : outcomes.Refused refusal ≡ outcomes.Refused NoSuchView = may in let same : refusal ≡ NoSuchView = cc is in ap (λ (r : Refusal). Refused r) same
drop_is (Some v) (Ok done) may = refl
drop_is (Some v) (Err refusal) may = let clash : outcomes.Refused refusal ≡ outcomes.Dropped = may in cc

asks_are : (s t : Store) (query : Query) (response : Response) → 0 < s.machine.log.capacity → NoneBehind 0 s → PlainlyAsks s query response t → IsAmple response → IsAnswer s.machine.columns (now s) query response
asks_are s t (Call request) response feed close (result, ends, is) ample =
    subst (IsAnswer s.machine.columns (now s) (Call request)) (sym is) (call_is s t request result feed close ends (subst IsAmple is ample))
asks_are s t (ViewRead view floor start limit) response feed close (result, inl (leads, (note, may)), is) ample =
    subst (IsAnswer s.machine.columns (now s) (ViewRead view floor start limit)) (sym is)
    (page_is s.machine.columns (now s) (page_fault start limit) view.0 floor start limit result may (subst IsAmple is ample))
asks_are s t (ViewRead view floor start limit) response feed close (result, inr (same, (note, may)), is) ample =
    subst (IsAnswer s.machine.columns (now s) (ViewRead view floor start limit)) (sym is)
    (page_is s.machine.columns (now s) (page_fault start limit) view.0 floor start limit result may (subst IsAmple is ample))
asks_are s t (ViewDrop view) response feed close (result, (leads, (note, may)), is) ample =
    subst (IsAnswer s.machine.columns (now s) (ViewDrop view)) (sym is) (drop_is (view_of view.0 (now s).views) result may)
asks_are s t (Read query) response feed close (same, plain) ample = moment_read_is s query response ample plain
asks_are s t (Server query) response feed close (same, is) ample = is

pub ample_answers : AmpleAnswersAreTheirs
ample_answers s t query response feed close (asked, asks, kept) ample = asks_are s asked query response feed close asks ample

-- ---- there is one answer
itself : (response : Response) → IsSame response response
itself (Done start stop (Tidied rule)) = (refl, refl)
itself _ = refl

same_answer : (response other : Response) → response ≡ other → IsSame response other
same_answer response other is = subst (λ (x : Response). IsSame response x) is (itself response)

both : (response other given : Response) → response ≡ given → other ≡ given → IsSame response other
both response other given one two = same_answer response other (one ∙ sym two)

one_reply : (C : ℕ) (m : Moment) (request : Request) (response other : Response) → IsReply C m request response → IsReply C m request other → IsSame response other
one_reply C m (Get key asked) response other one two = both response other _ one two
one_reply C m (Put key sets) response other one two = both response other _ one two
one_reply C m (PutIf key sets version) response other one two = by_version (version_of (get (rows C m) key) == version) one two
  where
    by_version : (same : Bool) → MatchBool same (response ≡ changed m) (response ≡ Refused (OtherVersion (version_of (get (rows C m) key))))
        → MatchBool same (other ≡ changed m) (other ≡ Refused (OtherVersion (version_of (get (rows C m) key)))) → IsSame response other
    by_version true one two = both response other _ one two
    by_version false one two = both response other _ one two
one_reply C m (Remove key) response other one two = by_row (get (rows C m) key) one two
  where
    by_row : (row : Option Row) → MatchOption row (response ≡ read_so m Absent) (λ r. response ≡ changed m) → MatchOption row (other ≡ read_so m Absent) (λ r. other ≡ changed m) → IsSame response other
    by_row None one two = both response other _ one two
    by_row (Some row) one two = both response other _ one two
one_reply C m (Range start limit asked) response other (pairs, range, is) (rest, again, so) =
    both response other (read_so m (RowsEnd rest)) (is ∙ ap (λ (x : List (List ℕ × Row)). read_so m (RowsEnd x)) (range_once (rows C m) asked start limit pairs rest range again)) so
one_reply C m (Tidy key) response other (rule, is) (named, so) =
    subst (λ (x : Response). IsSame x other) (sym is) (subst (λ (x : Response). IsSame (read_so m (Tidied rule)) x) (sym so) (refl, refl))
one_reply C m (Build spec) response other one two = both response other _ one two

abbrev IsPage : ℕ → Moment → ℕ → List ℕ → ℕ → Response → StandingView → Type 0
IsPage C m floor start limit response v = MatchBool (nat_lt v.at floor) (response ≡ Refused (Behind v.at)) (response ≡ View (page_of C m v start limit))

pub answers_are_one : AnswersAreOne
answers_are_one C m (Call request) response other one two = by_fault (limit_broken C m request) one two
  where
    by_fault : (o : Option Refusal) → MatchOption o (IsReply C m request response) (λ due. response ≡ Refused due) → MatchOption o (IsReply C m request other) (λ due. other ≡ Refused due) → IsSame response other
    by_fault None one two = one_reply C m request response other one two
    by_fault (Some due) one two = both response other _ one two
answers_are_one C m (ViewRead view floor start limit) response other one two = by_fault (page_fault start limit) one two
  where
    by_behind : (v : StandingView) (behind : Bool) → MatchBool behind (response ≡ Refused (Behind v.at)) (response ≡ View (page_of C m v start limit))
        → MatchBool behind (other ≡ Refused (Behind v.at)) (other ≡ View (page_of C m v start limit)) → IsSame response other
    by_behind v true one two = both response other _ one two
    by_behind v false one two = both response other _ one two

    by_view : (there : Option StandingView) → MatchOption there (response ≡ Refused NoSuchView) (IsPage C m floor start limit response) → MatchOption there (other ≡ Refused NoSuchView) (IsPage C m floor start limit other) → IsSame response other
    by_view None one two = both response other _ one two
    by_view (Some v) one two = by_behind v (nat_lt v.at floor) one two

    by_fault : (o : Option Refusal) → MatchOption o (MatchOption (view_of view.0 m.views) (response ≡ Refused NoSuchView) (IsPage C m floor start limit response)) (λ due. response ≡ Refused due)
        → MatchOption o (MatchOption (view_of view.0 m.views) (other ≡ Refused NoSuchView) (IsPage C m floor start limit other)) (λ due. other ≡ Refused due) → IsSame response other
    by_fault None one two = by_view (view_of view.0 m.views) one two
    by_fault (Some due) one two = both response other _ one two
answers_are_one C m (Read query) response other one two = same_answer response other (read_once C m query response other one two)
answers_are_one C m (Server query) response other one two = both response other _ one two
answers_are_one C m (ViewDrop view) response other one two = by_view (view_of view.0 m.views) one two
  where
    by_view : (there : Option StandingView) → MatchOption there (response ≡ Refused NoSuchView) (λ v. response ≡ Dropped) → MatchOption there (other ≡ Refused NoSuchView) (λ v. other ≡ Dropped) → IsSame response other
    by_view None one two = both response other _ one two
    by_view (Some v) one two = both response other _ one two
