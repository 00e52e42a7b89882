-- What is done for a query, and what is answered: over any events that are made on what is shared.
use Rattle.std.specs.Prelude.{ℕ, nat_lt, Some, None, ◌≡◌, ◌⊎◌, ⊤, Bool, true, false, List, [], ◌∷◌, Result, Ok, Err, MatchBool}
use Rattle.mt_types.specs.declared.refusal.Refusal.{Refusal}
use Rattle.mt_types.specs.declared.refusal.Refusal.TheVariants.{BadLimit}
use Rattle.mt_types.specs.declared.event.Event.TheVariants.{ViewDrop as DropOf}
use Rattle.mt_types.specs.declared.event.Reply.{Reply}
use Rattle.mt_types.specs.declared.view.Page.{Page}
use Rattle.mt_shared.specs.Passes.{PassView}
use Rattle.mt_shared.specs.Drives.{EventLaw}
use Rattle.mt_shared.specs.Reads.{ReadLaw, IsCall}
use Rattle.mt_shared.specs.Pages.{PageLaw, PageIsRead}
use Rattle.mt_shared.specs.Quiet.{Answered, IsQuietRead, QuietLaw}
use Rattle.mt_shared.specs.Tidies.{IsShort, LookLaw, PurgesAfter}
use Rattle.mt_shared.specs.Turns.{drop_outcome, KeepsUp, IsStopped}
use Rattle.mt_reads.specs.declared.quiet.QuietRead.{QuietRead}
use Rattle.mt_reads.specs.declared.quiet.QuietRead.TheVariants as quiet
use Rattle.mt_reads.specs.declared.quiet.QuietAnswer.{QuietAnswer}
use Rattle.mt_reads.specs.declared.quiet.QuietAnswer.TheVariants as quiet_answer
use Rattle.mt_serve.specs.declared.asking.TheConstants.{MAX_COUNT}
use Rattle.mt_wire.specs.declared.query.Query.{Query}
use Rattle.mt_wire.specs.declared.query.Query.TheVariants.{Call, ViewRead, ViewDrop, Read, Server}
use Rattle.mt_wire.specs.declared.read.ReadQuery.{ReadQuery}
use Rattle.mt_wire.specs.declared.read.ReadQuery.TheVariants.{Gets, RangeBack, Count}
use Rattle.mt_wire.specs.declared.response.Response.{Response}
use Rattle.mt_wire.specs.declared.response.Response.TheVariants.{Refused, Done, View, Dropped, FoundAll, Server as Served}
use Rattle.mt_wire.specs.declared.server.ServerResponse.TheVariants.{Refused as OfServer}
use Rattle.mt_wire.specs.declared.server.ServerRefusal.TheVariants.{TooMuchAtOnce}
use Rattle.mt_wire.specs.declared.response.End.{End}
use Rattle.mt_wire.specs.declared.response.End.TheVariants.{Committed, Built, Counted, Rows}
use Rattle.mt_wire.specs.declared.frame.Frame.{Frame}
use Rattle.mt_wire.specs.Answered.{response_of}

-- ---- what the wire says of a query's result

abbrev pub call_response : Result Reply Refusal → Response
call_response (Ok reply) = response_of reply
call_response (Err refusal) = Refused refusal

abbrev pub page_response : Result Page Refusal → Response
page_response (Ok page) = View page
page_response (Err refusal) = Refused refusal

abbrev pub drop_response : Result ⊤ Refusal → Response
drop_response (Ok done) = Dropped
drop_response (Err refusal) = Refused refusal

-- a query of the server is alone in its frame: one that is asked of an index is refused
abbrev pub not_alone : Response
not_alone = Served (OfServer TooMuchAtOnce)

-- a read of one moment, as the index is asked
abbrev pub quiet_of : ReadQuery → QuietRead
quiet_of (Gets keys columns) = quiet.Gets keys columns
quiet_of (RangeBack before limit columns) = quiet.RangeBack before limit columns
quiet_of (Count from to most) = quiet.Count from to most

-- a count that would keep changes waiting for too long
abbrev pub counts_too_far : ReadQuery → Bool
counts_too_far (Count from to most) = nat_lt MAX_COUNT most
counts_too_far query = false

abbrev pub found_response : ℕ → ℕ → QuietAnswer → Response
found_response from to (quiet_answer.Rows found) = FoundAll to found
found_response from to (quiet_answer.Pairs pairs) = Done from to (Rows pairs)
found_response from to (quiet_answer.Count count) = Done from to (Counted count)

-- a read that could not be made, since a change of another session stayed open, is refused as too much at once
abbrev pub quiet_response : Answered → Response
quiet_response (Some (Ok at)) = found_response at.from at.to at.value
quiet_response (Some (Err refusal)) = Refused refusal
quiet_response None = not_alone

-- ---- one query

-- a read of one moment, and its answer
abbrev pub ReadsOnce : {S : Type 0} → QuietLaw S → S → PassView → ReadQuery → Response → PassView → Type 0
ReadsOnce glances s p query response q =
    (ended : Answered) × IsQuietRead glances s p (quiet_of query) ended q × (response ≡ quiet_response ended)

-- A call is read at once if it may be, and else driven from its begin to its end, unless memory is short before a remove;
-- a page is read at once if it may be, and else by one event; a view is dropped by one event. A read of one moment is made
-- unless it counts too far. A query of the server is refused, and nothing is done. This is the answer.
abbrev pub Asks : {S : Type 0} → EventLaw S → ReadLaw S → PageLaw S → QuietLaw S → S → PassView → Query → Response → S → PassView → Type 0
Asks does shows pages glances s p (Call request) response t q =
    (result : Result Reply Refusal) × (IsCall does shows s p request result t q ⊎ IsShort s p request result t q)
    × (response ≡ call_response result)
Asks does shows pages glances s p (ViewRead view floor start limit) response t q =
    (result : Result Page Refusal) × PageIsRead does pages s p view floor start limit result t q
    × (response ≡ page_response result)
Asks does shows pages glances s p (ViewDrop view) response t q =
    (result : Result ⊤ Refusal) × does s p (DropOf view) (drop_outcome result) t q × (response ≡ drop_response result)
Asks does shows pages glances s p (Read query) response t q =
    (t ≡ s) × MatchBool (counts_too_far query) ((response ≡ Refused BadLimit) × (q ≡ p))
    (ReadsOnce glances s p query response q)
Asks does shows pages glances s p (Server query) response t q = (t ≡ s) × (q ≡ p) × (response ≡ not_alone)

abbrev pub end_changes : End → Bool
end_changes (Committed number) = true
end_changes (Built view) = true
end_changes _ = false

-- a row was changed, or a view built: then views may lag
abbrev pub changes : Response → Bool
changes (Done start stop end) = end_changes end
changes _ = false

-- views are advanced, in at most 64 turns, until all are at the newest commit or a turn is refused
abbrev pub KeepsViews : {S : Type 0} → EventLaw S → S → PassView → S → PassView → Type 0
KeepsViews does s p t q =
    ((applied : ℕ) × KeepsUp does s p 64 applied t q) ⊎ ((refusal : Refusal) × IsStopped does s p 64 refusal t q)

-- tidies follow a remove, and nothing any other query
abbrev pub PurgesFor : {S : Type 0} → EventLaw S → LookLaw S → Query → S → PassView → S → PassView → Type 0
PurgesFor does looks (Call request) s p t q = PurgesAfter does looks request s p t q
PurgesFor does looks query s p t q = (t ≡ s) × (q ≡ p)

-- what follows a query that changed rows or built a view: views are kept up, and tidies follow a remove
abbrev pub Follows : {S : Type 0} → EventLaw S → LookLaw S → Query → S → PassView → S → PassView → Type 0
Follows {S} does looks query s p t q =
    (m : S) × (r : PassView) × KeepsViews does s p m r × PurgesFor does looks query m r t q

-- A QUERY IS ANSWERED: it is done, and this follows if it changed rows or built a view.
abbrev pub Answers : {S : Type 0} → EventLaw S → ReadLaw S → PageLaw S → QuietLaw S → LookLaw S → S → PassView → Query → Response → S → PassView → Type 0
Answers {S} does shows pages glances looks s p query response t q =
    (m : S) × (r : PassView) × Asks does shows pages glances s p query response m r
    × MatchBool (changes response) (Follows does looks query m r t q) ((t ≡ m) × (q ≡ r))

-- ---- one frame, and frames

-- these queries, one after the other, each by one answer
abbrev pub AnswersAll : {S : Type 0} → EventLaw S → ReadLaw S → PageLaw S → QuietLaw S → LookLaw S → S → PassView → List Query → List Response → S → PassView → Type 0
AnswersAll does shows pages glances looks s p [] [] t q = (t ≡ s) × (q ≡ p)
AnswersAll {S} does shows pages glances looks s p (query ∷ queries) (response ∷ responses) t q =
    (m : S) × (r : PassView) × Answers does shows pages glances looks s p query response m r × AnswersAll does shows pages glances looks m r queries responses t q
AnswersAll does shows pages glances looks s p [] (response ∷ responses) t q = ⊥
AnswersAll does shows pages glances looks s p (query ∷ queries) [] t q = ⊥

-- a frame of queries, by one of as many answers, in its version
abbrev pub AnswersFrame :
    {S : Type 0} → EventLaw S → ReadLaw S → PageLaw S → QuietLaw S → LookLaw S → S → PassView → Frame Query → Frame Response → S → PassView → Type 0
AnswersFrame does shows pages glances looks s p frame reply t q =
    (reply.version ≡ frame.version) × AnswersAll does shows pages glances looks s p frame.messages reply.messages t q

-- these frames, one after the other, each by one frame
abbrev pub AnswersFrames :
    {S : Type 0} → EventLaw S → ReadLaw S → PageLaw S → QuietLaw S → LookLaw S → S → PassView → List (Frame Query) → List (Frame Response) → S → PassView → Type 0
AnswersFrames does shows pages glances looks s p [] [] t q = (t ≡ s) × (q ≡ p)
AnswersFrames {S} does shows pages glances looks s p (frame ∷ frames) (reply ∷ replies) t q =
    (m : S) × (r : PassView) × AnswersFrame does shows pages glances looks s p frame reply m r × AnswersFrames does shows pages glances looks m r frames replies t q
AnswersFrames does shows pages glances looks s p [] (reply ∷ replies) t q = ⊥
AnswersFrames does shows pages glances looks s p (frame ∷ frames) [] t q = ⊥
