-- WHAT A PLAIN STORE ANSWERS to queries, one after the other: the meaning of sessions on an index of one caller.
--     After a history in which every call has ended, the store is the changes that were made, and the views, each at a
--     number of them.
use Rattle.std.specs.Prelude.{ℕ, zero, suc, ◌+◌, ◌≡◌, ◌≢◌, ◌<◌, ◌≤◌, ◌⊎◌, MatchBool, MatchOption, ⊤, Bool, true, false, List, [], ◌∷◌, ◌++◌, length, map, All}
use Rattle.std.specs.Prelude.{Result, Ok, Err, Option, Some, None}
use Rattle.std.specs.List.{AllByRecursion}
use Rattle.std.specs.Io.KnownBytes.{Appends}
use Rattle.mt_types.specs.Numbers.{greatest_number}
use Rattle.mt_types.specs.Limits.{request_fault}
use Rattle.mt_types.specs.declared.numbers.PassNo.{PassNo}
use Rattle.mt_types.specs.declared.numbers.CallNo.{CallNo}
use Rattle.mt_types.specs.declared.refusal.Refusal.{Refusal}
use Rattle.mt_types.specs.declared.refusal.Refusal.TheVariants.{BadLimit, NoMemory}
use Rattle.mt_types.specs.declared.event.Event.{Event}
use Rattle.mt_types.specs.declared.event.Event.TheVariants.{Begin, Advance, Collect, ViewRead as ReadOf, ViewDrop as DropOf}
use Rattle.mt_types.specs.declared.event.Outcome.{Outcome}
use Rattle.mt_types.specs.declared.event.Outcome.TheVariants.{Done, Refused}
use Rattle.mt_types.specs.declared.event.Answer.{Answer}
use Rattle.mt_types.specs.declared.event.Answer.TheVariants.{Built}
use Rattle.mt_types.specs.declared.event.Request.{Request}
use Rattle.mt_types.specs.declared.event.Request.TheVariants.{Remove, Tidy}
use Rattle.mt_types.specs.declared.event.Reply.{Reply}
use Rattle.mt_types.specs.declared.view.Page.{Page}
use Rattle.mt_types.specs.declared.limits.TheConstants.{MAX_VIEWS}
use Rattle.mt_promise.specs.History.{History, StandingView, moment, rows}
use Rattle.mt_promise.specs.Legal.{MayHappen}
use Rattle.mt_promise.specs.Alone.{EndsPlainly, EndsRefused}
use Rattle.mt_index.specs.declared.options.Options.{Options}
use Rattle.mt_index.specs.Stands.{Stands}
use Rattle.mt_shared.specs.declared.trace.Trace.TheVariants.{Off}
use Rattle.mt_shared.specs.Passes.{PassView, IsNewPass}
use Rattle.mt_shared.specs.Inner.{InnerView, Does, IsFresh, has_counters}
use Rattle.mt_shared.specs.Reads.{IsRead, ReadsNow}
use Rattle.mt_reads.specs.Quiet.{IsQuietAnswer, quiet_fault}
use Rattle.mt_reads.specs.declared.quiet.QuietRead.{QuietRead}
use Rattle.mt_reads.specs.declared.quiet.QuietAnswer.{QuietAnswer}
use Rattle.mt_shared.specs.Pages.{PagesNow}
use Rattle.mt_shared.specs.Quiet.{QuietReadsNow}
use Rattle.mt_shared.specs.Tidies.{Looks, has_taken_out}
use Rattle.mt_walk.specs.Removes.{RemovesWithin}
use Rattle.mt_walk.specs.declared.place.TheConstants.{MAX_TIDIES}
use Rattle.mt_index.specs.Viewing.{page_outcome}
use Rattle.mt_shared.specs.Turns.{drop_outcome, furthest}
use Rattle.mt_wire.specs.declared.query.Query.{Query}
use Rattle.mt_wire.specs.declared.query.Query.TheVariants.{Call, ViewRead, ViewDrop, Read, Server}
use Rattle.mt_wire.specs.declared.read.ReadQuery.{ReadQuery}
use Rattle.mt_wire.specs.declared.response.Response.{Response}
use Rattle.mt_wire.specs.declared.response.Response.TheVariants.{Refused as Refusing}
use Rattle.mt_wire.specs.declared.frame.Frame.{Frame}
use Rattle.mt_wire.specs.Frames.{RequestsFit, request_frame, reply_frame}
use Rattle.mt_serve.specs.declared.fault.SessionFault.{SessionFault}
use Rattle.mt_serve.specs.declared.fault.SessionFault.TheVariants.{Write, NoMemory as WantsMemory}
use Rattle.mt_serve.specs.declared.session.Summary.{Summary}
use Rattle.mt_serve.specs.Asking.{counts_too_far, found_response, quiet_of, Asks, call_response, page_response, drop_response, not_alone, changes, AnswersAll, AnswersFrames}
use Rattle.mt_serve.specs.Sources.{FaultIsAt}
use Rattle.mt_serve.specs.Sessions.{requests_of, replies_of, IsServed, IsBroken}
use Rattle.mt_serve.specs.Store.{Store, now, newest, Leads, fault, EndsBy, MayLack}

-- ---- one query

-- a build returns the next number of a view
abbrev pub GivesNext : Store → Answer → Type 0
GivesNext s (Built view) = view.0 ≡ (now s).built + 1
GivesNext s _ = Unit {0}

-- A call that breaks no limit is answered as by a plain map, and makes the change that it asks for: what happens is its
-- begin and its steps.
pub record CallIsDone (s : Store) (request : Request) (reply : Reply) (t : Store) : Type 0 where
  pub within : fault s request ≡ None
  pub happens : EndsBy s reply.pass request reply.call (Done reply) t
  pub plain : EndsPlainly s.machine.columns s.past reply.pass reply.call request reply (now t)
  pub next : GivesNext s reply.answer

-- its begin was refused, and nothing else happened: for the first limit that it breaks, or, if it breaks none, since the
-- store is out of memory
abbrev pub IsTurnedAway : Store → Request → Refusal → Store → Type 0
IsTurnedAway s request refusal t = (pass : PassNo) × Leads s (Begin pass request ∷ []) (Refused refusal ∷ []) t
    × MatchOption (fault s request) (refusal ≡ NoMemory) (λ due. refusal ≡ due)

-- it began, since it breaks no limit, and was refused for what it lacks
abbrev pub IsGivenUp : Store → Request → Refusal → Store → Type 0
IsGivenUp s request refusal t = (fault s request ≡ None) × ((pass : PassNo) × (number : CallNo)
    × EndsBy s pass request number (Refused refusal) t × MayLack s pass request number refusal)

-- a call was made by events: it is answered, or it is refused and changes nothing
abbrev pub CallRuns : Store → Request → Result Reply Refusal → Store → Type 0
CallRuns s request (Ok reply) t = CallIsDone s request reply t
CallRuns s request (Err refusal) t =
    (IsTurnedAway s request refusal t ⊎ IsGivenUp s request refusal t)
    × EndsRefused s.machine.columns s.past request refusal (now t)

-- a get or a range was read at once, and nothing happened: it breaks no limit, and is answered as by a plain map; or it
-- is refused for the first limit that it breaks, or, if it breaks none, since the store is out of memory
abbrev pub IsReadAtOnce : Store → Request → Result Reply Refusal → Store → Type 0
IsReadAtOnce s request (Ok reply) t =
    (t ≡ s) × IsRead request × (request_fault s.machine.columns request ≡ None)
    × EndsPlainly s.machine.columns s.past reply.pass reply.call request reply (now s)
IsReadAtOnce s request (Err refusal) t =
    (t ≡ s) × IsRead request
    × MatchOption (request_fault s.machine.columns request) (refusal ≡ NoMemory) (λ due. refusal ≡ due)

-- memory for a copy of its key was refused before a remove that breaks no limit, and nothing happened
abbrev pub IsNotBegun : Store → Request → Result Reply Refusal → Store → Type 0
IsNotBegun s request result t = RemovesWithin request × (result ≡ Err NoMemory) × (t ≡ s)

-- a call has ended
abbrev pub CallEnds : Store → Request → Result Reply Refusal → Store → Type 0
CallEnds s request result t =
    CallRuns s request result t ⊎ (IsReadAtOnce s request result t ⊎ IsNotBegun s request result t)

-- this event happened, and its outcome is one that it may have
abbrev pub OneHappens : Store → Event → Outcome → Store → Type 0
OneHappens s event outcome t =
    Leads s (event ∷ []) (outcome ∷ []) t × ((note : ℕ) × MayHappen s.machine.columns s.past event outcome note)

-- a page was read at once, and nothing happened: it is one with which the event that reads it may happen
abbrev pub IsShownAtOnce : Store → Event → Outcome → Store → Type 0
IsShownAtOnce s event outcome t = (t ≡ s) × ((note : ℕ) × MayHappen s.machine.columns s.past event outcome note)

-- a read of one moment is answered by the rows after the changes so far; or it is refused for the first limit that it
-- breaks, or, if it breaks none, since the store is out of memory
abbrev pub IsFound : Store → QuietRead → Result QuietAnswer Refusal → Type 0
IsFound s read (Ok answer) =
    IsQuietAnswer (rows s.machine.columns (now s)) read answer × (quiet_fault s.machine.columns read ≡ None)
IsFound s read (Err refusal) =
    MatchOption (quiet_fault s.machine.columns read) (refusal ≡ NoMemory) (λ due. refusal ≡ due)

abbrev pub read_response : ℕ → Result QuietAnswer Refusal → Response
read_response at (Ok answer) = found_response at at answer
read_response at (Err refusal) = Refusing refusal

abbrev pub IsReadPlainly : Store → ReadQuery → Response → Type 0
IsReadPlainly s query response = MatchBool (counts_too_far query) (response ≡ Refusing BadLimit)
    ((found : Result QuietAnswer Refusal) × IsFound s (quiet_of query) found
    × (response ≡ read_response (length (now s).commits) found))

-- A page is what the view's filter and sums are afresh on the rows after the changes that it is at; a view that is
-- dropped is there no more; each is refused if there is no such view. A query of the server is refused.
abbrev pub PlainlyAsks : Store → Query → Response → Store → Type 0
PlainlyAsks s (Call request) response t =
    (result : Result Reply Refusal) × CallEnds s request result t × (response ≡ call_response result)
PlainlyAsks s (ViewRead view floor start limit) response t =
    (result : Result Page Refusal) × (OneHappens s (ReadOf view floor start limit) (page_outcome result) t
    ⊎ IsShownAtOnce s (ReadOf view floor start limit) (page_outcome result) t)
    × (response ≡ page_response result)
PlainlyAsks s (ViewDrop view) response t =
    (result : Result ⊤ Refusal) × OneHappens s (DropOf view) (drop_outcome result) t
    × (response ≡ drop_response result)
PlainlyAsks s (Read query) response t = (t ≡ s) × IsReadPlainly s query response
PlainlyAsks s (Server query) response t = (t ≡ s) × (response ≡ not_alone)

-- ---- views are kept up

-- no view lags by more than this many changes
abbrev pub NoneBehind : ℕ → Store → Type 0
NoneBehind many s = All (λ (v : StandingView). newest s ≤ v.at + many) (now s).views

-- the same views, each where it was or further on
abbrev pub TakenOn : List StandingView → List StandingView → Type 0
TakenOn [] [] = Unit {0}
TakenOn (v ∷ views) (w ∷ later) =
    (w.number ≡ v.number) × (w.spec ≡ v.spec) × (v.at ≤ w.at) × TakenOn views later
TakenOn [] (w ∷ later) = ⊥
TakenOn (v ∷ views) [] = ⊥

-- the last of these turns, which was to advance a view, was refused: out of memory
abbrev pub RanOut : List Outcome → Type 0
RanOut turns = (front : List Outcome) × (turns ≡ front ++ Refused NoMemory ∷ [])

-- VIEWS ARE KEPT UP: what happens are turns, each of which advances the view that lags most. No change is
-- made. If no view lagged by more than one change, none lags then, unless a turn ran out of memory.
pub record KeptUp (s t : Store) : Type 0 where
  pub turns : List Outcome
  pub happens : Leads s (map (λ (outcome : Outcome). furthest) turns) turns t
  pub commits : (now t).commits ≡ (now s).commits
  pub views : TakenOn (now s).views (now t).views
  pub newest : NoneBehind 1 s → NoneBehind 0 t ⊎ RanOut turns

-- ---- tidies follow

-- a tidy has ended, and took something out, or not; or there was none
abbrev pub TidiesPlainlyOnce : Store → List ℕ → Bool → Store → Type 0
TidiesPlainlyOnce s key took t =
    ((result : Result Reply Refusal) × CallEnds s (Tidy key) result t × (took ≡ has_taken_out result))
    ⊎ ((took ≡ false) × (t ≡ s))

-- this many tidies, one after the other, each of which took something out
abbrev pub TidiesPlainly : Store → List ℕ → ℕ → Store → Type 0
TidiesPlainly s key zero t = t ≡ s
TidiesPlainly s key (suc tidies) t = (m : Store) × TidiesPlainly s key tidies m × TidiesPlainlyOnce m key true t

-- THE STORE IS TIDIED: by such calls, at most MAX_TIDIES, each but the last of which takes something out; then the epoch
-- advances, and nodes are freed. None of it is a change.
pub record IsTidied (s : Store) (key : List ℕ) (t : Store) : Type 0 where
  pub tidied : Store
  pub tidies : TidiesPlainly s key MAX_TIDIES tidied
      ⊎ ((tidies : ℕ) × (tidies < MAX_TIDIES) × (m : Store) × TidiesPlainly s key tidies m
      × ((took : Bool) × TidiesPlainlyOnce m key took tidied))
  pub next : Store
  pub advanced : Outcome
  pub advances : OneHappens tidied Advance advanced next
  pub freed : Outcome
  pub frees : OneHappens next Collect freed t

-- after a remove the store may be tidied, and after no other query
abbrev pub MayBeTidied : Query → Store → Store → Type 0
MayBeTidied (Call (Remove key)) s t = IsTidied s key t ⊎ (t ≡ s)
MayBeTidied query s t = t ≡ s

-- A QUERY IS ANSWERED PLAINLY: as a plain store answers; and if it changed rows or built a view, views are kept up, and
-- after a remove the store may be tidied.
abbrev pub PlainlyFollows : Query → Store → Store → Type 0
PlainlyFollows query s t = (kept : Store) × KeptUp s kept × MayBeTidied query kept t

abbrev pub PlainlyAnswers : Store → Query → Response → Store → Type 0
PlainlyAnswers s query response t =
    (asked : Store) × PlainlyAsks s query response asked
    × MatchBool (changes response) (PlainlyFollows query asked t) (t ≡ asked)

-- these queries, one after the other, each by one answer
abbrev pub PlainlyAnswersAll : Store → List Query → List Response → Store → Type 0
PlainlyAnswersAll s [] [] t = t ≡ s
PlainlyAnswersAll s (query ∷ queries) (response ∷ responses) t =
    (then : Store) × PlainlyAnswers s query response then × PlainlyAnswersAll then queries responses t
PlainlyAnswersAll s [] (response ∷ responses) t = ⊥
PlainlyAnswersAll s (query ∷ queries) [] t = ⊥

-- a frame of queries, by one of as many answers, in its version
abbrev pub PlainlyAnswersFrame : Store → Frame Query → Frame Response → Store → Type 0
PlainlyAnswersFrame s frame reply t =
    (reply.version ≡ frame.version) × PlainlyAnswersAll s frame.messages reply.messages t

-- these frames, one after the other, each by one frame
abbrev pub PlainlyAnswersFrames : Store → List (Frame Query) → List (Frame Response) → Store → Type 0
PlainlyAnswersFrames s [] [] t = t ≡ s
PlainlyAnswersFrames s (frame ∷ frames) (reply ∷ replies) t =
    (then : Store) × PlainlyAnswersFrame s frame reply then × PlainlyAnswersFrames then frames replies t
PlainlyAnswersFrames s [] (reply ∷ replies) t = ⊥
PlainlyAnswersFrames s (frame ∷ frames) [] t = ⊥

-- ---- the laws

-- an index of one caller, where this has happened and every call has ended: the pass is one of its own, and has seen no
-- more than there is
pub record IsAlone (s : InnerView) (p : PassView) (h : History) : Type 0 where
  pub stands : Stands s.machine h
  pub ended : (moment h).calls ≡ []
  pub few_views : length (moment h).views ≤ MAX_VIEWS
  pub own : has_counters p.number s.counters ≡ true
  pub seen : p.seen ≤ length (moment h).commits
  pub counted : p.events ≤ s.events

-- the store that it is
abbrev pub store_of : InnerView → History → Store
store_of s h = record { machine = s.machine; past = h }

-- so is one on which nothing has happened
abbrev pub FreshIsAlone : Type 0
FreshIsAlone =
    (options : Options) (traced : Bool) (s : InnerView) (p : PassView) → IsFresh options 1 s → IsNewPass traced 1 p
    → IsAlone s p []

-- Of an index of one caller that keeps no trace: a get or a range is read at once, and nothing happens.
abbrev pub AloneReadsAtOnce : Type 0
AloneReadsAtOnce =
    (s t : InnerView) (p q : PassView) (h : History) (request : Request) (response : Response)
    → IsAlone s p h → s.trace ≡ Off → IsRead request → Asks Does ReadsNow PagesNow QuietReadsNow s p (Call request) response t q
    → (result : Result Reply Refusal) × IsReadAtOnce (store_of s h) request result (store_of t h)
    × (response ≡ call_response result)

-- Of an index of one caller, while its events can be counted: queries that it answers are answered plainly.
abbrev pub AloneAnswersPlainly : Type 0
AloneAnswersPlainly =
    (s t : InnerView) (p q : PassView) (h : History) (queries : List Query) (responses : List Response)
    → IsAlone s p h → t.events < greatest_number → AnswersAll Does ReadsNow PagesNow QuietReadsNow Looks s p queries responses t q
    → (then : History) × IsAlone t q then × (t.machine.columns ≡ s.machine.columns)
    × PlainlyAnswersAll (store_of s h) queries responses (store_of t then)

abbrev pub AloneAnswersFramesPlainly : Type 0
AloneAnswersFramesPlainly =
    (s t : InnerView) (p q : PassView) (h : History) (frames : List (Frame Query)) (replies : List (Frame Response))
    → IsAlone s p h → t.events < greatest_number → AnswersFrames Does ReadsNow PagesNow QuietReadsNow Looks s p frames replies t q
    → (then : History) × IsAlone t q then × (t.machine.columns ≡ s.machine.columns)
    × PlainlyAnswersFrames (store_of s h) frames replies (store_of t then)

-- A SESSION ALONE: the input spells frames; what was written is the spelling of as many frames of answers, each in the
-- version of its frame, and they are those of a plain store, in order.
pub record ServesPlainly (s : Store) (input : List ℕ) (old new : Option (List ℕ)) (t : Store) : Type 0 where
  pub frames : List (Frame Query)
  pub replies : List (Frame Response)
  pub fit : AllByRecursion RequestsFit frames
  pub read : input ≡ requests_of frames
  pub written : Appends old new (replies_of replies)
  pub plain : PlainlyAnswersFrames s frames replies t

abbrev pub AloneServesPlainly : Type 0
AloneServesPlainly =
    (s t : InnerView) (p q : PassView) (h : History) (input : List ℕ) (old new : Option (List ℕ)) (summary : Summary)
    → IsAlone s p h → t.events < greatest_number → IsServed Does ReadsNow PagesNow QuietReadsNow Looks s p (Some input) old summary new t q
    → (then : History) × IsAlone t q then × ServesPlainly (store_of s h) input old new (store_of t then)

-- A SESSION ALONE THAT BREAKS OFF: the frames before are answered plainly; then no frame is there, for this fault, after
-- which the reader still has the unread bytes; or of the frame that is there all queries are answered plainly, and a
-- front of the answers was written (a write failed), or some are, and none was written (out of memory).
abbrev pub BreaksInPlainly : Store → SessionFault → Frame Query → Option (List ℕ) → Option (List ℕ) → Store → Type 0
BreaksInPlainly s Write frame old new t =
    (reply : Frame Response) × (sent : List ℕ) × (unsent : List ℕ) × PlainlyAnswersFrame s frame reply t
    × (reply_frame reply ≡ sent ++ unsent) × Appends old new sent
BreaksInPlainly s WantsMemory frame old new t =
    (done : List Query) × (undone : List Query) × (responses : List Response) × (frame.messages ≡ done ++ undone)
    × PlainlyAnswersAll s done responses t × (new ≡ old)
BreaksInPlainly s _ frame old new t = ⊥

abbrev pub BreaksAtPlainly :
    Store → SessionFault → List ℕ → Option (List ℕ) → Option (List ℕ) → Option (List ℕ) → Store → Type 0
BreaksAtPlainly s fault rest unread old new t =
    ((fault ≢ Write) × FaultIsAt fault unread rest × (new ≡ old) × (t ≡ s))
    ⊎ ((frame : Frame Query) × (more : List ℕ) × (rest ≡ request_frame frame ++ more)
    × BreaksInPlainly s fault frame old new t)

pub record BreaksPlainly (s : Store) (input : List ℕ) (old : Option (List ℕ)) (fault : SessionFault)
    (unread new : Option (List ℕ)) (t : Store) : Type 0 where
  pub frames : List (Frame Query)
  pub replies : List (Frame Response)
  pub rest : List ℕ
  pub between : Option (List ℕ)
  pub then : Store
  pub fit : AllByRecursion RequestsFit frames
  pub read : input ≡ requests_of frames ++ rest
  pub written : Appends old between (replies_of replies)
  pub plain : PlainlyAnswersFrames s frames replies then
  pub breaks : BreaksAtPlainly then fault rest unread between new t

abbrev pub AloneBreaksPlainly : Type 0
AloneBreaksPlainly =
    (s t : InnerView) (p q : PassView) (h : History) (input : List ℕ) (unread old new : Option (List ℕ))
    (fault : SessionFault)
    → IsAlone s p h → t.events < greatest_number → IsBroken Does ReadsNow PagesNow QuietReadsNow Looks s p (Some input) old fault unread new t q
    → (then : History) × IsAlone t q then × BreaksPlainly (store_of s h) input old fault unread new (store_of t then)
