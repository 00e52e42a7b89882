-- WHAT A CLIENT THAT MAY READ DOES TO AN INDEX: it changes no row, and builds and drops no view.
use Rattle.std.specs.Prelude.{◌≡◌, ◌<◌, ◌⊎◌, true, false, List, length, Option}
use Rattle.std.specs.List.{AllByRecursion}
use Rattle.mt_types.specs.Numbers.{greatest_number}
use Rattle.mt_types.specs.declared.event.Event.{Event}
use Rattle.mt_types.specs.declared.event.Event.TheVariants.{Begin, Step, ViewRead}
use Rattle.mt_promise.specs.History.{History}
use Rattle.mt_shared.specs.Inner.{InnerView, Does}
use Rattle.mt_shared.specs.Passes.{PassView}
use Rattle.mt_shared.specs.Drives.{EventLaw}
use Rattle.mt_shared.specs.Reads.{ReadLaw, ReadsNow, IsRead}
use Rattle.mt_shared.specs.Pages.{PageLaw, PagesNow}
use Rattle.mt_shared.specs.Quiet.{QuietLaw, QuietReadsNow}
use Rattle.mt_shared.specs.Tidies.{LookLaw, Looks}
use Rattle.mt_shared.specs.Turns.{furthest}
use Rattle.mt_wire.specs.declared.query.Query.{Query}
use Rattle.mt_wire.specs.declared.response.Response.{Response}
use Rattle.mt_wire.specs.declared.frame.Frame.{Frame}
use Rattle.mt_wire.specs.declared.server.Role.{Role}
use Rattle.mt_wire.specs.declared.server.Role.TheVariants.{Read}
use Rattle.mt_talk.specs.declared.serving.Server.{Server}
use Rattle.mt_talk.specs.declared.tokens.Token.{Token}
use Rattle.mt_talk.specs.Serving.{may_all}
use Rattle.mt_talk.specs.Frames.{ServesFrame}
use Rattle.mt_talk.specs.Laws.{Talk, Step as TalkStep, asked}
use Rattle.mt_talk.specs.Sessions.{FrameLaw, Serves, ServesAmong}
use Rattle.mt_talk.specs.Clients.{GrantOnly, HasOnly}
use Rattle.mt_serve.specs.declared.answerer.Answerer.{Answerer}
use Rattle.mt_serve.specs.Asking.{AnswersFrame, AnswersFrames, changes}
use Rattle.mt_serve.specs.Store.{Store, now}
use Rattle.mt_serve.specs.Plain.{IsAlone, PlainlyAnswersFrames, store_of}

-- each query is a get, a range, a read of one moment, a page, or of the server
abbrev pub AllRead : List (Frame Query) → Type 0
AllRead frames = AllByRecursion (λ (frame : Frame Query). may_all Read frame.messages ≡ true) frames

-- ---- by its events

-- the begin of a get or a range, a step, or the read of a page
abbrev pub IsReading : Event → Type 0
IsReading (Begin pass request) = IsRead request
IsReading (Step call) = Unit {0}
IsReading (ViewRead view floor start limit) = Unit {0}
IsReading _ = ⊥

-- or a turn that keeps views up
abbrev pub IsReadingOrTurn : Event → Type 0
IsReadingOrTurn event = IsReading event ⊎ (event ≡ furthest)

-- only such events are made
abbrev pub only : {S : Type 0} → (Event → Type 0) → EventLaw S → EventLaw S
only Allowed does s p event outcome t q = Allowed event × does s p event outcome t q

-- no answer says that a row was changed or a view built
abbrev pub NoneChanges : List (Frame Response) → Type 0
NoneChanges replies =
    AllByRecursion (λ (reply : Frame Response). AllByRecursion (λ (response : Response). changes response ≡ false) reply.messages) replies

-- READS MAKE NO CHANGE: frames that read are answered by begins of gets and ranges, by steps of these calls and by reads of
-- pages. Turns are made only after an answer that says that something was changed.
abbrev pub ReadsMakeNoChange : {S : Type 0} → EventLaw S → ReadLaw S → PageLaw S → QuietLaw S → LookLaw S → Type 0
ReadsMakeNoChange {S} does shows pages glances looks =
    (s t : S) (p q : PassView) (frames : List (Frame Query)) (replies : List (Frame Response))
    → AllRead frames → AnswersFrames does shows pages glances looks s p frames replies t q
    → AnswersFrames (only IsReadingOrTurn does) shows pages glances looks s p frames replies t q
    × (NoneChanges replies → AnswersFrames (only IsReading does) shows pages glances looks s p frames replies t q)

-- what an `Answerer` does for a frame
abbrev pub answers_by : {S : Type 0} → EventLaw S → ReadLaw S → PageLaw S → QuietLaw S → LookLaw S → FrameLaw Answerer S PassView
answers_by does shows pages glances looks a s p frame reply b t q =
    AnswersFrame does shows pages glances looks s p frame reply t q × (b.count ≡ length frame.messages)

-- A whole session, among others, in which no hello grants another role than `read`, is answered by such events and turns.
abbrev pub ReadersMakeNoChange : {S : Type 0} → EventLaw S → ReadLaw S → PageLaw S → QuietLaw S → LookLaw S → Type 0
ReadersMakeNoChange does shows pages glances looks =
    (tokens : List Token) (role after : Option Role) (v w : Talk) (steps : List TalkStep)
    → ServesAmong (answers_by does shows pages glances looks) tokens v role steps w after
    → HasOnly Read role → GrantOnly tokens Read (asked steps)
    → HasOnly Read after
    × ServesAmong (answers_by (only IsReadingOrTurn does) shows pages glances looks) tokens v role steps w after

-- ---- by what the index holds

-- the same changes were made, the same views are there, each where it was, and as many views were built
pub record HoldsTheSame (s t : Store) : Type 0 where
  pub commits : (now t).commits ≡ (now s).commits
  pub views : (now t).views ≡ (now s).views
  pub built : (now t).built ≡ (now s).built

-- READS LEAVE A STORE AS IT IS.
abbrev pub ReadsKeepTheStore : Type 0
ReadsKeepTheStore =
    (s t : Store) (frames : List (Frame Query)) (replies : List (Frame Response))
    → AllRead frames → PlainlyAnswersFrames s frames replies t → HoldsTheSame s t

-- Such a session leaves an index of one caller as it is, while its events can be counted.
abbrev pub ReadersKeepTheStore : Type 0
ReadersKeepTheStore =
    (a b : Server Answerer) (s t : InnerView) (p q : PassView) (h : History) (v w : Talk) (steps : List TalkStep)
    → IsAlone s p h → t.events < greatest_number
    → Serves (ServesFrame (answers_by Does ReadsNow PagesNow QuietReadsNow Looks)) v a s p steps w b t q
    → HasOnly Read a.keeper.role → GrantOnly a.keeper.tokens.items Read (asked steps)
    → (then : History) × IsAlone t q then × HoldsTheSame (store_of s h) (store_of t then)
