-- WHAT A WORKER DOES for its connections: frame after frame, over any events that are made on what is shared.
use Rattle.std.specs.Prelude.{ℕ, ◌≡◌, ◌⊎◌, List, [], ◌∷◌, ◌++◌, Option, Some, None}
use Rattle.mt_shared.specs.Passes.{PassView}
use Rattle.mt_shared.specs.Drives.{EventLaw}
use Rattle.mt_shared.specs.Reads.{ReadLaw}
use Rattle.mt_shared.specs.Pages.{PageLaw}
use Rattle.mt_shared.specs.Quiet.{QuietLaw}
use Rattle.mt_shared.specs.Tidies.{LookLaw}
use Rattle.mt_wire.specs.declared.query.Query.{Query}
use Rattle.mt_wire.specs.declared.response.Response.{Response}
use Rattle.mt_wire.specs.declared.server.Role.{Role}
use Rattle.mt_wire.specs.declared.frame.Frame.{Frame}
use Rattle.mt_types.specs.declared.limits.TheConstants.{MAX_REQUEST_BODY}
use Rattle.mt_wire.specs.Frames.{IsBegun, RequestsFit, request_frame, reply_frame}
use Rattle.mt_talk.specs.declared.tokens.Token.{Token}
use Rattle.mt_talk.specs.declared.serving.Server.{Server}
use Rattle.mt_talk.specs.Frames.{ServesFrame, StopsFrame}
use Rattle.mt_talk.specs.Turns.{Kept}
use Rattle.mt_talk.specs.Sessions.{ServesOne}
use Rattle.mt_serve.specs.declared.answerer.Answerer.{Answerer}
use Rattle.mt_serve.specs.Asking.{AnswersAll, AnswersFrames}
use Rattle.mt_serve.specs.Reading.{answers_by}

-- a frame that was taken off a session: it was answered so, or memory ran out in it
pub data Taken : Type 0 where
  Answered : Frame Query → Frame Response → Taken
  Stopped : Frame Query → Taken

-- what an `Answerer` may have done for a frame in which memory ran out: a front of its queries
abbrev pub stops_by : {S : Type 0} → EventLaw S → ReadLaw S → PageLaw S → QuietLaw S → LookLaw S → Answerer → S → PassView → Frame Query → S → PassView → Type 0
stops_by does shows pages glances looks a s p frame t q =
    (done : List Query) × (undone : List Query) × (responses : List Response) × (frame.messages ≡ done ++ undone)
    × AnswersAll does shows pages glances looks s p done responses t q

-- ---- frames, one after the other

-- a server around an `Answerer` does it, whatever the server keeps
abbrev pub Does : {S : Type 0} → EventLaw S → ReadLaw S → PageLaw S → QuietLaw S → LookLaw S → S → PassView → Taken → S → PassView → Type 0
Does does shows pages glances looks s p (Answered frame reply) t q =
    (a : Server Answerer) × (b : Server Answerer) × ServesFrame (answers_by does shows pages glances looks) a s p frame reply b t q
Does does shows pages glances looks s p (Stopped frame) t q =
    (a : Server Answerer) × StopsFrame (stops_by does shows pages glances looks) a s p frame t q

-- THESE FRAMES ARE TAKEN, one after the other: each where the one before has led.
abbrev pub DoesAll : {S : Type 0} → EventLaw S → ReadLaw S → PageLaw S → QuietLaw S → LookLaw S → S → PassView → List Taken → S → PassView → Type 0
DoesAll does shows pages glances looks s p [] t q = (t ≡ s) × (q ≡ p)
DoesAll {S} does shows pages glances looks s p (taken ∷ more) t q =
    (m : S) × (r : PassView) × Does does shows pages glances looks s p taken m r × DoesAll does shows pages glances looks m r more t q

abbrev pub Works : {S : Type 0} → EventLaw S → ReadLaw S → PageLaw S → QuietLaw S → LookLaw S → S → PassView → S → PassView → Type 0
Works does shows pages glances looks s p t q = (taken : List Taken) × DoesAll does shows pages glances looks s p taken t q

-- those that the index answered, and their answers, in order: a server has answered the others
abbrev pub AreAsked : List Taken → List (Frame Query) → List (Frame Response) → Type 0
AreAsked [] frames replies = (frames ≡ []) × (replies ≡ [])
AreAsked (Answered frame reply ∷ more) frames replies =
    ((later : List (Frame Query)) × (after : List (Frame Response)) × (frames ≡ frame ∷ later) × (replies ≡ reply ∷ after)
    × AreAsked more later after)
    ⊎ AreAsked more frames replies
AreAsked (Stopped frame ∷ more) frames replies = ⊥

abbrev pub HasNotStopped : List Taken → Type 0
HasNotStopped [] = Unit {0}
HasNotStopped (Answered frame reply ∷ more) = HasNotStopped more
HasNotStopped (Stopped frame ∷ more) = ⊥

-- If memory didn't run out, these are one chain.
abbrev pub FramesAreOneChain : {S : Type 0} → EventLaw S → ReadLaw S → PageLaw S → QuietLaw S → LookLaw S → Type 0
FramesAreOneChain {S} does shows pages glances looks =
    (s t : S) (p q : PassView) (taken : List Taken) → HasNotStopped taken → DoesAll does shows pages glances looks s p taken t q
    → (frames : List (Frame Query)) × (replies : List (Frame Response)) × AreAsked taken frames replies
    × AnswersFrames does shows pages glances looks s p frames replies t q

-- ---- a connection

-- this is appended to what is to go; or nothing is to go, since too much was, and the session is broken off
abbrev pub Gains : Type 0 → List ℕ → List ℕ → List ℕ → Type 0
Gains IsBroken old more new = (new ≡ old ++ more) ⊎ (IsBroken × (new ≡ []))

-- A CONNECTION'S TURN, from what its session keeps, in the role of its client: nothing is done, since no whole frame is there or
-- the session is broken off; or the frame at the front of its own session is taken off and answered, as one of a session among
-- others, and the answer is appended to what that session has to go; or memory runs out in that frame, and the session is broken
-- off.
abbrev pub Turns : {S : Type 0} → EventLaw S → ReadLaw S → PageLaw S → QuietLaw S → LookLaw S → List Token → Type 0 → Kept → Option Role → S → PassView → Option Taken → Kept → Option Role → S → PassView → Type 0
Turns does shows pages glances looks tokens IsBroken v role s p None w after t q =
    (w.bytes ≡ v.bytes) × Gains IsBroken v.output [] w.output × (t ≡ s) × (q ≡ p) × (IsBegun MAX_REQUEST_BODY v.bytes ⊎ IsBroken)
Turns does shows pages glances looks tokens IsBroken v role s p (Some (Answered frame reply)) w after t q =
    RequestsFit frame × (v.bytes ≡ request_frame frame ++ w.bytes) × Gains IsBroken v.output (reply_frame reply) w.output
    × (one : ServesOne (answers_by does shows pages glances looks) tokens role frame reply after)
    × (one.shared ≡ s) × (one.pass ≡ p) × (one.shared_then ≡ t) × (one.pass_then ≡ q)
Turns does shows pages glances looks tokens IsBroken v role s p (Some (Stopped frame)) w after t q =
    RequestsFit frame × (v.bytes ≡ request_frame frame ++ w.bytes) × Gains IsBroken v.output [] w.output × IsBroken
    × (a : Server Answerer) × StopsFrame (stops_by does shows pages glances looks) a s p frame t q
