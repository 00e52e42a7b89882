-- WHAT A SESSION DOES: over what its reader returns and its writer takes, and over any events on what is shared.
use Rattle.std.specs.Prelude.{ℕ, ◌≡◌, ◌≢◌, ◌⊎◌, List, [], ◌++◌, length, sum_by, Option, IfSome}
use Rattle.std.specs.List.{flat_map, AllByRecursion}
use Rattle.std.specs.Io.KnownBytes.{Appends}
use Rattle.mt_shared.specs.Passes.{PassView}
use Rattle.mt_shared.specs.Drives.{EventLaw}
use Rattle.mt_shared.specs.Reads.{ReadLaw}
use Rattle.mt_shared.specs.Pages.{PageLaw}
use Rattle.mt_shared.specs.Quiet.{QuietLaw}
use Rattle.mt_shared.specs.Tidies.{LookLaw}
use Rattle.mt_wire.specs.declared.query.Query.{Query}
use Rattle.mt_wire.specs.declared.response.Response.{Response}
use Rattle.mt_wire.specs.declared.frame.Frame.{Frame}
use Rattle.mt_wire.specs.Frames.{RequestsFit, request_frame, reply_frame}
use Rattle.mt_serve.specs.declared.fault.SessionFault.{SessionFault}
use Rattle.mt_serve.specs.declared.fault.SessionFault.TheVariants.{Write, NoMemory}
use Rattle.mt_serve.specs.declared.session.Summary.{Summary}
use Rattle.mt_serve.specs.Asking.{AnswersAll, AnswersFrame, AnswersFrames}
use Rattle.mt_serve.specs.Sources.{FaultIsAt}

-- the bytes of frames of queries, and of frames of answers
abbrev pub requests_of : List (Frame Query) → List ℕ
requests_of frames = flat_map request_frame frames

abbrev pub replies_of : List (Frame Response) → List ℕ
replies_of replies = flat_map reply_frame replies

-- The session has answered these frames, which were at the front of the input: one after the other, each by one frame
-- of answers in its version, which were written. What is left of the input is the rest.
pub record HasServed {S : Type 0} (does : EventLaw S) (shows : ReadLaw S) (pages : PageLaw S) (glances : QuietLaw S) (looks : LookLaw S) (s : S) (p : PassView) (input old : Option (List ℕ))
    (frames : List (Frame Query)) (rest new : Option (List ℕ)) (t : S) (q : PassView) : Type 0 where
  pub replies : List (Frame Response)
  pub fit : AllByRecursion RequestsFit frames
  pub read : IfSome input (λ bytes. (more : List ℕ) × (rest ≡ Option.Some more) × (bytes ≡ requests_of frames ++ more))
  pub answered : AnswersFrames does shows pages glances looks s p frames replies t q
  pub written : Appends old new (replies_of replies)

-- A SESSION IS DONE: it has served frames that are all of the input, and the summary has their number and the number of
-- their queries.
pub record IsServed {S : Type 0} (does : EventLaw S) (shows : ReadLaw S) (pages : PageLaw S) (glances : QuietLaw S) (looks : LookLaw S) (s : S) (p : PassView) (input old : Option (List ℕ))
    (summary : Summary) (new : Option (List ℕ)) (t : S) (q : PassView) : Type 0 where
  pub frames : List (Frame Query)
  pub rest : Option (List ℕ)
  pub served : HasServed does shows pages glances looks s p input old frames rest new t q
  pub whole : IfSome rest (λ bytes. bytes ≡ [])
  pub frame_count : summary.frames ≡ length frames
  pub query_count : summary.queries ≡ sum_by (λ frame. length frame.messages) frames

-- What became of the next frame. If a write failed, all of its queries were done, and a front of its reply was written.
-- If memory ran out, a front of its queries was done, and nothing was written.
abbrev pub BreaksIn : {S : Type 0} → EventLaw S → ReadLaw S → PageLaw S → QuietLaw S → LookLaw S → S → PassView → SessionFault → Frame Query → Option (List ℕ) →
    Option (List ℕ) → S → PassView → Type 0
BreaksIn does shows pages glances looks s p Write frame old new t q =
    (reply : Frame Response) × (sent : List ℕ) × (unsent : List ℕ) × AnswersFrame does shows pages glances looks s p frame reply t q
    × (reply_frame reply ≡ sent ++ unsent) × Appends old new sent
BreaksIn does shows pages glances looks s p NoMemory frame old new t q =
    (done : List Query) × (undone : List Query) × (responses : List Response) × (frame.messages ≡ done ++ undone)
    × AnswersAll does shows pages glances looks s p done responses t q × (new ≡ old)
BreaksIn does shows pages glances looks s p _ frame old new t q = ⊥

-- why it broke off after the frames that it has served: no frame is at the front of the rest of the input, for this
-- fault, after which the reader still has the unread bytes; or in the frame that is there
abbrev pub BreaksAt : {S : Type 0} → EventLaw S → ReadLaw S → PageLaw S → QuietLaw S → LookLaw S → S → PassView → SessionFault → Option (List ℕ) → Option (List ℕ) →
    Option (List ℕ) → Option (List ℕ) → S → PassView → Type 0
BreaksAt does shows pages glances looks s p fault rest unread old new t q =
    ((fault ≢ Write) × IfSome rest (FaultIsAt fault unread) × (new ≡ old) × (t ≡ s) × (q ≡ p))
    ⊎ ((frame : Frame Query) × RequestsFit frame
    × IfSome rest (λ bytes. (more : List ℕ) × (bytes ≡ request_frame frame ++ more))
    × BreaksIn does shows pages glances looks s p fault frame old new t q)

-- A SESSION BROKE OFF: it has served frames at the front of the input, and then broke off so. The reader still has the
-- unread bytes: after a read fault, all bytes before them are the frames, and a rest in which no whole frame is.
pub record IsBroken {S : Type 0} (does : EventLaw S) (shows : ReadLaw S) (pages : PageLaw S) (glances : QuietLaw S) (looks : LookLaw S) (s : S) (p : PassView) (input old : Option (List ℕ))
    (fault : SessionFault) (unread new : Option (List ℕ)) (t : S) (q : PassView) : Type 0 where
  pub frames : List (Frame Query)
  pub rest : Option (List ℕ)
  pub between : Option (List ℕ)
  pub shared : S
  pub pass : PassView
  pub served : HasServed does shows pages glances looks s p input old frames rest between shared pass
  pub breaks : BreaksAt does shows pages glances looks shared pass fault rest unread between new t q
