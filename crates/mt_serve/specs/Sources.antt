-- What a source of frames shows, and what may be at its front.
use Rattle.std.specs.Prelude.{◌≡◌, ◌≢◌, ◌⊎◌, ℕ, ◌+◌, ◌*◌, Bool, List, [], ◌++◌, length, Option, None, Some, IfSome}
use Rattle.std.specs.Option.{option_map}
use Rattle.mt_types.specs.declared.limits.TheConstants.{MAX_REQUEST_BODY}
use Rattle.mt_wire.specs.declared.query.Query.{Query}
use Rattle.mt_wire.specs.declared.response.Response.{Response}
use Rattle.mt_wire.specs.declared.frame.Frame.{Frame}
use Rattle.mt_wire.specs.declared.fault.WireFault.TheVariants as wire
use Rattle.mt_wire.specs.Frames.{IsBegun, FaultStands, RequestsFit, request_frame, reply_frame}
use Rattle.mt_streams.specs.Readers.{counted_reader, calls_left, has_failed}
use Rattle.mt_serve.specs.declared.frames.TheConstants.{PIECE}
use Rattle.mt_serve.specs.declared.frames.Frames.{Frames}
use Rattle.mt_serve.specs.declared.fault.SessionFault.{SessionFault}
use Rattle.mt_serve.specs.declared.fault.SessionFault.TheVariants.{Read, Write, Cut, BadLength, BadVersion, BadBody, NoMemory}

-- the bytes of frames that were not answered yet, if those of its reader are known
abbrev pub frames_rest : {R : Type 0} → (R → Option (List ℕ)) → Frames R → Option (List ℕ)
frames_rest remaining f = option_map (λ bytes. f.talk.bytes ++ bytes) (remaining (counted_reader f.reader))

-- the bytes that its reader still has, if they are known
abbrev pub frames_unread : {R : Type 0} → (R → Option (List ℕ)) → Frames R → Option (List ℕ)
frames_unread remaining f = remaining (counted_reader f.reader)

-- whether its last read failed: its reader's own call, or one past the most
abbrev pub read_failed : {R : Type 0} → Frames R → Bool
read_failed f = has_failed f.reader

-- how many frames it still answers at most: each takes at least one byte that is kept or may still be read
abbrev pub frames_left : {R : Type 0} → Frames R → ℕ
frames_left f = length f.talk.bytes + PIECE * calls_left f.reader

-- the bytes of answers that are to go
abbrev pub to_go : {R : Type 0} → Frames R → List ℕ
to_go f = f.talk.output

-- this frame of queries was at the front, and is taken off
abbrev pub LosesFrame : Frame Query → Option (List ℕ) → Option (List ℕ) → Type 0
LosesFrame frame old new =
    IfSome old (λ bytes. (rest : List ℕ) × (new ≡ Some rest) × (bytes ≡ request_frame frame ++ rest))

-- No frame is at the front of these bytes, for this fault, after which the reader still has the unread ones. After a
-- read fault, all bytes before the unread ones are the begin of one frame: no whole frame is lost.
abbrev pub FaultIsAt : SessionFault → Option (List ℕ) → List ℕ → Type 0
FaultIsAt Read (Some unread) bytes = (begun : List ℕ) × (bytes ≡ begun ++ unread) × IsBegun MAX_REQUEST_BODY begun
FaultIsAt Read None bytes = ⊥
FaultIsAt Cut unread bytes = (bytes ≢ []) × IsBegun MAX_REQUEST_BODY bytes
FaultIsAt BadLength unread bytes = FaultStands wire.BadLength bytes
FaultIsAt BadVersion unread bytes = FaultStands wire.BadVersion bytes
FaultIsAt BadBody unread bytes = FaultStands wire.BadBody bytes
FaultIsAt Write unread bytes = Unit {0}
FaultIsAt NoMemory unread bytes = Unit {0}

-- the frame at the front is answered, and its answers are to go
pub record AnswersNext {A S P : Type 0} (answers : A → S → P → Frame Query → Frame Response → A → S → P → Type 0) (a : A) (s : S) (p : P)
    (old : Option (List ℕ)) (output : List ℕ) (new : Option (List ℕ)) (more : List ℕ) (b : A) (t : S) (q : P) : Type 0 where
  pub frame : Frame Query
  pub reply : Frame Response
  pub fits : RequestsFit frame
  pub taken : LosesFrame frame old new
  pub written : more ≡ output ++ reply_frame reply
  pub answered : answers a s p frame reply b t q

-- no frame is answered: none is at the front, for this fault, or memory ran out in the frame that is there
abbrev pub StopsAt : {S P : Type 0} → (S → P → Frame Query → S → P → Type 0) → S → P → Option (List ℕ) → SessionFault → Option (List ℕ) → S → P → Type 0
StopsAt gives_up s p old fault unread t q =
    (IfSome old (FaultIsAt fault unread) × (t ≡ s) × (q ≡ p))
    ⊎ ((fault ≡ NoMemory) × ((frame : Frame Query) × RequestsFit frame
    × IfSome old (λ bytes. (more : List ℕ) × (bytes ≡ request_frame frame ++ more))
    × gives_up s p frame t q))
