-- Laws of the format, each of them proved as the contract of a function of src/laws.rt.
use Rattle.std.specs.Prelude.{◌≡◌, ◌≤◌, ℕ, List, ◌++◌, length}
use Rattle.mt_types.specs.declared.limits.TheConstants.{MAX_REQUEST_BODY}
use Rattle.mt_wire.specs.declared.limits.TheConstants.{MAX_REPLY_BODY}
use Rattle.mt_wire.specs.declared.query.Query.{Query}
use Rattle.mt_wire.specs.declared.response.Response.{Response}
use Rattle.mt_wire.specs.declared.frame.Frame.{Frame}
use Rattle.mt_wire.specs.declared.fault.WireFault.{WireFault}
use Rattle.mt_wire.specs.Spelling.{query_spelling, response_spelling, body_of}
use Rattle.mt_wire.specs.Fits.{QueryFits, ResponseFits}
use Rattle.mt_wire.specs.Limited.{ResponseIsLimited}
use Rattle.mt_wire.specs.Frames.{Holds, RequestsFit, RepliesLengths, RepliesFit, request_frame, reply_frame, IsBegun, FaultStands}

-- no spelling begins another, and no two messages have one spelling
abbrev pub ReadOneWay : {A : Type 0} → (A → Type 0) → (A → List ℕ) → Type 0
ReadOneWay {A} Fits spell =
    (x y : A) (after_x after_y : List ℕ) → Fits x → Fits y → spell x ++ after_x ≡ spell y ++ after_y
    → (x ≡ y) × (after_x ≡ after_y)

abbrev pub QueriesReadOneWay : Type 0
QueriesReadOneWay = ReadOneWay QueryFits query_spelling

abbrev pub ResponsesReadOneWay : Type 0
ResponsesReadOneWay = ReadOneWay ResponseFits response_spelling

abbrev pub RequestFramesReadOneWay : Type 0
RequestFramesReadOneWay = ReadOneWay RequestsFit request_frame

abbrev pub ReplyFramesReadOneWay : Type 0
ReplyFramesReadOneWay = ReadOneWay RepliesFit reply_frame

-- if a frame of requests is at the front, none has only begun there, and no fault is there
abbrev pub FrameStandsAlone : Type 0
FrameStandsAlone =
    (frame : Frame Query) (rest : List ℕ) → RequestsFit frame
    → (¬ IsBegun MAX_REQUEST_BODY (request_frame frame ++ rest))
    × ((fault : WireFault) → ¬ FaultStands fault (request_frame frame ++ rest))

-- if a frame has only begun, there is no fault
abbrev pub BegunHasNoFault : Type 0
BegunHasNoFault =
    (fault : WireFault) (bytes : List ℕ) → FaultStands fault bytes → ¬ IsBegun MAX_REQUEST_BODY bytes

-- a fault stays, whatever bytes follow
abbrev pub FaultStays : Type 0
FaultStays =
    (fault : WireFault) (bytes more : List ℕ) → FaultStands fault bytes → FaultStands fault (bytes ++ more)

-- one answer to as many as a frame may hold, each within the limits of an index, are a frame: each length fits its
-- field, and the body isn't too long
abbrev pub LimitedRepliesFit : Type 0
LimitedRepliesFit =
    (frame : Frame Response) → Holds ResponseIsLimited frame.messages
    → RepliesLengths frame.messages × (length (body_of response_spelling frame) ≤ MAX_REPLY_BODY)
