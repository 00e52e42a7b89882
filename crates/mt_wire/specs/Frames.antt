-- Frames: which messages one may hold, and what may be at the front of bytes.
use Rattle.std.specs.Prelude.{◌≡◌, ℕ, ◌+◌, ◌<◌, ◌≤◌, ◌⊎◌, List, ◌++◌, length, take, slice_index, Option, Some, None, IsSome}
use Rattle.std.specs.List.{AllByRecursion}
use Rattle.std.specs.Int.{w32, from_be_bytes}
use Rattle.mt_types.specs.declared.limits.TheConstants.{MAX_QUERIES, MAX_REQUEST_BODY}
use Rattle.mt_wire.specs.declared.limits.TheConstants.{MAX_REPLY_BODY}
use Rattle.mt_wire.specs.declared.query.Query.{Query}
use Rattle.mt_wire.specs.declared.response.Response.{Response}
use Rattle.mt_wire.specs.declared.version.WireVersion.{WireVersion}
use Rattle.mt_wire.specs.declared.frame.Frame.{Frame}
use Rattle.mt_wire.specs.declared.fault.WireFault.{WireFault}
use Rattle.mt_wire.specs.declared.fault.WireFault.TheVariants as faults
use Rattle.mt_wire.specs.Versions.{version_of, HasQuery}
use Rattle.mt_wire.specs.Spelling.{query_spelling, response_spelling, body_of, frame_of}
use Rattle.mt_wire.specs.Fits.{QueryLengths, QueryFits, ResponseLengths, ResponseFits}

abbrev pub request_frame : Frame Query → List ℕ
request_frame frame = frame_of query_spelling frame

abbrev pub reply_frame : Frame Response → List ℕ
reply_frame frame = frame_of response_spelling frame

-- one message to as many as a frame may hold, each of which fits
abbrev pub Holds : {A : Type 0} → (A → Type 0) → List A → Type 0
Holds Fits messages = (0 < length messages) × (length messages ≤ MAX_QUERIES) × AllByRecursion Fits messages

-- each query is one of the frame's version
abbrev pub InVersion : Frame Query → Type 0
InVersion frame = AllByRecursion (HasQuery frame.version) frame.messages

-- what may be written, if the body isn't too long
abbrev pub RequestsLengths : Frame Query → Type 0
RequestsLengths frame = Holds QueryLengths frame.messages × InVersion frame

abbrev pub RepliesLengths : List Response → Type 0
RepliesLengths responses = Holds ResponseLengths responses

-- what may be in a frame
abbrev pub RequestsFit : Frame Query → Type 0
RequestsFit frame =
    Holds QueryFits frame.messages × InVersion frame × (length (body_of query_spelling frame) ≤ MAX_REQUEST_BODY)

abbrev pub RepliesFit : Frame Response → Type 0
RepliesFit frame =
    Holds ResponseFits frame.messages × (length (body_of response_spelling frame) ≤ MAX_REPLY_BODY)

-- ---- the front of bytes

-- the length that the first four bytes announce
abbrev pub announced : List ℕ → ℕ
announced bytes = from_be_bytes w32 (take 4 bytes)

-- a body has from 2 to this many bytes
abbrev pub LengthFits : ℕ → ℕ → Type 0
LengthFits most len = (2 ≤ len) × (len ≤ most)

-- a frame has begun and not ended: a byte of its length or of its body is still to come
abbrev pub IsBegun : ℕ → List ℕ → Type 0
IsBegun most bytes =
    (length bytes < 4) ⊎ (LengthFits most (announced bytes) × (length bytes < 4 + announced bytes))

-- all of a frame is there
abbrev pub IsWhole : ℕ → List ℕ → Type 0
IsWhole most bytes = (4 ≤ length bytes) × LengthFits most (announced bytes) × (4 + announced bytes ≤ length bytes)

-- a frame, and nothing after it
pub record IsOneFrame (most : ℕ) (frame : List ℕ) : Type 0 where
  pub header : 4 ≤ length frame
  pub fits : LengthFits most (announced frame)
  pub whole : length frame ≡ 4 + announced frame

-- the version that the first byte of a body names
abbrev pub told_version : List ℕ → Option WireVersion
told_version bytes = version_of (slice_index bytes 4)

-- the fault that is at the front, if no frame of requests is there
abbrev pub FaultStands : WireFault → List ℕ → Type 0
FaultStands faults.BadLength bytes = (4 ≤ length bytes) × ¬ LengthFits MAX_REQUEST_BODY (announced bytes)
FaultStands faults.BadVersion bytes = IsWhole MAX_REQUEST_BODY bytes × (told_version bytes ≡ None)
FaultStands faults.BadBody bytes =
    IsWhole MAX_REQUEST_BODY bytes × IsSome (told_version bytes)
    × ((frame : Frame Query) (rest : List ℕ) → RequestsFit frame → bytes ≡ request_frame frame ++ rest → ⊥)
FaultStands faults.NoMemory bytes = ⊥

-- what a decoder keeps: the bytes that are not read yet, and the fault at which it has stopped
pub record Kept : Type 0 where
  pub bytes : List ℕ
  pub fault : Option WireFault

-- the fault at which a decoder stops: it doesn't stop when out of memory
abbrev pub stopping : WireFault → Option WireFault
stopping faults.NoMemory = None
stopping faults.BadLength = Some faults.BadLength
stopping faults.BadVersion = Some faults.BadVersion
stopping faults.BadBody = Some faults.BadBody
