-- What a session keeps, of its fields.
use Rattle.std.specs.Prelude.{◌≡◌, ℕ, List, [], ◌++◌, Option, None, Some, IfSome, is_some}
use Rattle.mt_wire.specs.declared.query.Query.{Query}
use Rattle.mt_wire.specs.declared.frame.Frame.{Frame}
use Rattle.mt_wire.specs.Frames.{RequestsFit, request_frame}
use Rattle.mt_talk.specs.Turns.{Kept}
use Rattle.mt_talk.specs.declared.talk.Talk.TheInside.{Inside}

-- the bytes of the frame that was read and not answered yet
abbrev pub front_bytes : Option (Frame Query) → List ℕ
front_bytes None = []
front_bytes (Some frame) = request_frame frame

abbrev pub kept_of : Inside → Kept
kept_of t = record { bytes = front_bytes t.front ++ t.decoder.bytes; is_found = is_some t.front; fault = t.decoder.fault; output = t.output.items }

-- such a frame was one of the stream, and the rest isn't known to be bad
abbrev pub IsKept : Inside → Type 0
IsKept t = IfSome t.front (λ frame. RequestsFit frame × (t.decoder.fault ≡ None))
