-- What a decoder keeps, read off its fields.
use Rattle.std.specs.Prelude.{List, [], ◌++◌, Option, Some, None, IfSome, ℕ}
use Rattle.mt_types.specs.declared.limits.TheConstants.{MAX_REQUEST_BODY}
use Rattle.mt_wire.specs.Frames.{Kept, IsOneFrame, FaultStands}
use Rattle.mt_wire.specs.declared.decoder.Decoder.TheInside.{Inside}

-- the bytes of a frame that was cut off and not read yet
abbrev pub cut_off : Option (List ℕ) → List ℕ
cut_off None = []
cut_off (Some frame) = frame

abbrev pub kept_of : Inside → Kept
kept_of decoder = record {
  bytes = cut_off decoder.frame ++ decoder.rest.items;
  fault = decoder.stopped;
}

-- what was cut off is a frame, and the fault at which the decoder has stopped is at the front
pub record IsKept (decoder : Inside) : Type 0 where
  pub is_frame : IfSome decoder.frame (IsOneFrame MAX_REQUEST_BODY)
  pub stands : IfSome decoder.stopped (λ fault. FaultStands fault (kept_of decoder).bytes)
