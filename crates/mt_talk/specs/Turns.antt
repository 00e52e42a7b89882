-- WHAT A TURN OF A SESSION DOES, over anything that answers frames.
use Rattle.std.specs.Prelude.{ℕ, ◌≡◌, ◌⊎◌, List, [], ◌++◌, Option, None, Bool, false}
use Rattle.mt_types.specs.declared.limits.TheConstants.{MAX_REQUEST_BODY}
use Rattle.mt_wire.specs.declared.query.Query.{Query}
use Rattle.mt_wire.specs.declared.response.Response.{Response}
use Rattle.mt_wire.specs.declared.frame.Frame.{Frame}
use Rattle.mt_wire.specs.declared.fault.WireFault.{WireFault}
use Rattle.mt_wire.specs.Frames.{RequestsFit, request_frame, reply_frame, IsBegun}

-- the bytes that came and aren't answered yet, whether the frame at their front was read, the fault at which it has
-- stopped, and the bytes that are to go
pub record Kept : Type 0 where
  pub bytes : List ℕ
  pub is_found : Bool
  pub fault : Option WireFault
  pub output : List ℕ

abbrev pub nothing : Kept
nothing = record { bytes = []; is_found = false; fault = None; output = [] }

-- this frame is at the front
abbrev pub HasFront : Frame Query → List ℕ → Type 0
HasFront frame bytes = RequestsFit frame × ((rest : List ℕ) × (bytes ≡ request_frame frame ++ rest))

-- the frame at the front is answered: it is taken off, and its answers are appended to what is to go
pub record Takes {A S P : Type 0} (answers : A → S → P → Frame Query → Frame Response → A → S → P → Type 0) (a : A) (s : S) (p : P) (v w : Kept)
    (b : A) (t : S) (q : P) : Type 0 where
  pub frame : Frame Query
  pub reply : Frame Response
  pub fits : RequestsFit frame
  pub taken : v.bytes ≡ request_frame frame ++ w.bytes
  pub running : w.fault ≡ None
  pub written : w.output ≡ v.output ++ reply_frame reply
  pub answered : answers a s p frame reply b t q

-- no whole frame is there, and nothing happens
abbrev pub Waits : {A S P : Type 0} → A → S → P → Kept → Kept → A → S → P → Type 0
Waits a s p v w b t q = IsBegun MAX_REQUEST_BODY v.bytes × (v.fault ≡ None) × (w ≡ v) × (b ≡ a) × (t ≡ s) × (q ≡ p)

-- Memory ran out before the frame was found, or while it was answered: then it is taken off, and no part of an answer is
-- appended.
pub record GivesUp {S P : Type 0} (gives_up : S → P → Frame Query → S → P → Type 0) (s : S) (p : P) (v w : Kept) (t : S) (q : P) : Type 0 where
  pub output : w.output ≡ v.output
  pub how : ((w.bytes ≡ v.bytes) × (t ≡ s) × (q ≡ p))
      ⊎ ((frame : Frame Query) × RequestsFit frame × (v.bytes ≡ request_frame frame ++ w.bytes) × gives_up s p frame t q)
