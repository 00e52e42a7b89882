-- A handle may be moved to another thread, as the index that it holds may.
use Rattle.std.specs.Prelude.{Option, Some, None}
use mir.Raw.{raw as bare}
use base.Shift.{Keyless}
use denote.Builtin.{RawPtr, bool}
use denote.Memory.{lone}
use denote.RawPtr.{Ptr}
use denote.Struct.Struct.{exits_of}
use denote.Struct.Owning.{shape, fields, to}
use denote.Param.Send.{IsSend, AllSend, owning_send, struct_send, sendable}
use Rattle.std.proofs.Crossing.{frees}
use Rattle.std_alloc.proofs.SendSync.{quiet, lies}
use Rattle.std_heap.specs.declared.Global.{Global}
use Rattle.rowanspan_c.specs.contracts.file_log.FileLog.{the_row as Index}
use Rattle.rowanspan_c.proofs.file_log.FileLog.TheSendSync.{the_send as index_send}
use Rattle.rowanspan_c.specs.Kept.{kept}
use Rattle.rowanspan_c.specs.contracts.log_handle.LogHandle.{the_row, the_type}

pointer_send : IsSend RawPtr
pointer_send = search sendable

bool_send : IsSend bool
bool_send = search sendable

kept-Keyless : (a : Global) (p : Ptr) (held : Option Index.Denot) → Keyless (kept Index a p held)
kept-Keyless a p None = tt
kept-Keyless a p (Some x) = (lies Index index_send p x, frees.frees a (bare (lone Index.mir)) p)

pub handle_send : IsSend the_row
handle_send =
    let all : AllSend (fields the_type) = (pointer_send, (bool_send, (search sendable depth 20, tt))) in
    owning_send the_type all (λ d. kept-Keyless d.alloc d.at d.held)
    (λ k. quiet (to the_type) (exits_of k (fields the_type)) ((struct_send (shape the_type) all).leaving k))
