-- What a handle owns: the boxed value that it holds, or nothing if it holds none.
use Rattle.std.specs.Prelude.{Bool, true, false, Option, Some, None}
use base.Fml.{Fml, ftrue}
use denote.RattleType.{RattleType}
use denote.RawPtr.{Ptr}
use Rattle.std.specs.declared.alloc.Global.{Global}
use Rattle.std.specs.contracts.impls.GlobalAllocator.TheImpl.{ghosts}
use Rattle.std_alloc.specs.Box.Ownership.{box_owns}

abbrev pub is_held : {X : Type 0} → Option X → Bool
is_held None = false
is_held (Some held) = true

abbrev pub kept : (R : RattleType) → Global → Ptr → Option R.Denot → Fml
kept R alloc at None = ftrue
kept R alloc at (Some held) = box_owns (ghosts.dealloc_token alloc) R at held
