-- Reading items one after the other, as a loop does: how it ends at an error.
use Rattle.std.proofs.Common.{◌≡◌, ℕ, suc, ◌-◌, ◌+◌, ◌<◌, List, Option, None, refl, sym, ◌∙◌, arith}
use Rattle.mt_wire.specs.Reading.{Reader, times_at}
use Rattle.mt_wire.proofs.Loop.{with_front}
use Rattle.mt_frame.specs.declared.fault.ReadError.{ReadError}
use Rattle.mt_frame.specs.declared.fault.ReadError.TheVariants as errors
use Rattle.mt_frame.specs.Reading.{Fails}

pub ends : {A : Type 0} (item : Reader A) (e : ReadError) (front : List A) (count i : ℕ) (bytes : List ℕ) (total : Option (List A × List ℕ)) → i < count → Fails e (item bytes)
    → with_front front (times_at item (count - i) bytes) ≡ total → Fails e total
unfolding times_at
ends item errors.NoMemory front count i bytes total lt h so_far = tt
ends item errors.Misspelled front count i bytes total lt h so_far =
    let k : count - i ≡ suc (count - (i + 1)) = omega arith in
    let one : with_front front (times_at item (count - i) bytes) ≡ None = rw (k, h) refl in
    sym so_far ∙ one
