-- Reading a body: its version, and messages that fill it. Contracts of private calls speak of it.
use Rattle.std.specs.Prelude.{◌≡◌, ℕ, List, [], ◌∷◌, length, Option, Some, None, Result, Ok, Err, nat_lt, ◌<◌, ◌^◌, slice_index, ◌==◌, ◌||◌, if◌then◌else◌}
use Rattle.mt_types.specs.declared.limits.TheConstants.{MAX_QUERIES}
use Rattle.mt_wire.specs.declared.fault.WireFault.{WireFault}
use Rattle.mt_wire.specs.declared.fault.WireFault.TheVariants as faults
use Rattle.mt_wire.specs.declared.version.WireVersion.{WireVersion}
use Rattle.mt_wire.specs.declared.frame.Frame.{Frame}
use Rattle.mt_wire.specs.Versions.{version_of}
use Rattle.mt_wire.specs.Spelling.{framed}
use Rattle.mt_wire.specs.Reading.{Reader, ◌>>=◌, byte_at, times_at}

-- What a call returned, seen by view, is what reading gives, unless memory ran out.
abbrev pub FaultIs : {Y : Type 0} → WireFault → Result Y WireFault → Type 0
FaultIs faults.NoMemory read = Unit {0}
FaultIs faults.BadLength read = read ≡ Err faults.BadLength
FaultIs faults.BadVersion read = read ≡ Err faults.BadVersion
FaultIs faults.BadBody read = read ≡ Err faults.BadBody

abbrev pub Reads : {X Y : Type 0} → (X → Y) → Result X WireFault → Result Y WireFault → Type 0
Reads view (Ok x) read = read ≡ Ok (view x)
Reads view (Err fault) read = FaultIs fault read

-- a byte that counts messages, the messages, and nothing after them
unfoldable pub messages_at : {A : Type 0} → Reader A → List ℕ → Option (List A)
messages_at message bytes = do
  n ← byte_at bytes
  if nat_lt n.0 1 || nat_lt MAX_QUERIES n.0 then None else do
    x ← times_at message n.0 n.1
    if length x.1 == 0 then Some x.0 else None

-- each is a byte
abbrev pub IsBytes : List ℕ → Type 0
IsBytes bytes = (i : ℕ) → slice_index bytes i < 2 ^ 8

-- what the first byte and the messages after it make
abbrev pub read_as : {A : Type 0} → Option WireVersion → Option (List A) → Result (Frame A) WireFault
read_as None messages = Err faults.BadVersion
read_as (Some version) None = Err faults.BadBody
read_as (Some version) (Some messages) = Ok (framed version messages)

unfoldable pub body_at : {A : Type 0} → Reader A → List ℕ → Result (Frame A) WireFault
body_at message [] = Err faults.BadBody
body_at message (byte ∷ rest) = read_as (version_of byte) (messages_at message rest)
