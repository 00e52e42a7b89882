-- The versions of the wire: the first byte of a body, and which queries each has.
use Rattle.std.specs.Prelude.{ℕ, Option, Some, None, ◌==◌, if◌then◌else◌}
use Rattle.mt_types.specs.declared.event.Request.TheVariants.{PutIf}
use Rattle.mt_wire.specs.declared.query.Query.{Query}
use Rattle.mt_wire.specs.declared.query.Query.TheVariants.{Call, Read, Server}
use Rattle.mt_wire.specs.declared.version.WireVersion.{WireVersion}
use Rattle.mt_wire.specs.declared.version.WireVersion.TheVariants.{One, Two, Three}

abbrev pub version_byte : WireVersion → ℕ
version_byte One = 1
version_byte Two = 2
version_byte Three = 3

-- the version that a byte says
abbrev pub version_of : ℕ → Option WireVersion
version_of byte = if byte == 1 then Some One else if byte == 2 then Some Two else if byte == 3 then Some Three else None

-- version 3 has each query; version 2 has no reads of one moment and none of the server; version 1 has no conditional
-- put either
abbrev pub HasQuery : WireVersion → Query → Type 0
HasQuery One (Call (PutIf key sets version)) = ⊥
HasQuery One (Read query) = ⊥
HasQuery One (Server query) = ⊥
HasQuery Two (Read query) = ⊥
HasQuery Two (Server query) = ⊥
HasQuery version query = Unit {0}
