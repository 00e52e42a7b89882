-- The numbers of roles, and of a server's refusals.
use Rattle.std.specs.Prelude.{ℕ}
use Rattle.mt_wire.specs.declared.server.Role.{Role}
use Rattle.mt_wire.specs.declared.server.Role.TheVariants.{Read, Write, All}
use Rattle.mt_wire.specs.declared.server.ServerRefusal.{ServerRefusal}
use Rattle.mt_wire.specs.declared.server.ServerRefusal.TheVariants.{DiskFailed, DiskFull, InMemory, NotAllowed, TooMuchAtOnce}

abbrev pub role_number : Role → ℕ
role_number Read = 1
role_number Write = 2
role_number All = 3

abbrev pub server_refusal_number : ServerRefusal → ℕ
server_refusal_number (DiskFailed durable) = 19
server_refusal_number DiskFull = 20
server_refusal_number InMemory = 21
server_refusal_number NotAllowed = 24
server_refusal_number TooMuchAtOnce = 25

-- the number that goes with it, or 0
abbrev pub server_refusal_detail : ServerRefusal → ℕ
server_refusal_detail (DiskFailed durable) = durable
server_refusal_detail _ = 0
