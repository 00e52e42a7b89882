-- The faults of a session by their numbers, and those of its frames.
use Rattle.std.specs.Prelude.{ℕ}
use Rattle.mt_wire.specs.declared.fault.WireFault.{WireFault}
use Rattle.mt_wire.specs.declared.fault.WireFault.TheVariants as wire
use Rattle.mt_serve.specs.declared.fault.SessionFault.{SessionFault}
use Rattle.mt_serve.specs.declared.fault.SessionFault.TheVariants.{Read, Write, Cut, BadLength, BadVersion, BadBody, NoMemory}

abbrev pub fault_number : SessionFault → ℕ
fault_number Read = 1
fault_number Write = 2
fault_number Cut = 3
fault_number BadLength = 4
fault_number BadVersion = 5
fault_number BadBody = 6
fault_number NoMemory = 7

abbrev pub fault_of : WireFault → SessionFault
fault_of wire.BadLength = BadLength
fault_of wire.BadVersion = BadVersion
fault_of wire.BadBody = BadBody
fault_of wire.NoMemory = NoMemory
