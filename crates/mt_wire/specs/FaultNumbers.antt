-- The numbers of faults.
use Rattle.std.specs.Prelude.{ℕ}
use Rattle.mt_wire.specs.declared.fault.WireFault.{WireFault}
use Rattle.mt_wire.specs.declared.fault.WireFault.TheVariants as faults
use Rattle.mt_wire.specs.declared.fault.ReadError.{ReadError}
use Rattle.mt_wire.specs.declared.fault.ReadError.TheVariants as errors

abbrev pub fault_number : WireFault → ℕ
fault_number faults.BadLength = 4
fault_number faults.BadVersion = 5
fault_number faults.BadBody = 6
fault_number faults.NoMemory = 7

-- what a body that could not be read is to a caller
abbrev pub fault_of : ReadError → WireFault
fault_of errors.NoMemory = faults.NoMemory
fault_of errors.Misspelled = faults.BadBody
