-- What is read of a slice of bytes.
use Rattle.std.proofs.Common.{rules}
use Rattle.mt_slice.proofs.Slices.{are_bytes_from_reads}
use Rattle.mt_border.proofs.entry.each_byte.Goals as goal

pub returns-clause-bytes : goal.returns-clause-bytes
returns-clause-bytes c = are_bytes_from_reads c.args.bytes.now (search rules)
