use Rattle.std.proofs.Common.{rules}
use Rattle.mt_slice.proofs.Slices.{are_bytes_from_reads}
use Rattle.mt_reads.proofs.reading.are_bytes.Goals as goal

pub returns : goal.returns
returns c = are_bytes_from_reads c.args.bytes.now (search rules)
