use Rattle.std.proofs.Common.{arith}
use Rattle.mt_frame.specs.declared.entry.Entry.TheVariants.{Header}
use Rattle.mt_journal.proofs.Frames.{frame_some}
use Rattle.mt_journal.proofs.HeaderFits.{header_short}
use Rattle.mt_journal.proofs.laws.headers_are_short.Goals as goal

pub returns : goal.returns
returns c = λ header. (frame_some 0 0 (Header header), omega (arith, header_short header))
