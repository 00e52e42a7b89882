use Rattle.std.proofs.Common.{◌++◌, ap, ◌∙◌}
use Rattle.mt_scan.proofs.PairLemmas.{long-bytes}
use Rattle.mt_walk.proofs.spelling.push_entry.Goals as goal

pub returns-in_ok-extend_from_slice-in-Long : goal.returns-in_ok-extend_from_slice-in-Long
returns-in_ok-extend_from_slice-in-Long c =
    long-bytes c.args.entry.now.slice c.args.entry.now.content c.in-Long.suffix c.in-Long.field-1 c.args.key.now.items c.extend_from_slice.new.self.items c.extend_from_slice-in-Long.new.self.items
    c.in-Long.is c.as_slice.ensures.bytes
    (c.in_ok-extend_from_slice.ensures.items ∙ ap (λ b. c.args.key.now.items ++ b) c.to_be_bytes.ensures)
    (c.in_ok-extend_from_slice-in-Long.ensures.items ∙ ap (λ b. c.extend_from_slice.new.self.items ++ b) c.as_slice.ensures.value)
