use Rattle.std.proofs.Common.{ap, ◌-◌, arith}
use Rattle.mt_remove.proofs.DropLemmas.{marks}
use Rattle.mt_remove.proofs.tidy.Tidy.mark_border.Goals as goal

pub returns : goal.returns
returns c = marks c.args.epoch c.args.tree.now c.args.self.now c.args.border c.args.head c.requires.at c.border-gone.result.now _ c.right-right.result c.mark_border_deleted.new.self c.border-gone.ensures.value c.border-gone.ensures.sound (ap (λ low. low - 1) c.low-slice.ensures.value) c.right-right.ensures.value (omega arith) c.mark_border_deleted.ensures.value c.mark_border_deleted.ensures.keeps
