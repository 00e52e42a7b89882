use Rattle.std.proofs.Common.{◌≡◌, ◌+◌, ◌-◌, length}
use Rattle.mt_write.specs.Splitting.{CopiesFrom}
use Rattle.mt_write.proofs.halving.copy_upper.Given as goal

-- the entries before this place are copied
abbrev pub invariant-loop-next : goal.invariant-loop-next
invariant-loop-next l = CopiesFrom l.tree l.number.0 l.outline l.cut l.fn.entries (l.next - l.first) l.copies
    × (l.cut + length l.copies ≡ l.next)
