use Rattle.std.proofs.Common.{List, ap, subst}
use mathlib.Core.List.{IsPrefix}
use Rattle.mt_types.specs.declared.row.Delta.{Delta}
use Rattle.mt_publish.proofs.Lists.{covered}
use Rattle.mt_publish.proofs.mark.Mark.covers.Goals as goal

pub returns : goal.returns
returns c =
    let both = c.learn.new.self.log in
    let this : IsPrefix c.self.inside.seen.log both = subst (λ (l : List Delta). IsPrefix l both) (ap (λ s. s.log) c.again-both.ensures) c.learn.ensures.2 in
    rw (← c.self.view_is, ← c.other.view_is, c.self.invariant, c.other.invariant)
    (covered c.self.inside.seen.log c.other.inside.seen.log both this c.learn.ensures.3)
