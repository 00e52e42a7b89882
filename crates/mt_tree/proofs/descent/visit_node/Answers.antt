-- A visit goes by the kind of the node.
use Rattle.std.proofs.Common.{ℕ, ◌≤◌, ap, sym, subst}
use Rattle.mt_arena.specs.Node.{interior_of}
use Rattle.mt_tree.proofs.descent.visit_node.Goals as goal

pub visit_interior-requires : goal.visit_interior-requires
visit_interior-requires c = λ alive.
    let may = c.requires.has_child c.in-Interior.interior (ap interior_of c.in-Interior.is) alive in
    (may.0, subst (λ (slice : ℕ). c.in-Interior.interior.low ≤ slice) (sym c.slice_of-slice.ensures.slice) may.1)
