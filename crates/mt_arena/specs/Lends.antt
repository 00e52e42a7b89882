-- What the arena is in the end, when a node of it is lent to be changed.
use Rattle.std.specs.Prelude.{ℕ}
use Rattle.std.specs.Borrow.{Lends, Fml, MutBor}
use Rattle.mt_border.specs.Border.{BorderView}
use Rattle.mt_border.specs.contracts.border.Border as border
use Rattle.mt_interior.specs.Head.{HeadView}
use Rattle.mt_interior.specs.Interior.{InteriorView}
use Rattle.mt_interior.specs.contracts.head.Head as head
use Rattle.mt_interior.specs.contracts.interior.Interior as interior
use Rattle.mt_arena.specs.Arena.{ArenaView, with_node_at}
use Rattle.mt_arena.specs.declared.node.Node.TheVariants.{Head, Interior, Border}
use Rattle.mt_arena.specs.contracts.arena.Arena as arena

-- the number ends as naming what was left of the part, and nothing else is changed
abbrev pub lends_head_at : MutBor ArenaView → ℕ → MutBor HeadView → Fml
lends_head_at a number r = Lends arena.the_row head.the_row a r (λ h. with_node_at a.now number (Head h))

abbrev pub lends_interior_at : MutBor ArenaView → ℕ → MutBor InteriorView → Fml
lends_interior_at a number r = Lends arena.the_row interior.the_row a r (λ i. with_node_at a.now number (Interior i))

abbrev pub lends_border_at : MutBor ArenaView → ℕ → MutBor BorderView → Fml
lends_border_at a number r = Lends arena.the_row border.the_row a r (λ b. with_node_at a.now number (Border b))
