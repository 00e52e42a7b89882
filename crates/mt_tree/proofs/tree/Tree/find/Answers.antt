use Rattle.std.proofs.Common.{sym, subst, arith}
use Rattle.mt_slice.proofs.Slices.{are_bytes_from_reads}
use Rattle.mt_border.specs.declared.found.Found.{Found}
use Rattle.mt_tree.specs.Descent.{TellsRow}
use Rattle.mt_tree.proofs.RowLemmas.{tells_row}
use Rattle.mt_tree.proofs.tree.Tree.find.Goals as goal

pub returns-clause-row : goal.returns-clause-row
returns-clause-row c = subst (λ (f : Found). TellsRow c.args.self.now c.args.number.0 c.args.rest.now f) (sym c.find.ensures.value)
    (tells_row c.args.self.now c.args.number.0 c.args.rest.now c.border.result.now c.border.ensures.value c.find.ensures.sound (are_bytes_from_reads c.args.rest.now (λ i. omega (arith, c.type_inv.rest i))))

pub returns-clause-stands : goal.returns-clause-stands
returns-clause-stands c = rw c.border.ensures.value c.find.ensures.stands
