use Rattle.std.proofs.Common.{arith}
use Rattle.mt_scan.proofs.OnwardLemmas.{narrow_digits}
use Rattle.mt_scan.proofs.cursor.first_of.Goals as goal

pub returns-clause-digits : goal.returns-clause-digits
returns-clause-digits c class = narrow_digits class c.args.slices.now (λ i. omega (arith, c.type_inv.slices i))
