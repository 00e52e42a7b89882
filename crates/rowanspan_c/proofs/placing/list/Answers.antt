use Rattle.std.proofs.Common.{length, ℕ, subst}
use Rattle.std.specs.List.{flat_map}
use Rattle.mt_types.specs.Rows.{chosen}
use Rattle.rowanspan_c.specs.Spelling.{number_spelling, bytes_spelling}
use Rattle.rowanspan_c.specs.Placed.{Writes}
use Rattle.rowanspan_c.proofs.Placed.{then_writes}
use Rattle.rowanspan_c.proofs.placing.list.Goals as goal

pub returns : goal.returns
returns c =
    let shown = chosen c.args.asked.now c.args.columns.now in
    then_writes (number_spelling (length shown)) (flat_map bytes_spelling shown) c.args.into.now c.number-at.new.into c.each.new.into c.args.at c.number-at.result c.each.result
    (subst (λ (count : ℕ). Writes (number_spelling count) c.args.at c.args.into.now c.number-at.new.into c.number-at.result) c.count.ensures c.number-at.ensures)
    c.each.ensures
