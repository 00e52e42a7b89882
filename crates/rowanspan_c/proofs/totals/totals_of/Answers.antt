use Rattle.std.proofs.Common.{◌++◌, ℕ, length, subst, sym, arith}
use Rattle.std.specs.FinMap.{entries}
use Rattle.mt_types.specs.Views.{column_sums}
use Rattle.rowanspan_c.specs.Placed.{Writes}
use Rattle.rowanspan_c.specs.Spelling.{number_spelling, list_spelling, sum_spelling}
use Rattle.rowanspan_c.proofs.TotalsRead.{totals_length, totals_written}
use Rattle.rowanspan_c.proofs.totals.totals_of.Goals as goal

pub sums-requires-clause-room : goal.sums-requires-clause-room
sums-requires-clause-room c =
    let pairs = entries c.args.state.now.rows in
    let all = totals_length c.args.state.now.at (length pairs) c.args.state.now.columns pairs in
    let room = c.requires.room in
    let same = c.requires.columns in
    let one = c.number-at.ensures in let two = c.number-at-2.ensures in let three = c.number-at-3.ensures in
    omega (arith, all, room, same, one.0, one.3, two.0, two.3, three.0, three.3)

pub returns : goal.returns
returns c =
    let state = c.args.state.now in let pairs = entries state.rows in
    subst (λ (columns : ℕ). Writes (number_spelling state.at ++ number_spelling (length pairs) ++ list_spelling sum_spelling (column_sums 0 columns pairs)) 0 c.args.into.now c.sums.new.into c.sums.result) (sym c.requires.columns)
    (totals_written state.at (length pairs) c.args.columns pairs c.args.into.now c.number-at.new.into c.number-at-2.new.into c.number-at-3.new.into c.sums.new.into c.number-at.result c.number-at-2.result c.number-at-3.result c.sums.result
    (subst (λ (at : ℕ). Writes (number_spelling at) 0 c.args.into.now c.number-at.new.into c.number-at.result) c.at.ensures c.number-at.ensures)
    (subst (λ (count : ℕ). Writes (number_spelling count) c.number-at.result c.number-at.new.into c.number-at-2.new.into c.number-at-2.result) c.count.ensures c.number-at-2.ensures)
    (subst (λ (count : ℕ). Writes (number_spelling count) c.number-at-2.result c.number-at-2.new.into c.number-at-3.new.into c.number-at-3.result) c.from.ensures c.number-at-3.ensures)
    c.sums.ensures)
