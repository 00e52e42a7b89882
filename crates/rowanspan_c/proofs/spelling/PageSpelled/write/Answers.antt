use Rattle.std.proofs.Common.{◌≡◌, ℕ, List, ◌++◌, subst}
use Rattle.std.specs.Prelude.{OnOk}
use Rattle.mt_types.specs.declared.row.Row.{Row}
use Rattle.rowanspan_c.specs.Spelling.{number_spelling, list_spelling, sum_spelling, pairs_spelling}
use Rattle.rowanspan_c.proofs.Written.{then_written, last_written}
use Rattle.rowanspan_c.proofs.spelling.PageSpelled.write.Goals as goal

pub returns : goal.returns
returns c =
    let page = c.args.self.now in let old = c.args.out.now.items in
    let front = number_spelling page.at in let count = number_spelling page.count in let sums = list_spelling sum_spelling c.as_slice.result.now in
    let counted = then_written old c.number.new.out.items c.number-2.new.out.items front count c.in_ok-number.ensures c.in_ok-number-2.ensures in
    let summed = then_written old c.number-2.new.out.items c.list.new.out.items (front ++ count) sums counted c.in_ok-list.ensures in
    let all = last_written c.list-2.result old c.list.new.out.items c.list-2.new.out.items (front ++ count ++ sums) (pairs_spelling c.as_slice-2.result.now) summed c.list-2.ensures in
    subst (λ (pairs : List (List ℕ × Row)). OnOk c.list-2.result (c.list-2.new.out.items ≡ old ++ (front ++ count ++ list_spelling sum_spelling page.sums ++ pairs_spelling pairs)))
    c.as_slice-2.ensures
    (subst (λ (more : List ℕ). OnOk c.list-2.result (c.list-2.new.out.items ≡ old ++ (front ++ count ++ list_spelling sum_spelling more ++ pairs_spelling c.as_slice-2.result.now)))
    c.as_slice.ensures all)
