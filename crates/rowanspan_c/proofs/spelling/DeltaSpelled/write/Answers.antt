use Rattle.std.proofs.Common.{◌≡◌, ℕ, List, ◌++◌, subst}
use Rattle.std.specs.Prelude.{OnOk}
use Rattle.rowanspan_c.specs.Spelling.{number_spelling, bytes_spelling, maybe_spelling}
use Rattle.rowanspan_c.proofs.Written.{then_written, last_written}
use Rattle.rowanspan_c.proofs.spelling.DeltaSpelled.write.Goals as goal

pub returns : goal.returns
returns c =
    let delta = c.args.self.now in let old = c.args.out.now.items in
    let front = number_spelling delta.number in let key = bytes_spelling c.as_slice.result.now in let before = maybe_spelling delta.before in
    let keyed = then_written old c.number.new.out.items c.bytes.new.out.items front key c.in_ok-number.ensures c.in_ok-bytes.ensures in
    let had = then_written old c.bytes.new.out.items c.maybe.new.out.items (front ++ key) before keyed c.in_ok-maybe.ensures in
    subst (λ (bytes : List ℕ). OnOk c.maybe-2.result (c.maybe-2.new.out.items ≡ old ++ (front ++ bytes_spelling bytes ++ before ++ maybe_spelling delta.after)))
    c.as_slice.ensures.value
    (last_written c.maybe-2.result old c.maybe.new.out.items c.maybe-2.new.out.items (front ++ key ++ before) (maybe_spelling delta.after) had c.maybe-2.ensures)
