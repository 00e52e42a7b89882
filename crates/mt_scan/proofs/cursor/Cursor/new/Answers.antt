use Rattle.std.proofs.Common.{ℕ, ◌≤◌, List, length, ap, ◌∙◌}
use Rattle.mt_slice.specs.Classes.{class_number}
use Rattle.mt_scan.specs.Cursor.{cursor_view}
use Rattle.mt_scan.proofs.CursorLemmas.{key-whole}
use Rattle.mt_scan.proofs.cursor.Cursor.new.Goals as goal

pub returns : goal.returns
returns c =
    let short : length c.loop-rest.rest.now ≤ 8 = c.loop-rest-test.false in
    let class = c.number.ensures.value ∙ ap class_number c.slice_of-slice-2.ensures.class in
    ap (λ (s : List ℕ). cursor_view s c.number.result 0) c.in_ok-push-2.ensures.items
    ∙ key-whole c.args.key.now c.loop-rest.rest.now c.loop-rest.slices.items c.slice_of-slice-2.result.0 c.number.result c.loop-rest.invariant short c.slice_of-slice-2.ensures.slice class
