use Rattle.std.proofs.Common.{ap, ◌∙◌}
use Rattle.std.specs.Ordering.{is_le}
use Rattle.mt_scan.proofs.CursorLemmas.{compared}
use Rattle.mt_scan.proofs.cursor.Cursor.is_from.Goals as goal

pub returns : goal.returns
returns c =
    c.is_le.ensures
    ∙ ap is_le (compared c.deref.result.now c.self.inside.slices.items c.self.inside.class c.self.inside.depth c.args.self.now c.args.bytes.now c.rest_of.result.now c.slice_of-slice.result.0
    c.slice_of-slice.result.1 c.number.result c.compare.result c.self.invariant.within c.self.view_is c.deref.ensures.value c.rest_of.ensures c.number.ensures.class c.number.ensures.value
    c.slice_of-slice.ensures.place c.compare.ensures)
