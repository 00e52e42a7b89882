use Rattle.std.proofs.Common.{◌∙◌, ap, drop}
use Rattle.mt_types.proofs.PackedLemmas.{pieces_hold, pieces_are}
use Rattle.mt_types.proofs.columns.Columns.iter.Goals as goal

pub invariant_of-result : goal.invariant_of-result
invariant_of-result c =
    pieces_hold c.args.self.now _ _ c.len.ensures.count (c.split_at.ensures.back ∙ ap (drop 1) c.as_packed.ensures)

pub returns : goal.returns
returns c =
    pieces_are c.args.self.now _ _ c.len.ensures.count (c.split_at.ensures.back ∙ ap (drop 1) c.as_packed.ensures)
