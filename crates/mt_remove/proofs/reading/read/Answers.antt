use Rattle.std.proofs.Common.{ℕ, sym, ap, subst, ◌∙◌}
use Rattle.std.specs.Prelude.{IsSomeAnd}
use Rattle.mt_arena.specs.Node.{node_at}
use Rattle.mt_arena.specs.Parts.{IsPart}
use Rattle.mt_arena.specs.declared.part.Field.{Field}
use Rattle.mt_steps.specs.Reader.{MayRead, wants}
use Rattle.mt_steps.proofs.ReaderLemmas.{may_child, lent_of}
use Rattle.mt_remove.specs.Reading.{without_row, seek_reading}
use Rattle.mt_remove.proofs.reading.read.Goals as goal

pub at_interior-requires : goal.at_interior-requires
at_interior-requires c =
    may_child c.args.tree.now c.args.number.0 c.slice_of.result.0 c.args.finding (subst (λ (s : ℕ). MayRead c.args.tree.now c.args.number.0 s c.args.finding) (sym c.slice_of.ensures.slice) c.requires.may)
    c.wants.result c.in-Interior.interior c.in-Interior.ensures.value

pub returns-in-Key : goal.returns-in-Key
returns-in-Key c = record {
  part = c.part.result;
  lent = lent_of c.args.tree.now c.args.number.0 (wants c.args.finding) c.part.result (subst (λ (f : Field). IsSomeAnd (node_at c.args.tree.now.nodes c.args.number.0) (λ node. IsPart node f c.part.result)) c.wants.ensures.value c.part.ensures.value) c.part.ensures.sound c.part.ensures.arena;
  does = c.without_row.ensures ∙ (ap without_row c.at_key.ensures.value ∙ sym (ap (seek_reading c.args.finding c.args.rest.now) c.in-Key.is));
}
