use Rattle.std.proofs.Common.{ℕ, ◌≡◌, true, false, inl, sym, ap, subst, ◌∙◌}
use Rattle.std.specs.Prelude.{IsSomeAnd}
use Rattle.mt_arena.specs.Node.{node_at}
use Rattle.mt_arena.specs.Parts.{IsPart}
use Rattle.mt_arena.specs.declared.part.Field.{Field}
use Rattle.mt_steps.specs.Reader.{MayRead, wants}
use Rattle.mt_steps.specs.Finding.{FindingWaits, find_reading}
use Rattle.mt_steps.proofs.ReaderLemmas.{waits_head, waits_interior, may_child, lent_of}
use Rattle.mt_steps.proofs.finding.read.Goals as goal

pub at_interior-requires : goal.at_interior-requires
at_interior-requires c =
    may_child c.args.tree.now c.args.number.0 c.slice_of.result.0 c.args.finding (subst (λ (s : ℕ). MayRead c.args.tree.now c.args.number.0 s c.args.finding) (sym c.slice_of.ensures.slice) c.requires.may)
    c.wants.result c.in-Interior.interior c.in-Interior.ensures.value

pub returns-in-Head-clause-waits : goal.returns-in-Head-clause-waits
returns-in-Head-clause-waits c = waits_head c.args.tree.now c.args.number.0 _ c.args.finding c.requires.may c.wants.result FindingWaits (λ node marked. inl marked) c.in-Head.head c.at_head.result c.at_head.ensures c.in-Head.ensures.value

pub returns-in-Interior-clause-waits : goal.returns-in-Interior-clause-waits
returns-in-Interior-clause-waits c =
    waits_interior c.args.tree.now c.args.number.0 c.slice_of.result.0 c.args.finding (subst (λ (s : ℕ). MayRead c.args.tree.now c.args.number.0 s c.args.finding) (sym c.slice_of.ensures.slice) c.requires.may)
    c.wants.result FindingWaits (λ node marked. inl marked) c.in-Interior.interior c.at_interior.result c.at_interior.ensures.value c.at_interior.ensures.marked c.in-Interior.ensures.value

pub returns-in-Key-clause-reads : goal.returns-in-Key-clause-reads
returns-in-Key-clause-reads c = record {
  part = c.part.result;
  lent = lent_of c.args.tree.now c.args.number.0 (wants c.args.finding) c.part.result (subst (λ (f : Field). IsSomeAnd (node_at c.args.tree.now.nodes c.args.number.0) (λ node. IsPart node f c.part.result)) c.wants.ensures.value c.part.ensures.value) c.part.ensures.sound c.part.ensures.arena;
  does = c.at_key.ensures.value ∙ sym (ap (find_reading c.args.finding c.args.rest.now c.args.asked.now) c.in-Key.is);
  takes = λ is. absurd (let clash : false ≡ true = is in cc);
}
