use Rattle.std.proofs.Common.{◌∙◌, sym, arith, ℕ, [], map, get_or}
use Rattle.mt_types.proofs.PackedLemmas.{packed_holds, unpacked_of, list_end, chosen_some}
use Rattle.mt_types.proofs.columns.Columns.chosen.Goals as goal

pub invariant_of-result : goal.invariant_of-result
invariant_of-result c =
    packed_holds (map (λ k. get_or c.args.self.now k []) c.args.asked.now) _ (c.in_ok-done.ensures ∙ list_end (λ (k : ℕ). get_or c.args.self.now k []) c.args.asked.now c.loop-number.number-index _ _ (omega arith) c.loop-number.invariant)

pub returns : goal.returns
returns c =
    unpacked_of (map (λ k. get_or c.args.self.now k []) c.args.asked.now) _ (c.in_ok-done.ensures ∙ list_end (λ (k : ℕ). get_or c.args.self.now k []) c.args.asked.now c.loop-number.number-index _ _ (omega arith) c.loop-number.invariant)
    ∙ sym (chosen_some c.args.asked.now c.args.self.now c.if-is_empty.ensures)
