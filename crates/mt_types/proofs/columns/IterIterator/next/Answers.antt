use Rattle.std.proofs.Common.{◌≡◌, ◌∙◌, ◌∷◌, ◌-◌, rules, arith, ap, sym, length, drop, []}
use Rattle.std.proofs.Math.Seq.{drop-cons}
use Rattle.std.proofs.lemmas.List.{length-drop}
use Rattle.mt_types.specs.Packed.{cut}
use Rattle.mt_types.proofs.PackedLemmas.{next_piece, pieces_hold, pieces_are}
use Rattle.mt_types.proofs.columns.IterIterator.next.Goals as goal

pub split_first-requires-clause-some : goal.split_first-requires-clause-some
split_first-requires-clause-some c =
    let size : length (cut c.self.inside.left c.self.inside.rest.now) ≡ c.self.inside.left = c.self.invariant.1 in
    (next_piece (cut c.self.inside.left c.self.inside.rest.now) 0 _ (omega (arith, size)) c.self.invariant.0).0

pub split_first-requires-clause-fits : goal.split_first-requires-clause-fits
split_first-requires-clause-fits c =
    let size : length (cut c.self.inside.left c.self.inside.rest.now) ≡ c.self.inside.left = c.self.invariant.1 in
    (next_piece (cut c.self.inside.left c.self.inside.rest.now) 0 _ (omega (arith, size)) c.self.invariant.0).1

pub invariant_of-self : goal.invariant_of-self
invariant_of-self c =
    let columns = cut c.self.inside.left c.self.inside.rest.now in
    let size : length columns ≡ c.self.inside.left = c.self.invariant.1 in
    let next = next_piece columns 0 _ (omega (arith, size)) c.self.invariant.0 in
    pieces_hold (drop 1 columns) _ _ (ap (λ n. n - 1) (sym size) ∙ sym (length-drop 1 columns)) (c.split_first.ensures.back ∙ next.3)

pub returns-clause-steps : goal.returns-clause-steps
returns-clause-steps c =
    let columns = cut c.self.inside.left c.self.inside.rest.now in
    let size : length columns ≡ c.self.inside.left = c.self.invariant.1 in
    let next = next_piece columns 0 _ (omega (arith, size)) c.self.invariant.0 in
    let others = pieces_are (drop 1 columns) (c.self.inside.left - 1) c.split_first.result.1.now (ap (λ n. n - 1) (sym size) ∙ sym (length-drop 1 columns)) (c.split_first.ensures.back ∙ next.3) in
    sym c.self.view_is
    ∙ drop-cons columns 0 [] (omega (arith, size))
    ∙ (λ t. (sym next.2 ∙ sym c.split_first.ensures.front) t ∷ sym others t)

pub returns-clause-goes : goal.returns-clause-goes
returns-clause-goes c =
    let steps = returns-clause-steps c in
    let fewer = ap length steps in
    search rules
