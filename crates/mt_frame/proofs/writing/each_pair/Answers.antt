use Rattle.std.proofs.Common.{ℕ, List, [], ◌∷◌, ◌++◌, take, All, subst, sym, ap, ◌∙◌}
use Rattle.std.specs.List.{flat_map}
use Rattle.std.proofs.lemmas.List.{flat_map_more, take_more, take_all}
use Rattle.std.proofs.lemmas.List.Elements.{All-more, recursion_from_All}
use Rattle.mt_types.specs.declared.row.Row.{Row}
use Rattle.mt_wire.specs.Spelling.{pair_spelling}
use Rattle.mt_frame.specs.Fits.{PairFits}
use Rattle.mt_frame.proofs.writing.each_pair.Goals as goal

pub loop-pair-preserved : goal.loop-pair-preserved
loop-pair-preserved c =
    let i = c.loop-pair.pair-index in
    let xs = c.args.pairs.now in
    let item = c.pair-item.result in
    record {
      written =
          c.in_ok-write_pair.ensures.value ∙ ap (λ (l : List ℕ). l ++ pair_spelling item) c.loop-pair.invariant.written
          ∙ flat_map_more pair_spelling c.args.out.now.items (take i xs) item
          ∙ ap (λ (l : List (List ℕ × Row)). c.args.out.now.items ++ flat_map pair_spelling l) (ap (λ (r : List ℕ × Row). take i xs ++ r ∷ []) c.pair-item.is ∙ sym (take_more xs i item c.loop-pair-test.true));
      fit = All-more PairFits xs i item c.loop-pair-test.true c.loop-pair.invariant.fit (subst PairFits c.pair-item.is c.in_ok-write_pair.ensures.fits);
    }

pub returns-clause-fit : goal.returns-clause-fit
returns-clause-fit c =
    recursion_from_All PairFits c.args.pairs.now (subst (All PairFits) (take_all c.loop-pair.pair-index c.args.pairs.now c.loop-pair-test.false) c.loop-pair.invariant.fit)
