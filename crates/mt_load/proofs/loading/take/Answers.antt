use Rattle.std.proofs.Common.{◌≡◌, ◌∙◌, ◌∷◌, sym, subst}
use Rattle.std.specs.FinMap.{insert}
use Rattle.mt_types.specs.Rows.{Rows}
use Rattle.mt_load.specs.Loading.{IsParted}
use Rattle.mt_load.proofs.LoadLemmas.{left_is_new, on_ok, parted_more, parted_still}
use Rattle.mt_load.proofs.loading.take.Goals as goal

pub add-requires : goal.add-requires
add-requires c =
    let (all, map, es, has, parted) = c.requires in
    (map, es, has, left_is_new all c.args.left.now map c.args.key.now c.in-Some.row parted (sym c.remove.ensures.old ∙ c.in-Some.is))

pub returns-in-Some-clause-taken : goal.returns-in-Some-clause-taken
returns-in-Some-clause-taken c = λ all map es has parted.
    let there = sym c.remove.ensures.old ∙ c.in-Some.is in
    on_ok c.add.result
    (λ loaded. (
      insert map c.args.key.now c.in-Some.row,
      (c.args.key.now, c.in-Some.row) ∷ es,
      loaded,
      subst (λ (l : Rows). IsParted all l (insert map c.args.key.now c.in-Some.row)) (sym c.remove.ensures.after) (parted_more all c.args.left.now map c.args.key.now c.in-Some.row parted there),
    ))
    (c.add.ensures.added map es has (left_is_new all c.args.left.now map c.args.key.now c.in-Some.row parted there))

pub returns-in-None-clause-taken : goal.returns-in-None-clause-taken
returns-in-None-clause-taken c = λ all map es has parted.
    (map, es, has, subst (λ (l : Rows). IsParted all l map) (sym c.remove.ensures.after) (parted_still all c.args.left.now map c.args.key.now parted (sym c.remove.ensures.old ∙ c.in-None.is)))
