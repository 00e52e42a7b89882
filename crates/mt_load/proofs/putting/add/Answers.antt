use Rattle.std.proofs.Common.{◌≡◌, arith}
use Rattle.mt_load.proofs.LoadLemmas.{on_three, row_made}
use Rattle.mt_load.proofs.putting.add.Goals as goal

pub put-requires-clause-at : goal.put-requires-clause-at
put-requires-clause-at c =
    let (map, es, has, none) = c.requires in
    let before = c.in_ok-come_before.ensures.before map es has none in
    (before.over, before.at)

pub returns-clause-added : goal.returns-clause-added
returns-clause-added c = λ map es has none.
    let before = c.in_ok-come_before.ensures.before map es has none in
    let number = c.commits.ensures.number in
    let not_less = c.if-row-commits.false in
    on_three c.put.result
    (λ at newest fits. row_made map es c.args.machine.now c.args.key.now c.args.row.now has c.come_before.new.machine c.put.new.machine before c.come_before.ensures.columns (omega (arith, number, not_less)) none fits c.put.ensures.columns at newest)
    (c.put.ensures.put before.over before.at before.wide) c.put.ensures.newest c.put.ensures.fits
