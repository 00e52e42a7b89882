use Rattle.std.proofs.Common.{◌≡◌, ◌+◌, ◌-◌, arith}
use Rattle.mt_commit.specs.Log.{newest}
use Rattle.mt_load.proofs.LoadLemmas.{before_at_once, before_by_jump, before_by_put, can_jump, falls_length, on_both, width_at}
use Rattle.mt_load.proofs.putting.come_before.Goals as goal

pub rebase-requires-clause-reached : goal.rebase-requires-clause-reached
rebase-requires-clause-reached c =
    let (map, es, has, none) = c.requires.loaded in
    let number = c.commits.ensures.number in
    let later = c.requires.later in
    let few = falls_length (newest c.args.machine.now.log) es has.falls in
    let one = c.if-steps-eq1.false in
    let two = c.if-steps-eq2.false in
    can_jump map es c.args.machine.now c.args.key.now c.args.row.now has (c.args.row.now.version - 1) (omega (arith, later)) (omega arith) c.as_slice-fits.ensures.fits none (omega (arith, number, later, few, one, two))

pub returns-then-steps-eq1-clause-before : goal.returns-then-steps-eq1-clause-before
returns-then-steps-eq1-clause-before c = λ map es has none.
    let number = c.commits.ensures.number in
    let later = c.requires.later in
    let is = c.if-steps-eq1.true in
    before_at_once map es c.args.machine.now c.args.key.now c.args.row.now has (omega (arith, number, later, is))

pub returns-then-steps-eq2-clause-before : goal.returns-then-steps-eq2-clause-before
returns-then-steps-eq2-clause-before c = λ map es has none.
    let number = c.commits.ensures.number in
    let later = c.requires.later in
    let is = c.if-steps-eq2.true in
    on_both c.put.result
    (λ at one. before_by_put map es c.args.machine.now c.args.key.now c.args.row.now has c.put.new.machine c.requires.wide (omega (arith, number, later, is)) c.put.ensures.columns at one)
    (c.put.ensures.put map has.at (width_at map es c.args.machine.now c.args.key.now has)) c.put.ensures.newest

pub returns-clause-before : goal.returns-clause-before
returns-clause-before c = λ map es has none.
    let number = c.commits.ensures.number in
    let later = c.requires.later in
    let few = falls_length (newest c.args.machine.now.log) es has.falls in
    let one = c.if-steps-eq1.false in
    let two = c.if-steps-eq2.false in
    before_by_jump map es c.args.machine.now c.args.key.now c.args.row.now has c.rebase.new.self (c.args.row.now.version - 1) c.rebase.ensures.after c.rebase.ensures.stands (omega (arith, later)) (omega arith) c.as_slice-fits.ensures.fits none (omega (arith, number, later, few, one, two)) (omega (arith, later))
