use Rattle.std.proofs.Common.{refl, subst, arith}
use Rattle.mt_undo.proofs.UndoLemmas.{falls_back, further_back, gone_back, has_last}
use Rattle.mt_undo.specs.Undoing.{CanGoBack}
use Rattle.mt_types.specs.declared.row.Change.{Change}
use Rattle.std.specs.Prelude.{List}
use Rattle.mt_undo.proofs.undoing.undo.Goals as goal

pub loop-tree-init : goal.loop-tree-init
loop-tree-init c lone C first puts can = record { puts = puts; lone = lone; same_now = refl; can = can; same_log = refl }

pub undo_last-requires-clause-lone : goal.undo_last-requires-clause-lone
undo_last-requires-clause-lone c =
    let (C, first, puts, can) = c.requires.made in
    (c.loop-tree.invariant c.requires.lone C first puts can).lone

pub undo_last-requires-clause-made : goal.undo_last-requires-clause-made
undo_last-requires-clause-made c =
    let (C, first, puts, can) = c.requires.made in
    let g = c.loop-tree.invariant c.requires.lone C first puts can in
    let (init, last, is) = has_last C first g.puts c.args.commits c.args.rows c.loop-tree.tree c.loop-tree.log g.can (let more = c.loop-tree-test.true in let same = c.number.ensures.value in omega (arith, more, same)) in
    (C, first, init, last, subst (λ (cs : List Change). CanGoBack C first cs c.args.commits c.args.rows c.loop-tree.tree c.loop-tree.log) is g.can)

pub loop-tree-smaller : goal.loop-tree-smaller
loop-tree-smaller c =
    let (C, first, puts, can) = c.requires.made in
    let g = c.loop-tree.invariant c.requires.lone C first puts can in
    falls_back C first c.args.commits c.args.rows c.requires.lone.now c.args.log.now c.loop-tree.tree c.undo_last.new.tree c.loop-tree.log c.undo_last.new.log g (λ init last can. c.undo_last.ensures.goes g.lone C first init last can)
    (let more = c.loop-tree-test.true in let same = c.number.ensures.value in omega (arith, more, same))

pub loop-tree-preserved : goal.loop-tree-preserved
loop-tree-preserved c lone C first puts can =
    let g = c.loop-tree.invariant lone C first puts can in
    further_back C first c.args.commits c.args.rows lone.now c.args.log.now c.loop-tree.tree c.undo_last.new.tree c.loop-tree.log c.undo_last.new.log g (λ init last can. c.undo_last.ensures.goes g.lone C first init last can)
    (let more = c.loop-tree-test.true in let same = c.number.ensures.value in omega (arith, more, same))

pub returns-clause-back : goal.returns-clause-back
returns-clause-back c lone C first puts can =
    gone_back C first c.args.commits c.args.rows lone.now c.args.log.now c.loop-tree.tree c.loop-tree.log (c.loop-tree.invariant lone C first puts can)
    (let done = c.loop-tree-test.false in let same = c.number.ensures.value in omega (arith, done, same))
