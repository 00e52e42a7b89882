use Rattle.std.proofs.Common.{arith, subst}
use Rattle.std.specs.Option.{option_copied}
use Rattle.mt_promise.specs.History.{History, moment, rows}
use Rattle.mt_index.specs.Stands.{Stands}
use Rattle.mt_reads.specs.Back.{GivesPrevious}
use Rattle.rowanspan_c.proofs.RangedBack.{back_begins, back_goes, back_ends, back_fills}
use Rattle.rowanspan_c.proofs.ranging.pairs_back.Goals as goal

pub loop-many-init : goal.loop-many-init
loop-many-init c =
    back_begins c.args.index.now.machine (option_copied c.args.before) c.args.asked.now c.args.out.now.items c.in_ok-walk.walk c.in_ok-walk.ensures.machine c.in_ok-walk.ensures.before

pub loop-many-preserved : goal.loop-many-preserved
loop-many-preserved c =
    let walk = c.loop-many.walk in
    back_goes c.args.index.now.machine (option_copied c.args.before) c.args.asked.now c.args.out.now.items walk c.next.new.self c.loop-many.out.items c.pair.new.out.items c.key.result.now c.loop-many.many c.in-Some.row.now
    c.loop-many.invariant
    (subst (λ row. (h : History) → Stands walk.machine h → GivesPrevious (rows walk.machine.columns (moment h)) walk.before (option_copied row) c.next.new.self.before) c.in-Some.is c.in_ok-row.ensures.row)
    c.in_ok-row.ensures.machine c.key.ensures.key c.in_ok-pair.ensures

pub returns-in_default : goal.returns-in_default
returns-in_default c =
    let walk = c.loop-many.walk in
    back_ends c.args.index.now.machine (option_copied c.args.before) c.args.asked.now c.args.out.now.items walk c.next.new.self c.loop-many.out.items c.loop-many.many c.args.limit c.loop-many.invariant
    (let inside = c.loop-many-test.true in omega (arith, inside))
    (subst (λ row. (h : History) → Stands walk.machine h → GivesPrevious (rows walk.machine.columns (moment h)) walk.before (option_copied row) c.next.new.self.before) c.in_default.is c.in_ok-row.ensures.row)

pub returns : goal.returns
returns c =
    back_fills c.args.index.now.machine (option_copied c.args.before) c.args.asked.now c.args.out.now.items c.loop-many.walk c.loop-many.out.items c.loop-many.many c.args.limit c.loop-many.invariant
    (let most = c.loop-many.auto.many-end in let least = c.loop-many-test.false in omega (arith, most, least))
