use Rattle.std.proofs.Common.{◌≡◌, true, false, arith, rules, subst, sym, ◌∙◌}
use Rattle.std.proofs.lemmas.Bool.{false≢true}
use Rattle.std.specs.Option.{option_copied}
use Rattle.mt_promise.specs.History.{History, moment, rows}
use Rattle.mt_index.specs.Stands.{Stands}
use Rattle.mt_reads.specs.Walks.{GivesNext}
use Rattle.mt_reads.proofs.CountLemmas.{counting_begins, counting_goes, counting_ends, counting_fills, counting_stops}
use Rattle.mt_reads.proofs.counting.count_rows.Goals as goal

pub loop-count-init : goal.loop-count-init
loop-count-init c =
    counting_begins c.args.machine.now c.args.from.now (option_copied c.args.to) c.in_ok-walk.walk c.in_ok-walk.ensures.machine c.in_ok-walk.ensures.start

pub loop-count-preserved : goal.loop-count-preserved
loop-count-preserved c =
    let walk = c.loop-count.walk in
    let before : c.is_before.result ≡ true = search rules in
    counting_goes c.args.machine.now c.args.from.now (option_copied c.args.to) walk c.next.new.self c.loop-count.count c.loop-count.invariant c.in-Some._row.now c.key.result.now
    (subst (λ row. (h : History) → Stands walk.machine h → GivesNext (rows walk.machine.columns (moment h)) walk.at (option_copied row) c.next.new.self.at) c.in-Some.is c.in_ok-_row.ensures.row)
    c.in_ok-_row.ensures.machine c.key.ensures.key (c.is_before.ensures.0 before)

pub returns-in_default : goal.returns-in_default
returns-in_default c =
    let walk = c.loop-count.walk in
    counting_ends c.args.machine.now c.args.from.now (option_copied c.args.to) walk c.next.new.self c.loop-count.count c.loop-count.invariant c.args.most
    (let inside = c.loop-count-test.true in omega (arith, inside))
    (subst (λ row. (h : History) → Stands walk.machine h → GivesNext (rows walk.machine.columns (moment h)) walk.at (option_copied row) c.next.new.self.at) c.in_default.is c.in_ok-_row.ensures.row)

pub returns-then-not-is_before : goal.returns-then-not-is_before
returns-then-not-is_before c =
    let walk = c.loop-count.walk in
    counting_stops c.args.machine.now c.args.from.now (option_copied c.args.to) walk c.next.new.self c.loop-count.count c.loop-count.invariant c.args.most
    (let inside = c.loop-count-test.true in omega (arith, inside)) c.in-Some._row.now c.key.result.now
    (subst (λ row. (h : History) → Stands walk.machine h → GivesNext (rows walk.machine.columns (moment h)) walk.at (option_copied row) c.next.new.self.at) c.in-Some.is c.in_ok-_row.ensures.row)
    c.key.ensures.key (λ before. let none : c.is_before.result ≡ false = search rules in false≢true (sym none ∙ c.is_before.ensures.1 before))

pub returns : goal.returns
returns c =
    counting_fills c.args.machine.now c.args.from.now (option_copied c.args.to) c.loop-count.walk c.loop-count.walk c.loop-count.count c.loop-count.invariant c.args.most
    (let most = c.loop-count.auto.count-end in let least = c.loop-count-test.false in omega (arith, most, least))
