use Rattle.std.proofs.Common.{◌+◌, refl, sym, subst}
use Rattle.mt_scan.proofs.VisitLemmas.{Visiting, comes-full, goes-on, goes-on_taking, comes-enter, holds-key, entry-there}
use Rattle.mt_scan.proofs.StepLemmas.{takes-row}
use Rattle.mt_scan.proofs.OnwardLemmas.{enters_get_on, leaves_get_on}
use Rattle.mt_scan.specs.Listed.{list_of}
use Rattle.mt_scan.specs.Scan.{ScanView}
use Rattle.mt_scan.proofs.scan.Scan.visit.Goals as goal
use Rattle.mt_scan.proofs.scan.Scan.visit.Goals.{in-Pass, in-Take+in_ok-take-in-Take}

pub returns-then-is_full-clause-visited : goal.returns-then-is_full-clause-visited
returns-then-is_full-clause-visited c =
    comes-full c.args.self.now c.loop-entry.self (list_of c.args.entries.now c.args.right) c.loop-entry.entry-index c.loop-entry.invariant (c.is_full.ensures.full.0 c.if-is_full.true)

pub returns-then-is_full-2-clause-visited : goal.returns-then-is_full-2-clause-visited
returns-then-is_full-2-clause-visited c =
    comes-full c.args.self.now c.loop-entry.self (list_of c.args.entries.now c.args.right) c.loop-entry.entry-index c.loop-entry.invariant (c.is_full-2.ensures.full.0 c.if-is_full-2.true)

pub take-requires-clause-key : goal.take-requires-clause-key
take-requires-clause-key c =
    holds-key c.args.self.now c.loop-entry.self (list_of c.args.entries.now c.args.right) c.loop-entry.entry-index c.loop-entry.invariant c.requires c.entry-item.result (entry-there c.args.entries.now c.loop-entry.entry-index c.entry-item.result c.loop-entry-test.true c.entry-item.is)
    (takes-row c.loop-entry.self.at c.entry-item.result.slice c.entry-item.result.content c.in-Take.ensures)

pub returns-in-Enter-clause-visited : goal.returns-in-Enter-clause-visited
returns-in-Enter-clause-visited c =
    comes-enter c.args.self.now c.loop-entry.self (list_of c.args.entries.now c.args.right) c.loop-entry.entry-index c.loop-entry.invariant c.entry-item.result c.in-Enter.head c.enter.new.self (entry-there c.args.entries.now c.loop-entry.entry-index c.entry-item.result c.loop-entry-test.true c.entry-item.is) c.in-Enter.ensures c.in_ok-enter-in-Enter.ensures.entered

pub returns-in-Enter-clause-onward : goal.returns-in-Enter-clause-onward
returns-in-Enter-clause-onward c places may =
    enters_get_on c.args.self.now c.loop-entry.self c.enter.new.self (list_of c.args.entries.now c.args.right) c.loop-entry.invariant.same c.cursor_has_digits.ensures.digits places may
    c.entry-item.result.slice c.entry-item.result.content c.in-Enter.head c.in-Enter.ensures c.in_ok-enter-in-Enter.ensures.entered

pub returns-clause-onward : goal.returns-clause-onward
returns-clause-onward c places may =
    leaves_get_on c.args.self.now c.loop-entry.self c.leave.new.self (list_of c.args.entries.now c.args.right) c.loop-entry.invariant.same c.cursor_has_digits.ensures.digits places may
    c.args.right c.leave.result refl c.leave.ensures.left c.leave.ensures.home

pub loop-entry-preserved : goal.loop-entry-preserved
loop-entry-preserved c = elim c.match-step.branch [
  | in-Pass w ↦
      subst (λ (s : ScanView). Visiting c.args.self.now s (list_of c.args.entries.now c.args.right) (c.loop-entry.entry-index + 1)) (sym w.self-is)
      (goes-on c.args.self.now c.loop-entry.self (list_of c.args.entries.now c.args.right) c.loop-entry.entry-index c.loop-entry.invariant c.entry-item.result (entry-there c.args.entries.now c.loop-entry.entry-index c.entry-item.result c.loop-entry-test.true c.entry-item.is) w.in-Pass.ensures)
  | in-Take+in_ok-take-in-Take w ↦
      subst (λ (s : ScanView). Visiting c.args.self.now s (list_of c.args.entries.now c.args.right) (c.loop-entry.entry-index + 1)) (sym w.self-is)
      (goes-on_taking c.args.self.now c.loop-entry.self (list_of c.args.entries.now c.args.right) c.loop-entry.entry-index c.loop-entry.invariant c.entry-item.result w.take.new.self (entry-there c.args.entries.now c.loop-entry.entry-index c.entry-item.result c.loop-entry-test.true c.entry-item.is) w.in-Take.ensures
      (c.is_full.ensures.room.0 c.if-is_full.false) w.in_ok-take-in-Take.ensures.taken)
]
