use Rattle.std.proofs.Common.{sym, subst}
use Rattle.std.specs.Prelude.{IfOk}
use Rattle.mt_lives.specs.Lives.{HasLived}
use Rattle.mt_lives.specs.Turns.{Leads, Reached}
use Rattle.mt_lives.specs.declared.turn.Turn.{Turn}
use Rattle.mt_lives.proofs.taking.take_turn.Goals as goal

pub returns-in-Ask-clause-leads : goal.returns-in-Ask-clause-leads
returns-in-Ask-clause-leads g c = λ C a lived mixes.
    let (b, leads, then) = c.ask.ensures C a lived in
    (b, subst (λ (turn : Turn). Leads C turn c.ask.result a b) (sym c.in-Ask.is) leads, then)

pub returns-in-Write-clause-leads : goal.returns-in-Write-clause-leads
returns-in-Write-clause-leads g c = λ C a lived mixes.
    let new = c.write.new.opened in
    subst (λ (turn : Turn). IfOk c.write.result (λ told. (b : Reached) × Leads C turn told a b × HasLived g.D.Disk.seen g.D.Disk.may_leave C b new.map.machine new.log)) (sym c.in-Write.is)
    (c.write.ensures.leads C a lived mixes)

pub returns-in-Sync-clause-leads : goal.returns-in-Sync-clause-leads
returns-in-Sync-clause-leads g c = λ C a lived mixes.
    let new = c.sync.new.opened in
    subst (λ (turn : Turn). IfOk c.sync.result (λ told. (b : Reached) × Leads C turn told a b × HasLived g.D.Disk.seen g.D.Disk.may_leave C b new.map.machine new.log)) (sym c.in-Sync.is)
    (c.sync.ensures.leads C a lived)

pub returns-in-Advance-clause-leads : goal.returns-in-Advance-clause-leads
returns-in-Advance-clause-leads g c = λ C a lived mixes.
    let new = c.advance.new.opened in
    subst (λ (turn : Turn). IfOk c.advance.result (λ told. (b : Reached) × Leads C turn told a b × HasLived g.D.Disk.seen g.D.Disk.may_leave C b new.map.machine new.log)) (sym c.in-Advance.is)
    (c.advance.ensures.leads C a lived mixes)
