use Rattle.std.proofs.Common.{sym, subst, arith}
use Rattle.mt_promise.specs.History.{History}
use Rattle.mt_commit.specs.Log.{LogView, newest}
use Rattle.mt_index.specs.Calls.{CallsView}
use Rattle.mt_index.specs.Rebase.{CanBeAfter, HasSameRows, rebased}
use Rattle.mt_index.specs.Stands.{MachineView, Stands}
use Rattle.mt_index.proofs.LaterStands.{seen}
use Rattle.mt_index.proofs.RebaseStands.{bare_at, rebase_stands, unheld, unreserved}
use Rattle.mt_index.proofs.machine.Machine.rebase.Goals as goal

pub begin_after-requires-clause-unheld : goal.begin_after-requires-clause-unheld
begin_after-requires-clause-unheld c =
    let s : MachineView = seen c.self.inside.columns c.self.inside.epoch c.self.inside.tree c.self.inside.log c.self.inside.calls c.self.inside.views in
    let (h, st, closed, other, same) = subst (CanBeAfter c.args.commits) (sym c.self.view_is) c.requires.reached in
    unheld s h st (bare_at s h (newest s.log) st closed)

pub begin_after-requires-clause-fits : goal.begin_after-requires-clause-fits
begin_after-requires-clause-fits c =
    let s : MachineView = seen c.self.inside.columns c.self.inside.epoch c.self.inside.tree c.self.inside.log c.self.inside.calls c.self.inside.views in
    let (h, st, closed, other, same) = subst (CanBeAfter c.args.commits) (sym c.self.view_is) c.requires.reached in
    let none = unreserved s h st (bare_at s h (newest s.log) st closed) in
    omega (arith, none)

pub begin_after-requires-2 : goal.begin_after-requires-2
begin_after-requires-2 c =
    let s : MachineView = seen c.self.inside.columns c.self.inside.epoch c.self.inside.tree c.self.inside.log c.self.inside.calls c.self.inside.views in
    let (h, st, closed, other, same) = subst (CanBeAfter c.args.commits) (sym c.self.view_is) c.requires.reached in
    (bare_at s h (newest s.log) st closed).calls

pub invariant_of-self : goal.invariant_of-self
invariant_of-self c =
    let s : MachineView = seen c.self.inside.columns c.self.inside.epoch c.self.inside.tree c.self.inside.log c.self.inside.calls c.self.inside.views in
    let (h, st, closed, other, same) = subst (CanBeAfter c.args.commits) (sym c.self.view_is) c.requires.reached in (
      other,
      subst (λ (log : LogView). Stands (seen s.columns s.epoch s.tree log c.begin_after-2.new.self s.views) other) (sym c.begin_after.ensures.after)
          (subst (λ (calls : CallsView). Stands (seen s.columns s.epoch s.tree (rebased c.args.commits s).log calls s.views) other) (sym c.begin_after-2.ensures)
          (rebase_stands s h st (bare_at s h (newest s.log) st closed) c.args.commits other same)),
    )

pub returns-clause-stands : goal.returns-clause-stands
returns-clause-stands c = λ h other st same.
    let s : MachineView = seen c.self.inside.columns c.self.inside.epoch c.self.inside.tree c.self.inside.log c.self.inside.calls c.self.inside.views in
    let (g, gst, closed, another, alike) = subst (CanBeAfter c.args.commits) (sym c.self.view_is) c.requires.reached in
    let here = subst (λ (m : MachineView). Stands m h) (sym c.self.view_is) st in
    let rows_same = subst (λ (m : MachineView). HasSameRows m.columns c.args.commits h other) (sym c.self.view_is) same in
    subst (λ (log : LogView). Stands (seen s.columns s.epoch s.tree log c.begin_after-2.new.self s.views) other) (sym c.begin_after.ensures.after)
    (subst (λ (calls : CallsView). Stands (seen s.columns s.epoch s.tree (rebased c.args.commits s).log calls s.views) other) (sym c.begin_after-2.ensures)
    (rebase_stands s h here (bare_at s g (newest s.log) gst closed) c.args.commits other rows_same))
