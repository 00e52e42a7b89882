use Rattle.std.proofs.Common.{subst, sym, ap}
use Rattle.mt_types.specs.declared.event.Answer.TheVariants.{Rows as RowsAnswer}
use Rattle.mt_types.specs.declared.event.Request.TheVariants.{Range as RangeRequest}
use Rattle.mt_arena.specs.Arena.{ArenaView}
use Rattle.mt_steps.specs.Lone.{IsRightNow}
use Rattle.mt_index.specs.Alone.{IsQuiet}
use Rattle.mt_index.specs.Stands.{MachineView}
use Rattle.mt_index.proofs.LaterStands.{seen}
use Rattle.mt_index.proofs.AloneStands.{read_range}
use Rattle.mt_index.proofs.QuietStands.{quiet_tree}
use Rattle.mt_index.proofs.machine.Machine.range.Goals as goal

pub range_of-requires : goal.range_of-requires
range_of-requires c =
    let (h, st) = c.self.invariant in
    quiet_tree (seen c.self.inside.columns c.self.inside.epoch c.self.inside.tree c.self.inside.log c.self.inside.calls c.self.inside.views) h st
    (subst (λ (m : MachineView). IsQuiet m) (sym c.self.view_is) c.requires)

pub returns-clause-pairs : goal.returns-clause-pairs
returns-clause-pairs c = λ h st.
    read_range c.args.self.now h st c.args.columns c.args.start c.args.limit c.in_ok-range_of.field-0
    (subst (λ (a : ArenaView). IsRightNow a (RangeRequest c.args.start c.args.limit c.args.columns) (RowsAnswer c.in_ok-range_of.field-0)) (ap (λ (m : MachineView). m.tree) c.self.view_is) c.in_ok-range_of.ensures)
