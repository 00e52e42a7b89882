use Rattle.std.proofs.Common.{subst, sym, ap}
use Rattle.std.specs.Option.{option_copied}
use Rattle.mt_arena.specs.Arena.{ArenaView}
use Rattle.mt_steps.specs.Step.{RowIs}
use Rattle.mt_index.specs.Alone.{IsQuiet}
use Rattle.mt_index.specs.Stands.{MachineView}
use Rattle.mt_index.proofs.LaterStands.{seen}
use Rattle.mt_index.proofs.QuietStands.{quiet_tree, read_row}
use Rattle.mt_index.proofs.machine.Machine.row.Goals as goal

pub row_of-requires-clause-lone : goal.row_of-requires-clause-lone
row_of-requires-clause-lone c =
    let (h, st) = c.self.invariant in
    quiet_tree (seen c.self.inside.columns c.self.inside.epoch c.self.inside.tree c.self.inside.log c.self.inside.calls c.self.inside.views) h st
    (subst (λ (m : MachineView). IsQuiet m) (sym c.self.view_is) c.requires.quiet)

pub returns : goal.returns
returns c = λ h st.
    read_row c.args.self.now h st c.args.key.now c.row_of.ensures.bytes (option_copied c.row_of.result)
    (subst (λ (a : ArenaView). RowIs a c.args.key.now (option_copied c.row_of.result)) (ap (λ (m : MachineView). m.tree) c.self.view_is) c.row_of.ensures.row)
