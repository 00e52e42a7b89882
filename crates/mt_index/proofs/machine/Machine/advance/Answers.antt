use Rattle.std.proofs.Common.{ℕ, ◌+◌, inr, refl, ap, arith}
use Rattle.mt_types.specs.declared.event.Outcome.TheVariants.{Epoch}
use Rattle.mt_index.specs.Stands.{MachineView}
use Rattle.mt_index.proofs.LaterStands.{seen}
use Rattle.mt_index.proofs.EpochStands.{advances-stand}
use Rattle.mt_index.proofs.machine.Machine.advance.Goals as goal

pub invariant_of-self : goal.invariant_of-self
invariant_of-self c =
    let (h, st) = c.self.invariant in
    let s : MachineView = seen c.self.inside.columns c.self.inside.epoch c.self.inside.tree c.self.inside.log c.self.inside.calls c.self.inside.views in
    let next = c.in-Some.ensures in
    (_, advances-stand s (seen c.self.inside.columns c.in-Some.next c.self.inside.tree c.self.inside.log c.self.inside.calls c.self.inside.views) h st (Epoch (c.self.inside.epoch + 1)) (inr (omega (arith, next.0), refl, ap (λ (e : ℕ). seen c.self.inside.columns e c.self.inside.tree c.self.inside.log c.self.inside.calls c.self.inside.views) next.1)))
