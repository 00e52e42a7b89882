use Rattle.std.proofs.Common.{◌∙◌, sym, subst}
use Rattle.std.specs.Prelude.{Contains}
use Rattle.mt_types.specs.declared.event.Outcome.TheVariants.{Dropped}
use Rattle.mt_view.specs.Views.{state_at}
use Rattle.mt_index.specs.Stands.{MachineView, Drops}
use Rattle.mt_index.proofs.LaterStands.{seen}
use Rattle.mt_index.proofs.ApplyStands.{view_held, drops-stand}
use Rattle.mt_index.proofs.MachineLemmas.{drops_view, state_there}
use Rattle.mt_index.proofs.machine.Machine.view_drop.Goals as goal

pub unpin-requires : goal.unpin-requires
unpin-requires c =
    let (h, st) = c.self.invariant in
    let (state, there, at_is) = state_there (state_at c.args.view c.self.inside.views.views) c.in-Some.at (sym c.at.ensures ∙ c.in-Some.is) in
    subst (λ n. Contains c.self.inside.log.holders n) at_is (view_held (seen c.self.inside.columns c.self.inside.epoch c.self.inside.tree c.self.inside.log c.self.inside.calls c.self.inside.views) h st c.args.view state there)

pub invariant_of-self : goal.invariant_of-self
invariant_of-self c =
    let (h, st) = c.self.invariant in (
      _,
      drops-stand (seen c.self.inside.columns c.self.inside.epoch c.self.inside.tree c.self.inside.log c.self.inside.calls c.self.inside.views) h st _ (record { 0 = c.args.view }) Dropped
          (drops_view (seen c.self.inside.columns c.self.inside.epoch c.self.inside.tree c.self.inside.log c.self.inside.calls c.self.inside.views) c.args.view c.in-Some.at c.unpin.new.self c.trim.new.self c.end.new.self (sym c.at.ensures ∙ c.in-Some.is) c.unpin.ensures.after c.unpin.ensures.sound c.trim.ensures.after c.end.ensures),
    )

pub returns-clause-drops : goal.returns-clause-drops
returns-clause-drops c = subst (λ (s : MachineView). Drops s c.args.view Dropped (seen c.self.inside.columns c.self.inside.epoch c.self.inside.tree c.trim.new.self c.self.inside.calls c.end.new.self)) c.self.view_is
    (drops_view (seen c.self.inside.columns c.self.inside.epoch c.self.inside.tree c.self.inside.log c.self.inside.calls c.self.inside.views) c.args.view c.in-Some.at c.unpin.new.self c.trim.new.self c.end.new.self (sym c.at.ensures ∙ c.in-Some.is) c.unpin.ensures.after c.unpin.ensures.sound c.trim.ensures.after c.end.ensures)
