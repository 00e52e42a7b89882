use Rattle.std.proofs.Common.{◌+◌, ◌∙◌, refl, sym, subst}
use Rattle.mt_types.specs.declared.event.Event.TheVariants.{Collect}
use Rattle.mt_types.specs.declared.event.Outcome.TheVariants.{Freed}
use Rattle.mt_index.specs.Stands.{MachineView, Collects, IsOldest, HasBounds}
use Rattle.mt_index.specs.Causes.{IsCaused}
use Rattle.mt_index.proofs.LaterStands.{seen}
use Rattle.mt_index.proofs.EpochStands.{collects_none, collects_some, collects-stand, collects-caused}
use Rattle.mt_index.proofs.machine.Machine.collect.Goals as goal

pub invariant_of-self : goal.invariant_of-self
invariant_of-self c =
    let (h, st) = c.self.invariant in
    let s : MachineView = seen c.self.inside.columns c.self.inside.epoch c.self.inside.tree c.self.inside.log c.self.inside.calls c.self.inside.views in
    (_, collects-stand s _ h st _ (collects_some s c.collect.new.tree c.in-Some.upto c.collect.result (subst (IsOldest c.self.inside.epoch (c.in-Some.upto + 1)) c.oldest.ensures c.in-Some.ensures) c.collect.ensures.exactly c.collect.ensures.keeps))

pub returns-in-Some : goal.returns-in-Some
returns-in-Some c =
    let (h, st) = c.self.invariant in
    let s : MachineView = seen c.self.inside.columns c.self.inside.epoch c.self.inside.tree c.self.inside.log c.self.inside.calls c.self.inside.views in
    let t : MachineView = seen c.self.inside.columns c.self.inside.epoch c.collect.new.tree c.self.inside.log c.self.inside.calls c.self.inside.views in
    let collects = collects_some s c.collect.new.tree c.in-Some.upto c.collect.result (subst (IsOldest c.self.inside.epoch (c.in-Some.upto + 1)) c.oldest.ensures c.in-Some.ensures) c.collect.ensures.exactly c.collect.ensures.keeps in
    record {
      collects = subst (λ (m : MachineView). Collects m (Freed c.collect.result) t) c.self.view_is collects;
      caused = subst (λ (m : MachineView). IsCaused m Collect (Freed c.collect.result) t) c.self.view_is (collects-caused s t h st (Freed c.collect.result) collects);
      bounds = subst (λ (m : MachineView). HasBounds m.log.capacity m.log.retention c.self.inside.log) c.self.view_is (refl, refl);
    }

pub returns-in-None : goal.returns-in-None
returns-in-None c =
    let (h, st) = c.self.invariant in
    let s : MachineView = seen c.self.inside.columns c.self.inside.epoch c.self.inside.tree c.self.inside.log c.self.inside.calls c.self.inside.views in
    let collects = collects_none s (sym c.oldest.ensures ∙ c.in-None.ensures) in
    record {
      collects = subst (λ (m : MachineView). Collects m (Freed 0) m) c.self.view_is collects;
      caused = subst (λ (m : MachineView). IsCaused m Collect (Freed 0) m) c.self.view_is (collects-caused s s h st (Freed 0) collects);
      bounds = (refl, refl);
    }
