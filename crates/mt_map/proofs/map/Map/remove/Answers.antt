use Rattle.std.proofs.Common.{inl, inr, refl, sym, subst, ◌∙◌}
use Rattle.mt_types.specs.declared.event.Request.TheVariants.{Remove}
use Rattle.mt_index.specs.Alone.{IsIdle}
use Rattle.mt_map.specs.Tidies.{MapView}
use Rattle.mt_map.proofs.MapLemmas.{limit_refuses}
use Rattle.mt_map.proofs.map.Map.remove.Goals as goal

pub returns-in-Some : goal.returns-in-Some
returns-in-Some c =
    inl (limit_refuses c.args.self.now (Remove c.args.key.now) c.in-Some.refusal
    (subst (λ (m : MapView). IsIdle m.machine) c.self.view_is c.self.invariant) (sym c.key_fault.ensures ∙ c.in-Some.is))

pub returns-in-Err : goal.returns-in-Err
returns-in-Err c = inr (refl, sym c.key_fault.ensures ∙ c.in_default.is, refl)
