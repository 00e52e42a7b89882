use Rattle.std.proofs.Common.{ℕ, List, inl, refl, sym, subst}
use Rattle.std.specs.Prelude.{Option, Ok}
use Rattle.mt_types.specs.declared.event.Answer.TheVariants.{Removed}
use Rattle.mt_types.specs.declared.event.Request.TheVariants.{Remove}
use Rattle.mt_map.specs.Calls.{removed_by}
use Rattle.mt_map.specs.Tidies.{MapCameTo, MapView, PurgesIfEmptied}
use Rattle.mt_map.proofs.MapLemmas.{removes_none, removes_tidied}
use Rattle.mt_map.proofs.map.Map.remove_at.Goals as goal

pub returns-in-Ok-Some : goal.returns-in-Ok-Some
returns-in-Ok-Some c =
    removes_tidied c.args.self.now (record { machine = c.self.inside.machine; tidies = c.self.inside.tidies }) _ c.args.key c.in-Ok-Some.commit
    (subst (λ (m : MapView). MapCameTo c.args.self.now (Remove c.args.key) (Ok (Removed c.in-Ok-Some.commit)) m) (sym c.self.view_is)
    (subst (λ (found : Option ℕ). MapCameTo c.args.self.now (Remove c.args.key) (removed_by (Ok found)) c.take_out.new.self) c.in-Ok-Some.field-0-is c.in-Ok-Some.ensures))
    c.requires.tidies (subst (λ (key : List ℕ). PurgesIfEmptied c.self.inside.machine key c.tidy_after.new.machine) c.requires.same c.tidy_after.ensures.purges) refl

pub returns-in-Ok-None : goal.returns-in-Ok-None
returns-in-Ok-None c =
    removes_none c.args.self.now c.take_out.new.self c.args.key
    (subst (λ (found : Option ℕ). MapCameTo c.args.self.now (Remove c.args.key) (removed_by (Ok found)) c.take_out.new.self) c.in-Ok-None.field-0-is c.in-Ok-None.ensures)

pub returns-in-Err : goal.returns-in-Err
returns-in-Err c = inl c.in-Err.ensures
