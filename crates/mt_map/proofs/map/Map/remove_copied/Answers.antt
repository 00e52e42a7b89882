use Rattle.std.proofs.Common.{◌≡◌, rules, false, inr, refl, sym, ap, ◌∙◌}
use Rattle.std.specs.Prelude.{Ok}
use Rattle.mt_map.specs.Tidies.{MapView}
use Rattle.mt_map.proofs.MapLemmas.{removes_long, removes_untidied, short_fault}
use Rattle.mt_map.proofs.map.Map.remove_copied.Goals as goal

pub returns-then-not-self : goal.returns-then-not-self
returns-then-not-self c =
    let off : c.self.inside.tidies ≡ false = search rules in
    removes_untidied c.args.self.now c.take_out.new.self c.args.key c.take_out.result c.take_out.ensures (ap (λ (v : MapView). v.tidies) (sym c.self.view_is) ∙ off)

pub returns-in-Ok-None : goal.returns-in-Ok-None
returns-in-Ok-None c =
    removes_long c.args.self.now c.take_out-in-Ok-None.new.self c.args.key c.take_out-in-Ok-None.result c.take_out-in-Ok-None.ensures
    (c.in-Ok-None.ensures.none (ap (λ f. Ok f) c.in-Ok-None.field-0-is))

pub returns-in-Err : goal.returns-in-Err
returns-in-Err c = inr (refl, short_fault c.args.key c.in-Err.ensures.err, refl)
