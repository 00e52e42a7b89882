use Rattle.std.proofs.Common.{◌≡◌, ℕ, refl, sym, subst, ◌∙◌}
use Rattle.std.specs.Prelude.{Some}
use Rattle.mt_types.specs.Limits.{request_fault}
use Rattle.mt_types.specs.declared.event.Request.TheVariants.{Get}
use Rattle.rowanspan_c.proofs.RowRead.{refused}
use Rattle.rowanspan_c.proofs.reading.get.Goals as goal

pub returns-in-Some : goal.returns-in-Some
returns-in-Some c =
    refused c.args.index.now.machine c.args.key.now c.args.columns.now c.args.into.now c.args.into.now c.tell_refusal.result c.tell_refusal.new.told c.in-Some.refusal
    (subst (λ (count : ℕ). request_fault count (Get c.args.key.now c.args.columns.now) ≡ Some c.in-Some.refusal) c.columns.ensures (sym c.get_fault.ensures ∙ c.in-Some.is)) refl c.tell_refusal.ensures
