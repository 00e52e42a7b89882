use Rattle.std.proofs.Common.{ap, sym, ◌∙◌}
use Rattle.std.specs.Option.{option_copied}
use Rattle.std.specs.Range.Bound.{bound_map}
use Rattle.mt_map.proofs.BoundLemmas.{previous_none, previous_past, previous_some}
use Rattle.mt_map.proofs.back.RangeBack.next.Goals as goal

pub returns-in_default-clause-row : goal.returns-in_default-clause-row
returns-in_default-clause-row c =
    previous_none (bound_map (λ key. key.now) c.args.self.now.start) c.args.self.now.walk.machine c.args.self.now.walk.before c.next.new.self.before (option_copied c.in_ok-row.field-0) (ap option_copied c.in_default.is) c.in_ok-row.ensures.row

pub returns-then-is_from-clause-row : goal.returns-then-is_from-clause-row
returns-then-is_from-clause-row c =
    previous_some (bound_map (λ key. key.now) c.args.self.now.start) c.args.self.now.walk.machine c.args.self.now.walk.before c.next.new.self.before (option_copied c.in_ok-row.field-0) c.in-Some.row.now c.key.result.now (ap option_copied c.in-Some.is) c.key.ensures.key (sym c.is_from.ensures ∙ c.if-is_from.true) c.in_ok-row.ensures.row

pub returns-else-is_from-clause-row : goal.returns-else-is_from-clause-row
returns-else-is_from-clause-row c =
    previous_past (bound_map (λ key. key.now) c.args.self.now.start) c.args.self.now.walk.machine c.args.self.now.walk.before c.next.new.self.before (option_copied c.in_ok-row.field-0) c.in-Some.row.now c.key.result.now (ap option_copied c.in-Some.is) c.key.ensures.key (sym c.is_from.ensures ∙ c.if-is_from.false) c.in_ok-row.ensures.row
