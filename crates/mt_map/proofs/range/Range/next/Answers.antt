use Rattle.std.proofs.Common.{ap, sym, ◌∙◌}
use Rattle.std.specs.Option.{option_copied}
use Rattle.std.specs.Range.Bound.{bound_map}
use Rattle.mt_map.proofs.BoundLemmas.{next_none, next_past, next_some}
use Rattle.mt_map.proofs.range.Range.next.Goals as goal

pub returns-in_default-clause-row : goal.returns-in_default-clause-row
returns-in_default-clause-row c =
    next_none (bound_map (λ key. key.now) c.args.self.now.end) c.args.self.now.walk.machine c.args.self.now.walk.at c.next.new.self.at (option_copied c.in_ok-row.field-0) (ap option_copied c.in_default.is) c.in_ok-row.ensures.row

pub returns-then-is_up_to-clause-row : goal.returns-then-is_up_to-clause-row
returns-then-is_up_to-clause-row c =
    next_some (bound_map (λ key. key.now) c.args.self.now.end) c.args.self.now.walk.machine c.args.self.now.walk.at c.next.new.self.at (option_copied c.in_ok-row.field-0) c.in-Some.row.now c.key.result.now (ap option_copied c.in-Some.is) c.key.ensures.key (sym c.is_up_to.ensures ∙ c.if-is_up_to.true) c.in_ok-row.ensures.row

pub returns-else-is_up_to-clause-row : goal.returns-else-is_up_to-clause-row
returns-else-is_up_to-clause-row c =
    next_past (bound_map (λ key. key.now) c.args.self.now.end) c.args.self.now.walk.machine c.args.self.now.walk.at c.next.new.self.at (option_copied c.in_ok-row.field-0) c.in-Some.row.now c.key.result.now (ap option_copied c.in-Some.is) c.key.ensures.key (sym c.is_up_to.ensures ∙ c.if-is_up_to.false) c.in_ok-row.ensures.row
