use Rattle.std.proofs.Common.{◌≡◌}
use Rattle.mt_map.specs.Views.{Turns}
use Rattle.mt_map.proofs.map.Map.keep_views.Given as goal

-- each turn so far advanced a view
abbrev pub invariant-loop-applied : goal.invariant-loop-applied
invariant-loop-applied l = Turns l.applied l.fn.self.machine l.self.machine × (l.self.tidies ≡ l.fn.self.tidies)
