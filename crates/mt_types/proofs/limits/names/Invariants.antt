use Rattle.std.proofs.Common.{◌≡◌, ◌==◌, drop, map}
use Rattle.std.specs.List.{list_any}
use Rattle.mt_types.proofs.limits.names.Given as goal

abbrev pub invariant-loop-set : goal.invariant-loop-set
invariant-loop-set l =
    list_any (λ other. other == l.name) (map (λ set. set.0) (drop l.set-index l.sets))
    ≡ list_any (λ other. other == l.name) (map (λ set. set.0) l.sets)
