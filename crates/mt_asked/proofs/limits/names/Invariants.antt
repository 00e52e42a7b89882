use Rattle.std.proofs.Common.{◌≡◌, ◌==◌, drop, map}
use Rattle.std.specs.List.{list_any}
use Rattle.mt_asked.specs.Borrowed.{sets_of}
use Rattle.mt_asked.proofs.limits.names.Given as goal

abbrev pub invariant-loop-set : goal.invariant-loop-set
invariant-loop-set l =
    list_any (λ other. other == l.name) (map (λ set. set.0) (sets_of (drop l.set-index l.sets)))
    ≡ list_any (λ other. other == l.name) (map (λ set. set.0) (sets_of l.sets))
