use Rattle.mt_shared.specs.Tidies.{Tidies}
use Rattle.mt_shared.proofs.tidying.tidy_all.Given as goal

-- each tidy so far took something out, and left the border empty
abbrev pub invariant-loop : goal.invariant-loop
invariant-loop g l = Tidies g.S.Shared.does g.S.Shared.looks l.fn.shared l.fn.pass l.key l.counter l.shared l.pass
