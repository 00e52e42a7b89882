use Rattle.std.proofs.Common.{◌≡◌}
use Rattle.mt_shared.proofs.TurnLemmas.{Turned}
use Rattle.mt_shared.proofs.views.keep_views.Given as goal

-- each turn so far advanced a view
abbrev pub invariant-loop : goal.invariant-loop
invariant-loop g l = record {
  applied : l.applied ≡ l.counter;
  turned : Turned g.S.Shared.does l.fn.shared l.fn.pass l.applied l.shared l.pass;
}
