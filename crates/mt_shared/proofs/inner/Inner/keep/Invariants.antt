use Rattle.mt_shared.specs.Inner.{Does, IsInner}
use Rattle.mt_shared.proofs.TurnLemmas.{Turned}
use Rattle.mt_shared.proofs.inner.Inner.keep.Given as goal

-- each turn so far advanced a view
abbrev pub invariant-loop : goal.invariant-loop
invariant-loop l = record {
  start : IsInner l.fn.self;
  kept : IsInner l.self;
  turned : Turned Does l.fn.self l.fn.pass l.counter l.self l.pass;
}
