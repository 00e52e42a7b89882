use Rattle.std.proofs.Common.{map, take}
use Rattle.mt_batch.specs.Changes.{IsTwice, key_of}
use Rattle.mt_batch.proofs.ChangeLemmas.{HasKeys}
use Rattle.mt_batch.proofs.testing.names_twice.Given as goal

-- none so far is changed twice, and the set has those that are changed
abbrev pub invariant-loop-change : goal.invariant-loop-change
invariant-loop-change l = record {
  once : IsTwice (map key_of (take l.change-index l.changes)) → ⊥;
  has : HasKeys l.seen (map key_of (take l.change-index l.changes));
}
