use Rattle.mt_index.specs.Alone.{IsIdle}
use Rattle.mt_map.proofs.BatchLemmas.{AllFollow}
use Rattle.mt_map.proofs.batching.tidy_each.Given as goal

-- once tidies follow at the places that are left, they have followed at all
abbrev pub invariant-loop-place : goal.invariant-loop-place
invariant-loop-place l = record {
  idle : IsIdle l.machine;
  all : AllFollow l.fn.machine l.fn.places.items l.machine l.place-iterator.rest.items;
}
