use Rattle.std.proofs.Common.{◌≡◌, ◌++◌, take}
use Rattle.mt_publish.specs.Carried.{PublisherKeeps, pending_of}
use Rattle.mt_publish.proofs.follow.append_all.Given as goal

abbrev pub invariant-loop-delta : goal.invariant-loop-delta
invariant-loop-delta g l = record {
  kept : PublisherKeeps l.initial.publisher l.publisher;
  pending : pending_of l.publisher ≡ pending_of l.initial.publisher ++ take l.delta-index l.fn.deltas;
}
