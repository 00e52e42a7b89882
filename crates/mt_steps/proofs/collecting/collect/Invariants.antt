use Rattle.std.proofs.Common.{◌≤◌, ◌<◌, ◌+◌, length, take}
use Rattle.std.specs.Prelude.{All}
use Rattle.mt_steps.specs.Collecting.{GivesBack, CollectLaw}
use Rattle.mt_steps.proofs.collecting.collect.Given as goal

-- the first `freed` nodes are freed, each of which was retired before the epoch
abbrev pub invariant-loop-freed : goal.invariant-loop-freed
invariant-loop-freed l = record {
  few : l.freed ≤ length l.fn.tree.retired;
  left : GivesBack l.freed l.fn.tree l.tree;
  gone : All (λ node. node.epoch < l.upto + 1) (take l.freed l.fn.tree.retired);
  law : CollectLaw l.fn.tree l.tree (l.upto + 1);
}
