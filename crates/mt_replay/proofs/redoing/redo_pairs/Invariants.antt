use Rattle.std.proofs.Common.{◌≡◌, drop}
use Rattle.mt_replay.specs.Redo.{pairs_redone}
use Rattle.mt_replay.proofs.redoing.redo_pairs.Given as goal

-- the pairs that are left make what all make
abbrev pub invariant-loop-key : goal.invariant-loop-key
invariant-loop-key l = pairs_redone (drop l.key-index l.pairs) l.rows ≡ pairs_redone l.pairs l.initial.rows
