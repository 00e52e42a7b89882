use Rattle.std.proofs.Common.{◌≡◌, ◌++◌, drop}
use Rattle.mt_walk.specs.Gathered.{AreKeys, pairs_of}
use Rattle.mt_walk.proofs.range.pairs_of.Given as goal

-- the keys that are left are in the bytes that are left
abbrev pub invariant-loop-end : goal.invariant-loop-end
invariant-loop-end l = record {
  left : AreKeys l.fn.bytes.items l.begin (drop l.end-index l.rows);
  same : l.pairs.items ++ pairs_of l.columns l.fn.bytes.items l.begin (drop l.end-index l.rows) ≡ pairs_of l.columns l.fn.bytes.items 0 l.rows;
}
