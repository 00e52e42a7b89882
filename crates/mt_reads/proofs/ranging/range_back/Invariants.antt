use Rattle.std.specs.Option.{option_copied}
use Rattle.mt_walk.specs.Gathered.{AreKeys, pairs_of}
use Rattle.mt_reads.proofs.RangeBackLemmas.{IsReturning}
use Rattle.mt_reads.proofs.ranging.range_back.Given as goal

-- it has gathered as many pairs as the walk has returned
abbrev pub invariant-loop : goal.invariant-loop
invariant-loop l = record {
  keys : AreKeys l.keys.items 0 l.rows.items;
  returning : IsReturning l.machine l.columns (option_copied l.before) l.walk (pairs_of l.columns l.keys.items 0 l.rows.items) l.counter;
}
