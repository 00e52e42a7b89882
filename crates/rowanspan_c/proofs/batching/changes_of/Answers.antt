use Rattle.std.proofs.Common.{◌≡◌, ◌++◌, ◌∷◌, [], rules}
use Rattle.std.proofs.lemmas.List.{take_all}
use Rattle.rowanspan_c.proofs.BatchLemmas.{one_more}
use Rattle.rowanspan_c.proofs.batching.changes_of.Goals as goal

pub loop-change-preserved : goal.loop-change-preserved
loop-change-preserved c =
    let pushed : c.push.new.self.items ≡ c.loop-change.made.items ++ c.change_of.result ∷ [] = search rules in
    one_more c.args.changes.now c.loop-change.change-index _ c.loop-change.made.items c.push.new.self.items c.change_of.result c.loop-change-test.true c.loop-change.invariant c.change_of.ensures pushed

pub returns-clause-changes : goal.returns-clause-changes
returns-clause-changes c = search (rules, take_all)
