use Rattle.mt_commit.proofs.HolderLemmas.{least_is}
use Rattle.mt_commit.proofs.holders.Holders.least.Goals as goal

pub returns-in-Some : goal.returns-in-Some
returns-in-Some c =
    least_is c.args.most c.in-Some.first.now c.in-Some.field-0-1.now c.self.inside.counts.entries c.args.self.now
    c.self.view_is c.self.invariant.0 c.self.invariant.1 c.requires c.in-Some.ensures.first
