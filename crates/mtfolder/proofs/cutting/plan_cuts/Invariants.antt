use Rattle.mtfolder.specs.Cuts.{AreCuts}
use Rattle.mtfolder.proofs.cutting.plan_cuts.Given as goal

abbrev pub invariant-tries : goal.invariant-tries
invariant-tries l = AreCuts l.folder.even.items l.folder.odd.items l.cuts
