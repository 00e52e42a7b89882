use Rattle.std.proofs.Common.{ℕ, ◌+◌, ap, ◌∙◌}
use Rattle.mt_works.specs.Build.{BuildView}
use Rattle.mt_works.proofs.BuildingLemmas.{is_scanned, take_moves, build_fails}
use Rattle.mt_works.proofs.building.Building.take.Goals as goal

pub returns-in-Ok-clause-steps : goal.returns-in-Ok-clause-steps
returns-in-Ok-clause-steps c = λ a C.
    let (upto, is) = is_scanned c.args.self.now.upto c.requires.scanned in
    take_moves a c.args.log.now c.args.self.now upto is _ C

pub returns-in-Err-clause-steps : goal.returns-in-Err-clause-steps
returns-in-Err-clause-steps c = λ a C. build_fails a c.args.log.now c.args.self.now _ C

pub returns-in-Ok-clause-takes : goal.returns-in-Ok-clause-takes
returns-in-Ok-clause-takes c = λ upto is. (is, ap (λ (v : BuildView). v.state.at) c.in-Ok.ensures.ok ∙ (c.delta.ensures.numbered ∙ ap (λ (n : ℕ). n + 1) c.at-at.ensures))
