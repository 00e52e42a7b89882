use Rattle.std.specs.Range.Bound.{bound_map}
use Rattle.mt_shared.proofs.WalkLemmas.{fewer_left}
use Rattle.mt_shared.proofs.walk.Walk.go_to.Goals as goal

pub returns-clause-fewer : goal.returns-clause-fewer
returns-clause-fewer c =
    fewer_left (bound_map (λ key. key.now) c.args.self.now.start) c.args.self.now.last c.args.last c.key_bytes-bytes.ensures.bytes c.key_bytes-bytes.ensures.fits c.requires.fits c.requires.later
