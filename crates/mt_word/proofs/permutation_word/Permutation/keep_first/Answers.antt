use Rattle.std.proofs.Common.{arith}
use Rattle.mt_word.proofs.PlacesLemmas.{fifteen_together}
use Rattle.mt_word.proofs.permutation_word.Permutation.keep_first.Goals as goal

pub arranged-requires-clause-count_fits : goal.arranged-requires-clause-count_fits
arranged-requires-clause-count_fits c = omega (arith, fifteen_together c.args.self.now c.places.ensures.arranged)
