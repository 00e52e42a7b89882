use Rattle.mt_wire.proofs.Lengths.{limited_replies_fit}
use Rattle.mt_wire.proofs.laws.limited_replies_fit.Goals as goal

pub returns : goal.returns
returns c = limited_replies_fit
