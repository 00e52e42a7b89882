use Rattle.mt_loop.proofs.WorkingLemmas.{frames_are_one_chain}
use Rattle.mt_loop.proofs.laws.frames_of_turns_are_one_chain.Goals as goal

pub returns : goal.returns
returns g c = frames_are_one_chain g.S.Shared.does g.S.Shared.shows g.S.Shared.pages g.S.Shared.glances g.S.Shared.looks
