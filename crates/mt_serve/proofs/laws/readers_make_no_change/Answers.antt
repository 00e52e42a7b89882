use Rattle.mt_serve.proofs.ReaderLemmas.{reads_make_no_change, readers_make_no_change}
use Rattle.mt_serve.proofs.laws.readers_make_no_change.Goals as goal

pub returns-clause-frames : goal.returns-clause-frames
returns-clause-frames g c = reads_make_no_change g.S.Shared.does g.S.Shared.shows g.S.Shared.pages g.S.Shared.glances g.S.Shared.looks

pub returns-clause-sessions : goal.returns-clause-sessions
returns-clause-sessions g c = readers_make_no_change g.S.Shared.does g.S.Shared.shows g.S.Shared.pages g.S.Shared.glances g.S.Shared.looks
