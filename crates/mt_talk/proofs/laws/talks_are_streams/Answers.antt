use Rattle.mt_talk.proofs.TalkLemmas.{talks_are_streams}
use Rattle.mt_talk.proofs.laws.talks_are_streams.Goals as goal

pub returns : goal.returns
returns c = talks_are_streams
