use Rattle.mt_loop.proofs.WorkingLemmas.{turns_work}
use Rattle.mt_loop.proofs.turns.Turns.answer_one.Goals as goal

pub returns-in-Some : goal.returns-in-Some
returns-in-Some g c = record {
  works = turns_work g.S.Shared.does g.S.Shared.shows g.S.Shared.pages g.S.Shared.glances g.S.Shared.looks _ _ c.args.connection.now.talk c.answer.new.self.talk _ _ _ _ _ _ c.answer.ensures.turns;
}

pub returns-in_default : goal.returns-in_default
returns-in_default g c = record {
  works = turns_work g.S.Shared.does g.S.Shared.shows g.S.Shared.pages g.S.Shared.glances g.S.Shared.looks _ _ c.args.connection.now.talk c.answer.new.self.talk _ _ _ _ _ _ c.answer.ensures.turns;
}
