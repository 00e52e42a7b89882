use Rattle.std.proofs.Common.{◌∙◌, IsSome, refl, ap}
use Rattle.mt_talk.specs.Turns.{Kept}
use Rattle.mt_loop.proofs.WorkingLemmas.{output_then, turns_then}
use Rattle.mt_loop.proofs.connection.Connection.answer.Goals as goal

pub returns-then-is_some : goal.returns-then-is_some
returns-then-is_some g c = record {
  turns = turns_then g.S.Shared.does g.S.Shared.shows g.S.Shared.pages g.S.Shared.glances g.S.Shared.looks c.args.server.now.keeper.tokens.items
      (IsSome c.take_turn.new.self.fault) (IsSome c.limit_output.new.self.fault) c.args.self.now.talk c.take_turn.new.self.talk c.limit_output.new.self.talk
      c.args.self.now.role c.take_turn.new.server.keeper.role c.take_turn.new.server.keeper.role c.args.shared.now c.take_turn.new.shared c.args.pass.now c.take_turn.new.pass
      c.limit_output.ensures.fault c.limit_output.ensures.bytes c.limit_output.ensures.output refl c.take_turn.ensures.turns;
}

pub returns : goal.returns
returns g c = record {
  turns = turns_then g.S.Shared.does g.S.Shared.shows g.S.Shared.pages g.S.Shared.glances g.S.Shared.looks c.args.server.now.keeper.tokens.items
      (IsSome c.take_turn.new.self.fault) (IsSome c.fail.new.self.fault) c.args.self.now.talk c.take_turn.new.self.talk c.fail.new.self.talk
      c.args.self.now.role c.take_turn.new.server.keeper.role c.fail.new.self.role c.args.shared.now c.take_turn.new.shared c.args.pass.now c.take_turn.new.pass
      (λ broken. c.fail.ensures.fault) (ap (λ (k : Kept). k.bytes) c.fail.ensures.talk ∙ c.limit_output.ensures.bytes)
      (output_then (IsSome c.limit_output.new.self.fault) (IsSome c.fail.new.self.fault) c.take_turn.new.self.talk c.limit_output.new.self.talk c.fail.new.self.talk c.fail.ensures.fault c.fail.ensures.talk c.limit_output.ensures.output)
      c.fail.ensures.role c.take_turn.ensures.turns;
}
