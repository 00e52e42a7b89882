use Rattle.std.proofs.Common.{IsSome, refl, ap, inl}
use Rattle.mt_talk.specs.Turns.{Kept}
use Rattle.mt_talk.specs.declared.server.Keeper.{Keeper}
use Rattle.mt_talk.specs.declared.serving.Server.{Server}
use Rattle.mt_serve.specs.declared.answerer.Answerer.{Answerer}
use Rattle.mt_loop.proofs.WorkingLemmas.{turned_ok, turned_err, turns_then}
use Rattle.mt_loop.proofs.connection.Connection.take_turn.Goals as goal

pub returns-in-Ok : goal.returns-in-Ok
returns-in-Ok g c =
    let keeper : Keeper = record c.args.server.now.keeper { role = c.role_in-server.result } in
    let server : Server Answerer = record c.args.server.now { keeper = keeper } in
    record {
      turns = turned_ok g.S.Shared.does g.S.Shared.shows g.S.Shared.pages g.S.Shared.glances g.S.Shared.looks c.args.server.now.keeper.tokens.items
          (IsSome c.args.self.now.fault) c.args.self.now.talk c.turn.new.self c.args.self.now.role server c.turn.new.answerer
          c.args.shared.now c.turn.new.shared c.args.pass.now c.turn.new.pass refl c.role_in-server.ensures
          c.in-Ok.field-0 c.in-Ok.ensures.took c.in-Ok.ensures.waits;
    }

pub returns-in-Err : goal.returns-in-Err
returns-in-Err g c =
    let keeper : Keeper = record c.args.server.now.keeper { role = c.role_in-server.result } in
    let server : Server Answerer = record c.args.server.now { keeper = keeper } in
    let turned = turned_err g.S.Shared.does g.S.Shared.shows g.S.Shared.pages g.S.Shared.glances g.S.Shared.looks c.args.server.now.keeper.tokens.items
    (IsSome c.fail.new.self.fault) c.args.self.now.talk c.turn.new.self c.args.self.now.role server c.turn.new.answerer
    c.args.shared.now c.turn.new.shared c.args.pass.now c.turn.new.pass refl c.role_in-server.ensures
    c.in-Err.fault c.fail.ensures.fault c.in-Err.ensures.fault c.in-Err.ensures.memory in
    record {
      turns = turns_then g.S.Shared.does g.S.Shared.shows g.S.Shared.pages g.S.Shared.glances g.S.Shared.looks c.args.server.now.keeper.tokens.items
          (IsSome c.fail.new.self.fault) (IsSome c.fail.new.self.fault) c.args.self.now.talk c.turn.new.self c.fail.new.self.talk
          c.args.self.now.role c.turn.new.answerer.keeper.role c.turn.new.answerer.keeper.role c.args.shared.now c.turn.new.shared c.args.pass.now c.turn.new.pass
          (λ broken. broken) (ap (λ (k : Kept). k.bytes) c.fail.ensures.talk) (inl (ap (λ (k : Kept). k.output) c.fail.ensures.talk)) refl turned;
    }
