use Rattle.mt_map_folder.proofs.RoundLemmas.{moves_as, seals_as}
use Rattle.std.proofs.Common.{◌∙◌, sym}
use Rattle.mt_commit.specs.Log.{newest}
use Rattle.mt_folder_log.proofs.MovingLemmas.{if_err}
use Rattle.mt_map_folder.proofs.ChangeLemmas.{lacks_none}
use Rattle.mt_map_folder.specs.Rounds.{is_made, next_of}
use Rattle.mt_map_folder.proofs.log.MapLog.advance.Goals as goal

pub returns-clause-moves : goal.returns-clause-moves
returns-clause-moves g c = λ header entries keeps due some.
    moves_as c.next_round-round.result (next_of c.args.self.now.log) _ c.next_round-round.ensures (c.in_ok-make.ensures.moves header entries keeps some)

pub returns-clause-seals : goal.returns-clause-seals
returns-clause-seals g c = λ header entries keeps mixes due.
    seals_as c.next_round-round.result (next_of c.args.self.now.log) _ c.next_round-round.ensures (c.in_ok-make.ensures.seals header entries keeps mixes)

pub returns-clause-changes : goal.returns-clause-changes
returns-clause-changes g c = λ changes kept mixes.
    let s = c.args.map.now.machine in
    let log = c.args.self.now.log in
    let few = lacks_none (newest s.log) log.journal.at.newest (is_made c.args.begins (next_of log)) (sym c.acts.ensures ∙ c.if-not-acts.false) in
    c.in_ok-make.ensures.changes changes kept few c.next_round-round.ensures mixes

pub returns-in_err-make-clause-recover : goal.returns-in_err-make-clause-recover
returns-in_err-make-clause-recover g c = λ changes has mixes. if_err c.from_residual.result (c.in_err-make.ensures.recover changes has c.next_round-round.ensures mixes)

pub returns-in_err-make-clause-heads : goal.returns-in_err-make-clause-heads
returns-in_err-make-clause-heads g c = λ header entries keeps mixes. if_err c.from_residual.result (c.in_err-make.ensures.heads header entries keeps mixes)
