use Rattle.mt_shared.proofs.ChangeLemmas.{ended_kept}
use Rattle.mt_shared.proofs.changing.drive_and_turn.Goals as goal

pub returns-in-Ended-clause-kept : goal.returns-in-Ended-clause-kept
returns-in-Ended-clause-kept g c = ended_kept g.S.Shared.does c.args.shared.now c.args.pass.now c.args.request c.args.turns c.in-Ended.reply c.change.new.self c.change.new.pass c.in-Ended.ensures.changes
