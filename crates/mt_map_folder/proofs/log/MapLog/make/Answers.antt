use Rattle.std.proofs.Common.{◌∙◌, sym, arith}
use Rattle.mt_folder_log.proofs.MovingLemmas.{if_err}
use Rattle.mt_map_folder.proofs.ChangeLemmas.{after_call, of_copies, of_seals}
use Rattle.mt_map_folder.proofs.RoundLemmas.{if_copies, if_moves, if_seals}
use Rattle.mt_map_folder.proofs.log.MapLog.make.Goals as goal

pub returns-in-Copies-clause-copies : goal.returns-in-Copies-clause-copies
returns-in-Copies-clause-copies g c = λ header entries keeps mixing. if_copies c.args.round _ (c.copy.ensures.copies header entries keeps mixing)

pub returns-in_ok-begin-in-Rests-clause-moves : goal.returns-in_ok-begin-in-Rests-clause-moves
returns-in_ok-begin-in-Rests-clause-moves g c = λ header entries keeps some. if_moves c.args.round _ (c.in_ok-begin-in-Rests.ensures.before header entries keeps some)

pub returns-in_ok-seal-in-Seals-clause-seals : goal.returns-in_ok-seal-in-Seals-clause-seals
returns-in_ok-seal-in-Seals-clause-seals g c = λ header entries keeps mixes. if_seals c.args.round _ (c.in_ok-seal-in-Seals.ensures.sealed header entries keeps mixes)

-- the map and the folder have the same changes
pub returns-in-Copies-clause-changes : goal.returns-in-Copies-clause-changes
returns-in-Copies-clause-changes g c = λ changes kept few is mixes.
    let log = c.args.self.now.log in
    of_copies log.least log.journal.at log.other (sym c.in-Copies.is ∙ is) (c.copy.ensures.changes changes kept few (mixes c.copy.new.self.log.journal.disk))

pub returns-in-Copies-clause-recover : goal.returns-in-Copies-clause-recover
returns-in-Copies-clause-recover g c = λ changes has is mixes.
    let log = c.args.self.now.log in
    of_copies log.least log.journal.at log.other (sym c.in-Copies.is ∙ is) (c.copy.ensures.recover changes has (mixes c.copy.new.self.log.journal.disk))

pub returns-in_ok-begin-in-Rests-clause-changes : goal.returns-in_ok-begin-in-Rests-clause-changes
returns-in_ok-begin-in-Rests-clause-changes g c = λ changes kept few is mixes.
    let begun = c.in_ok-begin-in-Rests.ensures in
    after_call g.D.Disk.seen g.D.Disk.may_leave changes c.args.map.now.machine c.args.self.now _ kept begun.columns (omega (arith, begun.newest)) (omega (arith, begun.newest, kept.within)) (begun.changes changes kept.kept)

pub returns-in_ok-seal-in-Seals-clause-changes : goal.returns-in_ok-seal-in-Seals-clause-changes
returns-in_ok-seal-in-Seals-clause-changes g c = λ changes kept few is mixes.
    let log = c.args.self.now.log in
    let sealed = c.in_ok-seal-in-Seals.ensures in
    after_call g.D.Disk.seen g.D.Disk.may_leave changes c.args.map.now.machine c.args.self.now _ kept sealed.columns (omega (arith, sealed.newest)) (omega (arith, sealed.newest, kept.within))
    (sealed.changes changes kept.kept (of_seals log.least log.journal.at log.other (sym c.in-Seals.is ∙ is)) mixes)

pub returns-in_err-begin-in-Rests-clause-recover : goal.returns-in_err-begin-in-Rests-clause-recover
returns-in_err-begin-in-Rests-clause-recover g c = λ changes has is mixes. if_err c.from_residual.result (c.in_err-begin-in-Rests.ensures.recover changes has)

pub returns-in_err-seal-in-Seals-clause-recover : goal.returns-in_err-seal-in-Seals-clause-recover
returns-in_err-seal-in-Seals-clause-recover g c = λ changes has is mixes.
    let log = c.args.self.now.log in
    if_err c.from_residual-in_err-seal-in-Seals.result
    (c.in_err-seal-in-Seals.ensures.recover changes has (of_seals log.least log.journal.at log.other (sym c.in-Seals.is ∙ is)) mixes)

-- the log has its header
pub returns-in_err-begin-in-Rests-clause-heads : goal.returns-in_err-begin-in-Rests-clause-heads
returns-in_err-begin-in-Rests-clause-heads g c = λ header entries keeps mixes. if_err c.from_residual.result (c.in_err-begin-in-Rests.ensures.heads header entries keeps)

pub returns-in-Copies-clause-heads : goal.returns-in-Copies-clause-heads
returns-in-Copies-clause-heads g c = λ header entries keeps mixes. c.copy.ensures.heads header entries keeps (mixes c.copy.new.self.log.journal.disk)

pub returns-in_err-seal-in-Seals-clause-heads : goal.returns-in_err-seal-in-Seals-clause-heads
returns-in_err-seal-in-Seals-clause-heads g c = λ header entries keeps mixes. if_err c.from_residual-in_err-seal-in-Seals.result (c.in_err-seal-in-Seals.ensures.heads header entries keeps mixes)
