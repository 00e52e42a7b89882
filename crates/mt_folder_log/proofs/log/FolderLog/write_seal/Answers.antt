use Rattle.mt_folder_log.proofs.MovingLemmas.{if_err}
use Rattle.mt_folder_log.proofs.log.FolderLog.write_seal.Goals as goal

pub returns-clause-sealed : goal.returns-clause-sealed
returns-clause-sealed g c = λ header entries keeps mixes.
    c.in_ok-sync.ensures.whole header _ (c.in_ok-append_seal.ensures.kept header entries keeps (mixes c.append_seal.new.self.disk))

-- a crash leaves each commit that was durable
pub returns-in_err-append_seal-clause-crash : goal.returns-in_err-append_seal-clause-crash
returns-in_err-append_seal-clause-crash g c = λ header entries keeps mixes.
    if_err c.from_residual.result (c.append_seal.ensures.crash header entries keeps (mixes c.append_seal.new.self.disk))

pub returns-in_err-sync-clause-crash : goal.returns-in_err-sync-clause-crash
returns-in_err-sync-clause-crash g c = λ header entries keeps mixes.
    if_err c.from_residual-in_err-sync.result (λ left may_left. c.append_seal.ensures.crash header entries keeps (mixes c.append_seal.new.self.disk) left (c.sync.ensures.fewer left may_left))
