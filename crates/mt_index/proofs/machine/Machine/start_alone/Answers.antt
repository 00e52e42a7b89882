use Rattle.mt_index.specs.Alone.{pass_0}
use Rattle.mt_index.proofs.RunLemmas.{begun_one}
use Rattle.mt_index.proofs.machine.Machine.start_alone.Goals as goal

pub returns : goal.returns
returns c = record { begins = begun_one c.args.self.now c.admit.new.self c.step-last.new.self pass_0 c.args.request c.in-Ok.call c.step-last.result c.commits_in.result c.in-Ok.ensures.begins c.admit.ensures.bounds c.step-last.ensures.steps c.step-last.ensures.bounds c.commits_in.ensures }
