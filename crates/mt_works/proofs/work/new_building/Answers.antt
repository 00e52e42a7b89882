use Rattle.mt_works.proofs.NewWorks.{new_build}
use Rattle.mt_works.proofs.work.new_building.Goals as goal

pub returns-clause-new : goal.returns-clause-new
returns-clause-new c = new_build c.args.columns c.args.number c.in-Ok.build c.in-Ok.ensures.scans c.in-Ok.ensures.prefix c.in-Ok.ensures.number c.in-Ok.ensures.columns
