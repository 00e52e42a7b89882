use Rattle.mt_works.proofs.NewWorks.{new_get, new_tidy}
use Rattle.mt_works.proofs.work.work_of.Goals as goal

pub returns-in-Get-clause-new : goal.returns-in-Get-clause-new
returns-in-Get-clause-new c = new_get c.args.columns c.args.number c.key_of.result c.in-Get.columns c.key_of.ensures.key

pub returns-in_ok-new_range-in-Range-clause-new : goal.returns-in_ok-new_range-in-Range-clause-new
returns-in_ok-new_range-in-Range-clause-new c = c.in_ok-new_range-in-Range.ensures.new c.args.columns c.args.number

pub returns-in-Tidy-clause-new : goal.returns-in-Tidy-clause-new
returns-in-Tidy-clause-new c =
    new_tidy c.args.columns c.args.number c.new.result c.key_of-in-Tidy.result c.key_of-in-Tidy.ensures.key c.new.ensures.request c.new.ensures.has c.new.ensures.begins c.new.ensures.at_start

pub returns-in_default-clause-new : goal.returns-in_default-clause-new
returns-in_default-clause-new c = c.write_of.ensures.new c.args.columns c.args.number
