use Rattle.mt_scan.proofs.StepLemmas.{steps-pass, steps-take}
use Rattle.mt_scan.proofs.cursor.Cursor.step.Goals as goal

pub returns-in_default : goal.returns-in_default
returns-in_default c = steps-take c.args.self.now.at c.args.entry.now.slice c.compare.result c.args.entry.now.content c.compare.ensures c.in_default.not-Link-0 c.in_default.not-Less-1

pub returns-in_default-Less : goal.returns-in_default-Less
returns-in_default-Less c = steps-pass c.args.self.now.at c.args.entry.now.slice c.compare.result c.args.entry.now.content c.compare.ensures c.in_default-Less.is-1
