use Rattle.mt_remove.proofs.LawLemmas.{step_law, may_tidy}
use Rattle.mt_remove.proofs.tidy.Tidy.step.Goals as goal

pub go-requires : goal.go-requires
go-requires c = may_tidy c.args.epoch c.args.tree.now c.args.self.now c.requires

pub returns-clause-steps : goal.returns-clause-steps
returns-clause-steps c = λ C log. step_law C c.args.epoch c.args.tree.now c.go.new.tree log c.args.self.now c.go.new.self c.go.result c.go.ensures.tidied c.go.ensures.law
