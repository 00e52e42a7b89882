use Rattle.std.proofs.Common.{◌∙◌, sym, refl, inl, inr}
use Rattle.mt_types.specs.declared.event.Outcome.TheVariants.{Call as Called, Refused}
use Rattle.mt_types.specs.declared.refusal.Refusal.TheVariants.{NoMemory}
use Rattle.mt_index.proofs.MakesLemmas.{makes_begin}
use Rattle.mt_index.proofs.RunLemmas.{or_goes, or_limited}
use Rattle.mt_index.proofs.machine.Machine.call.Goals as goal

pub returns-in-Some-clause-goes : goal.returns-in-Some-clause-goes
returns-in-Some-clause-goes c = makes_begin c.args.self.now c.args.self.now c.args.pass c.args.request (Refused c.in-Some.refusal) (inl (sym c.fault_of.ensures ∙ c.in-Some.is), refl) (refl, refl)

pub returns-then-is_write-clause-goes : goal.returns-then-is_write-clause-goes
returns-then-is_write-clause-goes c = or_goes c.args.self.now c.run_write.new.self c.args.pass c.args.request c.run_write.result c.run_write.ensures.begins

pub returns-then-is_write-clause-limited : goal.returns-then-is_write-clause-limited
returns-then-is_write-clause-limited c =
    let (h, st) = c.is_idle-stands.ensures.stands in
    or_limited c.args.self.now c.run_write.new.self c.args.pass c.args.request c.run_write.result c.run_write.ensures.begins h st

pub returns-in-Ok-clause-goes : goal.returns-in-Ok-clause-goes
returns-in-Ok-clause-goes c = (c.admit.new.self, makes_begin c.args.self.now c.admit.new.self c.args.pass c.args.request (Called c.in-Ok.call) c.in-Ok.ensures.begins c.admit.ensures.bounds, c.go.ensures.goes)

pub returns-in-Err-clause-goes : goal.returns-in-Err-clause-goes
returns-in-Err-clause-goes c = makes_begin c.args.self.now c.admit.new.self c.args.pass c.args.request (Refused NoMemory) (inr (sym c.fault_of.ensures ∙ c.in_default.is, refl), c.in-Err.ensures.err) c.admit.ensures.bounds
