use Rattle.std.proofs.Common.{◌∙◌, sym, refl, inl}
use Rattle.mt_types.specs.declared.event.Outcome.TheVariants.{Refused}
use Rattle.mt_index.proofs.MakesLemmas.{makes_begin}
use Rattle.mt_index.proofs.machine.Machine.begin_call.Goals as goal

pub returns-in-Some-clause-makes : goal.returns-in-Some-clause-makes
returns-in-Some-clause-makes c = makes_begin c.args.self.now c.args.self.now c.args.pass c.args.request (Refused c.in-Some.refusal) (inl (sym c.fault_of.ensures ∙ c.in-Some.is), refl) (refl, refl)

pub returns-in-None-clause-makes : goal.returns-in-None-clause-makes
returns-in-None-clause-makes c = makes_begin c.args.self.now c.admitted.new.self c.args.pass c.args.request c.admitted.result c.admitted.ensures.begins c.admitted.ensures.bounds
