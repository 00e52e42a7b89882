use Rattle.mt_script.specs.Machine.{Leads, IsAsBefore}
use Rattle.mt_script.proofs.FinishLemmas.{Passes}
use Rattle.mt_script.proofs.script.finish.Given as goal

abbrev pub invariant-loop : goal.invariant-loop
invariant-loop l = record {
  passed : Leads l.initial.machine (λ past h. Passes l.counter past l.call h) l.machine;
  options : IsAsBefore l.initial.machine l.machine;
}
