use Rattle.std.proofs.Common.{◌∙◌, ap, inl, subst, sym, refl}
use Rattle.mt_types.specs.declared.event.Outcome.{Outcome}
use Rattle.mt_types.specs.declared.event.Outcome.TheVariants.{Done}
use Rattle.mt_index.specs.Alone.{RefusesPlainly}
use Rattle.mt_index.specs.Stands.{MachineView, Steps}
use Rattle.mt_works.proofs.LoneWork.{lone_laws}
use Rattle.mt_index.proofs.EventLemmas.{turned_away}
use Rattle.mt_index.specs.Events.{HappensAlone}
use Rattle.mt_index.proofs.BaseLemmas.{alone_base}
use Rattle.mt_index.proofs.AloneRuns.{alone_further, alone_started, ended_alone, falls}
use Rattle.mt_index.proofs.AloneStands.{came, answers_plainly, refuses_plainly, begin_refuses_plainly, never_else}
use Rattle.mt_index.proofs.machine.Machine.do_alone.Goals as goal

pub returns-in-Some-clause-refused : goal.returns-in-Some-clause-refused
returns-in-Some-clause-refused c = begin_refuses_plainly c.args.self.now c.args.request c.in-Some.refusal c.requires (inl (sym c.fault_of.ensures ∙ c.in-Some.is), refl)

pub returns-in-Some-clause-happens : goal.returns-in-Some-clause-happens
returns-in-Some-clause-happens c = turned_away c.args.self.now c.args.self.now c.args.request c.in-Some.refusal (inl (sym c.fault_of.ensures ∙ c.in-Some.is), refl)

pub returns-in-Refused-clause-refused : goal.returns-in-Refused-clause-refused
returns-in-Refused-clause-refused c =
    subst (λ (t : MachineView). RefusesPlainly c.args.self.now c.args.request c.in-Refused.refusal t) (sym c.in-Refused.ensures.begins.1)
    (begin_refuses_plainly c.args.self.now c.args.request c.in-Refused.refusal c.requires (c.in-Refused.ensures.begins.0, refl))

pub returns-in-Refused-clause-happens : goal.returns-in-Refused-clause-happens
returns-in-Refused-clause-happens c = turned_away c.args.self.now c.start_alone.new.self c.args.request c.in-Refused.refusal c.in-Refused.ensures.begins

-- it has begun, and its last step had an outcome
pub loop-last-init : goal.loop-last-init
loop-last-init c = let (h, st) = c.is_idle-stands.ensures.stands in alone_started lone_laws c.args.self.now c.args.request c.in-Ran.call h c.in-Ran.run' c.start_alone.new.self c.requires st c.in-Ran.ensures.begins

pub returns-in-Done-clause-answered : goal.returns-in-Done-clause-answered
returns-in-Done-clause-answered c =
    let so = c.loop-last.invariant in
    answers_plainly c.args.self.now so.before c.loop-last.self c.args.request c.in-Ran.call c.in-Done.reply so.from
    (subst (λ (o : Outcome). Steps so.before c.in-Ran.call.0 o c.loop-last.self) c.in-Done.is so.last)

pub returns-in-Done-clause-happens : goal.returns-in-Done-clause-happens
returns-in-Done-clause-happens c =
    subst (λ (o : Outcome). HappensAlone c.args.self.now c.args.request o c.loop-last.self) c.in-Done.is
    (ended_alone c.args.self.now c.loop-last.self c.args.request c.in-Ran.call c.loop-last.last c.loop-last.invariant)

pub returns-in-Refused-last-clause-refused : goal.returns-in-Refused-last-clause-refused
returns-in-Refused-last-clause-refused c =
    let so = c.loop-last.invariant in
    refuses_plainly c.args.self.now so.before c.loop-last.self c.args.request c.in-Ran.call c.in-Refused-last.refusal so.from
    (subst (λ (o : Outcome). Steps so.before c.in-Ran.call.0 o c.loop-last.self) c.in-Refused-last.is so.last)

pub returns-in-Refused-last-clause-happens : goal.returns-in-Refused-last-clause-happens
returns-in-Refused-last-clause-happens c =
    subst (λ (o : Outcome). HappensAlone c.args.self.now c.args.request o c.loop-last.self) c.in-Refused-last.is
    (ended_alone c.args.self.now c.loop-last.self c.args.request c.in-Ran.call c.loop-last.last c.loop-last.invariant)

pub returns-in-Refused-clause-base : goal.returns-in-Refused-clause-base
returns-in-Refused-clause-base c = ap (λ (t : MachineView). t.log.base) c.in-Refused.ensures.begins.1

pub returns-in-Done-clause-base : goal.returns-in-Done-clause-base
returns-in-Done-clause-base c =
    let (h, st) = c.is_idle-stands.ensures.stands in
    alone_base c.args.self.now c.loop-last.self c.args.request c.loop-last.last h st
    (ended_alone c.args.self.now c.loop-last.self c.args.request c.in-Ran.call c.loop-last.last c.loop-last.invariant)

pub returns-in-Refused-last-clause-base : goal.returns-in-Refused-last-clause-base
returns-in-Refused-last-clause-base c =
    let (h, st) = c.is_idle-stands.ensures.stands in
    alone_base c.args.self.now c.loop-last.self c.args.request c.loop-last.last h st
    (ended_alone c.args.self.now c.loop-last.self c.args.request c.in-Ran.call c.loop-last.last c.loop-last.invariant)

pub returns-in-Done-clause-idle : goal.returns-in-Done-clause-idle
returns-in-Done-clause-idle c =
    let so = c.loop-last.invariant in
    came lone_laws c.args.self.now so.before c.loop-last.self c.args.request c.in-Ran.call (Done c.in-Done.reply) so.from
    (subst (λ (o : Outcome). Steps so.before c.in-Ran.call.0 o c.loop-last.self) c.in-Done.is so.last)

pub unreachable-requires : goal.unreachable-requires
unreachable-requires c =
    let so = c.loop-last.invariant in
    never_else so.before c.loop-last.self so.from.runs.call.work c.in-Ran.call.0 so.from.made c.loop-last.last
    (came lone_laws c.args.self.now so.before c.loop-last.self c.args.request c.in-Ran.call c.loop-last.last so.from so.last)
    c.in_default-last.not-Moved c.in_default-last.not-Commit c.in_default-last.not-Done c.in_default-last.not-Refused

pub loop-last-smaller : goal.loop-last-smaller
loop-last-smaller c =
    falls lone_laws c.args.self.now c.args.request c.in-Ran.call c.loop-last.self c.step-last.new.self c.loop-last.last c.step-last.result c.loop-last.invariant c.in-Moved.is c.step-last.ensures.steps

pub loop-last-preserved : goal.loop-last-preserved
loop-last-preserved c =
    alone_further lone_laws c.args.self.now c.args.request c.in-Ran.call c.loop-last.self c.step-last.new.self c.loop-last.last c.step-last.result c.loop-last.invariant c.in-Moved.is c.step-last.ensures.steps c.step-last.ensures.bounds
