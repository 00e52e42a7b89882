-- A call alone leaves the number after which the log began.
use Rattle.std.proofs.Common.{◌≡◌, ℕ, Bool, true, false, List, [], ◌∷◌, ◌++◌, refl, ap, ◌∙◌, inl, inr}
use Rattle.mt_types.specs.declared.numbers.PassNo.{PassNo}
use Rattle.mt_types.specs.declared.numbers.CallNo.{CallNo}
use Rattle.mt_types.specs.declared.event.Event.TheVariants.{Step}
use Rattle.mt_types.specs.declared.event.Request.{Request}
use Rattle.mt_types.specs.declared.event.Outcome.{Outcome}
use Rattle.mt_types.specs.declared.event.Outcome.TheVariants.{Call as Called, Refused as RefusedOutcome}
use Rattle.mt_promise.specs.History.{History, happening}
use Rattle.mt_promise.specs.Legal.{reads_log}
use Rattle.mt_commit.specs.Log.{LogView}
use Rattle.mt_works.specs.Works.{request_of}
use Rattle.mt_index.specs.Alone.{next_call, pass_0}
use Rattle.mt_index.specs.Events.{EventDoes, HappensAlone, StepsHappen}
use Rattle.mt_index.specs.Stands.{MachineView, Stands, Begins, Steps, pinned}
use Rattle.mt_index.proofs.BeginStands.{begins-stands}
use Rattle.mt_index.proofs.EventStands.{step_bounds}
use Rattle.mt_index.proofs.LogStands.{log_after_is}
use Rattle.mt_index.proofs.ViewEvents.{steps-stand}

pinned_base : (reads : Bool) (log : LogView) → (pinned reads log).base ≡ log.base
pinned_base true log = refl
pinned_base false log = refl

begins_base : (s t : MachineView) (pass : PassNo) (request : Request) (outcome : Outcome) → Begins s pass request outcome t → t.log.base ≡ s.log.base
begins_base s t pass request (Called number) (none, numbered, work, asks, new, next) = ap (λ (m : MachineView). m.log.base) next ∙ pinned_base (reads_log (request_of work)) s.log
begins_base s t pass request (RefusedOutcome refusal) (why, same) = ap (λ (m : MachineView). m.log.base) same
begins_base s t pass request _ never = absurd never

steps_base : (s t : MachineView) (n : ℕ) (outcome : Outcome) (h : History) → Stands s h → Steps s n outcome t → t.log.base ≡ s.log.base
steps_base s t n outcome h st (inl (none, refused, same)) = ap (λ (m : MachineView). m.log.base) same
steps_base s t n outcome h st (inr (inl o)) =
    ap (λ (m : MachineView). m.log.base) o.is_next
    ∙ ap (λ (l : LogView). l.base) (log_after_is o.reads o.from o.p o.log)
    ∙ ap (λ (b : List ℕ × ℕ × ℕ × ℕ). b.3) (step_bounds s h n o.calls o.tree o.log o.pass o.reads o.builds o.from o.p o.steps st)
steps_base s t n outcome h st (inr (inr ends)) = elim ends.comes [
  | inl opens ↦ ap (λ (m : MachineView). m.log.base) opens.is_next
  | inr not_ ↦ ap (λ (m : MachineView). m.log.base) not_.is_next
]

all_base : (s t : MachineView) (call : CallNo) (outcomes : List Outcome) (h : History) → Stands s h → StepsHappen s call outcomes t → t.log.base ≡ s.log.base
unfolding EventDoes
all_base s t call [] h st same = ap (λ (m : MachineView). m.log.base) same
all_base s t call (o ∷ os) h st (next, happens, rest) =
    let (opens, now) = steps-stand s next call.0 o h happens.does st in
    all_base next t call os (happening (Step call) o opens ∷ h) now rest ∙ steps_base s next call.0 o h st happens.does

pub alone_base : (s t : MachineView) (request : Request) (last : Outcome) (h : History) → Stands s h → HappensAlone s request last t → t.log.base ≡ s.log.base
unfolding HappensAlone EventDoes
alone_base s t request last h st (inl happens) = begins_base s t pass_0 request last happens.does
alone_base s t request last h st (inr goes) =
    all_base goes.begun t _ (goes.outcomes ++ last ∷ []) _ (begins-stands s goes.begun pass_0 request (Called (next_call s)) h goes.begins st) goes.steps
    ∙ begins_base s goes.begun pass_0 request (Called (next_call s)) goes.begins
