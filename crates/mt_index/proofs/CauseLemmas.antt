-- Why a step of a call answers that it waits, and why calls fail or are refused.
use Rattle.std.proofs.Common.{ℕ, ◌≡◌, ◌≤◌, ◌⊎◌, Option, Some, None, inl, inr, refl, sym, ap, subst, ◌∙◌}
use Rattle.mt_types.specs.Numbers.{greatest_number}
use Rattle.mt_types.specs.declared.refusal.Refusal.{Refusal}
use Rattle.mt_types.specs.declared.numbers.CallNo.{CallNo}
use Rattle.mt_types.specs.declared.numbers.PassNo.{PassNo}
use Rattle.mt_types.specs.declared.event.Event.TheVariants.{Step}
use Rattle.mt_types.specs.declared.event.Outcome.{Outcome}
use Rattle.mt_types.specs.declared.refusal.Refusal.TheVariants.{NoSuchCall, NoMemory, Spent}
use Rattle.mt_commit.specs.Log.{LogView, newest, trimmed}
use Rattle.mt_arena.specs.Arena.{ArenaView}
use Rattle.mt_steps.specs.declared.progress.Progress.{Progress}
use Rattle.mt_steps.specs.declared.progress.Progress.TheVariants.{Moved, Waits, Committed, Answered, Refused}
use Rattle.mt_works.specs.declared.work.Work.{Work}
use Rattle.mt_works.specs.Causes.{WorkWaits, WorkFails, WorkRefuses}
use Rattle.mt_works.specs.Works.{IsBuiltWork}
use Rattle.mt_works.specs.Building.{IsUpTo, FailsAt}
use Rattle.mt_view.specs.Views.{ViewsView}
use Rattle.mt_works.proofs.WorkLemmas.{refused_for}
use Rattle.mt_index.specs.declared.calls.Call.{Call}
use Rattle.mt_index.specs.Calls.{CallsView, call_at, with_changed, with_work}
use Rattle.mt_index.specs.Causes.{WaitsFor, RefusedFor, IsCaused}
use Rattle.mt_index.specs.Stands.{MachineView, Steps, log_after, outcome_of, calls_after, views_after}
use Rattle.mt_index.proofs.ListLemmas.{changed_at}

module _ (s : MachineView) (number : CallNo) (kept : Call) (found : call_at number.0 s.calls.calls ≡ Some kept) (pass : PassNo) (from to : ℕ) (tree : ArenaView) (left : LogView) (views : ViewsView) (work : Work) (calls : CallsView)
    (changed : calls ≡ record s.calls { calls = with_changed (with_work work) number.0 s.calls.calls }) where
  abbrev after : Progress → MachineView
  after p = record { columns = s.columns; epoch = s.epoch; tree = tree; log = left; calls = calls_after number.0 p calls; views = views }

  by_progress : (p : Progress) → WorkWaits s.tree kept.work p → WorkFails s.tree s.log kept.work p work → IsCaused s (Step number) (outcome_of number.0 pass from to p) (after p)
  by_progress Waits waits fails = subst (λ (call : Option Call). WaitsFor s call) (sym found) waits
  by_progress Moved waits fails = λ before new at now.
      let same : kept ≡ before = (let both : ◌≡◌ {A = Option Call} (Some kept) (Some before) = sym found ∙ at in cc) in
      let now_is : new ≡ with_work work kept = changed_at (with_work work) number.0 kept new s.calls.calls found (ap (λ (c : CallsView). call_at number.0 c.calls) (sym changed) ∙ now) in
      subst (λ (b : Call). WorkFails s.tree s.log b.work Moved new.work) same (subst (λ (n : Call). WorkFails s.tree s.log kept.work Moved n.work) (sym now_is) fails)
  by_progress (Committed commit) waits fails = tt
  by_progress (Answered answer) waits fails = tt
  by_progress (Refused refusal) waits fails = subst (λ (call : Option Call). RefusedFor s call refusal) (sym found) (inl (refused_for s.tree s.log kept.work refusal work fails))

pub steps-caused : (s t : MachineView) (number : CallNo) (outcome : Outcome) → Steps s number.0 outcome t → IsCaused s (Step number) outcome t
steps-caused s t number outcome (inl (none, refused, same)) = subst (λ (o : Outcome). IsCaused s (Step number) o t) (sym refused) (subst (λ (call : Option Call). RefusedFor s call NoSuchCall) (sym none) refl)
steps-caused s t number outcome (inr (inl went)) =
    subst (λ (o : Outcome). IsCaused s (Step number) o t) (sym went.is_outcome)
    (subst (λ (m : MachineView). IsCaused s (Step number) (outcome_of number.0 went.pass went.from (newest went.log) went.p) m) (sym went.is_next)
    (by_progress s number went.steps.call went.steps.is_open went.pass went.from (newest went.log) went.tree (trimmed (log_after went.reads went.from went.p went.log)) (views_after went.builds went.p s.views) went.steps.next.work went.calls went.steps.changed went.p went.steps.made.waits went.steps.made.fails))
steps-caused s t number outcome (inr (inr ends)) = elim ends.comes [
  | inl opens ↦ subst (λ (o : Outcome). IsCaused s (Step number) o t) (sym opens.is_outcome) tt
  | inr not_ ↦ subst (λ (o : Outcome). IsCaused s (Step number) o t) (sym not_.is_outcome) (subst (λ (call : Option Call). RefusedFor s call not_.refusal) (sym ends.is_open) (why not_.why))
]
  where
    upto_some : (upto : Option ℕ) (at n : ℕ) → IsUpTo upto at → (refusal : Refusal) → refusal ≡ NoMemory → FailsAt s.tree n upto (Refused refusal)
    upto_some (Some upto) at n is refusal memory = memory
    upto_some None at n is refusal memory = absurd is

    why : {refusal : Refusal} → (refusal ≡ NoMemory) ⊎ ((refusal ≡ Spent) × (greatest_number ≤ s.views.built)) → RefusedFor s (Some ends.call) refusal
    why {refusal} (inl memory) = inl (subst (λ (w : Work). WorkRefuses s.tree w refusal) (sym ends.is_build) (upto_some ends.building.upto ends.building.build.state.at ends.building.node.0 ends.is_built refusal memory))
    why {refusal} (inr spent) = inr (spent.0, spent.1, subst IsBuiltWork (sym ends.is_build) ends.is_built)
