-- Each step of a call is one step of its kind.
use Rattle.std.proofs.Common.{ℕ, ◌≡◌, Option, Some, None, inl, inr, sym, ap, subst, ◌∙◌}
use Rattle.mt_types.specs.declared.numbers.CallNo.{CallNo}
use Rattle.mt_types.specs.declared.numbers.PassNo.{PassNo}
use Rattle.mt_types.specs.declared.event.Event.TheVariants.{Step}
use Rattle.mt_types.specs.declared.event.Outcome.{Outcome}
use Rattle.mt_commit.specs.Log.{LogView, newest, trimmed}
use Rattle.mt_arena.specs.Arena.{ArenaView}
use Rattle.mt_steps.specs.declared.progress.Progress.{Progress}
use Rattle.mt_steps.specs.declared.progress.Progress.TheVariants.{Moved, Waits, Committed, Answered, Refused}
use Rattle.mt_works.specs.declared.work.Work.{Work}
use Rattle.mt_works.specs.Works.{IsBuiltWork}
use Rattle.mt_works.specs.Follows.{WorkFollows}
use Rattle.mt_view.specs.Views.{ViewsView}
use Rattle.mt_index.specs.declared.calls.Call.{Call}
use Rattle.mt_index.specs.Calls.{CallsView, call_at, with_changed, with_work}
use Rattle.mt_index.specs.OneStep.{EndsSo, IsOneStep}
use Rattle.mt_index.specs.Stands.{MachineView, Steps, log_after, outcome_of, calls_after, views_after}
use Rattle.mt_index.proofs.ListLemmas.{changed_at}

-- an open call has made a step of its kind
module _ (s : MachineView) (number : CallNo) (kept : Call) (found : call_at number.0 s.calls.calls ≡ Some kept) (pass : PassNo) (from to : ℕ) (tree : ArenaView) (left : LogView) (views : ViewsView) (work : Work) (calls : CallsView)
    (changed : calls ≡ record s.calls { calls = with_changed (with_work work) number.0 s.calls.calls }) where
  abbrev after : Progress → MachineView
  after p = record { columns = s.columns; epoch = s.epoch; tree = tree; log = left; calls = calls_after number.0 p calls; views = views }

  same_before : (before : Call) → call_at number.0 s.calls.calls ≡ Some before → kept ≡ before
  same_before before at = (let both : ◌≡◌ {A = Option Call} (Some kept) (Some before) = sym found ∙ at in cc)

  goes : (p : Progress) → WorkFollows s.tree s.log kept.work p work → (before new : Call) → call_at number.0 s.calls.calls ≡ Some before → call_at number.0 calls.calls ≡ Some new
      → WorkFollows s.tree s.log before.work p new.work
  goes p follows before new at now =
      let now_is : new ≡ with_work work kept = changed_at (with_work work) number.0 kept new s.calls.calls found (ap (λ (c : CallsView). call_at number.0 c.calls) (sym changed) ∙ now) in
      subst (λ (b : Call). WorkFollows s.tree s.log b.work p new.work) (same_before before at) (subst (λ (n : Call). WorkFollows s.tree s.log kept.work p n.work) (sym now_is) follows)

  ends : (p : Progress) → WorkFollows s.tree s.log kept.work p work → EndsSo s number.0 p
  ends p follows = λ before at. inr (work, subst (λ (b : Call). WorkFollows s.tree s.log b.work p work) (same_before before at) follows)

  by_progress : (p : Progress) → WorkFollows s.tree s.log kept.work p work → IsOneStep s (Step number) (outcome_of number.0 pass from to p) (after p)
  by_progress Waits follows = goes Waits follows
  by_progress Moved follows = goes Moved follows
  by_progress (Committed commit) follows = goes (Committed commit) follows
  by_progress (Answered answer) follows = ends (Answered answer) follows
  by_progress (Refused refusal) follows = ends (Refused refusal) follows

pub steps-once : (s t : MachineView) (number : CallNo) (outcome : Outcome) → Steps s number.0 outcome t → IsOneStep s (Step number) outcome t
steps-once s t number outcome (inl (none, refused, same)) = subst (λ (o : Outcome). IsOneStep s (Step number) o t) (sym refused)
    (λ before at. absurd (let clash : ◌≡◌ {A = Option Call} None (Some before) = sym none ∙ at in cc))
steps-once s t number outcome (inr (inl went)) =
    subst (λ (o : Outcome). IsOneStep s (Step number) o t) (sym went.is_outcome)
    (subst (λ (m : MachineView). IsOneStep s (Step number) (outcome_of number.0 went.pass went.from (newest went.log) went.p) m) (sym went.is_next)
    (by_progress s number went.steps.call went.steps.is_open went.pass went.from (newest went.log) went.tree (trimmed (log_after went.reads went.from went.p went.log)) (views_after went.builds went.p s.views) went.steps.next.work went.calls went.steps.changed went.p went.steps.made.follows))
steps-once s t number outcome (inr (inr ends)) = elim ends.comes [
  | inl opens ↦ subst (λ (o : Outcome). IsOneStep s (Step number) o t) (sym opens.is_outcome) (built _)
  | inr not_ ↦ subst (λ (o : Outcome). IsOneStep s (Step number) o t) (sym not_.is_outcome) (built _)
]
  where
    built : (p : Progress) → EndsSo s number.0 p
    built p before at =
        let same : ends.call ≡ before = (let both : ◌≡◌ {A = Option Call} (Some ends.call) (Some before) = sym ends.is_open ∙ at in cc) in
        inl (subst (λ (b : Call). IsBuiltWork b.work) same (subst IsBuiltWork (sym ends.is_build) ends.is_built))
