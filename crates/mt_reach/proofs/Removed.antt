-- A remove of a legal history found its row.
use Rattle.std.proofs.Common.{◌≡◌, ◌⊎◌, ℕ, ◌∙◌, ◌++◌, ◌∷◌, List, [], Option, Some, None, inl, inr, ap, sym, refl, subst}
use Rattle.std.specs.Prelude.{IsSome}
use Rattle.std.specs.FinMap.{get}
use Rattle.mt_types.specs.Rows.{after}
use Rattle.mt_types.specs.declared.row.Change.{Change}
use Rattle.mt_types.specs.declared.row.Change.TheVariants.{Put, Drop}
use Rattle.mt_types.specs.declared.numbers.CallNo.{CallNo}
use Rattle.mt_types.specs.declared.event.Event.{Event}
use Rattle.mt_types.specs.declared.event.Event.TheVariants.{Begin, Step, Apply, ViewRead, ViewDrop, Advance, Collect}
use Rattle.mt_types.specs.declared.event.Outcome.{Outcome}
use Rattle.mt_types.specs.declared.event.Outcome.TheVariants.{Call, Commit, Applied, Dropped, Epoch}
use Rattle.mt_types.specs.declared.event.Request.{Request}
use Rattle.mt_types.specs.declared.event.Request.TheVariants.{Put as PutRequest, PutIf, Remove}
use Rattle.mt_promise.specs.History.{History, Moment, OpenCall, after_call_step, after_event, call_of, change_of, moment}
use Rattle.mt_promise.specs.Legal.{Legal, MayCommit, MayHappen, MayStep, MayStepAt}

-- of a list and one more item, an item is the last, or it is of the list
split_last : (xs cs rest : List Change) (c d : Change) → xs ++ c ∷ [] ≡ cs ++ d ∷ rest → ((xs ≡ cs) × (c ≡ d)) ⊎ ((init : List Change) × (xs ≡ cs ++ d ∷ init))
split_last [] [] rest c d e = inl (refl, cc)
split_last [] (y ∷ []) rest c d e = absurd (cc)
split_last [] (y ∷ z ∷ cs) rest c d e = absurd (cc)
split_last (x ∷ xs) [] rest c d e = let head : x ≡ d = cc in inr (xs, ap (λ (y : Change). y ∷ xs) head)
split_last (x ∷ xs) (y ∷ cs) rest c d e =
    let head : x ≡ y = cc in
    let tails : xs ++ c ∷ [] ≡ cs ++ d ∷ rest = cc in
    elim (split_last xs cs rest c d tails) [
      | inl last ↦ inl (ap (λ (l : List Change). x ∷ l) last.0 ∙ ap (λ (z : Change). z ∷ cs) head, last.1)
      | inr early ↦ inr (early.0, ap (λ (l : List Change). x ∷ l) early.1 ∙ ap (λ (z : Change). z ∷ (cs ++ d ∷ early.0)) head)
    ]

never_empty : (cs rest : List Change) (c : Change) → [] ≡ cs ++ c ∷ rest → ⊥
never_empty [] rest c e = cc
never_empty (d ∷ cs) rest c e = cc

module _ (C : ℕ) (cs : List Change) (key : List ℕ) where
  -- a commit of a call
  by_commit : (past : History) (call : OpenCall) (request : Request) (number : ℕ) (rest : List Change) → MayCommit C past call request number
      → ((init : List Change) → (moment past).commits ≡ cs ++ Drop key ∷ init → IsSome (get (after C cs) key))
      → (moment past).commits ++ change_of request ≡ cs ++ Drop key ∷ rest → IsSome (get (after C cs) key)
  by_commit past call (PutRequest k sets) number rest may before e = elim (split_last (moment past).commits cs rest (Put k sets) (Drop key) e) [
    | inl last ↦ absurd (let clash = last.1 in cc)
    | inr early ↦ before early.0 early.1
  ]
  by_commit past call (PutIf k sets version) number rest may before e = elim (split_last (moment past).commits cs rest (Put k sets) (Drop key) e) [
    | inl last ↦ absurd (let clash = last.1 in cc)
    | inr early ↦ before early.0 early.1
  ]
  by_commit past call (Remove k) number rest may before e = elim (split_last (moment past).commits cs rest (Drop k) (Drop key) e) [
    | inl last ↦
        let drops : Drop k ≡ Drop key = last.1 in
        let same : k ≡ key = cc in
        subst (λ (l : List ℕ). IsSome (get (after C cs) l)) same (subst (λ (l : List Change). IsSome (get (after C l) k)) last.0 may.2)
    | inr early ↦ before early.0 early.1
  ]
  by_commit past call _ number rest may before e = absurd may

-- a step of a call leaves the commits, or is one
record IsCommitOf (m : Moment) (r : Option OpenCall) (o : Outcome) (then_commits : List Change) : Type 0 where
  call : OpenCall
  found : r ≡ Some call
  number : ℕ
  commits : o ≡ Commit number
  more : then_commits ≡ m.commits ++ change_of call.request

by_call : (m : Moment) (r : Option OpenCall) (o : Outcome) (note : ℕ) → ((after_call_step m r o note).commits ≡ m.commits) ⊎ IsCommitOf m r o (after_call_step m r o note).commits
by_call m None o note = inl refl
by_call m (Some call) (Commit number) note = inr (record { call = call; found = refl; number = number; commits = refl; more = refl })
by_call m (Some call) _ note = inl refl

by_event : (m : Moment) (e : Event) (o : Outcome) (note : ℕ)
    → ((after_event m e o note).commits ≡ m.commits) ⊎ ((step : CallNo) × (e ≡ Step step) × IsCommitOf m (call_of step.0 m.calls) o (after_event m e o note).commits)
by_event m (Step step) o note = elim (by_call m (call_of step.0 m.calls) o note) [ inl same ↦ inl same | inr more ↦ inr (step, refl, more) ]
by_event m (Begin pass request) (Call number) note = inl refl
by_event m (Apply view) (Applied number) note = inl refl
by_event m (ViewDrop view) Dropped note = inl refl
by_event m Advance (Epoch number) note = inl refl
by_event m (ViewRead view floor start limit) o note = inl refl
by_event m Collect o note = inl refl
by_event m _ _ note = inl refl

pub removed_row : (C : ℕ) (h : History) → Legal C h → (cs rest : List Change) (key : List ℕ) → (moment h).commits ≡ cs ++ Drop key ∷ rest → IsSome (get (after C cs) key)
removed_row C [] legal cs rest key e = absurd (never_empty cs rest (Drop key) e)
removed_row C (x ∷ h) legal cs rest key e = elim (by_event (moment h) x.event x.outcome x.opens) [
  | inl same ↦ removed_row C h legal.0 cs rest key (sym same ∙ e)
  | inr step ↦
      let is = step.2 in
      let may = subst (λ (v : Event). MayHappen C h v x.outcome x.opens) step.1 legal.1 in
      let at = subst (λ (r : Option OpenCall). MayStepAt C h r x.outcome x.opens) is.found may in
      let commit = subst (λ (o : Outcome). MayStep C h is.call o x.opens) is.commits at in
      by_commit C cs key h is.call is.call.request is.number rest commit (λ init early. removed_row C h legal.0 cs init key early) (sym is.more ∙ e)
]
