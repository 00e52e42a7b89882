-- What a map that is asked answers, and the changes that it makes: those of a plain map of its rows.
use Rattle.std.proofs.Common.{ℕ, List, length, Option, Result, Ok, Err, inl, inr, refl, sym, subst}
use Rattle.mt_types.specs.declared.event.Answer.{Answer}
use Rattle.mt_types.specs.declared.event.Request.{Request}
use Rattle.mt_types.specs.declared.event.Request.TheVariants.{Get, Put, PutIf, Remove, Range, Tidy, Build}
use Rattle.mt_types.specs.declared.refusal.Refusal.{Refusal}
use Rattle.mt_types.specs.declared.row.Change.{Change}
use Rattle.mt_promise.specs.Alone.{IsPlain}
use Rattle.mt_promise.specs.History.{History, moment, rows}
use Rattle.mt_index.specs.Stands.{MachineView, Stands}
use Rattle.mt_map.specs.Calls.{CameTo, removed_by}
use Rattle.mt_map.specs.Tidies.{ChangeComesTo, MapComesTo, MapView, Removes}
use Rattle.mt_store.specs.Extending.{Adds}
use Rattle.mt_store.proofs.ExtendLemmas.{comes, made_from, made_is, removes}
use Rattle.mt_lives.specs.Turns.{AnswersAs}

-- a machine answers as a plain map of its rows, whatever history it is at
abbrev pub Plainly : MachineView → Request → Result Answer Refusal → Type 0
Plainly s request result = (h : History) → Stands s h → AnswersAs (rows s.columns (moment h)) (length (moment h).commits) request result (made_from request result)

by_call : (s t : MachineView) (request : Request) (result : Result Answer Refusal) → CameTo s request result t → Plainly s request result
by_call s t request (Ok answer) c = λ h stands.
    let a = c.answered.plainly h stands in
    let map = rows s.columns (moment h) in
    let n = length (moment h).commits in
    let plain : IsPlain map n request answer a.plain.made = subst (λ (x : Answer). IsPlain map n request x a.plain.made) c.answered.is_its a.plain.plain in
    subst (λ (cs : List Change). IsPlain map n request answer cs) (made_is map n request answer a.plain.made plain) plain
by_call s t request (Err refusal) c = λ h stands. ((c.refused.plainly h stands).nothing.plain, refl)

by_copied : (s t : MapView) (request : Request) (result : Result Answer Refusal) → MapComesTo s request result t → Plainly s.machine request result
by_copied s t request result (inl m) = by_call s.machine t.machine request result m.came
by_copied s t request result (inr (refused, limits, same)) = subst (λ (r : Result Answer Refusal). Plainly s.machine request r) (sym refused) (λ h stands. (tt, refl))

by_remove : (s t : MapView) (key : List ℕ) (found : Result (Option ℕ) Refusal) → Removes s key found t → Plainly s.machine (Remove key) (removed_by found)
by_remove s t key (Ok found) r = by_call s.machine r.removed (Remove key) (removed_by (Ok found)) r.came
by_remove s t key (Err refusal) (inl m) = by_call s.machine t.machine (Remove key) (Err refusal) m.came
by_remove s t key (Err refusal) (inr (short, limits, same)) = subst (λ (r : Refusal). Plainly s.machine (Remove key) (Err r)) (sym short) (λ h stands. (tt, refl))

abbrev pub Asked : MachineView → Request → Result Answer Refusal → MachineView → Type 0
Asked s request result t = Adds s (made_from request result) t × Plainly s request result

of_copied : (s t : MapView) (request : Request) (result : Result Answer Refusal) → MapComesTo s request result t → Asked s.machine request result t.machine
of_copied s t request result c = (comes s t request result c, by_copied s t request result c)

-- what a map does that is asked
pub asked : (s t : MapView) (request : Request) (result : Result Answer Refusal) → ChangeComesTo s request result t → Asked s.machine request result t.machine
asked s t (Get key columns) result c = of_copied s t (Get key columns) result c
asked s t (Put key sets) result c = of_copied s t (Put key sets) result c
asked s t (PutIf key sets version) result c = of_copied s t (PutIf key sets version) result c
asked s t (Remove key) result (found, is, removed) =
    subst (λ (r : Result Answer Refusal). Asked s.machine (Remove key) r t.machine) (sym is)
    (removes s t key found removed, by_remove s t key found removed)
asked s t (Range start limit columns) result c = of_copied s t (Range start limit columns) result c
asked s t (Tidy key) result c = of_copied s t (Tidy key) result c
asked s t (Build spec) result c = of_copied s t (Build spec) result c
