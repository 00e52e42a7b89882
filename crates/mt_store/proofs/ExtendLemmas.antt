-- What calls of a map add to its commits.
use Rattle.std.proofs.Common.{◌≡◌, ℕ, zero, suc, ◌∙◌, ◌++◌, ◌∷◌, List, [], Bool, true, false, Option, Result, Ok, Err, inl, inr, ap, sym, refl, subst}
use Rattle.std.specs.Prelude.{MatchBool, is_some, ◌&&◌}
use Rattle.std.proofs.lemmas.List.{append_assoc, append-nil}
use Rattle.mt_types.specs.Rows.{Rows}
use Rattle.mt_types.specs.declared.row.Change.{Change}
use Rattle.mt_types.specs.declared.refusal.Refusal.{Refusal}
use Rattle.mt_types.specs.declared.event.Answer.{Answer}
use Rattle.mt_types.specs.declared.event.Answer.TheVariants.{Absent, Found, Stored, Removed, Rows as RowsAnswer, Tidied, Built}
use Rattle.mt_types.specs.declared.event.Event.TheVariants.{Collect}
use Rattle.mt_types.specs.declared.event.Outcome.{Outcome}
use Rattle.mt_types.specs.declared.event.Request.{Request}
use Rattle.mt_types.specs.declared.event.Request.TheVariants.{Get, Put, PutIf, Remove, Range, Tidy, Build}
use Rattle.mt_types.specs.declared.event.TidyRule.TheVariants.{Nothing}
use Rattle.mt_promise.specs.Alone.{IsPlain}
use Rattle.mt_promise.specs.History.{change_of, happening, moment}
use Rattle.mt_index.specs.Events.{Makes}
use Rattle.mt_index.specs.Stands.{MachineView}
use Rattle.mt_map.specs.Calls.{CameTo, removed_by}
use Rattle.mt_map.specs.Tidies.{MapComesTo, MapView, Purges, PurgesIfEmptied, Removes, Tidies, TidiesAll, TidiesOnce}
use Rattle.mt_store.specs.Extending.{Adds}

pub adds_none : (s t : MachineView) → t ≡ s → Adds s [] t
adds_none s t same = subst (λ (m : MachineView). Adds s [] m) (sym same) (refl, λ h st. (h, st, sym (append-nil (moment h).commits)))

pub adds_both : (s m t : MachineView) (made more : List Change) → Adds s made m → Adds m more t → Adds s (made ++ more) t
adds_both s m t made more one two = (
  two.0 ∙ one.0,
  λ h st.
      let (g, there, is) = one.1 h st in
      let (k, last, is_last) = two.1 g there in
      (k, last, is_last ∙ (ap (λ (cs : List Change). cs ++ more) is ∙ append_assoc (moment h).commits made more)),
)

-- and nothing after it
adds_first : (s m t : MachineView) (made : List Change) → Adds s made m → Adds m [] t → Adds s made t
adds_first s m t made one two = subst (λ (cs : List Change). Adds s cs t) (append-nil made) (adds_both s m t made [] one two)

-- ---- a call alone
-- the change that a call makes by this answer
abbrev pub made_by : Request → Answer → List Change
made_by request (Stored number) = change_of request
made_by request (Removed number) = change_of request
made_by request _ = []

pub made_is : (map : Rows) (commits : ℕ) (request : Request) (answer : Answer) (made : List Change) → IsPlain map commits request answer made → made ≡ made_by request answer
made_is map commits (Get key asked) Absent made p = p.1
made_is map commits (Get key asked) (Found row) made p = p.1
made_is map commits (Put key sets) (Stored number) made p = p.1
made_is map commits (PutIf key sets version) (Stored number) made (same, next, is) = is
made_is map commits (Remove key) (Removed number) made (some, next, is) = is
made_is map commits (Remove key) Absent made p = p.1
made_is map commits (Range start limit asked) (RowsAnswer pairs) made p = p.1
made_is map commits (Tidy key) (Tidied rule) made p = p
made_is map commits (Build spec) (Built number) made p = p
made_is map commits _ _ made p = absurd p

abbrev pub made_from : Request → Result Answer Refusal → List Change
made_from request (Ok answer) = made_by request answer
made_from request (Err refusal) = []

came : (s t : MachineView) (request : Request) (result : Result Answer Refusal) → CameTo s request result t → Adds s (made_from request result) t
came s t request (Ok answer) c = (
  c.columns,
  λ h st.
      let a = c.answered.plainly h st in
      let same : a.plain.made ≡ made_by request answer = subst (λ (x : Answer). a.plain.made ≡ made_by request x) c.answered.is_its (made_is _ _ request c.answered.reply.answer a.plain.made a.plain.plain) in
      (a.then, a.stands, a.plain.commits ∙ ap (λ (cs : List Change). (moment h).commits ++ cs) same),
)
came s t request (Err refusal) c = (c.columns, λ h st. let r = c.refused.plainly h st in (r.then, r.stands, r.nothing.commits ∙ sym (append-nil (moment h).commits)))

pub comes : (s t : MapView) (request : Request) (result : Result Answer Refusal) → MapComesTo s request result t → Adds s.machine (made_from request result) t.machine
comes s t request result (inl m) = came s.machine t.machine request result m.came
comes s t request result (inr (refused, limits, same)) = subst (λ (r : Result Answer Refusal). Adds s.machine (made_from request r) t.machine) (sym refused) (adds_none s.machine t.machine (ap (λ (m : MapView). m.machine) same))

-- ---- tidies, and what frees the nodes that they took out
tidies : (n : ℕ) (s : MachineView) (key : List ℕ) (t : MachineView) → Tidies n s key t → Adds s [] t
tidies zero s key t same = adds_none s t same
tidies (suc n) s key t (m, rule, rest, c, some) = adds_both s m t [] [] (tidies n s key m rest) (came m t (Tidy key) (Ok (Tidied rule)) c)

once : (s t : MachineView) (key : List ℕ) → TidiesOnce s key false t → Adds s [] t
once s t key (inl c) = came s t (Tidy key) (Ok (Tidied Nothing)) c
once s t key (inr (refusal, c)) = came s t (Tidy key) (Err refusal) c

tidied : (s : MachineView) (key : List ℕ) (t : MachineView) → TidiesAll s key t → Adds s [] t
tidied s key t (inl (n, some, few, all)) = tidies n s key t all
tidied s key t (inr (n, m, few, all, last)) = adds_both s m t [] [] (tidies n s key m all) (once m t key last)

freed : (s t : MachineView) (outcome : Outcome) → Makes s Collect outcome t → Adds s [] t
freed s t outcome makes = (makes.columns, λ h st. let (opens, there) = makes.stands h st in (happening Collect outcome opens ∷ h, there, sym (append-nil (moment h).commits)))

purged : (s : MachineView) (key : List ℕ) (t : MachineView) → Purges s key t → Adds s [] t
purged s key t p = adds_both s p.tidied t [] [] (tidied s key p.tidied p.tidies) (freed p.tidied t _ p.frees)

purged_if : (empty : Bool) (s : MachineView) (key : List ℕ) (t : MachineView) → MatchBool empty (Purges s key t) (t ≡ s) → Adds s [] t
purged_if true s key t p = purged s key t p
purged_if false s key t same = adds_none s t same

follows : (tidies : Bool) (s : MachineView) (key : List ℕ) (t : MachineView) → MatchBool tidies (PurgesIfEmptied s key t) (t ≡ s) → Adds s [] t
follows true s key t (empty, is, p) = purged_if empty s key t p
follows false s key t same = adds_none s t same

pub removes : (s t : MapView) (key : List ℕ) (found : Result (Option ℕ) Refusal) → Removes s key found t → Adds s.machine (made_from (Remove key) (removed_by found)) t.machine
removes s t key (Ok found) r = adds_first s.machine r.removed t.machine (made_from (Remove key) (removed_by (Ok found))) (came s.machine r.removed (Remove key) (removed_by (Ok found)) r.came) (follows (s.tidies && is_some found) r.removed key t.machine r.then)
removes s t key (Err refusal) (inl m) = came s.machine t.machine (Remove key) (Err refusal) m.came
removes s t key (Err refusal) (inr (short, limits, same)) = adds_none s.machine t.machine (ap (λ (m : MapView). m.machine) same)
