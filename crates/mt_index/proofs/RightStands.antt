-- What a step refuses or answers is right.
use Rattle.std.proofs.Common.{ℕ, ◌≡◌, ◌≢◌, ◌≤◌, ◌⊎◌, inl, inr, cond, List, ◌∷◌, length, Option, Some, None, refl, sym, ap, ◌∙◌}
use Rattle.std.specs.FinMap as fin
use Rattle.std.specs.FinMap.{get}
use Rattle.std.specs.Cmp.{IsTotalOrder}
use Rattle.std.specs.Cmp.Lexicographic.{nat_list_cmp_total}
use Rattle.std.specs.declared.cmp.Ordering.{Ordering}
use Rattle.std.specs.declared.cmp.Ordering.TheVariants.{Less, Equal, Greater}
use Rattle.std.specs.Ordering.{is_eq}
use Rattle.std.proofs.lemmas.Cmp.{tied_itself}
use Rattle.mt_types.specs.Keys.{key_cmp}
use Rattle.mt_types.specs.Rows.{Rows, version_of}
use Rattle.mt_types.specs.declared.row.Row.{Row}
use Rattle.mt_types.specs.declared.event.Answer.{Answer}
use Rattle.mt_types.specs.declared.event.Answer.TheVariants.{Absent, Found as FoundAnswer, Stored as StoredAnswer, Removed, Rows as RowsAnswer, Tidied, Built}
use Rattle.mt_types.specs.declared.refusal.Refusal.{Refusal}
use Rattle.mt_types.specs.declared.refusal.Refusal.TheVariants.{NoMemory, ArenaFull, FeedFull, Spent, OtherVersion}
use Rattle.mt_promise.specs.History.{History, OpenCall, moment, rows}
use Rattle.mt_promise.specs.RightAnswers.{RightAnswer, Lacks, HasVersion}
use Rattle.mt_promise.specs.Legal.{MayEnd}
use Rattle.mt_promise.proofs.HistoryLemmas.{Sometime-here}
use Rattle.mt_slice.specs.Place.{AreBytes}
use Rattle.mt_commit.specs.Log.{slowest}
use Rattle.mt_commit.specs.Deltas.{with_row}
use Rattle.mt_commit.proofs.RowLemmas.{get-with_row}
use Rattle.mt_chart.specs.Tree.{Arena}
use Rattle.mt_tree.specs.Seen.{arena_seen}
use Rattle.mt_works.specs.declared.work.Work.{Work}
use Rattle.mt_works.specs.declared.work.Work.TheVariants.{Get as GetWork, Write as WriteWork, Range as RangeWork, Tidy as TidyWork, Build as BuildWork}
use Rattle.mt_steps.specs.Step.{RowIs, IsRight, MayRefuse, TellsVersion, blocked_by}
use Rattle.mt_write.specs.declared.writing.Edit.{Edit}
use Rattle.mt_write.specs.declared.writing.Edit.TheVariants.{Put as PutEdit, Remove as RemoveEdit}
use Rattle.mt_write.specs.Held.{edit_request}
use Rattle.mt_works.specs.Works.{request_of, held}
use Rattle.mt_index.specs.Stands.{MachineView, WasBlocked, IsPast, Stands}
use Rattle.mt_index.proofs.PastLemmas.{right_range}

pub same_option : {A : Type 0} (x y : Option A) → ((r : A) → (x ≡ Some r) → (y ≡ Some r)) → ((r : A) → (y ≡ Some r) → (x ≡ Some r)) → x ≡ y
same_option None None f g = refl
same_option None (Some y) f g = g y refl
same_option (Some x) y f g = sym (f x refl)

-- the row that the tree has at a key is that of the history
pub row_is : (s : MachineView) (h : History) (st : Stands s h) (key : List ℕ) (there : Option Row) → AreBytes key → RowIs s.tree key there → get (rows s.columns (moment h)) key ≡ there
row_is s h st key there bytes is = same_option _ _ (λ r e. (is r).0 ((st.content key bytes r).1 e)) (λ r e. (st.content key bytes r).0 ((is r).1 e))

-- ---- a row at a key of the history's rows
key_order : IsTotalOrder key_cmp
key_order = nat_list_cmp_total

key_apart : fin.IsAntisymmetric key_cmp
key_apart = fin.slice_cmp-IsAntisymmetric fin.nat_cmp-IsAntisymmetric

pub put_get : (rs : Rows) (key q : List ℕ) (then : Option Row) → ((q ≡ key) × (get (with_row key then rs) q ≡ then)) ⊎ ((q ≢ key) × (get (with_row key then rs) q ≡ get rs q))
put_get rs key q then = elim (key_cmp q key) as (λ r. key_cmp q key ≡ r → ((q ≡ key) × (get (with_row key then rs) q ≡ then)) ⊎ ((q ≢ key) × (get (with_row key then rs) q ≡ get rs q))) [
  | Less ↦ λ e. inr (apart e (λ c. let clash : Less ≡ Equal = c in cc), get-with_row key then rs q ∙ ap (λ o. cond (is_eq o) then (get rs q)) e)
  | Equal ↦ λ e. inl (key_apart q key e, get-with_row key then rs q ∙ ap (λ o. cond (is_eq o) then (get rs q)) e)
  | Greater ↦ λ e. inr (apart e (λ c. let clash : Greater ≡ Equal = c in cc), get-with_row key then rs q ∙ ap (λ o. cond (is_eq o) then (get rs q)) e)
] refl
  where
    apart : {o : Ordering} → key_cmp q key ≡ o → (o ≡ Equal → ⊥) → q ≢ key
    apart e never same = never (sym e ∙ ap (λ (k : List ℕ). key_cmp k key) same ∙ itself)
      where
        itself : key_cmp key key ≡ Equal
        itself = tied_itself key_order key

-- ---- refusals and answers, by the kind of the call
-- a write may end so
end_write : (s : MachineView) (past : History) (st : Stands s past) (began : ℕ) → began ≤ length past → (key : List ℕ) (edit : Edit) (refusal : Refusal) → WasBlocked began past (blocked_by refusal) → MayRefuse (edit_request key edit) refusal → TellsVersion s.tree (edit_request key edit) refusal
    → MayEnd s.columns past began (edit_request key edit) refusal
end_write s past st began since key (PutEdit sets None) NoMemory was m told = tt
end_write s past st began since key (PutEdit sets None) ArenaFull was m told = tt
end_write s past st began since key (PutEdit sets None) (FeedFull slowest) was m told = was
end_write s past st began since key (PutEdit sets None) Spent was m told = tt
end_write s past st began since key (PutEdit sets None) _ was m told = absurd m
end_write s past st began since key (PutEdit sets (Some version)) NoMemory was m told = tt
end_write s past st began since key (PutEdit sets (Some version)) ArenaFull was m told = tt
end_write s past st began since key (PutEdit sets (Some version)) (FeedFull slowest) was m told = was
end_write s past st began since key (PutEdit sets (Some version)) Spent was m told = tt
end_write s past st began since key (PutEdit sets (Some version)) (OtherVersion other) was m told =
    (m, Sometime-here began (HasVersion s.columns key other) past since (ap version_of (row_is s past st key told.there told.bytes told.stands) ∙ told.is))
end_write s past st began since key (PutEdit sets (Some version)) _ was m told = absurd m
end_write s past st began since key RemoveEdit NoMemory was m told = tt
end_write s past st began since key RemoveEdit (FeedFull slowest) was m told = was
end_write s past st began since key RemoveEdit Spent was m told = tt
end_write s past st began since key RemoveEdit _ was m told = absurd m

pub may_end : (s : MachineView) (past : History) (st : Stands s past) (began : ℕ) → began ≤ length past → (work : Work) (refusal : Refusal) → WasBlocked began past (blocked_by refusal) → MayRefuse (request_of work) refusal → TellsVersion s.tree (request_of work) refusal
    → MayEnd s.columns past began (request_of work) refusal
may_end s past st began since (WriteWork g) refusal was m told = end_write s past st began since g.key g.edit refusal was m told
may_end s past st began since _ NoMemory was m told = tt
may_end s past st began since _ _ was m told = absurd m

-- and what it answers is right
answer_write : (s : MachineView) (h : History) (st : Stands s h) (call : OpenCall) (key : List ℕ) (edit : Edit) (committed : Option ℕ) (answer : Answer) (past : List Arena) → call.began ≤ length h → call.committed ≡ committed → IsRight past s.tree (edit_request key edit) committed answer
    → RightAnswer s.columns h call (edit_request key edit) answer 0
answer_write s h st call key (PutEdit sets None) committed (StoredAnswer number) past began is m = is ∙ m
answer_write s h st call key (PutEdit sets (Some version)) committed Absent past began is m = absurd m
answer_write s h st call key (PutEdit sets (Some version)) committed (FoundAnswer row) past began is m = absurd m
answer_write s h st call key (PutEdit sets (Some version)) committed (StoredAnswer number) past began is m = is ∙ m
answer_write s h st call key (PutEdit sets (Some version)) committed (Removed number) past began is m = absurd m
answer_write s h st call key (PutEdit sets (Some version)) committed (RowsAnswer pairs) past began is m = absurd m
answer_write s h st call key (PutEdit sets (Some version)) committed (Tidied rule) past began is m = absurd m
answer_write s h st call key (PutEdit sets (Some version)) committed (Built view) past began is m = absurd m
answer_write s h st call key RemoveEdit committed Absent past began is (none, bytes, there) = (is ∙ none, Sometime-here call.began (Lacks s.columns key) h began (row_is s h st key None bytes there))
answer_write s h st call key RemoveEdit committed (FoundAnswer row) past began is m = absurd m
answer_write s h st call key RemoveEdit committed (StoredAnswer number) past began is m = absurd m
answer_write s h st call key RemoveEdit committed (Removed number) past began is m = is ∙ m
answer_write s h st call key RemoveEdit committed (RowsAnswer pairs) past began is m = absurd m
answer_write s h st call key RemoveEdit committed (Tidied rule) past began is m = absurd m
answer_write s h st call key RemoveEdit committed (Built view) past began is m = absurd m
answer_write s h st call key (PutEdit sets None) committed _ past began is m = absurd m

pub right_answer : (s : MachineView) (h : History) (st : Stands s h) (call : OpenCall) (work : Work) (answer : Answer) → call.began ≤ length h → call.committed ≡ (held work).committed → (past : List Arena) → IsPast s.columns call.began call.from h (arena_seen s.tree ∷ past) → IsRight past s.tree (request_of work) (held work).committed answer
    → RightAnswer s.columns h call (request_of work) answer 0
right_answer s h st call (WriteWork g) answer began committed past passed m = answer_write s h st call g.key g.edit (held (WriteWork g)).committed answer past began committed m
right_answer s h st call (GetWork g) Absent began committed past passed (bytes, lacked) = passed.lacked g.key bytes lacked
right_answer s h st call (GetWork g) (FoundAnswer row) began committed past passed (bytes, stood) = passed.stood g.columns g.key row bytes stood
right_answer s h st call (GetWork g) (StoredAnswer number) began committed past passed m = absurd m
right_answer s h st call (RangeWork g) (RowsAnswer pairs) began committed past passed m = right_range s.columns call.began call.from h (arena_seen s.tree ∷ past) g.start g.columns g.limit pairs began passed st.keys m
right_answer s h st call (TidyWork g) (Tidied rule) began committed past passed m = tt
right_answer s h st call (BuildWork g) Absent began committed past passed m = absurd m
right_answer s h st call _ _ began committed past passed m = absurd m

-- each row of a history is under a key of bytes
abbrev pub HasKeys : ℕ → History → Type 0
HasKeys C h = (key : List ℕ) (row : Row) → get (rows C (moment h)) key ≡ Some row → AreBytes key
