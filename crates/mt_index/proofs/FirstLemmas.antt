-- The call in `first`, before those in the map.
use Rattle.std.proofs.Common.{ℕ, ◌≡◌, ◌≤◌, ◌+◌, ◌++◌, false, [], ◌∷◌, length, Option, Some, None, inl, inr, refl, sym, ap, subst, ◌∙◌, arith}
use Rattle.std.proofs.lemmas.Bool.Decides.{eqb_tells}
use Rattle.mt_index.specs.declared.calls.Call.{Call}
use Rattle.mt_index.specs.Calls.{CallsView, AreBegun, call_at, with_changed, with_work, without, with_first, is_of, IsBuiltCall, FindsCall, Finds}
use Rattle.mt_index.specs.declared.calls.Found.{Found}
use Rattle.mt_index.specs.declared.calls.Found.TheVariants.{Missing, Built, Stepped}
use Rattle.mt_arena.specs.Arena.{ArenaView}
use Rattle.mt_commit.specs.Log.{LogView}
use Rattle.mt_index.proofs.NumberLemmas.{Entries, call_at-there, found-here, found-there, changed-here, changed-there, without-here, without-there, insert-next, remove-without, set-changed}
use Rattle.std.specs.Map.{set_value, remove_entry}
use Rattle.std.specs.Ordering.{nat_cmp}
use Rattle.std.specs.BTreeMap.{insert_entry, is_at}

-- if it has another number
pub call_other : (number : ℕ) (first : Option (ℕ × Call)) (others : Entries) → is_of number first ≡ false → call_at number (with_first first others) ≡ call_at number others
call_other number None others is = refl
call_other number (Some k) others is = call_at-there number k others is

pub changed_other : (change : Call → Call) (number : ℕ) (first : Option (ℕ × Call)) (others : Entries) → is_of number first ≡ false → with_changed change number (with_first first others) ≡ with_first first (with_changed change number others)
changed_other change number None others is = refl
changed_other change number (Some k) others is = changed-there number k others is change

pub without_other : (number : ℕ) (first : Option (ℕ × Call)) (others : Entries) → is_of number first ≡ false → without number (with_first first others) ≡ with_first first (without number others)
without_other number None others is = refl
without_other number (Some k) others is = without-there number k others is

-- one more call comes after all others
pub append_other : (first : Option (ℕ × Call)) (others : Entries) (new : ℕ × Call) → with_first first (others ++ new ∷ []) ≡ with_first first others ++ new ∷ []
append_other None others new = refl
append_other (Some k) others new = refl

pub no_calls : (calls : Entries) → length calls ≡ 0 → calls ≡ []
no_calls [] none = refl
no_calls (k ∷ calls) none = absurd (omega (arith, none))

-- how many they are
pub many_changed : (change : Call → Call) (number : ℕ) (calls : Entries) → length (with_changed change number calls) ≡ length calls
many_changed change number [] = refl
many_changed change number (k ∷ calls) = elim (eqb_tells k.0 number) [
  | inl p ↦ ap (λ (l : Entries). length l) (changed-here number k calls p.0 change)
  | inr p ↦ ap (λ (l : Entries). length l) (changed-there number k calls p.0 change) ∙ (let rest = many_changed change number calls in omega (arith, rest))
]

pub many_without : (number : ℕ) (calls : Entries) → length (without number calls) ≤ length calls
many_without number [] = omega arith
many_without number (k ∷ calls) = elim (eqb_tells k.0 number) [
  | inl p ↦ (let same = ap (λ (l : Entries). length l) (without-here number k calls p.0) in omega (arith, same))
  | inr p ↦ (let same = ap (λ (l : Entries). length l) (without-there number k calls p.0) in let rest = many_without number calls in omega (arith, same, rest))
]

pub many_appended : (calls : Entries) (new : ℕ × Call) → length (calls ++ new ∷ []) ≡ length calls + 1
many_appended [] new = refl
many_appended (k ∷ calls) new = let rest = many_appended calls new in omega (arith, rest)

-- ---- what the map of the others does, as all calls see it
begun_others : (begun : ℕ) (first : Option (ℕ × Call)) (others : Entries) → AreBegun begun (with_first first others) → AreBegun begun others
begun_others begun None others below = below
begun_others begun (Some k) others below = below.1

pub inserted_last : (begun : ℕ) (call : Call) (first : Option (ℕ × Call)) (others after : Entries) → AreBegun begun (with_first first others) → after ≡ insert_entry nat_cmp others (begun + 1) call
    → with_first first after ≡ with_first first others ++ (begun + 1, call) ∷ []
inserted_last begun call first others after below is =
    ap (with_first first) (is ∙ insert-next (begun + 1) call begun others (begun_others begun first others below) (omega arith)) ∙ append_other first others (begun + 1, call)

pub removed_other : (number : ℕ) (first : Option (ℕ × Call)) (others after : Entries) → is_of number first ≡ false → after ≡ remove_entry (is_at (nat_cmp number)) others
    → with_first first after ≡ without number (with_first first others)
removed_other number first others after other is = ap (with_first first) (is ∙ remove-without number others) ∙ sym (without_other number first others other)

pub stepped_other : (number : ℕ) (first : Option (ℕ × Call)) (others after : Entries) (old new : Call) → is_of number first ≡ false → call_at number others ≡ Some old
    → after ≡ set_value (is_at (nat_cmp number)) others new → new ≡ with_work new.work old → with_first first after ≡ with_changed (with_work new.work) number (with_first first others)
stepped_other number first others after old new other found is same =
    ap (with_first first) (is ∙ set-changed (with_work new.work) number others old new found same) ∙ sym (changed_other (with_work new.work) number first others other)

-- ---- what a step has found and done, as all calls see it
-- it has changed the work alone
pub kept_call : (now C : ℕ) (call new : Call) (a after : ArenaView) (log left : LogView) (found : Found) → FindsCall now C call new a after log left found → new ≡ with_work new.work call
kept_call now C call new a after log left Missing finds = absurd finds
kept_call now C call new a after log left Built finds = subst (λ (c : Call). new ≡ with_work new.work c) finds.1 refl
kept_call now C call new a after log left (Stepped stepped) finds = finds.1.same_call

-- a change that leaves a call as it was leaves all calls as they were
unchanged : (change : Call → Call) (number : ℕ) (calls : Entries) (call : Call) → call_at number calls ≡ Some call → change call ≡ call → with_changed change number calls ≡ calls
unchanged change number [] call there is = refl
unchanged change number (k ∷ calls) call there is = elim (eqb_tells k.0 number) [
  | inl p ↦ changed-here number k calls p.0 change ∙ (let own = found-here number k calls p.0 call there in ap (λ (c : Call). (k.0, c) ∷ calls) (ap change own ∙ is ∙ sym own))
  | inr p ↦ changed-there number k calls p.0 change ∙ ap (λ (l : Entries). k ∷ l) (unchanged change number calls call (found-there number k calls p.0 call there) is)
]

pub finds_so : (now C number : ℕ) (old then_calls : CallsView) (call new : Call) (a after : ArenaView) (log left : LogView) (found : Found) → FindsCall now C call new a after log left found → call_at number old.calls ≡ Some call
    → then_calls ≡ record old { calls = with_changed (with_work new.work) number old.calls } → Finds now C number old then_calls a after log left found
finds_so now C number old then_calls call new a after log left Missing finds there changed = absurd finds
finds_so now C number old then_calls call new a after log left Built finds there changed = (
  subst IsBuiltCall (sym there) finds.0,
  changed ∙ ap (λ (calls : Entries). record old { calls = calls }) (unchanged (with_work new.work) number old.calls call there (ap (λ (c : Call). with_work c.work call) finds.1)),
  finds.2,
  finds.3,
)
finds_so now C number old then_calls call new a after log left (Stepped stepped) finds there changed = (
  (λ built. finds.0 (subst IsBuiltCall there built)),
  record { call = call; is_open = there; next = new; made = finds.1; changed = changed },
)
