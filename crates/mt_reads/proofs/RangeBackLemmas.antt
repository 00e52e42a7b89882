-- The rows that a walk back returns, up to a limit, are the range back of the map.
use Rattle.std.proofs.Common.{ℕ, ◌≡◌, ◌≤◌, ◌+◌, ◌-◌, ◌⊎◌, inl, inr, List, [], ◌∷◌, ◌++◌, length, refl, sym, ap, subst, ◌∙◌, arith}
use Rattle.std.specs.Prelude.{Option, Some, None, IfSome, IsSomeAnd, is_some}
use Rattle.std.proofs.lemmas.List.{length-append}
use Rattle.std.specs.FinMap.{get}
use Rattle.mt_types.specs.Rows.{Rows, shown}
use Rattle.mt_types.specs.declared.limits.TheConstants.{MAX_KEY_BYTES}
use Rattle.mt_types.specs.declared.row.Row.{Row}
use Rattle.mt_promise.specs.History.{History, moment, rows}
use Rattle.mt_index.specs.Stands.{MachineView, Stands}
use Rattle.mt_reads.specs.Back.{BackView, IsPrevious, GivesPrevious}
use Rattle.mt_reads.specs.Ranges.{IsNoneBefore, IsRangeBack, IsLast}

abbrev Shown : Type 0
Shown = List (List ℕ × Row)

-- a walk back has returned these pairs, from a bound on, and is at another
abbrev pub HasReturned : Rows → List ℕ → Option (List ℕ) → Option (List ℕ) → Shown → Type 0
HasReturned map asked before now [] = now ≡ before
HasReturned map asked before now (pair ∷ pairs) =
    (row : Row) × IsPrevious map before pair.0 row × (pair.1 ≡ shown asked row) × HasReturned map asked (Some pair.0) now pairs

module _ (map : Rows) (asked : List ℕ) where
  returns_more : (before now : Option (List ℕ)) (key : List ℕ) (row : Row) (pairs : Shown) → HasReturned map asked before now pairs → IsPrevious map now key row
      → HasReturned map asked before (Some key) (pairs ++ (key, shown asked row) ∷ [])
  returns_more before now key row [] is previous = (row, subst (λ (b : Option (List ℕ)). IsPrevious map b key row) is previous, refl, refl)
  returns_more before now key row (pair ∷ pairs) (its, first, is, more) previous = (its, first, is, returns_more (Some pair.0) now key row pairs more previous)

  returned_all : (before now : Option (List ℕ)) (limit : ℕ) (pairs : Shown) → HasReturned map asked before now pairs → length pairs ≤ limit → (length pairs ≡ limit) ⊎ IsNoneBefore map now
      → IsRangeBack map asked before limit pairs
  returned_all before now limit [] is few (inl full) = inl (sym full)
  returned_all before now limit [] is few (inr none) = inr (subst (IsNoneBefore map) is none)
  returned_all before now limit (pair ∷ pairs) (its, first, is, more) few ends = (
    its,
    first,
    is,
    omega (arith, few),
    returned_all (Some pair.0) now (limit - 1) pairs more (omega (arith, few)) (elim ends [
      | inl full ↦ inl (omega (arith, full))
      | inr none ↦ inr none
    ]),
  )

-- the key that a walk back spells is its bound
pub key_same : (bound : Option (List ℕ)) (key k : List ℕ) → bound ≡ Some k → IfSome bound (λ x. key ≡ x) → key ≡ k
key_same (Some x) key k is same = let its : x ≡ k = cc in same ∙ its
key_same None key k is same = absurd (let clash : ◌≡◌ {A = Option (List ℕ)} None (Some k) = is in cc)

-- the key that a walk back has returned isn't too long
pub fits_key : (bound : Option (List ℕ)) (key : List ℕ) → IsSomeAnd bound (λ x. length x ≤ MAX_KEY_BYTES) → IfSome bound (λ x. key ≡ x) → length key ≤ MAX_KEY_BYTES
fits_key (Some x) key fits same = subst (λ (k : List ℕ). length k ≤ MAX_KEY_BYTES) (sym same) fits
fits_key None key fits same = absurd fits

module _ (s : MachineView) (asked : List ℕ) (before : Option (List ℕ)) where
  pub record IsReturning (walk : BackView) (pairs : Shown) (many : ℕ) : Type 0 where
    pub machine : walk.machine ≡ s
    pub count : length pairs ≡ many
    pub returned : (h : History) → Stands s h → HasReturned (rows s.columns (moment h)) asked before walk.before pairs

  pub returning_begins : (walk : BackView) (pairs : Shown) → walk.machine ≡ s → walk.before ≡ before → pairs ≡ [] → IsReturning walk pairs 0
  returning_begins walk pairs same at none = record {
    machine = same;
    count = ap (λ (p : Shown). length p) none;
    returned = λ h stands. subst (HasReturned (rows s.columns (moment h)) asked before walk.before) (sym none) at;
  }

  module _ (walk new : BackView) (pairs : Shown) (many : ℕ) (r : IsReturning walk pairs many) where
    at_machine : (found : Option Row) → ((h : History) → Stands walk.machine h → GivesPrevious (rows walk.machine.columns (moment h)) walk.before found new.before)
        → (h : History) → Stands s h → GivesPrevious (rows s.columns (moment h)) walk.before found new.before
    at_machine found gives = subst (λ (m : MachineView). (h : History) → Stands m h → GivesPrevious (rows m.columns (moment h)) walk.before found new.before) r.machine gives

    pub returning_goes : (row : Row) (key : List ℕ) (more : Shown) → ((h : History) → Stands walk.machine h → GivesPrevious (rows walk.machine.columns (moment h)) walk.before (Some row) new.before)
        → new.machine ≡ walk.machine → IfSome new.before (λ x. key ≡ x) → more ≡ pairs ++ (key, shown asked row) ∷ [] → IsReturning new more (many + 1)
    returning_goes row key more gives same key_is more_is = record {
      machine = same ∙ r.machine;
      count = ap (λ (p : Shown). length p) more_is ∙ length-append pairs ((key, shown asked row) ∷ []) ∙ ap (λ (n : ℕ). n + 1) r.count;
      returned = λ h stands.
          let (k, is, previous) = at_machine (Some row) gives h stands in
          subst (HasReturned (rows s.columns (moment h)) asked before new.before) (sym more_is)
          (subst (λ (x : List ℕ). HasReturned (rows s.columns (moment h)) asked before new.before (pairs ++ (x, shown asked row) ∷ [])) (sym (key_same new.before key k is key_is))
          (subst (λ (b : Option (List ℕ)). HasReturned (rows s.columns (moment h)) asked before b (pairs ++ (k, shown asked row) ∷ [])) (sym is)
          (returns_more (rows s.columns (moment h)) asked before walk.before k row pairs (r.returned h stands) previous)));
    }

    pub returning_ends : (limit : ℕ) → many ≤ limit → ((h : History) → Stands walk.machine h → GivesPrevious (rows walk.machine.columns (moment h)) walk.before None new.before)
        → (h : History) → Stands s h → IsRangeBack (rows s.columns (moment h)) asked before limit pairs
    returning_ends limit few gives h stands =
        returned_all (rows s.columns (moment h)) asked before walk.before limit pairs (r.returned h stands) (let count = r.count in omega (arith, count, few)) (inr (at_machine None gives h stands).1)

    pub returning_fills : (limit : ℕ) → many ≡ limit → (h : History) → Stands s h → IsRangeBack (rows s.columns (moment h)) asked before limit pairs
    returning_fills limit full h stands =
        returned_all (rows s.columns (moment h)) asked before walk.before limit pairs (r.returned h stands) (let count = r.count in omega (arith, count, full)) (inl (r.count ∙ full))

-- ---- the last key
module _ (s : MachineView) (walk new : BackView) (same : walk.machine ≡ s) (all : walk.before ≡ None) where
  from_end : (found : Option Row) → ((h : History) → Stands walk.machine h → GivesPrevious (rows walk.machine.columns (moment h)) walk.before found new.before)
      → (h : History) → Stands s h → GivesPrevious (rows s.columns (moment h)) None found new.before
  from_end found gives =
      subst (λ (m : MachineView). (h : History) → Stands m h → GivesPrevious (rows m.columns (moment h)) None found new.before) same
      (subst (λ (b : Option (List ℕ)). (h : History) → Stands walk.machine h → GivesPrevious (rows walk.machine.columns (moment h)) b found new.before) all gives)

  pub last_lacks : ((h : History) → Stands walk.machine h → GivesPrevious (rows walk.machine.columns (moment h)) walk.before None new.before)
      → (h : History) → Stands s h → IsLast (rows s.columns (moment h)) None
  last_lacks gives h stands key = go (get (rows s.columns (moment h)) key) refl
    where
      go : (found : Option Row) → get (rows s.columns (moment h)) key ≡ found → get (rows s.columns (moment h)) key ≡ None
      go None is = is
      go (Some row) is = absurd ((from_end None gives h stands).1 key row is tt)

  pub last_found : (row : Row) (spelled key : List ℕ) → ((h : History) → Stands walk.machine h → GivesPrevious (rows walk.machine.columns (moment h)) walk.before (Some row) new.before)
      → IfSome new.before (λ x. spelled ≡ x) → key ≡ spelled → (h : History) → Stands s h → IsLast (rows s.columns (moment h)) (Some key)
  last_found row spelled key gives spells is h stands =
      let (k, bound, (there, within, greatest)) = from_end (Some row) gives h stands in
      subst (λ (x : List ℕ). IsLast (rows s.columns (moment h)) (Some x)) (sym (is ∙ key_same new.before spelled k bound spells))
      (ap is_some there, λ other its has. greatest other its has tt)
