-- A walk over the places of a tree is one over the keys of its rows.
use Rattle.std.proofs.Common.{ℕ, ◌≡◌, ◌⊎◌, ◌↔◌, inl, inr, List, [], ◌∷◌, Bool, true, false, refl, sym, ap, subst, ◌∙◌}
use Rattle.std.specs.Prelude.{Option, Some, None, IsTrue, is_some, not, if◌then◌else◌}
use Rattle.std.specs.FinMap.{get}
use Rattle.std.specs.Option.{option_map}
use Rattle.std.specs.declared.cmp.Ordering.{Ordering}
use Rattle.std.specs.declared.cmp.Ordering.TheVariants.{Less, Equal, Greater}
use Rattle.std.proofs.lemmas.Bool.{false≢true}
use Rattle.mt_types.specs.Keys.{key_cmp}
use Rattle.mt_types.specs.Rows.{Rows}
use Rattle.mt_types.specs.declared.row.Row.{Row}
use Rattle.mt_promise.specs.History.{History, moment, rows}
use Rattle.mt_slice.specs.Place.{Place, Precedes, AreBytes, place_of}
use Rattle.mt_slice.proofs.Canonical.{same_from_place_of}
use Rattle.mt_slice.proofs.KeyOrder.{KeyLess, key_three, cmp_less, cmp_greater, cmp_equal, place_order, rises}
use Rattle.mt_chart.specs.Tree.{Arena, Has}
use Rattle.mt_walk.specs.Walk.{WalkAt, from, behind, ToCome, Gives}
use Rattle.mt_index.specs.Stands.{MachineView, Stands}
use Rattle.mt_reads.specs.Walks.{At, IsAfter, IsFirst, GivesNext}

-- ---- the order of keys and of their places
pub less_back : (one other : List ℕ) → key_cmp one other ≡ Less → KeyLess one other
less_back one other is = go (key_three one other)
  where
    not_equal : ◌≡◌ {A = Ordering} Equal Less → ⊥
    not_equal e = cc

    not_greater : ◌≡◌ {A = Ordering} Greater Less → ⊥
    not_greater e = cc

    go : KeyLess one other ⊎ ((one ≡ other) ⊎ KeyLess other one) → KeyLess one other
    go (inl less) = less
    go (inr (inl same)) = absurd (not_equal (sym (cmp_equal one) ∙ ap (key_cmp one) same ∙ is))
    go (inr (inr more)) = absurd (not_greater (sym (cmp_greater one other more) ∙ is))

less_of : (one other : List ℕ) → AreBytes one → AreBytes other → Precedes (place_of one) (place_of other) → key_cmp one other ≡ Less
less_of one other bytes others before = cmp_less one other ((place_order one other bytes others).1 before)

-- the place at which a walk is, by its key
abbrev pub place_at : Bool → List ℕ → WalkAt
place_at given key = if given then behind (place_of key) else from (place_of key)

pub after_of : (key : List ℕ) (given : Bool) (other : List ℕ) → AreBytes key → AreBytes other → ToCome (place_at given key) (place_of other) → IsAfter key given other
after_of key true other bytes others comes = less_of key other bytes others comes
after_of key false other bytes others (inl same) = inl (same_from_place_of key other bytes others same)
after_of key false other bytes others (inr before) = inr (less_of key other bytes others before)

comes_of : (key : List ℕ) (given : Bool) (other : List ℕ) → AreBytes key → AreBytes other → IsAfter key given other → ToCome (place_at given key) (place_of other)
comes_of key true other bytes others less = rises key other bytes others (less_back key other less)
comes_of key false other bytes others (inl same) = inl (ap place_of same)
comes_of key false other bytes others (inr less) = inr (rises key other bytes others (less_back key other less))

-- ---- one place, one key
pub is_given : (given : Bool) (key : List ℕ) (place : Place) → place_at given key ≡ behind place → given ≡ true
is_given true key place is = refl
is_given false key place is = absurd (let clash : ◌≡◌ {A = WalkAt} (from (place_of key)) (behind place) = is in cc)

same_at : (given other : Bool) (key last : List ℕ) → AreBytes key → AreBytes last → place_at given key ≡ place_at other last → ◌≡◌ {A = At} (record { key = key; given = given }) (record { key = last; given = other })
same_at true true key last bytes others is = ap (λ (k : List ℕ). record { key = k; given = true }) (same_from_place_of key last bytes others (let e : ◌≡◌ {A = WalkAt} (behind (place_of key)) (behind (place_of last)) = is in cc))
same_at false false key last bytes others is = ap (λ (k : List ℕ). record { key = k; given = false }) (same_from_place_of key last bytes others (let e : ◌≡◌ {A = WalkAt} (from (place_of key)) (from (place_of last)) = is in cc))
same_at true false key last bytes others is = absurd (let clash : ◌≡◌ {A = WalkAt} (behind (place_of key)) (from (place_of last)) = is in cc)
same_at false true key last bytes others is = absurd (let clash : ◌≡◌ {A = WalkAt} (from (place_of key)) (behind (place_of last)) = is in cc)

-- a walk that is before the first key from a key on
pub starts_at : (given : Bool) (key start : List ℕ) → AreBytes key → AreBytes start → place_at given key ≡ from (place_of start) → ◌≡◌ {A = At} (record { key = key; given = given }) (record { key = start; given = false })
starts_at given key start bytes others is = same_at given false key start bytes others is

-- ---- the next row
module _ (map : Rows) (arena : Arena) (content : (key : List ℕ) → AreBytes key → (row : Row) → Has arena (place_of key) row ↔ (get map key ≡ Some row))
    (keys : (key : List ℕ) (row : Row) → get map key ≡ Some row → AreBytes key) where
  pub gives_next : (at : At) (found : Option Row) (new : At) → AreBytes at.key → AreBytes new.key
      → Gives arena (place_at at.given at.key) (option_map (λ (r : Row). record { key = place_of new.key; value = r }) found) (place_at new.given new.key)
      → GivesNext map at found new
  gives_next at (Some row) new bytes others (next, after) = (
    is_given new.given new.key (place_of new.key) after,
    (content new.key others row).0 next.has,
    after_of at.key at.given new.key bytes others next.comes,
    λ key other there comes.
        let good = keys key other there in
        after_of new.key false key others good (next.least (place_of key) other ((content key good other).1 there) (comes_of at.key at.given key bytes good comes)),
  )
  gives_next at None new bytes others (none, after) = (
    same_at new.given at.given new.key at.key others bytes after,
    λ key row there comes.
        let good = keys key row there in
        none (place_of key) row ((content key good row).1 there) (comes_of at.key at.given key bytes good comes),
  )

-- ---- the first key
any_comes : (key : List ℕ) → IsAfter [] false key
any_comes [] = inl refl
any_comes (byte ∷ key) = inr refl

abbrev from_least : At
from_least = record { key = []; given = false }

module _ (s m : MachineView) (at new : At) (least : List ℕ) where
  at_least : (found : Option Row) → m ≡ s → at ≡ record { key = least; given = false } → least ≡ []
      → ((h : History) → Stands m h → GivesNext (rows m.columns (moment h)) at found new) → (h : History) → Stands s h → GivesNext (rows s.columns (moment h)) from_least found new
  at_least found same begins empty gives =
      subst (λ (k : List ℕ). (h : History) → Stands s h → GivesNext (rows s.columns (moment h)) (record { key = k; given = false }) found new) empty
      (subst (λ (a : At). (h : History) → Stands s h → GivesNext (rows s.columns (moment h)) a found new) begins
      (subst (λ (v : MachineView). (h : History) → Stands v h → GivesNext (rows v.columns (moment h)) at found new) same gives))

  -- the first row that a walk from the least key on gives is that of the first key
  pub first_found : (row : Row) (key : List ℕ) → m ≡ s → at ≡ record { key = least; given = false } → least ≡ []
      → ((h : History) → Stands m h → GivesNext (rows m.columns (moment h)) at (Some row) new) → key ≡ new.key → (h : History) → Stands s h → IsFirst (rows s.columns (moment h)) (Some key)
  first_found row key same begins empty gives is h stands =
      subst (λ (k : List ℕ). IsFirst (rows s.columns (moment h)) (Some k)) (sym is) (go (at_least (Some row) same begins empty gives h stands))
    where
      go : GivesNext (rows s.columns (moment h)) from_least (Some row) new → IsFirst (rows s.columns (moment h)) (Some new.key)
      go (given, there, comes, least) = (ap is_some there, λ key other has. least key other has (any_comes key))

  -- and if it gives none, there is no row
  pub first_lacks : m ≡ s → at ≡ record { key = least; given = false } → least ≡ []
      → ((h : History) → Stands m h → GivesNext (rows m.columns (moment h)) at None new) → (h : History) → Stands s h → IsFirst (rows s.columns (moment h)) None
  first_lacks same begins empty gives h stands key = go (get (rows s.columns (moment h)) key) refl
    where
      none : GivesNext (rows s.columns (moment h)) from_least None new
      none = at_least None same begins empty gives h stands

      go : (found : Option Row) → get (rows s.columns (moment h)) key ≡ found → get (rows s.columns (moment h)) key ≡ None
      go None is = is
      go (Some row) is = absurd (none.1 key row is (any_comes key))
