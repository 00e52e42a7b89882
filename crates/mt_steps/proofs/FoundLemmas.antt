-- What a search of a border finds, for any key.
use Rattle.std.proofs.Common.{zero, suc, ℕ, ◌≡◌, List, [], ◌∷◌, slice_get, Option, Some, None, inl, inr, ◌⊎◌, refl, ap, subst}
use Rattle.std.specs.Prelude.{IsSomeAnd}
use Rattle.mt_border.specs.Border.{row_at}
use Rattle.mt_border.specs.Entry.{entry_row}
use Rattle.mt_border.specs.declared.entry.Entry.{Entry}
use Rattle.mt_types.specs.declared.numbers.NodeNo.{NodeNo}
use Rattle.mt_border.specs.declared.found.Found.{Found}
use Rattle.mt_border.specs.declared.found.Found.TheVariants.{Absent, OtherSuffix, Link as LinkFound}
use Rattle.mt_tree.specs.Descent.{row_found}

-- the row of the entry at a place
pub row_read : (place : ℕ) (live : List Entry) (entry : Entry) → slice_get live place ≡ Some entry → row_at place live ≡ entry_row entry
row_read place [] entry e = absurd (cc)
row_read zero (x ∷ xs) entry e = let same : x ≡ entry = cc in ap entry_row same
row_read (suc place) (x ∷ xs) entry e = row_read place xs entry e

-- what holds of the value of an option that has one
pub some_and : {A : Type 0} (P : A → Type 0) (o : Option A) → IsSomeAnd o P → (x : A) × (o ≡ Some x) × P x
some_and P None h = absurd h
some_and P (Some x) h = (x, refl, h)

pub some_at : {A : Type 0} (P : A → Type 0) (o : Option A) (x : A) → IsSomeAnd o P → o ≡ Some x → P x
some_at P None x h e = absurd h
some_at P (Some y) x h e = subst P (let same : y ≡ x = cc in same) h

-- no row is found if something else is
pub none_found : (live : List Entry) (found : Found) → ((place : ℕ) × (found ≡ Absent place)) ⊎ (((place : ℕ) × (found ≡ OtherSuffix place)) ⊎ ((place : ℕ) × (top : NodeNo) × (found ≡ LinkFound place top))) → row_found live found ≡ None
none_found live found (inl (place, e)) = ap (row_found live) e
none_found live found (inr (inl (place, e))) = ap (row_found live) e
none_found live found (inr (inr (place, top, e))) = ap (row_found live) e
