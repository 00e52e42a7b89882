-- A search among the live entries.
use Rattle.std.proofs.Common.{◌≡◌, ℕ, ◌+◌, ◌<◌, List, ◌∷◌, length, drop, refl, sym, ap, ◌∙◌, arith, Some, Bool, true, false, slice_get, ◌==◌, ◌*◌, nat_lt}
use Rattle.std.specs.List.{prefix_len}
use Rattle.std.proofs.lemmas.List.Sums.{prefix_len-drop_no, prefix_len-drop_yes}
use Rattle.std.proofs.lemmas.List.{drop_more}
use Rattle.std.proofs.lemmas.Option.{get_or_from_slice_get}
use Rattle.mt_slice.specs.Classes.{class_number}
use Rattle.mt_slice.specs.declared.slice_class.Class.{Class}
use Rattle.mt_border.specs.Entry.{entry_rank, rank_at}
use Rattle.mt_border.specs.Find.{found_first, found_content, found_in}
use Rattle.mt_border.specs.declared.entry.Entry.{Entry}
use Rattle.mt_border.specs.declared.found.Found.TheVariants.{Absent}

-- an entry comes before what has this rank
abbrev pub is_before_rank : ℕ → Entry → Bool
is_before_rank rank entry = nat_lt (entry_rank entry) rank

-- a scan for the first element that fails a test
pub found_here : {X : Type 0} (p : X → Bool) (xs : List X) (i : ℕ) (x : X) → i < length xs → slice_get xs i ≡ Some x → p x ≡ false → i + prefix_len p (drop i xs) ≡ prefix_len p xs → i ≡ prefix_len p xs
found_here p xs i x l e n h =
    omega (arith, prefix_len-drop_no p xs i x l (ap p (get_or_from_slice_get xs i x x e) ∙ n), h)

pub found_later : {X : Type 0} (p : X → Bool) (xs : List X) (i : ℕ) (x : X) → i < length xs → slice_get xs i ≡ Some x → p x ≡ true → i + prefix_len p (drop i xs) ≡ prefix_len p xs → (i + 1) + prefix_len p (drop (i + 1) xs) ≡ prefix_len p xs
found_later p xs i x l e n h =
    omega (arith, prefix_len-drop_yes p xs i x l (ap p (get_or_from_slice_get xs i x x e) ∙ n), h)

-- the entries from a place on begin with the one that is read there
from_place : (live : List Entry) (i : ℕ) (entry : Entry) → i < length live → slice_get live i ≡ Some entry → drop i live ≡ entry ∷ drop (i + 1) live
from_place live i entry within e =
    drop_more live i entry within ∙ ap (λ (x : Entry). x ∷ drop (i + 1) live) (get_or_from_slice_get live i entry entry e)

module _ (slice : ℕ) (class : Class) (suffix : List ℕ) (live : List Entry) (number i : ℕ) where
  -- a search looks at the place that was found by numbers
  at_place : number ≡ class_number class → i ≡ prefix_len (is_before_rank (slice * 10 + number)) live → found_first slice class suffix i (drop i live) ≡ found_in slice class suffix live
  at_place e p = rw (p, e) refl

  pub found_at_place : (entry : Entry) → number ≡ class_number class → i ≡ prefix_len (is_before_rank (slice * 10 + number)) live → i < length live → slice_get live i ≡ Some entry → (entry_rank entry == slice * 10 + number) ≡ true → found_content suffix i entry.content ≡ found_in slice class suffix live
  found_at_place entry e p within read same =
      let hit : (entry_rank entry == rank_at slice class) ≡ true = rw e at same in
      let first : found_first slice class suffix i (drop i live) ≡ found_content suffix i entry.content = rw (from_place live i entry within read, hit) refl in
      sym first ∙ at_place e p

  pub absent_at_place : (entry : Entry) → number ≡ class_number class → i ≡ prefix_len (is_before_rank (slice * 10 + number)) live → i < length live → slice_get live i ≡ Some entry → (entry_rank entry == slice * 10 + number) ≡ false → Absent i ≡ found_in slice class suffix live
  absent_at_place entry e p within read other =
      let miss : (entry_rank entry == rank_at slice class) ≡ false = rw e at other in
      let first : found_first slice class suffix i (drop i live) ≡ Absent i = rw (from_place live i entry within read, miss) refl in
      sym first ∙ at_place e p
