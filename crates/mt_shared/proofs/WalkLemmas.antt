-- A walk in pieces: the last key of a piece is within its bounds, and after the last key before.
use Rattle.std.proofs.Common.{ℕ, ◌≡◌, ◌<◌, ◌≤◌, ◌-◌, ◌&&◌, inl, inr, Bool, true, false, List, length, refl, sym, subst}
use Rattle.std.specs.Prelude.{Option, Some, None, Result, Ok, Err, IfSome, MatchOption, All, filter, slice_get}
use Rattle.std.specs.Option.{option_map}
use Rattle.std.specs.Ordering.{is_lt}
use Rattle.std.specs.declared.cmp.Ordering.{Ordering}
use Rattle.std.specs.declared.cmp.Ordering.TheVariants.{Less, Equal, Greater}
use Rattle.std.specs.declared.ops.Bound.{Bound}
use Rattle.std.proofs.lemmas.Bool.{false≢true}
use Rattle.std.proofs.lemmas.Option.{get_or_from_slice_get, slice_get_within}
use Rattle.std.proofs.lemmas.List.Elements.{All-get_or, filter_passes}
use Rattle.mt_types.specs.Keys.{key_cmp}
use Rattle.mt_types.specs.declared.limits.TheConstants.{MAX_KEY_BYTES}
use Rattle.mt_types.specs.declared.refusal.NoMemory.{NoMemory as Short}
use Rattle.mt_types.specs.declared.refusal.Refusal.{Refusal}
use Rattle.mt_types.specs.declared.refusal.Refusal.TheVariants.{NoMemory}
use Rattle.mt_types.specs.declared.row.Row.{Row}
use Rattle.mt_types.specs.declared.event.Reply.{Reply}
use Rattle.mt_asked.specs.Bounds.{is_from, is_up_to, is_within}
use Rattle.mt_slice.specs.Place.{AreBytes}
use Rattle.mt_reads.proofs.KeysToCome.{fewer_after, less_than_all}
use Rattle.mt_reads.proofs.WalkLemmas.{less_back}
use Rattle.mt_shared.specs.declared.answers.At.{At}
use Rattle.mt_shared.specs.Clients.{answer_at, rows_of, rows_within, valued}
use Rattle.mt_shared.specs.Walks.{IsLastKey, IsPiece, IsPieceTo, Rows, keys_left, rest_of}

is_less : (o : Ordering) → is_lt o ≡ true → o ≡ Less
is_less Less e = refl
is_less Equal e = absurd (false≢true e)
is_less Greater e = absurd (false≢true e)

-- fewer keys are left after a key that isn't before the bound of the next piece
pub fewer_left : (start : Bound (List ℕ)) (last : Option (List ℕ)) (key : List ℕ) → AreBytes key → length key ≤ MAX_KEY_BYTES
    → IfSome last (λ before. length before ≤ MAX_KEY_BYTES) → is_from (rest_of start last) key ≡ true → keys_left (Some key) < keys_left last
fewer_left start None key bytes fits short later = less_than_all MAX_KEY_BYTES key bytes fits
fewer_left start (Some last) key bytes fits short later = fewer_after MAX_KEY_BYTES last key bytes short fits (less_back last key (is_less (key_cmp last key) later))

-- each key of a piece is within its bounds
within_of : (start end : Bound (List ℕ)) (ended : Result Reply Refusal) (at : At Rows) → answer_at (rows_within start end) ended ≡ Ok at
    → All (λ (pair : List ℕ × Row). is_within start end pair.0 ≡ true) at.value
within_of start end (Err refusal) at e = absurd (let clash : ◌≡◌ {A = Result (At Rows) Refusal} (Err refusal) (Ok at) = e in cc)
within_of start end (Ok reply) at e = go (rows_of reply.answer) e
  where
    go : (found : Option Rows) → valued (option_map (filter (λ (pair : List ℕ × Row). is_within start end pair.0)) found) reply.from reply.to ≡ Ok at
        → All (λ (pair : List ℕ × Row). is_within start end pair.0 ≡ true) at.value
    go (Some pairs) e =
        let value : filter (λ (pair : List ℕ × Row). is_within start end pair.0) pairs ≡ at.value = cc in
        subst (λ (l : Rows). All (λ (pair : List ℕ × Row). is_within start end pair.0 ≡ true) l) value (filter_passes (λ (pair : List ℕ × Row). is_within start end pair.0) pairs)
    go None e = absurd (let clash : valued {T = Rows} None reply.from reply.to ≡ Ok at = e in cc)

first_true : (a b : Bool) → (a && b) ≡ true → a ≡ true
first_true true b e = refl
first_true false b e = absurd (false≢true e)

All_at : {X : Type 0} (P : X → Type 0) (xs : List X) (i : ℕ) (x : X) → slice_get xs i ≡ Some x → All P xs → P x
All_at P xs i x is all = subst P (get_or_from_slice_get xs i x x is) (All-get_or P xs i x (slice_get_within xs i x is) all)

-- and so is the last one, which isn't before the lower bound
later_of : (start end : Bound (List ℕ)) (rows : Rows) (found : Option (List ℕ × Row)) (last : List ℕ) → slice_get rows (length rows - 1) ≡ found
    → MatchOption found (◌≡◌ {A = Result (Option (List ℕ)) Short} (Ok (Some last)) (Ok None)) (λ pair. ◌≡◌ {A = Option (List ℕ)} (Some last) (Some pair.0))
    → All (λ (pair : List ℕ × Row). is_within start end pair.0 ≡ true) rows → is_from start last ≡ true
later_of start end rows None last is key within = absurd (let clash : ◌≡◌ {A = Result (Option (List ℕ)) Short} (Ok (Some last)) (Ok None) = key in cc)
later_of start end rows (Some pair) last is key within =
    let same : pair.0 ≡ last = cc in
    subst (λ (k : List ℕ). is_from start k ≡ true) same
    (first_true (is_from start pair.0) (is_up_to end pair.0) (All_at (λ (p : List ℕ × Row). is_within start end p.0 ≡ true) rows (length rows - 1) pair is within))

pub is_later : (start end : Bound (List ℕ)) (ended : Result Reply Refusal) (at : At Rows) (last : List ℕ) → answer_at (rows_within start end) ended ≡ Ok at
    → IsLastKey at.value (Ok (Some last)) → is_from start last ≡ true
is_later start end ended at last is key = later_of start end at.value (slice_get at.value (length at.value - 1)) last refl key (within_of start end ended at is)

-- ---- what a piece is

-- there are rows, of which this is the last key
pub piece_of : (read : Result (At Rows) Refusal) (at : At Rows) (before : Option (List ℕ)) (last : List ℕ) → read ≡ Ok at
    → IsLastKey at.value (Ok (Some last)) → IsPiece read before (Ok (Some at)) (Some last)
piece_of read at before last is key = subst (λ (r : Result (At Rows) Refusal). IsPiece r before (Ok (Some at)) (Some last)) (sym is) (go (slice_get at.value (length at.value - 1)) key)
  where
    go : (found : Option (List ℕ × Row)) → MatchOption found (◌≡◌ {A = Result (Option (List ℕ)) Short} (Ok (Some last)) (Ok None)) (λ pair. ◌≡◌ {A = Option (List ℕ)} (Some last) (Some pair.0))
        → IsPieceTo at found before (Ok (Some at)) (Some last)
    go None clash = absurd (let e : ◌≡◌ {A = Result (Option (List ℕ)) Short} (Ok (Some last)) (Ok None) = clash in cc)
    go (Some pair) same = inl (refl, same)

-- there are none
pub no_piece : (read : Result (At Rows) Refusal) (at : At Rows) (before : Option (List ℕ)) → read ≡ Ok at
    → IsLastKey at.value (Ok None) → IsPiece read before (Ok None) before
no_piece read at before is key = subst (λ (r : Result (At Rows) Refusal). IsPiece r before (Ok None) before) (sym is) (go (slice_get at.value (length at.value - 1)) key)
  where
    go : (found : Option (List ℕ × Row)) → MatchOption found (◌≡◌ {A = Result (Option (List ℕ)) Short} (Ok None) (Ok None)) (λ pair. ◌≡◌ {A = Option (List ℕ)} None (Some pair.0))
        → IsPieceTo at found before (Ok None) before
    go None same = (refl, refl)
    go (Some pair) clash = absurd (let e : ◌≡◌ {A = Option (List ℕ)} None (Some pair.0) = clash in cc)

-- memory for a copy of the last key was refused
pub short_piece : (read : Result (At Rows) Refusal) (at : At Rows) (before : Option (List ℕ)) (short : Short) → read ≡ Ok at
    → IsLastKey at.value (Err short) → IsPiece read before (Err NoMemory) before
short_piece read at before short is key = subst (λ (r : Result (At Rows) Refusal). IsPiece r before (Err NoMemory) before) (sym is) (go (slice_get at.value (length at.value - 1)) key)
  where
    go : (found : Option (List ℕ × Row)) → MatchOption found (◌≡◌ {A = Result (Option (List ℕ)) Short} (Err short) (Ok None)) (λ pair. Unit {0})
        → IsPieceTo at found before (Err NoMemory) before
    go None clash = absurd (let e : ◌≡◌ {A = Result (Option (List ℕ)) Short} (Err short) (Ok None) = clash in cc)
    go (Some pair) done = inr (refl, refl)

-- the read was refused
pub refused_piece : (read : Result (At Rows) Refusal) (refusal : Refusal) (before : Option (List ℕ)) → read ≡ Err refusal
    → IsPiece read before (Err refusal) before
refused_piece read refusal before is = subst (λ (r : Result (At Rows) Refusal). IsPiece r before (Err refusal) before) (sym is) (refl, refl)

-- what a piece is between its bounds, which are said in another way
pub moved : (Read : Bound (List ℕ) → Result Reply Refusal → Type 0) (from from' end end' : Bound (List ℕ)) (ended : Result Reply Refusal) (before : Option (List ℕ)) (result : Result (Option (At Rows)) Refusal) (next : Option (List ℕ))
    → from ≡ from' → end ≡ end' → Read from ended → IsPiece (answer_at (rows_within from end) ended) before result next
    → (e : Result Reply Refusal) × Read from' e × IsPiece (answer_at (rows_within from' end') e) before result next
moved Read from from' end end' ended before result next first last read piece = (
  ended,
  subst (λ (b : Bound (List ℕ)). Read b ended) first read,
  subst (λ (b : Bound (List ℕ)). IsPiece (answer_at (rows_within from' b) ended) before result next) last
      (subst (λ (b : Bound (List ℕ)). IsPiece (answer_at (rows_within b end) ended) before result next) first piece),
)
