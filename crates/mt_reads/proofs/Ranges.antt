-- The rows that a walk returns, up to a limit, are the range of the map: what a loop over the walk keeps, and its end.
use Rattle.std.proofs.Common.{ℕ, ◌≡◌, ◌<◌, ◌≤◌, ◌⊎◌, inl, inr, Bool, true, false, ◌&&◌, List, [], ◌∷◌, ◌++◌, length, refl, sym, ap, subst, ◌∙◌, arith}
use Rattle.std.specs.Prelude.{Option, Some, None, All, Any, IsTrue, IsSome}
use Rattle.std.specs.Cmp.{IsTotalOrder, first_so, second_so}
use Rattle.std.specs.FinMap.{get, is_sorted}
use Rattle.std.specs.FinMap.Entries.{below_all}
use Rattle.std.specs.Ordering.{is_lt, is_le, is_ge, ordering_reverse}
use Rattle.std.specs.declared.cmp.Ordering.{Ordering}
use Rattle.std.specs.declared.cmp.Ordering.TheVariants.{Less, Greater}
use Rattle.std.proofs.lemmas.Bool.{false≢true}
use Rattle.std.proofs.lemmas.Cmp.{nat_list_cmp_total}
use Rattle.std.proofs.lemmas.List.{get_or_append_left, length-append}
use Rattle.std.proofs.lemmas.List.Elements.{All-nil, All-head, All-tail, All-push}
use Rattle.std.proofs.lemmas.List.Quantifiers.{Any-push}
use Rattle.mt_types.specs.Keys.{key_cmp}
use Rattle.mt_types.specs.Rows.{Rows, shown}
use Rattle.mt_types.specs.declared.row.Row.{Row}
use Rattle.mt_types.proofs.RangeLemmas.{given_once}
use Rattle.mt_slice.proofs.KeyOrder.{KeyLess, key_three, cmp_less, cmp_equal}
use Rattle.mt_promise.specs.Alone.{ShowsRow, IsRangeOfMap}
use Rattle.mt_reads.specs.Walks.{At, IsAfter, IsToCome, GivesNext}

abbrev Pair : Type 0
Pair = List ℕ × Row

-- ---- the order of keys
pub key_order : IsTotalOrder key_cmp
key_order = nat_list_cmp_total

turned : (one other : List ℕ) → key_cmp one other ≡ Less → key_cmp other one ≡ Greater
turned one other less = key_order.antisymm other one ∙ ap ordering_reverse less

not_less : (o : Ordering) → o ≡ Less → is_ge o ≡ true → ⊥
not_less o less ge = false≢true (sym (ap is_ge less) ∙ ge)

not_greater : (o : Ordering) → o ≡ Greater → is_le o ≡ true → ⊥
not_greater o more le = false≢true (sym (ap is_le more) ∙ le)

-- a key that is at or after the start is to come from there
from_there : (start key : List ℕ) → is_ge (key_cmp key start) ≡ true → IsAfter start false key
from_there start key ge = go (key_three key start)
  where
    go : KeyLess key start ⊎ ((key ≡ start) ⊎ KeyLess start key) → IsAfter start false key
    go (inl less) = absurd (not_less (key_cmp key start) (cmp_less key start less) ge)
    go (inr (inl same)) = inl (sym same)
    go (inr (inr more)) = inr (cmp_less start key more)

pub at_or_after : (start key : List ℕ) → IsAfter start false key → is_ge (key_cmp key start) ≡ true
at_or_after start key (inl same) = ap is_ge (ap (key_cmp key) same ∙ cmp_equal key)
at_or_after start key (inr less) = ap is_ge (turned start key less)

-- what is after a key that is to come is to come
pub comes_later : (key : List ℕ) (given : Bool) (one other : List ℕ) → IsAfter key given one → key_cmp one other ≡ Less → IsAfter key given other
comes_later key true one other after less = key_order.trans key one other after less
comes_later key false one other (inl same) less = inr (subst (λ (k : List ℕ). key_cmp k other ≡ Less) (sym same) less)
comes_later key false one other (inr after) less = inr (key_order.trans key one other after less)

-- ---- one pair more
both : (a b : Bool) → a ≡ true → b ≡ true → (a && b) ≡ true
both a b one other = ap (λ (t : Bool). t && b) one ∙ other

below_push : (key : List ℕ) (pair : Pair) (pairs : List Pair) → below_all key_cmp key pairs ≡ true → key_cmp key pair.0 ≡ Less → below_all key_cmp key (pairs ++ pair ∷ []) ≡ true
below_push key pair [] below less = both (is_lt (key_cmp key pair.0)) true (ap is_lt less) refl
below_push key pair (p ∷ ps) below less =
    both (is_lt (key_cmp key p.0)) (below_all key_cmp key (ps ++ pair ∷ [])) (first_so (is_lt (key_cmp key p.0)) (below_all key_cmp key ps) below)
    (below_push key pair ps (second_so (is_lt (key_cmp key p.0)) (below_all key_cmp key ps) below) less)

rises_push : (pair : Pair) (pairs : List Pair) → is_sorted key_cmp pairs ≡ true → All (λ (p : Pair). key_cmp p.0 pair.0 ≡ Less) pairs → is_sorted key_cmp (pairs ++ pair ∷ []) ≡ true
rises_push pair [] rises before = refl
rises_push pair (p ∷ ps) rises before =
    both (below_all key_cmp p.0 (ps ++ pair ∷ [])) (is_sorted key_cmp (ps ++ pair ∷ []))
    (below_push p.0 pair ps (first_so (below_all key_cmp p.0 ps) (is_sorted key_cmp ps) rises) (All-head (λ (q : Pair). key_cmp q.0 pair.0 ≡ Less) p ps before))
    (rises_push pair ps (second_so (below_all key_cmp p.0 ps) (is_sorted key_cmp ps) rises) (All-tail (λ (q : Pair). key_cmp q.0 pair.0 ≡ Less) p ps before))

still_among : (key : List ℕ) (pair : Pair) (pairs : List Pair) → Any (λ (p : Pair). p.0 ≡ key) pairs → Any (λ (p : Pair). p.0 ≡ key) (pairs ++ pair ∷ [])
still_among key pair pairs (k, p, inside, is, same) =
    (k, p, (let more = length-append pairs (pair ∷ []) in omega (arith, more, inside)), get_or_append_left pairs (pair ∷ []) p k inside ∙ is, same)

some_row : (found : Option Row) → IsSome found → (row : Row) × (found ≡ Some row)
some_row None there = absurd (false≢true there)
some_row (Some row) there = (row, refl)

module _ (map : Rows) (asked start : List ℕ) where
  -- ---- A WALK HAS GIVEN THESE PAIRS, with the columns that are asked for, from the start on
  pub record IsRanging (at : At) (pairs : List Pair) : Type 0 where
    -- what is to come is at or after the start, and after each pair
    pub from_start : (key : List ℕ) → IsToCome at key → is_ge (key_cmp key start) ≡ true
    pub past : (key : List ℕ) → IsToCome at key → All (λ (pair : Pair). key_cmp pair.0 key ≡ Less) pairs
    pub rises : is_sorted key_cmp pairs ≡ true
    pub not_before : All (λ (pair : Pair). is_ge (key_cmp pair.0 start) ≡ true) pairs
    pub shows : All (λ (pair : Pair). ShowsRow map asked pair.0 pair.1) pairs
    -- a row from the start on is to come, or it is among the pairs
    pub complete : (key : List ℕ) (row : Row) → get map key ≡ Some row → is_ge (key_cmp key start) ≡ true
        → IsToCome at key ⊎ Any (λ (pair : Pair). pair.0 ≡ key) pairs

  pub ranging_begins : IsRanging (record { key = start; given = false }) []
  ranging_begins = record {
    from_start = at_or_after start;
    past = λ key comes. All-nil (λ (pair : Pair). key_cmp pair.0 key ≡ Less);
    rises = refl;
    not_before = All-nil (λ (pair : Pair). is_ge (key_cmp pair.0 start) ≡ true);
    shows = All-nil (λ (pair : Pair). ShowsRow map asked pair.0 pair.1);
    complete = λ key row there from. inl (from_there start key from);
  }

  pub ranging_goes : (at new : At) (pairs : List Pair) (row : Row) → IsRanging at pairs → GivesNext map at (Some row) new → IsRanging new (pairs ++ (new.key, shown asked row) ∷ [])
  ranging_goes at new pairs row s (given, there, comes, least) = record {
    from_start = λ key more. s.from_start key (still key more);
    past = λ key more. All-push (λ (p : Pair). key_cmp p.0 key ≡ Less) pairs pair (s.past key (still key more)) (later key more);
    rises = rises_push pair pairs s.rises (s.past new.key comes);
    not_before = All-push (λ (p : Pair). is_ge (key_cmp p.0 start) ≡ true) pairs pair s.not_before (s.from_start new.key comes);
    shows = All-push (λ (p : Pair). ShowsRow map asked p.0 p.1) pairs pair s.shows (row, there, refl);
    complete = λ key other has from. next key other has (s.complete key other has from);
  }
    where
      pair : Pair
      pair = (new.key, shown asked row)

      later : (key : List ℕ) → IsToCome new key → key_cmp new.key key ≡ Less
      later key more = subst (λ (b : Bool). IsAfter new.key b key) given more

      still : (key : List ℕ) → IsToCome new key → IsToCome at key
      still key more = comes_later at.key at.given new.key key comes (later key more)

      next : (key : List ℕ) (other : Row) → get map key ≡ Some other → IsToCome at key ⊎ Any (λ (p : Pair). p.0 ≡ key) pairs → IsToCome new key ⊎ Any (λ (p : Pair). p.0 ≡ key) (pairs ++ pair ∷ [])
      next key other has (inr among) = inr (still_among key pair pairs among)
      next key other has (inl to_come) = elim (least key other has to_come) [
        | inl same ↦ inr (Any-push (λ (p : Pair). p.0 ≡ key) pairs pair same)
        | inr less ↦ inl (subst (λ (b : Bool). IsAfter new.key b key) (sym given) less)
      ]

  ranging_answers : (at : At) (pairs : List Pair) (limit : ℕ) → IsRanging at pairs → length pairs ≤ limit
      → ((key : List ℕ) (row : Row) → get map key ≡ Some row → IsToCome at key → (length pairs < limit) ⊎ Any (λ (pair : Pair). IsTrue (is_le (key_cmp key pair.0))) pairs → ⊥)
      → IsRangeOfMap map asked start limit pairs
  ranging_answers at pairs limit s few none = record {
    rises = s.rises;
    from_start = s.not_before;
    few = few;
    stood = s.shows;
    once = λ key from there until. given_once key pairs s.rises (among key from until (some_row (get map key) there));
  }
    where
      among : (key : List ℕ) → is_ge (key_cmp key start) ≡ true → (length pairs < limit) ⊎ Any (λ (pair : Pair). IsTrue (is_le (key_cmp key pair.0))) pairs
          → (row : Row) × (get map key ≡ Some row) → Any (λ (pair : Pair). pair.0 ≡ key) pairs
      among key from until (row, there) = elim (s.complete key row there from) [
        | inl comes ↦ absurd (none key row there comes until)
        | inr given ↦ given
      ]

  -- ---- none is to come
  pub ranging_ends : (at new : At) (pairs : List Pair) (limit : ℕ) → IsRanging at pairs → length pairs ≤ limit → GivesNext map at None new → IsRangeOfMap map asked start limit pairs
  ranging_ends at new pairs limit s few (same, none) = ranging_answers at pairs limit s few (λ key row there comes until. none key row there comes)

  -- ---- there are as many as were asked for
  pub ranging_fills : (at : At) (pairs : List Pair) (limit : ℕ) → IsRanging at pairs → length pairs ≡ limit → IsRangeOfMap map asked start limit pairs
  ranging_fills at pairs limit s full = ranging_answers at pairs limit s (omega (arith, full)) none
    where
      none : (key : List ℕ) (row : Row) → get map key ≡ Some row → IsToCome at key → (length pairs < limit) ⊎ Any (λ (pair : Pair). IsTrue (is_le (key_cmp key pair.0))) pairs → ⊥
      none key row there comes (inl less) = omega (arith, less, full)
      none key row there comes (inr (k, p, inside, is, le)) =
          let before : key_cmp p.0 key ≡ Less = subst (λ (q : Pair). key_cmp q.0 key ≡ Less) is (s.past key comes k p inside) in
          not_greater (key_cmp key p.0) (turned p.0 key before) le
