-- The keys and rows that a range gathers: one more of them, and the pairs that are made of them, one by one.
use Rattle.std.proofs.Common.{ℕ, ◌≡◌, ◌<◌, ◌≤◌, ◌+◌, ◌-◌, List, [], ◌∷◌, ◌++◌, length, take, drop, get_or, refl, sym, ap, subst, ◌∙◌, arith, append_assoc}
use Rattle.std.proofs.lemmas.List.{length-append, length-drop, drop-append-le, take-append-le, drop_at, take_all, drop_more}
use Rattle.std.specs.Borrow.{Bor}
use Rattle.std.specs.List.{slice_range}
use Rattle.mt_types.specs.Rows.{shown}
use Rattle.mt_types.specs.declared.limits.TheConstants.{MAX_KEY_BYTES}
use Rattle.mt_types.specs.declared.row.Row.{Row}
use Rattle.mt_walk.specs.Gathered.{AreKeys, pairs_of}

-- ---- one more
module _ (key : List ℕ) (row : Bor Row) (bytes : List ℕ) where
  abbrev entry : ℕ × Bor Row
  entry = (length (bytes ++ key), row)

  keys_more : length key ≤ MAX_KEY_BYTES → (begin : ℕ) (rows : List (ℕ × Bor Row)) → AreKeys bytes begin rows → AreKeys (bytes ++ key) begin (rows ++ entry ∷ [])
  keys_more fits begin [] none = (omega (arith, none, length-append bytes key), omega arith, omega (arith, none, fits, length-append bytes key), refl)
  keys_more fits begin (r ∷ rs) (begins, ends, short, more) = (begins, omega (arith, ends, length-append bytes key), short, keys_more fits r.0 rs more)

  -- a part of the bytes that were there
  same_part : (begin end : ℕ) → begin ≤ end → end ≤ length bytes → slice_range (bytes ++ key) begin end ≡ slice_range bytes begin end
  same_part begin end begins ends =
      ap (take (end - begin)) (drop-append-le begin bytes key (omega (arith, begins, ends)))
      ∙ take-append-le (end - begin) (drop begin bytes) key (omega (arith, begins, ends, length-drop begin bytes))

  new_part : (begin : ℕ) → begin ≡ length bytes → slice_range (bytes ++ key) begin (length (bytes ++ key)) ≡ key
  new_part begin is =
      ap (take (length (bytes ++ key) - begin)) (drop_at bytes key begin (sym is))
      ∙ take_all (length (bytes ++ key) - begin) key (omega (arith, is, length-append bytes key))

  pairs_more : (asked : List ℕ) (begin : ℕ) (rows : List (ℕ × Bor Row)) → AreKeys bytes begin rows → pairs_of asked (bytes ++ key) begin (rows ++ entry ∷ []) ≡ pairs_of asked bytes begin rows ++ (key, shown asked row.now) ∷ []
  pairs_more asked begin [] none = ap (λ (k : List ℕ). (k, shown asked row.now) ∷ []) (new_part begin none)
  pairs_more asked begin (r ∷ rs) (begins, ends, short, more) =
      ap (λ (k : List ℕ). (k, shown asked r.1.now) ∷ pairs_of asked (bytes ++ key) r.0 (rs ++ entry ∷ [])) (same_part begin r.0 begins ends)
      ∙ ap (λ (ps : List (List ℕ × Row)). (slice_range bytes begin r.0, shown asked r.1.now) ∷ ps) (pairs_more asked r.0 rs more)

  pub gathers : (asked more : List ℕ) (rows then : List (ℕ × Bor Row)) → AreKeys bytes 0 rows → length key ≤ MAX_KEY_BYTES → more ≡ bytes ++ key → then ≡ rows ++ (length more, row) ∷ []
      → AreKeys more 0 then × (pairs_of asked more 0 then ≡ pairs_of asked bytes 0 rows ++ (key, shown asked row.now) ∷ [])
  gathers asked more rows then keys fits more_is then_is =
      subst (λ (rs : List (ℕ × Bor Row)). AreKeys more 0 rs × (pairs_of asked more 0 rs ≡ pairs_of asked bytes 0 rows ++ (key, shown asked row.now) ∷ [])) (sym then_is)
      (subst (λ (bs : List ℕ). AreKeys bs 0 (rows ++ (length bs, row) ∷ []) × (pairs_of asked bs 0 (rows ++ (length bs, row) ∷ []) ≡ pairs_of asked bytes 0 rows ++ (key, shown asked row.now) ∷ [])) (sym more_is)
      (keys_more fits 0 rows keys, pairs_more asked 0 rows keys))

-- ---- those that are left
module _ (rows : List (ℕ × Bor Row)) (place : ℕ) (row : ℕ × Bor Row) (inside : place < length rows) (is : row ≡ get_or rows place row) where
  abbrev after : List (ℕ × Bor Row)
  after = drop (place + 1) rows

  left_is : drop place rows ≡ row ∷ after
  left_is = drop_more rows place row inside ∙ ap (λ (r : ℕ × Bor Row). r ∷ after) (sym is)

  pub next_key : (bytes : List ℕ) (begin : ℕ) → AreKeys bytes begin (drop place rows) → AreKeys bytes begin (row ∷ after)
  next_key bytes begin keys = subst (λ (rs : List (ℕ × Bor Row)). AreKeys bytes begin rs) left_is keys

  pub next_pair : (asked bytes : List ℕ) (begin : ℕ) (made more all : List (List ℕ × Row)) → made ++ pairs_of asked bytes begin (drop place rows) ≡ all
      → more ≡ made ++ (slice_range bytes begin row.0, shown asked row.1.now) ∷ [] → more ++ pairs_of asked bytes row.0 after ≡ all
  next_pair asked bytes begin made more all same is_more =
      ap (λ (ps : List (List ℕ × Row)). ps ++ pairs_of asked bytes row.0 after) is_more
      ∙ append_assoc made ((slice_range bytes begin row.0, shown asked row.1.now) ∷ []) (pairs_of asked bytes row.0 after)
      ∙ ap (λ (rs : List (ℕ × Bor Row)). made ++ pairs_of asked bytes begin rs) (sym left_is)
      ∙ same
