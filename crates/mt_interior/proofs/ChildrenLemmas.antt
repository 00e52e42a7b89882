-- Lists of children: the one for a slice, and each change of one.
use Rattle.std.proofs.Common.{◌≡◌, ℕ, zero, suc, ◌+◌, ◌-◌, ◌<◌, ◌≤◌, List, [], ◌∷◌, length, take, drop, set, get_or, refl, sym, ap, arith, inl, inr, true, false, slice_get, nat_le, IsSomeAnd}
use Rattle.std.specs.List.{All, insert, remove}
use Rattle.std.specs.List.Sorted.{IsPartitionPoint, IsPartitionedBy}
use Rattle.std.proofs.lemmas.Bool.{cases_lt, cases_eq, leb-true, leb-false}
use Rattle.std.proofs.lemmas.List.Edits.{length-insert, get_or-insert_below, get_or-insert_at, get_or-insert_above, length-remove, get_or-remove_below, get_or-remove_above}
use Rattle.std.proofs.lemmas.List.Elements.{All-take, All-drop, All-append, All-cons}
use Rattle.std.proofs.lemmas.List.Sums.{prefix_len-le-length, prefix_len_passes, prefix_len_stops, prefix_len_is}
use Rattle.std.proofs.lemmas.Option.{slice_get-get_or}
use Rattle.std.proofs.lemmas.List.Sorted.{IsPartitionedBy-leb}
use Rattle.mt_types.specs.declared.numbers.NodeNo.{NodeNo}
use Rattle.mt_interior.specs.Interior.{children_up_to, renamed, StartsAt, IsRising}
use Rattle.mt_interior.specs.declared.child.Child.{Child}

-- the children up to a slice come first
pub lows_part : (slice : ℕ) (children : List Child) → IsRising children → IsPartitionedBy (λ child. nat_le child.low slice) children
lows_part slice children rising = IsPartitionedBy-leb (λ (child : Child). child.low) children slice rising.lows

-- a search parts the list at their number
pub parted_at : (slice place : ℕ) (children : List Child) (d : Child) → place ≤ length children →
    IsPartitionPoint (λ child. nat_le child.low slice ≡ true) (λ child. nat_le child.low slice ≡ false) children place → place ≡ children_up_to slice children
parted_at slice place children d within parts =
    sym (prefix_len_is (λ child. nat_le child.low slice) children place d within (λ k below. parts.0 k d (omega arith) below) (λ more. parts.1 place d (omega arith) more))

-- from the low on there is a child up to each slice
pub some_up_to : (low slice : ℕ) (children : List Child) → StartsAt low children → 0 < length children → low ≤ slice → 1 ≤ children_up_to slice children
some_up_to low slice [] starts some from_low = absurd (omega arith)
some_up_to low slice (child ∷ children) starts some from_low = first (nat_le child.low slice) refl
  where
    first : (passes : _) → nat_le child.low slice ≡ passes → 1 ≤ children_up_to slice (child ∷ children)
    first true e = rw e (omega arith)
    first false e = absurd (omega (arith, leb-false child.low slice e, starts))

-- the last of the children up to a slice
pub leads : (slice place : ℕ) (children : List Child) → place + 1 ≡ children_up_to slice children → place < length children → IsSomeAnd (slice_get children place) (λ child. child.low ≤ slice)
leads slice place [] up_to within = absurd (omega arith)
leads slice place (child ∷ children) up_to within =
    rw (slice_get-get_or (child ∷ children) place child within)
    (leb-true _ _ (prefix_len_passes (λ c. nat_le c.low slice) (child ∷ children) place child (omega arith)))

-- one more child, at a place that is not past the end
pub All-inserted : (P : Child → Type 0) (children : List Child) (place : ℕ) (child : Child) → P child → All P children → All P (insert children place child)
All-inserted P children place child here each = All-append P (take place children) (child ∷ drop place children) (All-take P place children each) (All-cons P child (drop place children) here (All-drop P place children each))

pub All-removed : (P : Child → Type 0) (children : List Child) (place : ℕ) → All P children → All P (remove children place)
All-removed P children place each = All-append P (take place children) (drop (suc place) children) (All-take P place children each) (All-drop P (suc place) children each)

pub starts-inserted : (low place : ℕ) (children : List Child) (child : Child) → 0 < length children → 1 ≤ place → StartsAt low children → StartsAt low (insert children place child)
starts-inserted low place [] child some later starts = absurd (omega arith)
starts-inserted low zero (first ∷ children) child some later starts = absurd (omega arith)
starts-inserted low (suc place) (first ∷ children) child some later starts = starts

pub starts-removed : (low place : ℕ) (children : List Child) → 0 < place → StartsAt low children → StartsAt low (remove children place)
starts-removed low place [] later starts = empty place
  where
    empty : (p : ℕ) → StartsAt low (remove [] p)
    empty zero = tt
    empty (suc p) = tt
starts-removed low zero (first ∷ children) later starts = absurd (omega arith)
starts-removed low (suc place) (first ∷ children) later starts = starts

-- what stood after the place of a new child stands one place later
moved_up : (children : List Child) (place k : ℕ) (child : Child) (d : Child) → place ≤ length children → place < k → get_or (insert children place child) k d ≡ get_or children (k - 1) d
moved_up children place zero child d fits above = absurd (omega arith)
moved_up children place (suc k) child d fits above =
    let one : suc k ≡ k + 1 = omega arith in
    let back : suc k - 1 ≡ k = omega arith in
    rw (back, one) (get_or-insert_above children place child d k (omega arith) fits)

module _ (children : List Child) (child : Child) (d : Child) (rising : IsRising children) where
  up_to : ℕ
  up_to = children_up_to child.low children

  fits : up_to ≤ length children
  unfolding up_to
  fits = prefix_len-le-length (λ c. nat_le c.low child.low) children

  -- the children up to a low are not above it, and the others are
  low_before : (k : ℕ) → k < up_to → (get_or children k d).low ≤ child.low
  unfolding up_to
  low_before k below = leb-true _ _ (prefix_len_passes (λ c. nat_le c.low child.low) children k d below)

  low_after : (k : ℕ) → up_to ≤ k → k < length children → child.low ≤ (get_or children k d).low
  unfolding up_to
  low_after k above within =
      let stop : child.low < (get_or children up_to d).low = leb-false _ _ (prefix_len_stops (λ c. nat_le c.low child.low) children d (omega arith)) in
      let later : (get_or children up_to d).low ≤ (get_or children k d).low = rising.lows up_to k d above within in
      omega arith

  -- a child before those that come after the new one
  low_later : (i j : ℕ) → i ≤ j → j < length (insert children up_to child) → up_to < j → (get_or (insert children up_to child) i d).low ≤ (get_or (insert children up_to child) j d).low
  low_later i j before within above =
      let long : length (insert children up_to child) ≡ length children + 1 = length-insert children up_to child fits in
      let last : child.low ≤ (get_or children (j - 1) d).low = low_after (j - 1) (omega arith) (omega arith) in
      rw (moved_up children up_to j child d fits above)
      (elim (cases_lt i up_to) [
        | inl low ↦ rw (get_or-insert_below children up_to child d i low fits) (omega (arith, low_before i low, last))
        | inr high ↦ elim (cases_eq i up_to) [
          | inl at ↦ rw (at, get_or-insert_at children up_to child d fits) last
          | inr off ↦ rw (moved_up children up_to i child d fits (omega arith)) (rising.lows (i - 1) (j - 1) d (omega arith) (omega arith))
        ]
      ])

  low_inserted : (i j : ℕ) → i ≤ j → j < length (insert children up_to child) → (get_or (insert children up_to child) i d).low ≤ (get_or (insert children up_to child) j d).low
  low_inserted i j before within =
      elim (cases_lt up_to j) [
        | inl above ↦ low_later i j before within above
        | inr under ↦ elim (cases_eq j up_to) [
          | inl at ↦ elim (cases_lt i up_to) [
            | inl low ↦ rw (at, get_or-insert_below children up_to child d i low fits, get_or-insert_at children up_to child d fits) (low_before i low)
            | inr high ↦ (let same : i ≡ j = omega arith in rw same (omega arith))
          ]
          | inr off ↦ (let low_j : j < up_to = omega arith in let low_i : i < up_to = omega arith in let inside : j < length children = omega (arith, fits) in
              rw (get_or-insert_below children up_to child d i low_i fits, get_or-insert_below children up_to child d j low_j fits) (rising.lows i j d before inside))
        ]
      ]

pub rising-inserted : (children : List Child) (child : Child) → IsRising children → IsRising (insert children (children_up_to child.low children) child)
unfolding up_to
rising-inserted children child rising = record { lows = λ i j d before within. low_inserted children child d rising i j before within }

-- one child less
removed_low : (children : List Child) (place : ℕ) (d : Child) → place < length children → IsRising children → (i j : ℕ) → i ≤ j → j < length (remove children place) → (get_or (remove children place) i d).low ≤ (get_or (remove children place) j d).low
removed_low children place d fits rising i j before within =
    let long : length (remove children place) + 1 ≡ length children = length-remove children place fits in
    elim (cases_lt j place) [
      | inl low ↦ (let low_i : i < place = omega arith in rw (get_or-remove_below children place d i low_i fits, get_or-remove_below children place d j low fits) (rising.lows i j d before (omega arith)))
      | inr high ↦ rw (get_or-remove_above children place d j high fits) (elim (cases_lt i place) [
        | inl low ↦ rw (get_or-remove_below children place d i low fits) (rising.lows i (j + 1) d (omega arith) (omega arith))
        | inr up ↦ rw (get_or-remove_above children place d i up fits) (rising.lows (i + 1) (j + 1) d (omega arith) (omega arith))
      ])
    ]

pub rising-removed : (children : List Child) (place : ℕ) → place < length children → IsRising children → IsRising (remove children place)
rising-removed children place fits rising = record { lows = λ i j d before within. removed_low children place d fits rising i j before within }

-- one child renamed
pub set-renamed : (place level : ℕ) (node : NodeNo) (children : List Child) (d : Child) → place < length children → set children place (record (get_or children place d) { node = node; level = level }) ≡ renamed place node level children
set-renamed place level node [] d within = absurd (omega arith)
set-renamed zero level node (child ∷ children) d within = refl
set-renamed (suc place) level node (child ∷ children) d within = ap (λ (rest : List Child). child ∷ rest) (set-renamed place level node children d (omega arith))

pub length-renamed : (place level : ℕ) (node : NodeNo) (children : List Child) → length (renamed place node level children) ≡ length children
length-renamed place level node [] = refl
length-renamed zero level node (child ∷ children) = refl
length-renamed (suc place) level node (child ∷ children) = ap (λ n. suc n) (length-renamed place level node children)

low-renamed : (place level : ℕ) (node : NodeNo) (children : List Child) (k : ℕ) (d : Child) → (get_or (renamed place node level children) k d).low ≡ (get_or children k d).low
low-renamed place level node [] k d = refl
low-renamed zero level node (child ∷ children) zero d = refl
low-renamed zero level node (child ∷ children) (suc k) d = refl
low-renamed (suc place) level node (child ∷ children) zero d = refl
low-renamed (suc place) level node (child ∷ children) (suc k) d = low-renamed place level node children k d

pub rising-renamed : (place level : ℕ) (node : NodeNo) (children : List Child) → IsRising children → IsRising (renamed place node level children)
rising-renamed place level node children rising = record {
  lows = λ i j d before within.
      rw (low-renamed place level node children i d, low-renamed place level node children j d) (rising.lows i j d before (omega (arith, length-renamed place level node children)));
}

pub starts-renamed : (low place level : ℕ) (node : NodeNo) (children : List Child) → StartsAt low children → StartsAt low (renamed place node level children)
starts-renamed low place level node [] starts = tt
starts-renamed low zero level node (child ∷ children) starts = starts
starts-renamed low (suc place) level node (child ∷ children) starts = starts

pub lower-renamed : (place level above : ℕ) (node : NodeNo) (children : List Child) → level < above → All (λ child. child.level < above) children → All (λ child. child.level < above) (renamed place node level children)
lower-renamed place level above node [] lower each k d within = each k d within
lower-renamed zero level above node (child ∷ children) lower each zero d within = lower
lower-renamed zero level above node (child ∷ children) lower each (suc k) d within = each (suc k) d within
lower-renamed (suc place) level above node (child ∷ children) lower each zero d within = each zero d (omega arith)
lower-renamed (suc place) level above node (child ∷ children) lower each (suc k) d within =
    lower-renamed place level above node children lower (λ m e inside. each (suc m) e (omega arith)) k d (omega (arith, within))
