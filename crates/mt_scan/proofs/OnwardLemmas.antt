-- A scan gets on: its cursor's number grows with the visit of a border.
use Rattle.std.proofs.Common.{ℕ, zero, suc, ◌≡◌, ◌≢◌, ◌<◌, ◌≤◌, ◌+◌, ◌*◌, ◌^◌, ◌⊎◌, inl, inr, Bool, true, false, cond, nat_eq, List, [], ◌∷◌, length, get_or, Option, Some, None, refl, sym, ap, subst, ◌∙◌, arith}
use Rattle.std.proofs.lemmas.Bool.{false≢true}
use Rattle.std.proofs.lemmas.Bool.Decides.{eqb_tells}
use Rattle.std.specs.Option.{option_map}
use Rattle.mt_slice.specs.Place.{Place, last, deeper, under, Precedes, first_slice}
use Rattle.mt_types.specs.declared.numbers.NodeNo.{NodeNo}
use Rattle.mt_types.specs.declared.row.Row.{Row}
use Rattle.mt_scan.specs.Listed.{ListView, list_right}
use Rattle.mt_border.specs.declared.entry.Content.{Content}
use Rattle.mt_border.specs.declared.entry.Content.TheVariants.{Short, Long, Link}
use Rattle.mt_border.specs.declared.entry.RightLink.{RightLink}
use Rattle.mt_chart.specs.Tree.{Right, Below, before_right}
use Rattle.mt_chart.specs.Scan.{Pair, VisitOutcome, answers, goes, AtEnd}
use Rattle.mt_chart.specs.KeyAnswer.{as_places}
use Rattle.mt_chart.specs.CursorNumber.{digit_base, digits_number, digits_above}
use Rattle.mt_chart.proofs.Cursor.{number_below, grows_longer, leaves_border, leaves_layer}
use Rattle.mt_tree.specs.Seen.{right_seen}
use Rattle.mt_scan.specs.Cursor.{place_from, entered_at, StepsAt}
use Rattle.mt_scan.specs.Scan.{ScanView, outcome_of}
use Rattle.mt_scan.specs.Onward.{last_digit, cursor_digits, HasDigits, cursor_in, cursor_of, all_cursors, GetsOn, MayGetOn}
use Rattle.mt_scan.specs.declared.scan.ScanMove.{ScanMove}
use Rattle.mt_scan.specs.declared.scan.ScanMove.TheVariants.{Done, To, Top}
use Rattle.mt_scan.specs.declared.cursor.Step.TheVariants.{Enter}

-- ---- digits
-- the last digit, by whether the cursor is after all keys that begin so
bare_digit : (slice class : ℕ) → class ≢ 10 → last_digit slice class ≡ 2 * slice
bare_digit slice class other = elim (eqb_tells class 10) [
  | inl p ↦ absurd (other p.1)
  | inr p ↦ ap (λ b. cond b (2 * slice + 1) (2 * slice)) p.0
]

most_digit : (slice class : ℕ) → last_digit slice class ≤ 2 * slice + 1
most_digit slice class = go (nat_eq class 10)
  where
    go : (b : Bool) → cond b (2 * slice + 1) (2 * slice) ≤ 2 * slice + 1
    go true = omega arith
    go false = omega arith

-- slices of 64 bits give digits
pub narrow_digits : (class : ℕ) (slices : List ℕ) → ((i : ℕ) → get_or slices i 0 < 2 ^ 64) → HasDigits (place_from class slices)
narrow_digits class [] narrow = (let most = most_digit 0 class in omega (arith, most), tt)
narrow_digits class (slice ∷ []) narrow = (let most = most_digit slice class in let fits = narrow 0 in omega (arith, most, fits), tt)
narrow_digits class (slice ∷ (next ∷ slices)) narrow =
    (let fits = narrow 0 in omega (arith, fits), narrow_digits class (next ∷ slices) (λ i. narrow (suc i)))

-- the digits of a place of a layer are those above the layer, and its own
digits_under : (above : List ℕ) (at : Place) → cursor_digits (under above at) ≡ digits_above above (cursor_digits at)
digits_under [] at = refl
digits_under (slice ∷ above) at = digits_under above (deeper slice at)

-- what stands above keeps their order
not_behind : (base : ℕ) (prefix digits more : List ℕ) → ((places : ℕ) → digits_number base places digits ≤ digits_number base places more)
    → (places : ℕ) → digits_number base places (digits_above prefix digits) ≤ digits_number base places (digits_above prefix more)
not_behind base [] digits more least places = least places
not_behind base (slice ∷ prefix) digits more least places = not_behind base prefix ((2 * slice) ∷ digits) ((2 * slice) ∷ more) go places
  where
    go : (i : ℕ) → digits_number base i ((2 * slice) ∷ digits) ≤ digits_number base i ((2 * slice) ∷ more)
    go zero = omega arith
    go (suc i) = let h = least i in omega (arith, h)

-- the number of a cursor at a place of a layer
abbrev number : ℕ → List ℕ → Place → ℕ
number places prefix at = digits_number digit_base places (digits_above prefix (cursor_digits at))

-- it is below that of all cursors
pub within_all : (places : ℕ) (prefix : List ℕ) (at : Place) → HasDigits (under prefix at) → number places prefix at < all_cursors places
within_all places prefix at digits =
    subst (λ (ds : List ℕ). digits_number digit_base places ds < all_cursors places) (digits_under prefix at)
    (number_below digit_base places (cursor_digits (under prefix at)) (omega arith) digits)

-- those of a layer are among those of the whole cursor
pub digits_below : (above : List ℕ) (at : Place) → HasDigits (under above at) → HasDigits at
digits_below [] at digits = digits
digits_below (slice ∷ above) at digits = (digits_below above (deeper slice at) digits).1

module _ (places : ℕ) where
  -- ---- into a layer
  -- the layer's first place is not behind its link
  first_inside : (prefix : List ℕ) (slice : ℕ) → digits_number digit_base places (digits_above prefix ((2 * slice) ∷ [])) ≤ number places (slice ∷ prefix) (last 0 0)
  first_inside prefix slice = not_behind digit_base prefix ((2 * slice) ∷ []) ((2 * slice) ∷ (0 ∷ [])) (λ i. grows_longer digit_base i ((2 * slice) ∷ []) (0 ∷ [])) places

  enters_on : (prefix : List ℕ) (at : Place) (slice : ℕ) → length prefix < places → HasDigits at → Precedes at (last slice 10)
      → (number places prefix at < number places (slice ∷ prefix) (entered_at slice at)) ⊎ (number places prefix at ≤ number places (slice ∷ prefix) (entered_at slice at))
  enters_on prefix (last own class) slice layer digits (inl less) =
      let further = leaves_border places prefix [] (last_digit own class) own slice layer tt (most_digit own class) less in
      let inside = first_inside prefix slice in
      inl (omega (arith, further, inside))
  enters_on prefix (last own class) slice layer digits (inr (same, before)) =
      let digit : last_digit own class ≡ 2 * slice = bare_digit own class (omega arith) ∙ ap (λ s. 2 * s) same in
      inr (subst (λ (d : ℕ). digits_number digit_base places (digits_above prefix (d ∷ [])) ≤ number places (slice ∷ prefix) (last 0 0)) (sym digit) (first_inside prefix slice))
  enters_on prefix (deeper own rest) slice layer digits before = elim (eqb_tells own slice) [
    | inl p ↦
        let inside : entered_at slice (deeper own rest) ≡ rest = ap (λ b. cond b rest (last 0 0)) p.0 in
        let here : number places prefix (deeper own rest) ≡ number places (slice ∷ prefix) rest = ap (λ s. number places (s ∷ prefix) rest) p.1 in
        inr (subst (λ (to : Place). number places prefix (deeper own rest) ≤ number places (slice ∷ prefix) to) (sym inside) (omega (arith, here)))
    | inr p ↦
        let first : entered_at slice (deeper own rest) ≡ last 0 0 = ap (λ b. cond b rest (last 0 0)) p.0 in
        let further = leaves_border places prefix (cursor_digits rest) (2 * own) own slice layer digits.1 (omega arith) (less p.1 before) in
        let inside = first_inside prefix slice in
        inl (subst (λ (to : Place). number places prefix (deeper own rest) < number places (slice ∷ prefix) to) (sym first) (omega (arith, further, inside)))
  ]
    where
      less : own ≢ slice → (own < slice) ⊎ ((own ≡ slice) × (9 < 10)) → own < slice
      less other (inl h) = h
      less other (inr (same, h)) = absurd (other same)

  -- ---- out of a border
  goes_right : (prefix : List ℕ) (at : Place) (low : ℕ) → length prefix < places → HasDigits at → first_slice at < low → number places prefix at < number places prefix (last low 0)
  goes_right prefix (last own class) low layer digits less = leaves_border places prefix [] (last_digit own class) own low layer tt (most_digit own class) less
  goes_right prefix (deeper own rest) low layer digits less = leaves_border places prefix (cursor_digits rest) (2 * own) own low layer digits.1 (omega arith) less

  -- after all of its layer, and back in layer 0
  leaves_on : (above : List ℕ) (slice : ℕ) (at : Place) → length (slice ∷ above) < places → HasDigits at → number places (slice ∷ above) at < number places [] (under above (last slice 10))
  leaves_on above slice at layer digits =
      subst (λ (ds : List ℕ). number places (slice ∷ above) at < digits_number digit_base places ds) (sym (digits_under above (last slice 10)))
      (leaves_layer places above (cursor_digits at) slice (omega arith) digits)

  abbrev number_of : VisitOutcome Row → ℕ
  number_of (answers taken) = 0
  number_of (goes prefix node at taken) = number places prefix at

  abbrev does_go : VisitOutcome Row → Bool
  does_go (answers taken) = false
  does_go (goes prefix node at taken) = true

  -- a scan that continues from the end of a border advances
  goes_further : (prefix : List ℕ) (at : Place) (right : Option Right) (taken after : List (Pair Row)) (to : List ℕ) (node : ℕ) (place : Place) → length prefix < places → HasDigits at
      → Below (first_slice at) right → AtEnd prefix right taken (goes to node place after) → number places prefix at < number places to place
  goes_further prefix at (Some link) taken after to node place layer digits (before_right less) is =
      let same : number places to place ≡ number places prefix (last link.low 0) = ap number_of is in
      let further = goes_right prefix at link.low layer digits less in
      omega (arith, same, further)
  goes_further [] at None taken after to node place layer digits below is = absurd (false≢true (sym (ap does_go is)))
  goes_further (slice ∷ above) at None taken after to node place layer digits below is =
      let same : number places to place ≡ number places [] (under above (last slice 10)) = ap number_of is in
      let further = leaves_on above slice at layer digits in
      omega (arith, same, further)

-- ---- a visit, which has taken some pairs and left its cursor where it was
module _ (old now t : ScanView) (list : ListView) (same : now ≡ record old { taken = now.taken }) (digits : HasDigits old.at) (places : ℕ) (may : MayGetOn places (cursor_in old) list) where
  -- it enters a link
  pub enters_get_on : (slice : ℕ) (content : Content) (node : NodeNo) → StepsAt now.at slice content (Enter node) → t ≡ record now { prefix = slice ∷ now.prefix; at = entered_at slice now.at } → GetsOn places (cursor_in old) (To node) (cursor_in t)
  enters_get_on slice (Short bytes row) node step is = absurd step
  enters_get_on slice (Long suffix row) node step is = absurd step
  enters_get_on slice (Link top) node step is = go (enters_on places old.prefix old.at slice may.layer digits before)
    where
      before : Precedes old.at (last slice 10)
      before = subst (λ (s : ScanView). Precedes s.at (last slice 10)) same step.1

      prefix : t.prefix ≡ slice ∷ old.prefix
      prefix = ap (λ (s : ScanView). s.prefix) is ∙ ap (λ (s : ScanView). slice ∷ s.prefix) same

      after : cursor_of places (cursor_in t) ≡ number places (slice ∷ old.prefix) (entered_at slice old.at)
      after = ap (λ (s : ScanView). cursor_of places (cursor_in s)) is ∙ ap (λ (s : ScanView). number places (slice ∷ s.prefix) (entered_at slice s.at)) same

      go : (cursor_of places (cursor_in old) < number places (slice ∷ old.prefix) (entered_at slice old.at)) ⊎ (cursor_of places (cursor_in old) ≤ number places (slice ∷ old.prefix) (entered_at slice old.at)) → GetsOn places (cursor_in old) (To node) (cursor_in t)
      go (inl less) = inl (omega (arith, after, less))
      go (inr most) = inr (omega (arith, after, most), ap length prefix ∙ omega arith)

  -- it leaves the border
  pub leaves_get_on : (right : Option RightLink) (visited : ScanMove) → right ≡ list.right → AtEnd now.prefix (option_map right_seen right) (as_places now.taken) (outcome_of visited t)
      → (visited ≡ Top → t.prefix ≡ []) → GetsOn places (cursor_in old) visited (cursor_in t)
  leaves_get_on right visited link left home = go visited at_end home
    where
      at_end : AtEnd old.prefix (list_right list) (as_places now.taken) (outcome_of visited t)
      at_end =
          subst (λ (s : ScanView). AtEnd s.prefix (list_right list) (as_places now.taken) (outcome_of visited t)) same
          (subst (λ (r : Option RightLink). AtEnd now.prefix (option_map right_seen r) (as_places now.taken) (outcome_of visited t)) link left)

      further : (to : List ℕ) (node : ℕ) → AtEnd old.prefix (list_right list) (as_places now.taken) (goes to node t.at (as_places t.taken)) → cursor_of places (cursor_in old) < number places to t.at
      further to node is = goes_further places old.prefix old.at (list_right list) (as_places now.taken) (as_places t.taken) to node t.at may.layer digits may.to_right is

      go : (visited : ScanMove) → AtEnd old.prefix (list_right list) (as_places now.taken) (outcome_of visited t) → (visited ≡ Top → t.prefix ≡ []) → GetsOn places (cursor_in old) visited (cursor_in t)
      go Done is home = tt
      go (To node) is home = inl (further t.prefix node.0 is)
      go Top is home = subst (λ (prefix : List ℕ). cursor_of places (cursor_in old) < number places prefix t.at) (sym (home refl)) (further [] 0 is)
