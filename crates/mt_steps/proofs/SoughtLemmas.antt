-- What the keys of a border are to a key sought: one more key, and what all of them come to in a search.
use Rattle.std.proofs.Common.{ℕ, suc, ◌≡◌, ◌<◌, ◌+◌, inl, inr, Bool, true, false, cond, if◌then◌else◌, List, [], ◌∷◌, ◌++◌, length, take, drop, get_or, refl, sym, ap, ◌∙◌, arith, length-drop}
use Rattle.std.specs.Prelude.{nat_lt, ◌==◌}
use Rattle.std.specs.List.{prefix_len}
use Rattle.std.proofs.lemmas.Bool.{cases_Bool, ltb-true, ltb-false}
use Rattle.std.proofs.lemmas.Bool.Decides.{eqb_tells}
use Rattle.std.proofs.lemmas.List.{take_more, length-take-le, get_or-drop}
use Rattle.std.proofs.lemmas.List.Sums.{prefix_len-le-length, prefix_len_stops}
use Rattle.mt_slice.specs.Place.{slice_number}
use Rattle.mt_slice.specs.Classes.{class_of}
use Rattle.mt_border.specs.Entry.{entry_rank}
use Rattle.mt_border.specs.Find.{found_first, found_content}
use Rattle.mt_border.specs.Keys.{KeyView, entry_key}
use Rattle.mt_border.specs.declared.entry.Entry.{Entry}
use Rattle.mt_border.specs.declared.found.Found.TheVariants.{Absent}
use Rattle.mt_tree.specs.Descent.{found_for}
use Rattle.mt_steps.specs.declared.entering.Match.{Match}
use Rattle.mt_steps.specs.declared.entering.Sought.{Sought}
use Rattle.mt_steps.specs.declared.entering.Sought.TheVariants.{Before, At, After}
use Rattle.mt_steps.specs.Entering.{match_of, rank_of, sought_at, sought_then, sought_first, sought_for}

-- what all keys are to the key sought is what a search finds
pub record MatchedAt (rest : List ℕ) (live : List Entry) (place : ℕ) (matched : Match) : Type 0 where
  pub entry : Entry
  pub more : List Entry
  pub starts : drop place live ≡ entry ∷ more
  pub rank : entry_rank entry ≡ rank_of rest
  pub is : matched ≡ match_of (drop 8 rest) (entry_key entry)
  pub found : found_for rest live ≡ found_content (drop 8 rest) place entry.content

abbrev pub SoughtIsFound : List ℕ → List Entry → Sought → Type 0
SoughtIsFound rest live Before = found_for rest live ≡ Absent (length live)
SoughtIsFound rest live (At place matched) = MatchedAt rest live place matched
SoughtIsFound rest live (After place) = found_for rest live ≡ Absent place

module _ (rest : List ℕ) where
  abbrev before : Entry → Bool
  before entry = nat_lt (entry_rank entry) (rank_of rest)

  -- ---- one more key
  -- a scan of entries, of which the first is at a place
  abbrev scan : ℕ → List Entry → Sought
  scan place entries = sought_first rest (place + prefix_len before entries) (drop (prefix_len before entries) entries)

  scan_low : (place : ℕ) (entry : Entry) (entries : List Entry) → before entry ≡ true → scan place (entry ∷ entries) ≡ scan (place + 1) entries
  scan_low place entry entries low =
      let n = prefix_len before entries in
      let one : 1 + n ≡ suc n = omega arith in
      let further : place + (1 + n) ≡ (place + 1) + n = omega arith in
      ap (λ b. sought_first rest (place + cond b (1 + n) 0) (drop (cond b (1 + n) 0) (entry ∷ entries))) low
      ∙ (ap (λ (k : ℕ). sought_first rest (place + (1 + n)) (drop k (entry ∷ entries))) one ∙ ap (λ (k : ℕ). sought_first rest k (drop n entries)) further)

  scan_high : (place : ℕ) (entry : Entry) (entries : List Entry) → before entry ≡ false → scan place (entry ∷ entries) ≡ sought_at rest place (entry_key entry)
  scan_high place entry entries high =
      let n = prefix_len before entries in
      let none : place + 0 ≡ place = omega arith in
      ap (λ b. sought_first rest (place + cond b (1 + n) 0) (drop (cond b (1 + n) 0) (entry ∷ entries))) high ∙ ap (λ (k : ℕ). sought_at rest k (entry_key entry)) none

  -- the first key that is not before the key sought tells, whatever comes after it
  told_stays : (place later : ℕ) (entry : Entry) (key : KeyView) → before entry ≡ false → sought_then rest (sought_at rest place (entry_key entry)) later key ≡ sought_at rest place (entry_key entry)
  told_stays place later entry key high = go (before entry) high (nat_lt (rank_of rest) (entry_rank entry))
    where
      m : Match
      m = match_of (drop 8 rest) (entry_key entry)

      go : (low : Bool) → low ≡ false → (after : Bool) → sought_then rest (if low then Before else if after then After place else At place m) later key ≡ (if low then Before else if after then After place else At place m)
      go true is after = absurd (let clash : true ≡ false = is in cc)
      go false is true = refl
      go false is false = refl

  scan_one : (place : ℕ) (entry : Entry) → scan place (entry ∷ []) ≡ sought_at rest place (entry_key entry)
  scan_one place entry = elim (cases_Bool (before entry)) [
    | inl low ↦ scan_low place entry [] low ∙ ap (λ b. if b then Before else if nat_lt (rank_of rest) (entry_rank entry) then After place else At place (match_of (drop 8 rest) (entry_key entry))) (sym low)
    | inr high ↦ scan_high place entry [] high
  ]

  scan_more : (place : ℕ) (entries : List Entry) (entry : Entry) → scan place (entries ++ entry ∷ []) ≡ sought_then rest (scan place entries) (place + length entries) (entry_key entry)
  scan_more place [] entry =
      let none : place ≡ place + 0 = omega arith in
      scan_one place entry ∙ ap (λ (k : ℕ). sought_at rest k (entry_key entry)) none
  scan_more place (x ∷ xs) entry =
      let further : (place + 1) + length xs ≡ place + suc (length xs) = omega arith in
      let then_at : Sought → ℕ → Sought = λ s k. sought_then rest s k (entry_key entry) in
      elim (cases_Bool (before x)) [
        | inl low ↦ scan_low place x (xs ++ entry ∷ []) low ∙ (scan_more (place + 1) xs entry ∙ (ap (λ (k : ℕ). then_at (scan (place + 1) xs) k) further ∙ ap (λ (s : Sought). then_at s (place + suc (length xs))) (sym (scan_low place x xs low))))
        | inr high ↦ scan_high place x (xs ++ entry ∷ []) high ∙ (sym (told_stays place (place + suc (length xs)) x (entry_key entry) high) ∙ ap (λ (s : Sought). then_at s (place + suc (length xs))) (sym (scan_high place x xs high)))
      ]

  scan_all : (entries : List Entry) → scan 0 entries ≡ sought_for rest entries
  scan_all entries =
      let none : 0 + prefix_len before entries ≡ prefix_len before entries = omega arith in
      ap (λ (k : ℕ). sought_first rest k (drop (prefix_len before entries) entries)) none

  -- WHAT THE KEYS ARE once the one at a place is read
  pub sought_more : (live : List Entry) (place : ℕ) (d : Entry) → place < length live → sought_for rest (take (place + 1) live) ≡ sought_then rest (sought_for rest (take place live)) place (entry_key (get_or live place d))
  sought_more live place d within =
      let taken = take place live in
      let key = entry_key (get_or live place d) in
      let long : 0 + length taken ≡ place = omega (arith, length-take-le place live (omega (arith, within))) in
      ap (λ (entries : List Entry). sought_for rest entries) (take_more live place d within) ∙ (sym (scan_all (taken ++ get_or live place d ∷ [])) ∙ (scan_more 0 taken (get_or live place d)
      ∙ (ap (λ (s : Sought). sought_then rest s (0 + length taken) key) (scan_all taken) ∙ ap (λ (k : ℕ). sought_then rest (sought_for rest taken) k key) long)))

  -- ---- all keys
  -- the first that is not before the key sought
  stops : (live : List Entry) (entry : Entry) (more : List Entry) → drop (prefix_len before live) live ≡ entry ∷ more → before entry ≡ false
  stops live entry more starts =
      let k = prefix_len before live in
      let count : length (drop k live) ≡ suc (length more) = ap (λ (l : List Entry). length l) starts in
      let within : k < length live = omega (arith, count, length-drop k live) in
      let none : k ≡ k + 0 = omega arith in
      let read : get_or live k entry ≡ entry = ap (λ (n : ℕ). get_or live n entry) none ∙ (sym (get_or-drop k live 0 entry) ∙ ap (λ (l : List Entry). get_or l 0 entry) starts) in
      ap before (sym read) ∙ prefix_len_stops before live entry within

  -- WHAT ALL KEYS ARE is what a search finds
  pub sought_found : (live : List Entry) → SoughtIsFound rest live (sought_for rest live)
  sought_found live = go (drop (prefix_len before live) live) refl
    where
      k : ℕ
      k = prefix_len before live

      finds : (entries : List Entry) → drop k live ≡ entries → found_for rest live ≡ found_first (slice_number rest) (class_of (length rest)) (drop 8 rest) k entries
      finds entries starts = ap (found_first (slice_number rest) (class_of (length rest)) (drop 8 rest) k) starts

      here : (entry : Entry) (same : Bool) → (entry_rank entry == rank_of rest) ≡ same → (more : List Entry) → drop k live ≡ entry ∷ more → found_for rest live ≡ (if same then found_content (drop 8 rest) k entry.content else Absent k)
      here entry same is more starts = finds (entry ∷ more) starts ∙ ap (λ b. if b then found_content (drop 8 rest) k entry.content else Absent k) is

      one : (entry : Entry) (more : List Entry) → drop k live ≡ entry ∷ more → (low : Bool) → before entry ≡ low → low ≡ false → (after : Bool) → nat_lt (rank_of rest) (entry_rank entry) ≡ after
          → SoughtIsFound rest live (if low then Before else if after then After k else At k (match_of (drop 8 rest) (entry_key entry)))
      one entry more starts true low is after later = absurd (let clash : true ≡ false = is in cc)
      one entry more starts false low is true later =
          let up = ltb-true (rank_of rest) (entry_rank entry) later in
          elim (eqb_tells (entry_rank entry) (rank_of rest)) [
            | inl p ↦ absurd (omega (arith, up, p.1))
            | inr p ↦ here entry false p.0 more starts
          ]
      one entry more starts false low is false later =
          let not_later = ltb-false (rank_of rest) (entry_rank entry) later in
          let not_before = ltb-false (entry_rank entry) (rank_of rest) low in
          let same : entry_rank entry ≡ rank_of rest = omega (arith, not_later, not_before) in
          elim (eqb_tells (entry_rank entry) (rank_of rest)) [
            | inl p ↦ record { entry = entry; more = more; starts = starts; rank = same; is = refl; found = here entry true p.0 more starts }
            | inr p ↦ absurd (p.1 same)
          ]

      go : (entries : List Entry) → drop k live ≡ entries → SoughtIsFound rest live (sought_first rest k entries)
      go [] starts =
          let count : length (drop k live) ≡ 0 = ap (λ (l : List Entry). length l) starts in
          let all : k ≡ length live = omega (arith, count, length-drop k live, prefix_len-le-length before live) in
          finds [] starts ∙ ap Absent all
      go (entry ∷ more) starts = let high = stops live entry more starts in one entry more starts (before entry) refl high (nat_lt (rank_of rest) (entry_rank entry)) refl
