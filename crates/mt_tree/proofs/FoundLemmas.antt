-- What a search finds among entries in order: the entry of that slice and class, if there is one.
use Rattle.std.proofs.Common.{ℕ, zero, suc, ◌≡◌, ◌+◌, ◌<◌, inl, inr, Bool, true, false, nat_lt, if◌then◌else◌, List, [], ◌∷◌, length, drop, get_or, refl, sym, ap, subst, ◌∙◌, cond, arith}
use Rattle.std.specs.List.{All, prefix_len}
use Rattle.std.proofs.lemmas.Bool.{cases_Bool}
use Rattle.std.proofs.lemmas.Bool.Decides.{eqb_tells}
use borrow.Author.Tests.{ltb-true, ltb-false}
use Rattle.mt_slice.specs.declared.slice_class.Class.{Class}
use Rattle.mt_border.specs.Entry.{entry_rank, rank_at}
use Rattle.mt_border.specs.Find.{entries_before, found_first, found_in, found_content}
use Rattle.mt_border.specs.Order.{IsOrdered}
use Rattle.mt_border.specs.declared.entry.Entry.{Entry}
use Rattle.mt_border.specs.declared.found.Found.{Found}
use Rattle.mt_border.specs.declared.found.Found.TheVariants.{Absent}
use Rattle.mt_chart.specs.Tree.{Among, first, later}

-- what is among a list is at some place of it
record At {A : Type 0} (x : A) (xs : List A) : Type 0 where
  pub place : ℕ
  pub within : place < length xs
  pub is : (d : A) → get_or xs place d ≡ x

place_of_among : {A : Type 0} (x : A) (xs : List A) → Among x xs → At x xs
place_of_among x [] i = elim i [ ]
place_of_among x (y ∷ ys) first = record { place = 0; within = omega arith; is = λ d. refl }
place_of_among x (y ∷ ys) (later i) = let r = place_of_among x ys i in let w = r.within in record { place = suc r.place; within = omega arith; is = r.is }

-- what holds of all holds of what is among them
pub all_among : {A : Type 0} (P : A → Type 0) (x : A) (xs : List A) → All P xs → Among x xs → P x
all_among P x xs all i = let r = place_of_among x xs i in subst P (r.is x) (all r.place x r.within)

-- entries in order, the first against the others
pub ranks_rise : (entry other : Entry) (entries : List Entry) → IsOrdered (entry ∷ entries) → Among other entries → entry_rank entry < entry_rank other
ranks_rise entry other entries order i =
    let r = place_of_among other entries i in let w = r.within in
    subst (λ (e : Entry). entry_rank entry < entry_rank e) (r.is entry) (order.pairs 0 (suc r.place) entry (omega arith) (omega arith))

pub order_later : (entry : Entry) (entries : List Entry) → IsOrdered (entry ∷ entries) → IsOrdered entries
order_later entry entries order = record { pairs = λ i j d before within. order.pairs (suc i) (suc j) d (omega arith) (omega arith) }

pub among_drop : {A : Type 0} (x : A) (i : ℕ) (xs : List A) → Among x (drop i xs) → Among x xs
among_drop x zero xs i = i
among_drop x (suc k) [] i = i
among_drop x (suc k) (y ∷ ys) i = later (among_drop x k ys i)

module _ (slice : ℕ) (class : Class) where
  abbrev before : Entry → Bool
  before entry = nat_lt (entry_rank entry) (rank_at slice class)

  abbrev rest : List Entry → List Entry
  rest live = drop (prefix_len before live) live

  rest-low : (entry : Entry) (entries : List Entry) → before entry ≡ true → rest (entry ∷ entries) ≡ rest entries
  rest-low entry entries low =
      let one : 1 + prefix_len before entries ≡ suc (prefix_len before entries) = omega arith in
      ap (λ b. drop (cond b (1 + prefix_len before entries) 0) (entry ∷ entries)) low ∙ ap (λ (n : ℕ). drop n (entry ∷ entries)) one

  rest-high : (entry : Entry) (entries : List Entry) → before entry ≡ false → rest (entry ∷ entries) ≡ entry ∷ entries
  rest-high entry entries high = ap (λ b. drop (cond b (1 + prefix_len before entries) 0) (entry ∷ entries)) high

  -- the entry of that rank is the first that doesn't come before it
  rest_starts : (entry : Entry) (live : List Entry) → IsOrdered live → Among entry live → entry_rank entry ≡ rank_at slice class → (more : List Entry) × (rest live ≡ entry ∷ more)
  rest_starts entry [] order i rank = elim i [ ]
  rest_starts entry (other ∷ others) order first rank = (others, rest-high other others (not_before rank))
    where
      not_before : entry_rank other ≡ rank_at slice class → before other ≡ false
      not_before same = elim (cases_Bool (before other)) [
        | inl low ↦ (let less = ltb-true _ _ low in absurd (omega (arith, same, less)))
        | inr high ↦ high
      ]
  rest_starts entry (other ∷ others) order (later i) rank =
      elim (cases_Bool (before other)) [
        | inl low ↦ (let (more, is) = rest_starts entry others (order_later other others order) i rank in (more, rest-low other others low ∙ is))
        | inr high ↦ (let up = ltb-false _ _ high in let rises = ranks_rise other entry others order i in absurd (omega (arith, up, rises, rank)))
      ]

  -- an entry of that slice and class is what is found
  pub found_among : (suffix : List ℕ) (entry : Entry) (live : List Entry) → IsOrdered live → Among entry live → entry_rank entry ≡ rank_at slice class →
      (found_in slice class suffix live ≡ found_content suffix (entries_before slice class live) entry.content) × ((more : List Entry) × (drop (entries_before slice class live) live ≡ entry ∷ more))
  found_among suffix entry live order i rank =
      let (more, is) = rest_starts entry live order i rank in
      (ap (found_first slice class suffix (entries_before slice class live)) is ∙ here more, (more, is))
    where
      here : (more : List Entry) → found_first slice class suffix (entries_before slice class live) (entry ∷ more) ≡ found_content suffix (entries_before slice class live) entry.content
      here more = elim (eqb_tells (entry_rank entry) (rank_at slice class)) [
        | inl p ↦ ap (λ b. if b then found_content suffix (entries_before slice class live) entry.content else Absent (entries_before slice class live)) p.0
        | inr p ↦ absurd (p.1 rank)
      ]

  -- where something is found, it is such an entry
  pub record FoundAt (suffix : List ℕ) (live : List Entry) (found : Found) : Type 0 where
    pub entry : Entry
    pub more : List Entry
    pub stands : Among entry live
    pub starts : drop (entries_before slice class live) live ≡ entry ∷ more
    pub rank : entry_rank entry ≡ rank_at slice class
    pub is : found_content suffix (entries_before slice class live) entry.content ≡ found

  pub found_one : (suffix : List ℕ) (live : List Entry) (found : Found) → found_in slice class suffix live ≡ found → ((place : ℕ) → found ≡ Absent place → ⊥) → FoundAt suffix live found
  found_one suffix live found is there = go (rest live) refl
    where
      go : (entries : List Entry) → rest live ≡ entries → FoundAt suffix live found
      go [] e = absurd (there (entries_before slice class live) (sym is ∙ ap (found_first slice class suffix (entries_before slice class live)) e))
      go (entry ∷ more) e = elim (eqb_tells (entry_rank entry) (rank_at slice class)) [
        | inl p ↦ record {
          entry = entry;
          more = more;
          stands = among_drop entry (prefix_len before live) live (subst (λ (es : List Entry). Among entry es) (sym e) first);
          starts = e;
          rank = p.1;
          is = sym (ap (λ b. if b then found_content suffix (entries_before slice class live) entry.content else Absent (entries_before slice class live)) p.0) ∙ (sym (ap (found_first slice class suffix (entries_before slice class live)) e) ∙ is);
        }
        | inr p ↦ absurd (there (entries_before slice class live) (sym is ∙ (ap (found_first slice class suffix (entries_before slice class live)) e ∙ ap (λ b. if b then found_content suffix (entries_before slice class live) entry.content else Absent (entries_before slice class live)) p.0)))
      ]
