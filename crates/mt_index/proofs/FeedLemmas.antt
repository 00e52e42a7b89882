-- What a reader of the log is given.
use Rattle.std.proofs.Common.{ℕ, zero, suc, ◌≡◌, ◌≤◌, ◌+◌, ◌-◌, List, [], ◌∷◌, ◌++◌, length, take, drop, Option, Some, None, refl, sym, ap, ◌∙◌, arith, Bool, true, false}
use Rattle.std.specs.Prelude.{min, nat_lt, slice_get}
use Rattle.std.proofs.lemmas.Bool.{ltb-false}
use Rattle.std.proofs.lemmas.List.{length-drop}
use Rattle.mt_types.specs.Limits.{limit_fault, refused_if}
use Rattle.mt_types.specs.declared.refusal.Refusal.{Refusal}
use Rattle.mt_types.specs.declared.row.Delta.{Delta}
use Rattle.mt_types.specs.declared.refusal.Refusal.TheVariants.{Behind}
use Rattle.mt_commit.specs.Log.{LogView, newest, delta_of}
use Rattle.mt_index.specs.Feed.{feed_fault, deltas_after}
use Rattle.mt_index.proofs.NumberLemmas.{or_none}
use Rattle.mt_index.proofs.LawLemmas.{slice_get-drop}

-- what may be read was not trimmed
pub read_from : (log : LogView) (from limit : ℕ) → feed_fault log from limit ≡ None → log.held_after ≤ from
read_from log from limit none =
    ltb-false from log.held_after (refused_no (nat_lt from log.held_after) (Behind log.held_after) (or_none (limit_fault limit) _ none))
  where
    refused_no : (broken : Bool) (refusal : Refusal) → refused_if broken refusal ≡ None → broken ≡ false
    refused_no false refusal e = refl
    refused_no true refusal e = absurd (let clash : ◌≡◌ {A = Option Refusal} (Some refusal) None = e in cc)

-- one delta more
pub take_next : (i : ℕ) (l : List Delta) (d : Delta) → slice_get l i ≡ Some d → take (i + 1) l ≡ take i l ++ d ∷ []
take_next i [] d e = absurd (let clash : ◌≡◌ {A = Option Delta} None (Some d) = e in cc)
take_next zero (x ∷ l) d e = let same : x ≡ d = (let both : ◌≡◌ {A = Option Delta} (Some x) (Some d) = e in cc) in ap (λ (z : Delta). z ∷ []) same
take_next (suc i) (x ∷ l) d e =
    let more : suc i + 1 ≡ suc (i + 1) = omega arith in
    ap (λ (m : ℕ). take m (x ∷ l)) more ∙ ap (λ (z : List Delta). x ∷ z) (take_next i l d e)

pub read_next : (log : LogView) (from done : ℕ) (d : Delta) (items : List Delta) → log.held_after ≤ from → delta_of log (from + done + 1) ≡ Some d → items ≡ take done (drop (from - log.held_after) log.deltas)
    → items ++ d ∷ [] ≡ take (done + 1) (drop (from - log.held_after) log.deltas)
read_next log from done d items here at is =
    let place : from + done + 1 - log.held_after - 1 ≡ from - log.held_after + done = omega (arith, here) in
    ap (λ (l : List Delta). l ++ d ∷ []) is
    ∙ sym (take_next done (drop (from - log.held_after) log.deltas) d (slice_get-drop (from - log.held_after) done log.deltas ∙ ap (slice_get log.deltas) (sym place) ∙ at))

-- as many as there are, or as are asked for
take_within : (count limit : ℕ) (l : List Delta) → count ≡ min (length l) limit → take count l ≡ take limit l
take_within zero zero l e = refl
take_within zero (suc limit) [] e = refl
take_within zero (suc limit) (d ∷ l) e = absurd (omega (arith, e))
take_within (suc count) zero l e = absurd (omega (arith, e))
take_within (suc count) (suc limit) [] e = refl
take_within (suc count) (suc limit) (d ∷ l) e = ap (λ (z : List Delta). d ∷ z) (take_within count limit l (omega (arith, e)))

pub read_all : (log : LogView) (from limit count : ℕ) → log.held_after ≤ from → count ≡ min (newest log - from) limit → take count (drop (from - log.held_after) log.deltas) ≡ deltas_after log from limit
read_all log from limit count here is =
    let long = length-drop (from - log.held_after) log.deltas in
    take_within count limit (drop (from - log.held_after) log.deltas) (omega (arith, here, is, long))
