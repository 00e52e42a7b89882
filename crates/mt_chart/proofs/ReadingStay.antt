-- What others' steps leave of what a call knows of a border that it reads field by field, and what its own steps do.
use Rattle.std.proofs.Common.{ℕ, suc, ◌≡◌, ◌<◌, ◌≤◌, ◌+◌, ◌*◌, inr, Bool, true, false, List, ◌∷◌, length, Option, Some, refl, sym, ◌∙◌, arith}
use Rattle.mt_slice.specs.Place.{Place}
use Rattle.mt_types.specs.declared.row.Row.{Row}
use Rattle.mt_chart.specs.Tree.{PlainEntry, Right, border, Arena}
use Rattle.mt_chart.specs.Chart.{top, at_level, Chart, Holds, IsTree, Evolves}
use Rattle.mt_chart.specs.Walk.{below_top, Known, Trail, climbs}
use Rattle.mt_chart.specs.Noted.{FieldsSeen, AreSlots, Counters, IsQuiet, HasComeTo, KeepsSlot, Ages, entries_in}
use Rattle.mt_chart.specs.Reading.{Searches, HasRowKey, HasLinkKey, AllTrue, Lists}
use Rattle.mt_chart.proofs.Walk.{known_kept}
use Rattle.mt_chart.proofs.NotedLemmas.{quiet_before}
use Rattle.mt_chart.proofs.ReadingLemmas.{same_key, order_stays, slot_stays}
use Rattle.mt_chart.proofs.Rise.{at_height, up_right}

-- ---- others
module _ (show : Row → Row) (begun number : ℕ) (chart next : Chart) (after : Arena) (past : List Arena) (prefix : List ℕ) (f g : FieldsSeen) (v : Counters) (evolves : Evolves begun chart next) (tree : IsTree after next)
    (named : after number ≡ Some (border g.node)) (same_low : g.node.low ≡ f.node.low) (ages : Ages f g) (slots : AreSlots g) (come : HasComeTo v f) (known : Known next begun number (at_level 0) prefix g.node.low) where
  pub searches_stay : (noted : Option Right) (numbers : List ℕ) (key : Place) (place : ℕ) → (IsQuiet v f → Searches show chart begun past prefix f noted numbers key place)
      → IsQuiet v g → Searches show next begun (after ∷ past) prefix g noted numbers key place
  searches_stay noted numbers key place searches quiet =
      let before = searches (quiet_before v f g come ages quiet) in
      record {
        was = before.was;
        order = order_stays show begun number chart next after past prefix f g v evolves tree named same_low ages slots come known noted numbers before.was (λ q. before.order) quiet;
        before = before.before;
      }

  pub row_key_stays : (k : ℕ) (key : Place) → (IsQuiet v f → HasRowKey show chart begun past prefix f k key) → IsQuiet v g → HasRowKey show next begun (after ∷ past) prefix g k key
  row_key_stays k key has quiet =
      let before = has (quiet_before v f g come ages quiet) in
      record {
        read = before.read;
        noted = slot_stays show begun number chart next after past prefix f g v evolves tree named same_low ages slots come known before.read k (λ q. before.noted) quiet;
        row = before.row;
        holds = before.holds;
      }

  pub link_key_stays : (k slice : ℕ) → (IsQuiet v f → HasLinkKey show chart begun past prefix f k slice) → IsQuiet v g → HasLinkKey show next begun (after ∷ past) prefix g k slice
  link_key_stays k slice has quiet =
      let before = has (quiet_before v f g come ages quiet) in
      record {
        read = before.read;
        noted = slot_stays show begun number chart next after past prefix f g v evolves tree named same_low ages slots come known before.read k (λ q. before.noted) quiet;
        at_slice = before.at_slice;
        head = before.head;
        is_link = before.is_link;
      }

  true_stays : (entries : List PlainEntry) → AllTrue show chart begun past prefix entries → AllTrue show next begun (after ∷ past) prefix entries
  true_stays entries all entry i = record {
    row = λ place row holds. inr ((all entry i).row place row holds);
    link = λ head is. known_kept begun head top (entry.slice ∷ prefix) 0 chart next evolves ((all entry i).link head is);
  }

  pub lists_stay : (noted : Option Right) (numbers : List ℕ) (place : ℕ) (kept : List PlainEntry) → (IsQuiet v f → Lists show chart begun past prefix f noted numbers place kept)
      → IsQuiet v g → Lists show next begun (after ∷ past) prefix g noted numbers place kept
  lists_stay noted numbers place kept lists quiet =
      let before = lists (quiet_before v f g come ages quiet) in
      record {
        was = before.was;
        order = order_stays show begun number chart next after past prefix f g v evolves tree named same_low ages slots come known noted numbers before.was (λ q. before.order) quiet;
        read = before.read;
        many = before.many;
        same = before.same;
        kept_are = before.kept_are;
        true = true_stays (entries_in before.read) before.true;
      }

-- ---- its own steps, which change nothing
pub ages_none : (f : FieldsSeen) → Ages f f
ages_none f = record {
  inserts = omega arith;
  splits = omega arith;
  inserted = λ set clear. absurd (let clash : true ≡ false = sym set ∙ clear in cc);
  split = λ set clear. absurd (let clash : true ≡ false = sym set ∙ clear in cc);
  deleted = λ set. set;
  quiet = λ v before after. record { held = λ k is. is; slots = λ k held. keeps k (f.lives k) refl; right = λ slice below. below };
}
  where
    keeps : (k : ℕ) (lives : Bool) → f.lives k ≡ lives → KeepsSlot (f.slot k) (f.slot k) (f.lives k) lives
    keeps k true is = (is, same_key (f.slot k))
    keeps k false is = refl

-- ---- its way on: to the right, and into the layer of a link, higher in the order of a descent each time
module _ (chart : Chart) (begun number : ℕ) (prefix : List ℕ) (low : ℕ) (known : Known chart begun number (at_level 0) prefix low) where
  -- what a right link names is held for the slices from its low on
  pub right_held : (right : Right) → Known chart begun right.number (at_level 0) prefix right.low → (slice : ℕ) → right.low ≤ slice → Holds chart begun right.number prefix slice
  right_held right there slice low = record { role = at_level 0; low = right.low; standing = there.standing; place = there.place; at_most = low; since = there.since }

  pub climbs_right : (right : Right) → Known chart begun right.number (at_level 0) prefix right.low → low < right.low → (made : ℕ) → Trail begun chart number made → Trail begun chart right.number (suc made)
  climbs_right right there above made trail =
      climbs (at_height chart begun number (at_level 0) prefix low known) (at_height chart begun right.number (at_level 0) prefix right.low there) (up_right (length prefix) low right.low above) trail

  -- a node of the layer below stands higher, whatever it is
  deeper_is_higher : (d l b m : ℕ) → l < 18446744073709551616 → (d * 17 + 16) * 18446744073709551616 + l < (suc d * 17 + b) * 18446744073709551616 + m
  deeper_is_higher d l b m less = omega (arith, less)

  pub climbs_below : low < 18446744073709551616 → (head slice : ℕ) → (there : Holds chart begun head (slice ∷ prefix) 0) → (made : ℕ) → Trail begun chart number made → Trail begun chart head (suc made)
  climbs_below fits head slice there made trail =
      climbs (at_height chart begun number (at_level 0) prefix low known)
      (at_height chart begun head there.role (slice ∷ prefix) there.low (record { standing = there.standing; place = there.place; since = there.since }))
      (deeper_is_higher (length prefix) low (below_top there.role) there.low fits) trail
