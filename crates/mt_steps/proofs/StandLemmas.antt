-- What a call knows of a border that it reads field by field: after the version, the right link and the order, and what
-- others leave of it.
use Rattle.std.proofs.Common.{ℕ, ◌≡◌, ◌<◌, ◌≤◌, ◌^◌, ◌⊎◌, inl, inr, Bool, true, false, cond, ◌||◌, ◌&&◌, ◌==◌, List, [], ◌∷◌, length, map, Option, Some, IsSome, refl, sym, ap, subst, ◌∙◌, arith}
use Rattle.std.specs.Prelude.{nat_eq}
use Rattle.std.specs.List.{list_any}
use Rattle.std.specs.Option.{option_map}
use Rattle.std.proofs.lemmas.Bool.{or_right, eq-eqb, eqb-true}
use Rattle.std.proofs.lemmas.Bool.Decides.{eqb_tells}
use Rattle.mt_types.specs.declared.row.Row.{Row}
use Rattle.mt_word.specs.Slots.{Slots, IsArranged}
use Rattle.mt_word.specs.Version.{is_flagged}
use Rattle.mt_word.proofs.PlacesLemmas.{fifteen_together}
use Rattle.mt_border.specs.Border.{BorderView, entries_of, first_held}
use Rattle.mt_border.specs.Keys.{KeyView, entry_key, key_seen, unstable, unstable_with}
use Rattle.mt_border.specs.Order.{IsBorder, IsUnwritten}
use Rattle.mt_border.specs.Slots.{slot_at, held_at, key_in, key_at, order_in, order_shown}
use Rattle.mt_border.specs.Table.{picked, next_number}
use Rattle.mt_border.specs.declared.unwritten.Unwritten.{Unwritten}
use Rattle.mt_border.specs.declared.unwritten.Unwritten.TheVariants.{Nothing, Value, Order, LinkAt, MarkAt}
use Rattle.mt_border.specs.declared.field.Mark.TheVariants.{Unstable}
use Rattle.mt_border.proofs.ChangeLemmas.{first_held_is_next}
use Rattle.mt_border.specs.declared.entry.RightLink.{RightLink}
use Rattle.mt_border.proofs.FieldLemmas.{live_slot_held}
use Rattle.mt_arena.specs.Arena.{ArenaView}
use Rattle.mt_arena.specs.Node.{border_at}
use Rattle.mt_chart.specs.Tree.{PlainEntry, Arena, BorderNode, Among, first, later, Below, border}
use Rattle.mt_chart.specs.Chart.{Chart, Standing, on, gone, at_level, spot, IsTree, Evolves, OnBorder, Holds}
use Rattle.mt_chart.specs.Noted.{entries_in}
use Rattle.mt_chart.specs.Reading.{HasOrder}
use Rattle.mt_chart.specs.Walk.{Known, IsOn}
use Rattle.mt_chart.proofs.NotedLemmas.{quiet_before}
use Rattle.mt_chart.proofs.ReadingLemmas.{looks, orders, looked_stays, right_stays}
use Rattle.mt_chart.proofs.Rise.{border_on}
use Rattle.mt_chart.proofs.Walk.{known_kept}
use Rattle.mt_tree.specs.Seen.{arena_seen, border_seen, right_seen, entry_seen, entries_seen}
use Rattle.mt_tree.specs.Fields.{fields_seen, BorderAges}
use Rattle.mt_tree.proofs.AgeLemmas.{are_slots}
use Rattle.mt_tree.proofs.IntervalLemmas.{entries_in_order}
use Rattle.mt_tree.proofs.SeenLemmas.{seen-border, border-seen}
use Rattle.mt_steps.specs.Reader.{counters_of, same_counters}
use Rattle.mt_steps.specs.declared.reader.Counters.{Counters}
use Rattle.mt_steps.specs.Standing.{counters_seen, StandsAt, Still, IsBounded}
use Rattle.mt_steps.specs.World.{World, IsWorld, BordersAge}

-- ---- lists of slots
-- what is live is what the slots of the order hold
entries_at : (b : BorderView) (numbers : List ℕ) → entries_seen (entries_of (picked b.slots numbers)) ≡ entries_in (map (fields_seen b).slot numbers)
entries_at b [] = refl
entries_at b (number ∷ numbers) = ap (λ (es : List PlainEntry). entry_seen (slot_at b number).entry ∷ es) (entries_at b numbers)

any_among : (numbers : List ℕ) (number : ℕ) → Among number numbers → list_any (nat_eq number) numbers ≡ true
any_among [] number i = elim i [ ]
any_among (_ ∷ numbers) number first = ap (λ (b : Bool). b || list_any (nat_eq number) numbers) (eq-eqb number number refl)
any_among (other ∷ numbers) number (later i) = or_right (nat_eq number other) (list_any (nat_eq number) numbers) (any_among numbers number i)

-- ---- as it reads
module _ (a : ArenaView) (now : ℕ) (w : World) (world : IsWorld a now w) (begun : ℕ) (prefix : List ℕ) (slice number : ℕ) where
  -- the version, without a mark
  pub looks_at : (b : BorderView) → border_at a.nodes number ≡ Some b → IsBorder b → Holds w.chart begun number prefix slice → b.version.deleted ≡ false → StandsAt begun prefix slice number (counters_of b.version) a w
  looks_at b named sound held alive = record {
    b = b;
    named = named;
    slots = sound.seen;
    fits = sound.low_fits;
    looked = looks (arena_seen a) w.chart world.index.tree begun number prefix slice (fields_seen b) held (seen-border a number b named) alive;
  }

  module _ (counters : Counters) (at : StandsAt begun prefix slice number counters a w) where
    -- it holds the border that it reads
    pub holds_on : Holds w.chart begun number prefix slice
    holds_on = record { role = at_level 0; low = at.b.low; standing = at.looked.known.standing; place = at.looked.known.place; at_most = at.looked.from_low; since = at.looked.known.since }

    -- the right link, which the slice is before
    pub bound : (right : Option RightLink) → at.b.right ≡ right → Below slice (option_map right_seen right) → IsBounded prefix slice counters at.b right begun w
    bound right is below = record {
      passes = below;
      known = λ neighbour e. (at.looked.right neighbour (ap (option_map right_seen) is ∙ e)).1;
      lasts = λ quiet other below. subst (λ (r : Option RightLink). Below other (option_map right_seen r)) (sym is) below;
    }

    pub there_now : arena_seen a number ≡ Some (border (border_seen at.b))
    there_now = seen-border a number at.b at.named

    -- the order
    pub orders_now : (show : Row → Row) (past : List Arena) → IsBorder at.b → (right : Option RightLink) → IsBounded prefix slice counters at.b right begun w → Still counters at.b
        → HasOrder show w.chart begun (arena_seen a ∷ past) prefix (fields_seen at.b) (option_map right_seen right) at.b.order.live (map (fields_seen at.b).slot at.b.order.live)
    orders_now show past sound right bound still =
        orders show (arena_seen a) w.chart world.index.tree begun number past prefix (fields_seen at.b) on_now (are_slots at.b at.slots) still.no_split (entries_in_order at.b sound) (option_map right_seen right) (bound.lasts still) at.b.order.live
        (ap entries_seen sound.seen.live_is ∙ entries_at at.b at.b.order.live) (λ k i. let lives = any_among at.b.order.live k i in (live_slot_held at.b k sound lives, lives))
      where
        on_now : OnBorder (arena_seen a) w.chart number prefix (fields_seen at.b).node
        on_now = (border_on (arena_seen a) w.chart world.index.tree begun number (at_level 0) prefix at.b.low at.looked.known.standing at.looked.known.place (border_seen at.b) there_now still.alive).0

-- ---- the version again: a border without a mark and a flag, and with the same counters, is quiet still
pub or_false : (x y : Bool) → (x || y) ≡ false → (x ≡ false) × (y ≡ false)
or_false true y is = absurd (cc)
or_false false y is = (refl, is)

and_true : (x y : Bool) → (x && y) ≡ true → (x ≡ true) × (y ≡ true)
and_true true y is = (refl, is)
and_true false y is = absurd (cc)

pub still_so : (counters : Counters) (b : BorderView) → b.version.deleted ≡ false → is_flagged b.version ≡ false → same_counters (counters_of b.version) counters ≡ true → Still counters b
still_so counters b alive unflagged same = record {
  alive = alive;
  no_insert = (or_false b.version.inserting b.version.splitting unflagged).0;
  no_split = (or_false b.version.inserting b.version.splitting unflagged).1;
  inserts = eqb-true b.version.vinsert counters.inserts (and_true (b.version.vinsert == counters.inserts) (b.version.vsplit == counters.splits) same).0;
  splits = eqb-true b.version.vsplit counters.splits (and_true (b.version.vinsert == counters.inserts) (b.version.vsplit == counters.splits) same).1;
}

-- ---- the order that is read
-- it has few slots
few_arranged : (s : Slots) → IsArranged s → length s.live ≤ 15
few_arranged s h = omega (arith, fifteen_together s h)

pub few_shown : (b : BorderView) → IsBorder b → length (order_shown b).live ≤ 15
few_shown b sound = go b.unwritten sound.pending
  where
    own : length b.order.live ≤ 15
    own = few_arranged b.order sound.seen.table.arranged

    go : (left : Unwritten) → IsUnwritten b left → length (order_in left b.order).live ≤ 15
    go Nothing pending = own
    go (Value key) waits = own
    go (Order shown) waits = few_arranged shown waits.arranged
    go (LinkAt slot) waits = own
    go (MarkAt slot suffix) waits = own

-- and of a border that is quiet still, it is the order of what the border has
pub order_of_still : (counters : Counters) (b : BorderView) → IsBorder b → Still counters b → order_shown b ≡ b.order
order_of_still counters b sound still = go b.unwritten sound.pending
  where
    go : (left : Unwritten) → IsUnwritten b left → order_in left b.order ≡ b.order
    go Nothing pending = refl
    go (Value key) waits = refl
    go (Order shown) waits = absurd (let clash : true ≡ false = sym waits.splitting ∙ still.no_split in cc)
    go (LinkAt slot) waits = refl
    go (MarkAt slot suffix) waits = refl

-- ---- the key of a slot
-- the key that is read in a slot that held a key, of a border that is quiet still, is that of what the slot holds, if it
-- isn't unstable
pub key_of_still : (counters : Counters) (b : BorderView) (number : ℕ) → IsBorder b → Still counters b → held_at b number ≡ true → ((key_at b number).mark ≡ Unstable → ⊥) → key_at b number ≡ entry_key (slot_at b number).entry
key_of_still counters b number sound still held clear = go b.unwritten sound.pending clear
  where
    own : KeyView
    own = entry_key (slot_at b number).entry

    go : (left : Unwritten) → IsUnwritten b left → ((key_in left (next_number b.order) number own).mark ≡ Unstable → ⊥) → key_in left (next_number b.order) number own ≡ own
    go Nothing pending clear = refl
    go (Order shown) waits clear = refl
    go (LinkAt slot) waits clear = elim (eqb_tells number slot) [
      | inl (is_it, same) ↦ absurd (clear (ap (λ (is : Bool). (cond is (unstable own) own).mark) is_it))
      | inr (is_other, other) ↦ ap (λ (is : Bool). cond is (unstable own) own) is_other
    ]
    go (MarkAt slot suffix) waits clear = elim (eqb_tells number slot) [
      | inl (is_it, same) ↦ absurd (clear (ap (λ (is : Bool). (cond is (unstable_with own.slice suffix) own).mark) is_it))
      | inr (is_other, other) ↦ ap (λ (is : Bool). cond is (unstable_with own.slice suffix) own) is_other
    ]
    go (Value key) waits clear = elim (eqb_tells number (next_number b.order)) [
      | inl (is_next, same) ↦ absurd (
          let next_held : first_held b.unused ≡ true = first_held_is_next b sound waits.room ∙ (ap (λ (n : ℕ). held_at b n) (sym same) ∙ held) in
          let flagged : b.version.inserting ≡ true = waits.flagged next_held in
          let clash : true ≡ false = sym flagged ∙ still.no_insert in cc)
      | inr (is_other, other) ↦ ap (λ (is : Bool). cond is (key_seen key) own) is_other
    ]

-- ---- what others leave
-- a border that the chart knows is a border of the arena
known_border : (arena : Arena) (chart : Chart) → IsTree arena chart → (begun number : ℕ) (prefix : List ℕ) (low : ℕ) → Known chart begun number (at_level 0) prefix low → (node : BorderNode) × (arena number ≡ Some (border node))
known_border arena chart tree begun number prefix low known = go known.standing known.place
  where
    go : (standing : Standing) → chart number ≡ Some (spot (at_level 0) prefix low standing) → (node : BorderNode) × (arena number ≡ Some (border node))
    go (on posted) place = let (node, named, same) = tree.borders number prefix low posted place in (node, named)
    go (gone epoch) place = let (node, named, deleted) = tree.gone_borders number prefix low epoch place in (node, named)

module _ (a after : ArenaView) (now : ℕ) (w next : World) (world : IsWorld after now next) (age : BordersAge a after w next) (begun : ℕ) (evolves : Evolves begun w.chart next.chart) (prefix : List ℕ) (slice number : ℕ)
    (counters : Counters) (at : StandsAt begun prefix slice number counters a w) where
  known_then : Known next.chart begun number (at_level 0) prefix at.b.low
  known_then = known_kept begun number (at_level 0) prefix at.b.low w.chart next.chart evolves at.looked.known

  pub there : (b : BorderView) × (border_at after.nodes number ≡ Some b)
  there =
      let (node, named) = known_border (arena_seen after) next.chart world.index.tree begun number prefix at.b.low known_then in
      let (b, is, same) = border-seen after number node named in
      (b, is)

  abbrev then : BorderView
  then = there.0

  known_now : IsSome (w.chart number)
  known_now = subst IsSome (sym at.looked.known.place) refl

  pub aged : BorderAges at.b then
  aged = age.ages number at.b then known_now at.named there.1

  pub rights : IsOn next.chart number ⊎ (option_map right_seen then.right ≡ option_map right_seen at.b.right)
  rights = elim (age.rights number at.b then known_now at.named there.1) [
    | inl standing ↦ inl standing
    | inr same ↦ inr (ap (option_map right_seen) same)
  ]

  pub there_then : arena_seen after number ≡ Some (border (border_seen then))
  there_then = seen-border after number then there.1

  abbrev pub stands_stay : StandsAt begun prefix slice number counters after next
  stands_stay = record {
    b = then;
    named = there.1;
    slots = aged.slots at.slots;
    fits = subst (λ (low : ℕ). low < 2 ^ 64) (sym aged.low) at.fits;
    looked = looked_stays begun number w.chart next.chart (arena_seen after) prefix slice (fields_seen at.b) (fields_seen then) (counters_seen counters) evolves world.index.tree there_then aged.low aged.fields rights at.looked;
  }

  pub bound_stays : (right : Option RightLink) → IsBounded prefix slice counters at.b right begun w → IsBounded prefix slice counters then right begun next
  bound_stays right bound = right_stays begun number w.chart next.chart (arena_seen after) prefix slice (fields_seen at.b) (fields_seen then) (counters_seen counters) evolves world.index.tree there_then aged.low aged.fields rights at.looked (option_map right_seen right) bound

  pub still_before : Still counters then → Still counters at.b
  still_before = quiet_before (counters_seen counters) (fields_seen at.b) (fields_seen then) at.looked.come aged.fields
