-- What keeps what a call knows of a border that it reads field by field.
use Rattle.std.proofs.Common.{ℕ, zero, suc, ◌≡◌, ◌≢◌, length, map, slice_get, None, ◌<◌, ◌≤◌, ◌⊎◌, inl, inr, List, [], ◌∷◌, Option, Some, Bool, true, false, refl, sym, ap, subst, ◌∙◌, arith}
use Rattle.mt_slice.specs.Place.{Place, deeper, under, first_slice, first_class}
use Rattle.mt_types.specs.declared.row.Row.{Row}
use Rattle.mt_chart.specs.Tree.{PlainContent, short, long, link, PlainEntry, Right, BorderNode, border, Arena, Among, first, later, Below, HoldsRow, Has}
use Rattle.mt_chart.specs.Chart.{Standing, on, gone, at_level, spot, Chart, OnBorder, Holds, IsTree, Evolves, class}
use Rattle.mt_chart.specs.Walk.{Known, IsOn}
use Rattle.mt_chart.specs.ScanRun.{Lacked, EntriesInOrder}
use Rattle.mt_chart.specs.Noted.{SlotSeen, FieldsSeen, AreSlots, Counters, IsQuiet, HasComeTo, IsSameKey, Ages, IsTrueEntry, IsNoted, entries_in}
use Rattle.mt_chart.specs.Reading.{HasLooked, HasRight, AreNoted, HasOrder, StandsBefore, StandsAfter, AreBefore, Stops, at_end, is_after, is_other}
use Rattle.mt_chart.proofs.HeldNodes.{border_is_on, known_link}
use Rattle.mt_chart.proofs.Keys.{holds_slice, in_interval}
use Rattle.mt_chart.proofs.NotedLemmas.{quiet_before, noted_slots_stay}
use Rattle.mt_chart.proofs.Reach.{has}
use Rattle.mt_chart.proofs.Rise.{border_on}
use Rattle.mt_chart.proofs.Walk.{known_kept}

never_went : (y : Bool) (begun epoch : ℕ) → on y ≡ gone epoch → begun ≤ epoch
never_went y begun epoch is = absurd cc

-- what the right link of a border that is on names is known
right_known : (arena : Arena) (chart : Chart) → IsTree arena chart → (begun number : ℕ) (prefix : List ℕ) (node : BorderNode) → OnBorder arena chart number prefix node → (right : Right) → node.right ≡ Some right
    → (node.low < right.low) × Known chart begun right.number (at_level 0) prefix right.low
right_known arena chart tree begun number prefix node on_border right is =
    let (above, y, place) = (tree.each_border number prefix node on_border).right right is in
    (above, record { standing = on y; place = place; since = λ epoch e. never_went y begun epoch e })

-- ---- the version is read
pub looks : (arena : Arena) (chart : Chart) → IsTree arena chart → (begun number : ℕ) (prefix : List ℕ) (slice : ℕ) (f : FieldsSeen) → Holds chart begun number prefix slice
    → arena number ≡ Some (border f.node) → f.node.deleted ≡ false → HasLooked (record { inserts = f.vinsert; splits = f.vsplit }) chart begun number prefix slice f
looks arena chart tree begun number prefix slice f holds named alive =
    let (on_border, low) = border_is_on arena chart tree begun number slice prefix f.node holds named alive in
    record {
      known = record { standing = on on_border.posted; place = on_border.place; since = λ epoch e. never_went on_border.posted begun epoch e };
      from_low = low;
      come = record { inserts = omega arith; splits = omega arith };
      right = λ right is. right_known arena chart tree begun number prefix f.node on_border right is;
    }

-- ---- what others leave
module _ (begun number : ℕ) (chart next : Chart) (after : Arena) (prefix : List ℕ) (slice : ℕ) (f g : FieldsSeen) (v : Counters) (evolves : Evolves begun chart next) (tree : IsTree after next)
    (named : after number ≡ Some (border g.node)) (same_low : g.node.low ≡ f.node.low) (ages : Ages f g) (rights : IsOn next number ⊎ (g.node.right ≡ f.node.right)) where
  looked_come : HasComeTo v f → HasComeTo v g
  looked_come come = record {
    inserts = let up = ages.inserts in let low = come.inserts in omega (arith, up, low);
    splits = let up = ages.splits in let low = come.splits in omega (arith, up, low);
  }

  module _ (looked : HasLooked v chart begun number prefix slice f) where
    still_known : Known next begun number (at_level 0) prefix g.node.low
    still_known = subst (λ (low : ℕ). Known next begun number (at_level 0) prefix low) (sym same_low) (known_kept begun number (at_level 0) prefix f.node.low chart next evolves looked.known)

    -- if the border is on, the tree says what its right link names
    on_here : IsOn next number → OnBorder after next number prefix g.node
    on_here is = record { posted = is.posted; place = place; node = named }
      where
        place : next number ≡ Some (spot (at_level 0) prefix g.node.low (on is.posted))
        place =
            let here : next number ≡ Some (spot is.role is.prefix is.low (on is.posted)) = is.place in
            let known : next number ≡ Some (spot (at_level 0) prefix g.node.low still_known.standing) = still_known.place in
            let same : spot is.role is.prefix is.low (on is.posted) ≡ spot (at_level 0) prefix g.node.low still_known.standing = cc in
            let standing : on is.posted ≡ still_known.standing = cc in
            known ∙ ap (λ (s : Standing). Some (spot (at_level 0) prefix g.node.low s)) (sym standing)

    pub looked_stays : HasLooked v next begun number prefix slice g
    looked_stays = record {
      known = still_known;
      from_low = subst (λ (low : ℕ). low ≤ slice) (sym same_low) looked.from_low;
      come = looked_come looked.come;
      right = λ right is. elim rights [
        | inl standing ↦ right_known after next tree begun number prefix g.node (on_here standing) right is
        | inr same ↦
            let (above, known) = looked.right right (sym same ∙ is) in
            (subst (λ (low : ℕ). low < right.low) (sym same_low) above, known_kept begun right.number (at_level 0) prefix right.low chart next evolves known)
      ];
    }

    pub right_stays : (noted : Option Right) → HasRight v chart begun prefix slice f noted → HasRight v next begun prefix slice g noted
    right_stays noted right = record {
      passes = right.passes;
      known = λ link is. known_kept begun link.number (at_level 0) prefix link.low chart next evolves (right.known link is);
      lasts = λ quiet other below.
          let before = quiet_before v f g looked.come ages quiet in
          (ages.quiet v before quiet).right other (right.lasts before other below);
    }

-- ---- the order is read
pub same_key : (slot : SlotSeen) → IsSameKey slot slot
same_key slot = record { slice = refl; class = refl; plain = λ is. (is, λ place row holds. (row, holds)); rows = λ place row holds. inl (row, holds); links = λ number is. is }

module _ (show : Row → Row) (arena : Arena) (chart : Chart) (tree : IsTree arena chart) (begun number : ℕ) (past : List Arena) (prefix : List ℕ) (f : FieldsSeen) (on_border : OnBorder arena chart number prefix f.node) where
  -- what a live slot holds is there
  true_now : (slot : SlotSeen) → Among slot.entry f.node.entries → IsTrueEntry show chart begun (arena ∷ past) prefix slot.entry
  true_now slot there = record {
    row = λ place row holds. inl (row, has arena chart tree (under prefix place) row (record { prefix = prefix; number = number; node = f.node; entry = slot.entry; place = place; on_border = on_border; live = there; holds = holds; is_key = refl }), refl);
    link = λ head is. known_link arena chart tree begun number slot.entry.slice head prefix f.node on_border (subst (λ c. Among (record { slice = slot.entry.slice; content = c }) f.node.entries) is there);
  }

  noted_now : (slots : AreSlots f) (quiet : f.splitting ≡ false) (numbers : List ℕ) → ((k : ℕ) → Among k numbers → (f.held k ≡ true) × (f.lives k ≡ true)) → AreNoted show chart begun (arena ∷ past) prefix f (map f.slot numbers) numbers
  noted_now slots quiet [] live = tt
  noted_now slots quiet (k ∷ numbers) live =
      let (held, lives) = live k first in
      (record { held = held; same = same_key (f.slot k); true = true_now (f.slot k) (slots.live k lives quiet) }, noted_now slots quiet numbers (λ i there. live i (later there)))

  pub orders : AreSlots f → f.splitting ≡ false → EntriesInOrder f.node.entries → (noted : Option Right) → ((other : ℕ) → Below other noted → Below other f.node.right) → (numbers : List ℕ)
      → f.node.entries ≡ entries_in (map f.slot numbers) → ((k : ℕ) → Among k numbers → (f.held k ≡ true) × (f.lives k ≡ true))
      → HasOrder show chart begun (arena ∷ past) prefix f noted numbers (map f.slot numbers)
  orders slots quiet ordered noted lasts numbers entries live = record {
    moment = arena;
    passed = first;
    node = f.node;
    low = refl;
    entries = entries;
    in_order = ordered;
    right = lasts;
    interval = λ place row low below there. in_interval arena chart tree number prefix f.node place on_border low below row there;
    slots = noted_now slots quiet numbers live;
  }

-- ---- what others leave of it
module _ (show : Row → Row) (begun number : ℕ) (chart next : Chart) (after : Arena) (past : List Arena) (prefix : List ℕ) (f g : FieldsSeen) (v : Counters) (evolves : Evolves begun chart next) (tree : IsTree after next)
    (named : after number ≡ Some (border g.node)) (same_low : g.node.low ≡ f.node.low) (ages : Ages f g) (slots : AreSlots g) (come : HasComeTo v f) (known : Known next begun number (at_level 0) prefix g.node.low) where
  -- a border that isn't marked deleted is on
  on_now : IsQuiet v g → OnBorder after next number prefix g.node
  on_now quiet = (border_on after next tree begun number (at_level 0) prefix g.node.low known.standing known.place g.node named quiet.alive).0

  noted_stay : (was : List SlotSeen) (numbers : List ℕ) → AreNoted show chart begun past prefix f was numbers → IsQuiet v g → AreNoted show next begun (after ∷ past) prefix g was numbers
  noted_stay [] [] noted quiet = tt
  noted_stay (was ∷ others) (k ∷ numbers) noted quiet =
      (noted_slots_stay show begun number chart next after past prefix f g v was k evolves tree (on_now quiet) slots come ages (λ before. noted.0) quiet, noted_stay others numbers noted.1 quiet)
  noted_stay [] (k ∷ numbers) noted quiet = absurd noted
  noted_stay (was ∷ others) [] noted quiet = absurd noted

  pub order_stays : (right : Option Right) (numbers : List ℕ) (was : List SlotSeen) → (IsQuiet v f → HasOrder show chart begun past prefix f right numbers was) → IsQuiet v g → HasOrder show next begun (after ∷ past) prefix g right numbers was
  order_stays right numbers was order quiet =
      let before = order (quiet_before v f g come ages quiet) in
      record {
        moment = before.moment;
        passed = later before.passed;
        node = before.node;
        low = before.low ∙ sym same_low;
        entries = before.entries;
        in_order = before.in_order;
        right = before.right;
        interval = before.interval;
        slots = noted_stay was numbers before.slots quiet;
      }

  -- and of a slot that was read
  pub slot_stays : (was : SlotSeen) (k : ℕ) → (IsQuiet v f → IsNoted show chart begun past prefix f was k) → IsQuiet v g → IsNoted show next begun (after ∷ past) prefix g was k
  slot_stays was k noted quiet = noted_slots_stay show begun number chart next after past prefix f g v was k evolves tree (on_now quiet) slots come ages noted quiet

-- ---- a get: no slot that was noted holds its key
-- the slot of an entry
slot_of : (was : List SlotSeen) (entry : PlainEntry) → Among entry (entries_in was) → (i : ℕ) × (slot : SlotSeen) × (slice_get was i ≡ Some slot) × (slot.entry ≡ entry)
slot_of [] entry there = elim there [ ]
slot_of (was ∷ others) entry first = (0, was, refl, refl)
slot_of (was ∷ others) entry (later there) = let (i, slot, is, same) = slot_of others entry there in (suc i, slot, is, same)

slot_among : (was : List SlotSeen) (i : ℕ) (slot : SlotSeen) → slice_get was i ≡ Some slot → Among slot.entry (entries_in was)
slot_among [] i slot is = absurd (let clash : ◌≡◌ {A = Option SlotSeen} None (Some slot) = is in cc)
slot_among (was ∷ others) zero slot is = let same : was ≡ slot = cc in subst (λ (s : SlotSeen). Among s.entry (was.entry ∷ entries_in others)) same first
slot_among (was ∷ others) (suc i) slot is = later (slot_among others i slot is)

slot_within : (was : List SlotSeen) (i : ℕ) (slot : SlotSeen) → slice_get was i ≡ Some slot → i < length was
slot_within [] i slot is = absurd (let clash : ◌≡◌ {A = Option SlotSeen} None (Some slot) = is in cc)
slot_within (was ∷ others) zero slot is = omega arith
slot_within (was ∷ others) (suc i) slot is = let less = slot_within others i slot is in omega (arith, less)

-- the entries of two places are in order
in_turn : (was : List SlotSeen) → EntriesInOrder (entries_in was) → (i j : ℕ) (one other : SlotSeen) → i < j → slice_get was i ≡ Some one → slice_get was j ≡ Some other
    → (one.entry.slice < other.entry.slice) ⊎ ((one.entry.slice ≡ other.entry.slice) × (class one.entry.content < class other.entry.content))
in_turn [] ordered i j one other less at_i at_j = absurd (let clash : ◌≡◌ {A = Option SlotSeen} None (Some one) = at_i in cc)
in_turn (was ∷ others) ordered zero zero one other less at_i at_j = absurd (omega (arith, less))
in_turn (was ∷ others) ordered zero (suc j) one other less at_i at_j =
    let same : was ≡ one = cc in
    subst (λ (s : SlotSeen). (s.entry.slice < other.entry.slice) ⊎ ((s.entry.slice ≡ other.entry.slice) × (class s.entry.content < class other.entry.content))) same
    (ordered.0 other.entry (slot_among others j other at_j))
in_turn (was ∷ others) ordered (suc i) zero one other less at_i at_j = absurd (omega (arith, less))
in_turn (was ∷ others) ordered (suc i) (suc j) one other less at_i at_j = in_turn others ordered.1 i j one other (omega (arith, less)) at_i at_j

-- if an entry is at a slice and class, it isn't before or after them
not_before : (slice bytes : ℕ) (entry : PlainEntry) → StandsBefore slice bytes entry → entry.slice ≡ slice → class entry.content ≡ bytes → ⊥
not_before slice bytes entry (inl less) same tie = omega (arith, less, same)
not_before slice bytes entry (inr (is, less)) same tie = omega (arith, less, tie)

not_after : (slice bytes : ℕ) (entry : PlainEntry) → StandsAfter slice bytes entry → entry.slice ≡ slice → class entry.content ≡ bytes → ⊥
not_after slice bytes entry (inl less) same tie = omega (arith, less, same)
not_after slice bytes entry (inr (is, less)) same tie = omega (arith, less, tie)

module _ (was : List SlotSeen) (ordered : EntriesInOrder (entries_in was)) (key : Place) (place : ℕ) (before : AreBefore (first_slice key) (first_class key) was place) where
  -- an entry at the key's slice and class is that of the place where the search stopped
  stands_there : (stops : Stops key was place) (i : ℕ) (slot : SlotSeen) → slice_get was i ≡ Some slot → slot.entry.slice ≡ first_slice key → class slot.entry.content ≡ first_class key
      → (other : Place) × (row : Row) × HoldsRow slot.entry.slice slot.entry.content other row × (other ≢ key)
  stands_there stops i slot is same tie = elim (sizes i place) [
    | inl less ↦ absurd (not_before (first_slice key) (first_class key) slot.entry (before i slot less is) same tie)
    | inr (inl at) ↦ here stops (subst (λ (j : ℕ). slice_get was j ≡ Some slot) at is)
    | inr (inr more) ↦ absurd (behind stops more)
  ]
    where
      sizes : (m n : ℕ) → (m < n) ⊎ ((m ≡ n) ⊎ (n < m))
      sizes m n = grind arith

      here : Stops key was place → slice_get was place ≡ Some slot → (other : Place) × (row : Row) × HoldsRow slot.entry.slice slot.entry.content other row × (other ≢ key)
      here (at_end few) at = absurd (let less = slot_within was place slot at in omega (arith, less, few))
      here (is_after found at_place after) at =
          let one : found ≡ slot = cc in
          absurd (not_after (first_slice key) (first_class key) slot.entry (subst (λ (s : SlotSeen). StandsAfter (first_slice key) (first_class key) s.entry) one after) same tie)
      here (is_other found other row at_place at_slice at_class holds differs) at =
          let one : found ≡ slot = cc in
          (other, row, subst (λ (s : SlotSeen). HoldsRow s.entry.slice s.entry.content other row) one holds, differs)

      behind : Stops key was place → place < i → ⊥
      behind (at_end few) more = let less = slot_within was i slot is in omega (arith, less, few, more)
      behind (is_after found at_place after) more = beyond (in_turn was ordered place i found slot more at_place is) after
        where
          beyond : (found.entry.slice < slot.entry.slice) ⊎ ((found.entry.slice ≡ slot.entry.slice) × (class found.entry.content < class slot.entry.content)) → StandsAfter (first_slice key) (first_class key) found.entry → ⊥
          beyond (inl less) (inl after) = omega (arith, less, after, same)
          beyond (inl less) (inr (at, after)) = omega (arith, less, at, same)
          beyond (inr (at, less)) (inl after) = omega (arith, at, after, same)
          beyond (inr (at, less)) (inr (tied, after)) = omega (arith, less, after, tie)
      behind (is_other found other row at_place at_slice at_class holds differs) more = tied (in_turn was ordered place i found slot more at_place is)
        where
          tied : (found.entry.slice < slot.entry.slice) ⊎ ((found.entry.slice ≡ slot.entry.slice) × (class found.entry.content < class slot.entry.content)) → ⊥
          tied (inl less) = omega (arith, less, at_slice, same)
          tied (inr (at, less)) = omega (arith, less, at_class, tie)

-- so at the moment of the order the key had no row, and it lacked one
lacked_then : (past : List Arena) (moment : Arena) (key : Place) → Among moment past → ((row : Row) → Has moment key row → ⊥) → Lacked past key
lacked_then [] moment key passed none = elim passed [ ]
lacked_then (arena ∷ past) moment key first none = inl none
lacked_then (arena ∷ past) moment key (later passed) none = inr (lacked_then past moment key passed none)

-- what holds the row of one key holds that of no other
one_key : (slice : ℕ) (content : PlainContent) (key other : Place) (row another : Row) → HoldsRow slice content key row → HoldsRow slice content other another → other ≡ key
one_key slice (short bytes here) key other row another h k = k.0 ∙ sym h.0
one_key slice (long rest here) key other row another h k = k.0 ∙ sym h.0
one_key slice (link number) key other row another h k = absurd h

pub lacks : (show : Row → Row) (chart : Chart) (begun : ℕ) (past : List Arena) (prefix : List ℕ) (f : FieldsSeen) (noted : Option Right) (numbers : List ℕ) (was : List SlotSeen)
    → HasOrder show chart begun past prefix f noted numbers was → (key : Place) → f.node.low ≤ first_slice key → Below (first_slice key) noted → (place : ℕ)
    → AreBefore (first_slice key) (first_class key) was place → Stops key was place → Lacked past (under prefix key)
lacks show chart begun past prefix f noted numbers was order key low below place before stops = lacked_then past order.moment (under prefix key) order.passed none
  where
    ordered : EntriesInOrder (entries_in was)
    ordered = subst EntriesInOrder order.entries order.in_order

    there : (entry : PlainEntry) → Among entry order.node.entries → entry.slice ≡ first_slice key → class entry.content ≡ first_class key
        → (other : Place) × (row : Row) × HoldsRow entry.slice entry.content other row × (other ≢ key)
    there entry i same tie =
        let (at, slot, is, one) = slot_of was entry (subst (λ (es : List PlainEntry). Among entry es) order.entries i) in
        subst (λ (e : PlainEntry). (other : Place) × (row : Row) × HoldsRow e.slice e.content other row × (other ≢ key)) one
        (stands_there was ordered key place before stops at slot is (ap (λ (e : PlainEntry). e.slice) one ∙ same) (ap (λ (e : PlainEntry). class e.content) one ∙ tie))

    none : (row : Row) → Has order.moment (under prefix key) row → ⊥
    none row stood = go (order.interval key row (subst (λ (n : ℕ). n ≤ first_slice key) (sym order.low) low) (order.right (first_slice key) below) stood)
      where
        go : ((entry : PlainEntry) × Among entry order.node.entries × HoldsRow entry.slice entry.content key row)
            ⊎ ((rest : Place) × (number : ℕ) × (key ≡ deeper (first_slice key) rest) × Among (record { slice = first_slice key; content = link number }) order.node.entries) → ⊥
        go (inl (entry, i, holds)) =
            let (slice, tie) = holds_slice entry.slice entry.content key row holds in
            let (other, another, holds_other, differs) = there entry i (sym slice) (sym tie) in
            differs (one_key entry.slice entry.content key other row another holds holds_other)
        go (inr (rest, number, deep, i)) =
            let (other, another, holds_other, differs) = there (record { slice = first_slice key; content = link number }) i refl (sym (ap first_class deep)) in
            holds_other
