-- What a reading of a slot's key or value adds to what a call knows of a border.
use Rattle.std.proofs.Common.{Bool, true, false, cond, ◌↔◌, ℕ, zero, suc, ◌≡◌, ◌≢◌, ◌<◌, ◌≤◌, ◌+◌, ◌⊎◌, inl, inr, List, [], ◌∷◌, ◌++◌, length, take, slice_get, Option, Some, None, refl, sym, ap, subst, ◌∙◌, add-one, arith}
use Rattle.std.proofs.lemmas.Bool.{lt-ltb, ltb-true}
use Rattle.std.proofs.lemmas.List.{length-append}
use Rattle.mt_slice.specs.Place.{Place, deeper, under, first_slice, first_class}
use Rattle.mt_types.specs.declared.row.Row.{Row}
use Rattle.mt_chart.specs.Tree.{PlainContent, short, long, link, PlainEntry, Right, Arena, Among, first, later, Below, no_right, before_right, HoldsRow}
use Rattle.mt_chart.specs.Chart.{top, Chart, Holds, class}
use Rattle.mt_chart.specs.Walk.{Known}
use Rattle.mt_chart.specs.ScanRun.{Stood, AllHave, EntriesInOrder}
use Rattle.mt_chart.specs.Noted.{plain, SlotSeen, FieldsSeen, IsSameKey, IsTrueEntry, IsNoted, AreRead, entries_in}
use Rattle.mt_chart.specs.NotedList.{IsNotedList}
use Rattle.mt_chart.specs.ListNoted.{AreKept}
use Rattle.mt_chart.specs.Reading.{AreNoted, StandsBefore, StandsAfter, Stops, at_end, is_after, is_other, Searches, row_in, HasRowKey, HasLinkKey, is_below, kept_of, Lists}
use Rattle.mt_chart.proofs.Entries.{among_cases, among_first}
use Rattle.mt_chart.proofs.ListNoted.{lists_are_noted}
use Rattle.mt_chart.proofs.ReadingLemmas.{same_key}

module _ (show : Row → Row) (chart : Chart) (begun : ℕ) (past : List Arena) (prefix : List ℕ) (f : FieldsSeen) where
  -- the slot of a place, as it was
  pub noted_at : (was : List SlotSeen) (numbers : List ℕ) → AreNoted show chart begun past prefix f was numbers → (place number : ℕ) → slice_get numbers place ≡ Some number
      → (slot : SlotSeen) × (slice_get was place ≡ Some slot) × IsNoted show chart begun past prefix f slot number
  noted_at [] [] noted place number is = absurd (let clash : ◌≡◌ {A = Option ℕ} None (Some number) = is in cc)
  noted_at (was ∷ others) (k ∷ numbers) noted zero number is = let same : k ≡ number = cc in (was, refl, subst (λ (n : ℕ). IsNoted show chart begun past prefix f was n) same noted.0)
  noted_at (was ∷ others) (k ∷ numbers) noted (suc place) number is = noted_at others numbers noted.1 place number is
  noted_at [] (k ∷ numbers) noted place number is = absurd noted
  noted_at (was ∷ others) [] noted place number is = absurd noted

  pub as_many : (was : List SlotSeen) (numbers : List ℕ) → AreNoted show chart begun past prefix f was numbers → length was ≡ length numbers
  as_many [] [] noted = refl
  as_many (was ∷ others) (k ∷ numbers) noted = ap suc (as_many others numbers noted.1)
  as_many [] (k ∷ numbers) noted = absurd noted
  as_many (was ∷ others) [] noted = absurd noted

  -- ---- a get reads the key of a place
  module _ (noted : Option Right) (numbers : List ℕ) (key : Place) (place number : ℕ) (is : slice_get numbers place ≡ Some number) (searches : Searches show chart begun past prefix f noted numbers key place) where
    abbrev it_was : (slot : SlotSeen) × (slice_get searches.was place ≡ Some slot) × IsNoted show chart begun past prefix f slot number
    it_was = noted_at searches.was numbers searches.order.slots place number is

    -- it is before the key sought
    pub passes_key : StandsBefore (first_slice key) (first_class key) (f.slot number).entry → Searches show chart begun past prefix f noted numbers key (place + 1)
    passes_key before = record { was = searches.was; order = searches.order; before = λ i slot less at. go i slot less at (sizes i place) }
      where
        sizes : (m n : ℕ) → (m < n) ⊎ ((m ≡ n) ⊎ (n < m))
        sizes m n = grind arith

        moved : (slot : SlotSeen) → IsSameKey slot (f.slot number) → StandsBefore (first_slice key) (first_class key) slot.entry
        moved slot same = elim before [
          | inl less ↦ inl (let slice = same.slice in omega (arith, less, slice))
          | inr (at, less) ↦ inr (sym same.slice ∙ at, (let tie = same.class in omega (arith, less, tie)))
        ]

        go : (i : ℕ) (slot : SlotSeen) → i < place + 1 → slice_get searches.was i ≡ Some slot → (i < place) ⊎ ((i ≡ place) ⊎ (place < i)) → StandsBefore (first_slice key) (first_class key) slot.entry
        go i slot less at (inl before_it) = searches.before i slot before_it at
        go i slot less at (inr (inl here)) =
            let at_place : slice_get searches.was place ≡ Some slot = subst (λ (j : ℕ). slice_get searches.was j ≡ Some slot) here at in
            let found : slice_get searches.was place ≡ Some it_was.0 = it_was.1 in
            let one : it_was.0 ≡ slot = cc in
            moved slot (subst (λ (s : SlotSeen). IsSameKey s (f.slot number)) one it_was.2.same)
        go i slot less at (inr (inr more)) = absurd (omega (arith, less, more))

    -- it is after it
    pub stops_after : StandsAfter (first_slice key) (first_class key) (f.slot number).entry → Stops key searches.was place
    stops_after after =
        let same = it_was.2.same in
        is_after it_was.0 it_was.1 (elim after [
          | inl more ↦ inl (let slice = same.slice in omega (arith, more, slice))
          | inr (at, more) ↦ inr (sym same.slice ∙ at, (let tie = same.class in omega (arith, more, tie)))
        ])

    -- it is a row of another key, at the key's slice and class
    pub stops_other : (f.slot number).mark ≡ plain → (other : Place) (row : Row) → HoldsRow (f.slot number).entry.slice (f.slot number).entry.content other row
        → (f.slot number).entry.slice ≡ first_slice key → class (f.slot number).entry.content ≡ first_class key → other ≢ key → Stops key searches.was place
    stops_other mark other row holds at_slice at_class differs =
        let same = it_was.2.same in
        let (old, held) = (same.plain mark).1 other row holds in
        is_other it_was.0 other old it_was.1 (sym same.slice ∙ at_slice) (sym same.class ∙ at_class) held differs

    -- what is in the slot now was noted, as it is
    noted_still : IsNoted show chart begun past prefix f (f.slot number) number
    noted_still = record { held = it_was.2.held; same = same_key (f.slot number); true = it_was.2.true }

    pub finds_row : (row : Row) → HoldsRow (f.slot number).entry.slice (f.slot number).entry.content key row → HasRowKey show chart begun past prefix f number key
    finds_row row holds = record { read = f.slot number; noted = noted_still; row = row; holds = holds }

    pub finds_link : (head : ℕ) → (f.slot number).entry.slice ≡ first_slice key → (f.slot number).entry.content ≡ link head → HasLinkKey show chart begun past prefix f number (first_slice key)
    finds_link head at_slice is_link = record { read = f.slot number; noted = noted_still; at_slice = at_slice; head = head; is_link = is_link }

  -- no slot is left
  pub stops_at_end : (noted : Option Right) (numbers : List ℕ) (key : Place) (place : ℕ) (searches : Searches show chart begun past prefix f noted numbers key place) → length numbers ≤ place → Stops key searches.was place
  stops_at_end noted numbers key place searches few = at_end (let many = as_many searches.was numbers searches.order.slots in omega (arith, many, few))

  -- ---- a get reads the value
  -- what holds the key's row has that row
  its_row : (slice : ℕ) (content : PlainContent) (key : Place) (row other : Row) → HoldsRow slice content key row → row_in content ≡ Some other → HoldsRow slice content key other
  its_row slice (short bytes here) key row other holds is = (holds.0, cc)
  its_row slice (long rest here) key row other holds is = (holds.0, cc)
  its_row slice (link number) key row other holds is = absurd holds

  no_row : (number : ℕ) (row : Row) (content : PlainContent) → content ≡ link number → row_in content ≡ Some row → ⊥
  no_row number row content is has = (let clash : None ≡ Some row = sym (ap row_in is) ∙ has in cc)

  pub row_stood : (number : ℕ) (key : Place) → HasRowKey show chart begun past prefix f number key → (row : Row) → row_in (f.slot number).entry.content ≡ Some row → Stood show past (under prefix key) (show row)
  row_stood number key found row is = go (found.noted.same.rows key found.row found.holds)
    where
      go : ((new : Row) × HoldsRow (f.slot number).entry.slice (f.slot number).entry.content key new)
          ⊎ ((head : ℕ) × ((f.slot number).entry.content ≡ link head) × (rest : Place) × (key ≡ deeper (first_slice key) rest)) → Stood show past (under prefix key) (show row)
      go (inl (new, holds)) = found.noted.true.row key row (its_row (f.slot number).entry.slice (f.slot number).entry.content key new row holds is)
      go (inr (head, is_link, rest, deep)) = absurd (no_row head row (f.slot number).entry.content is_link is)

  -- a row isn't read under a link's key
  pub no_row_under_link : (number slice : ℕ) → HasLinkKey show chart begun past prefix f number slice → (row : Row) → row_in (f.slot number).entry.content ≡ Some row → ⊥
  no_row_under_link number slice found row is = no_row found.head row (f.slot number).entry.content (found.noted.same.links found.head found.is_link) is

  pub link_known : (number slice : ℕ) → HasLinkKey show chart begun past prefix f number slice → (head : ℕ) → (f.slot number).entry.content ≡ link head → Known chart begun head top (slice ∷ prefix) 0
  link_known number slice found head is =
      subst (λ (s : ℕ). Known chart begun head top (s ∷ prefix) 0) (found.noted.same.slice ∙ found.at_slice) (found.noted.true.link head is)

  -- ---- a range reads a slot, key and value
  -- one more was read
  read_more : (was read : List SlotSeen) (slot new : SlotSeen) (place : ℕ) → length read ≡ place → AreRead (take place was) read → slice_get was place ≡ Some slot → IsSameKey slot new
      → AreRead (take (suc place) was) (read ++ new ∷ [])
  read_more [] [] slot new zero many same is key = absurd (let clash : ◌≡◌ {A = Option SlotSeen} None (Some slot) = is in cc)
  read_more (was ∷ others) [] slot new zero many same is key = let one : was ≡ slot = cc in (subst (λ (s : SlotSeen). IsSameKey s new) (sym one) key, tt)
  read_more was [] slot new (suc place) many same is key = absurd (omega (arith, many))
  read_more was (read ∷ rest) slot new zero many same is key = absurd (omega (arith, many))
  read_more [] (read ∷ rest) slot new (suc place) many same is key = absurd same
  read_more (was ∷ others) (read ∷ rest) slot new (suc place) many same is key = (same.0, read_more others rest slot new place (omega (arith, many)) same.1 is key)

  kept_more : (noted : Option Right) (read : List SlotSeen) (new : SlotSeen) → kept_of noted (read ++ new ∷ []) ≡ kept_of noted read ++ kept_of noted (new ∷ [])
  kept_more noted [] new = refl
  kept_more noted (read ∷ rest) new = go (is_below read.entry.slice noted) (kept_more noted rest new)
    where
      go : (b : Bool) → kept_of noted (rest ++ new ∷ []) ≡ kept_of noted rest ++ kept_of noted (new ∷ [])
          → cond b (read.entry ∷ kept_of noted (rest ++ new ∷ [])) (kept_of noted (rest ++ new ∷ [])) ≡ cond b (read.entry ∷ kept_of noted rest) (kept_of noted rest) ++ kept_of noted (new ∷ [])
      go true more = ap (λ (es : List PlainEntry). read.entry ∷ es) more
      go false more = more

  among_more : (read : List SlotSeen) (new : SlotSeen) (entry : PlainEntry) → Among entry (entries_in (read ++ new ∷ [])) → Among entry (entries_in read) ⊎ (entry ≡ new.entry)
  among_more [] new _ first = inr refl
  among_more [] new entry (later i) = elim i [ ]
  among_more (x ∷ read) new _ first = inl first
  among_more (x ∷ read) new entry (later i) = elim (among_more read new entry i) [ inl j ↦ inl (later j) | inr is ↦ inr is ]

  -- the key of the next slot was read, and then its value: the entry that both make is what the slot holds now
  pub lists_more : (noted : Option Right) (numbers : List ℕ) (place number : ℕ) (kept : List PlainEntry) → slice_get numbers place ≡ Some number → Lists show chart begun past prefix f noted numbers place kept
      → Lists show chart begun past prefix f noted numbers (place + 1) (kept ++ kept_of noted (f.slot number ∷ []))
  lists_more noted numbers place number kept is lists =
      let (slot, here, was) = noted_at lists.was numbers lists.order.slots place number is in
      let size = length-append lists.read (f.slot number ∷ []) in
      let many = lists.many in
      record {
        was = lists.was;
        order = lists.order;
        read = lists.read ++ f.slot number ∷ [];
        many = omega (arith, size, many);
        same = subst (λ (n : ℕ). AreRead (take n lists.was) (lists.read ++ f.slot number ∷ [])) (sym (add-one place)) (read_more lists.was lists.read slot (f.slot number) place lists.many lists.same here was.same);
        kept_are = ap (λ (es : List PlainEntry). es ++ kept_of noted (f.slot number ∷ [])) lists.kept_are ∙ sym (kept_more noted lists.read (f.slot number));
        true = λ entry i. elim (among_more lists.read (f.slot number) entry i) [
          | inl j ↦ lists.true entry j
          | inr one ↦ subst (λ (e : PlainEntry). IsTrueEntry show chart begun past prefix e) (sym one) was.true
        ];
      }

  -- ---- all slots were read
  pub below_tells : (slice : ℕ) (noted : Option Right) → (is_below slice noted ≡ true) ↔ Below slice noted
  below_tells slice None = ((λ is. no_right), (λ below. refl))
  below_tells slice (Some right) = ((λ is. before_right (ltb-true slice right.low is)), (λ below. elim below [ before_right less ↦ lt-ltb slice right.low less ]))

  are_kept : (noted : Option Right) (read : List SlotSeen) → AreKept read noted (kept_of noted read)
  are_kept noted [] entry = ((λ i. elim i [ ]), (λ i. elim i.0 [ ]))
  are_kept noted (slot ∷ read) entry = go (are_kept noted read entry) (is_below slot.entry.slice noted) refl
    where
      go : (rest : Among entry (kept_of noted read) ↔ (Among entry (entries_in read) × Below entry.slice noted)) (b : Bool) → is_below slot.entry.slice noted ≡ b
          → Among entry (cond b (slot.entry ∷ kept_of noted read) (kept_of noted read)) ↔ (Among entry (slot.entry ∷ entries_in read) × Below entry.slice noted)
      go rest true is = (
        (λ i. elim (among_cases entry slot.entry (kept_of noted read) i) [
          | inl one ↦ (among_first entry slot.entry (entries_in read) one, subst (λ (e : PlainEntry). Below e.slice noted) (sym one) ((below_tells slot.entry.slice noted).0 is))
          | inr j ↦ (later (rest.0 j).0, (rest.0 j).1)
        ]),
        (λ i. elim (among_cases entry slot.entry (entries_in read) i.0) [
          | inl one ↦ among_first entry slot.entry (kept_of noted read) one
          | inr j ↦ later (rest.1 (j, i.1))
        ]),
      )
      go rest false is = (
        (λ i. (later (rest.0 i).0, (rest.0 i).1)),
        (λ i. elim (among_cases entry slot.entry (entries_in read) i.0) [
          | inl one ↦ absurd (let yes : is_below slot.entry.slice noted ≡ true = (below_tells slot.entry.slice noted).1 (subst (λ (e : PlainEntry). Below e.slice noted) one i.1) in cc)
          | inr j ↦ rest.1 (j, i.1)
        ]),
      )

  -- what was read is in order, as what was there was
  read_among : (was read : List SlotSeen) → AreRead was read → (entry : PlainEntry) → Among entry (entries_in read)
      → (old : PlainEntry) × Among old (entries_in was) × (entry.slice ≡ old.slice) × (class entry.content ≡ class old.content)
  read_among [] [] same entry i = elim i [ ]
  read_among (was ∷ others) (read ∷ rest) same _ first = (was.entry, first, same.0.slice, same.0.class)
  read_among (was ∷ others) (read ∷ rest) same entry (later i) = let (old, j, slice, tie) = read_among others rest same.1 entry i in (old, later j, slice, tie)
  read_among [] (read ∷ rest) same entry i = absurd same
  read_among (was ∷ others) [] same entry i = absurd same

  read_in_order : (was read : List SlotSeen) → AreRead was read → EntriesInOrder (entries_in was) → EntriesInOrder (entries_in read)
  read_in_order [] [] same ordered = tt
  read_in_order (was ∷ others) (read ∷ rest) same ordered = (each, read_in_order others rest same.1 ordered.1)
    where
      each : (other : PlainEntry) → Among other (entries_in rest) → (read.entry.slice < other.slice) ⊎ ((read.entry.slice ≡ other.slice) × (class read.entry.content < class other.content))
      each other i =
          let (old, j, slice, tie) = read_among others rest same.1 other i in
          let own = same.0.slice in
          let own_class = same.0.class in
          elim (ordered.0 old j) [
            | inl less ↦ inl (omega (arith, less, slice, own))
            | inr (at, less) ↦ inr (own ∙ at ∙ sym slice, omega (arith, less, tie, own_class))
          ]
  read_in_order [] (read ∷ rest) same ordered = absurd same
  read_in_order (was ∷ others) [] same ordered = absurd same

  kept_in_order : (noted : Option Right) (read : List SlotSeen) → EntriesInOrder (entries_in read) → EntriesInOrder (kept_of noted read)
  kept_in_order noted [] ordered = tt
  kept_in_order noted (slot ∷ read) ordered = go (kept_in_order noted read ordered.1) (is_below slot.entry.slice noted)
    where
      go : EntriesInOrder (kept_of noted read) → (b : Bool) → EntriesInOrder (cond b (slot.entry ∷ kept_of noted read) (kept_of noted read))
      go rest true = ((λ other i. ordered.0 other ((are_kept noted read other).0 i).0), rest)
      go rest false = rest

  read_whole : (was read : List SlotSeen) → AreRead (take (length was) was) read → AreRead was read
  read_whole was read same = subst (λ (slots : List SlotSeen). AreRead slots read) (take-all was) same
    where
      take-all : (xs : List SlotSeen) → take (length xs) xs ≡ xs
      take-all [] = refl
      take-all (x ∷ xs) = ap (λ (ys : List SlotSeen). x ∷ ys) (take-all xs)

  -- what a range or build has read is a noted list, and in order
  pub lists_noted : (noted : Option Right) (numbers : List ℕ) (kept : List PlainEntry) → ((right : Right) → noted ≡ Some right → (slice : ℕ) → right.low ≤ slice → Holds chart begun right.number prefix slice)
      → Lists show chart begun past prefix f noted numbers (length numbers) kept → IsNotedList show chart begun (Stood show past) (AllHave past) prefix f.node.low noted kept × EntriesInOrder kept
  lists_noted noted numbers kept next lists =
      let many = as_many lists.was numbers lists.order.slots in
      let same : AreRead lists.was lists.read = read_whole lists.was lists.read (subst (λ (n : ℕ). AreRead (take n lists.was) lists.read) (sym many) lists.same) in (
        subst (λ (es : List PlainEntry). IsNotedList show chart begun (Stood show past) (AllHave past) prefix f.node.low noted es) (sym lists.kept_are)
            (subst (λ (low : ℕ). IsNotedList show chart begun (Stood show past) (AllHave past) prefix low noted (kept_of noted lists.read)) lists.order.low
            (lists_are_noted show chart begun past prefix lists.order.moment lists.order.node noted lists.was lists.read (kept_of noted lists.read) lists.order.passed lists.order.interval lists.order.entries same
            lists.order.right lists.true next (are_kept noted lists.read))),
        subst EntriesInOrder (sym lists.kept_are) (kept_in_order noted lists.read (read_in_order lists.was lists.read same (subst EntriesInOrder lists.order.entries lists.order.in_order))),
      )
