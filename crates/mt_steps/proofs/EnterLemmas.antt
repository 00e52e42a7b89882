-- What a call knows of the border that it has locked after each field that it reads of it, and how many fields it has
-- still to read.
use Rattle.std.proofs.Common.{ℕ, suc, ◌≡◌, ◌≢◌, ◌<◌, ◌≤◌, ◌+◌, ◌==◌, Bool, true, false, if◌then◌else◌, List, [], ◌∷◌, ◌++◌, length, take, drop, get_or, slice_get, Option, Some, None, refl, sym, ap, subst, ◌∙◌, arith, length-drop}
use Rattle.std.specs.Prelude.{◌-◌, nat_lt, slice_index, Result, Ok, Err, IfOk, IsSomeAnd}
use Rattle.std.specs.Str.{bytes_eq}
use Rattle.std.proofs.lemmas.Bool.{ltb-true, ltb-false, eq-eqb, eqb-true}
use Rattle.std.proofs.lemmas.List.{take_all, get_or-drop, take_more, map-append}
use Rattle.std.proofs.lemmas.Option.{slice_get-get_or}
use Rattle.mt_types.specs.declared.numbers.NodeNo.{NodeNo}
use Rattle.mt_types.specs.declared.row.Row.{Row}
use Rattle.mt_types.specs.declared.refusal.NoMemory.{NoMemory}
use Rattle.mt_slice.specs.Place.{slice_number}
use Rattle.mt_word.specs.Slots.{Slots}
use Rattle.mt_border.specs.Border.{BorderView, right_for, first_row}
use Rattle.mt_border.specs.Entry.{IsEntry, content_suffix}
use Rattle.mt_border.specs.Find.{found_content}
use Rattle.mt_border.specs.Keys.{KeyView, entry_key, content_mark, IsKeyPart}
use Rattle.mt_border.specs.Order.{IsBorder}
use Rattle.mt_border.specs.Parts.{IsValueOf}
use Rattle.mt_border.specs.Slots.{slot_at, key_in, key_at, order_in, order_shown}
use Rattle.mt_border.specs.Table.{blank_slot, next_number}
use Rattle.mt_border.specs.declared.entry.Content.{Content}
use Rattle.mt_border.specs.declared.entry.Content.TheVariants.{Short, Long, Link}
use Rattle.mt_border.specs.declared.entry.Entry.{Entry}
use Rattle.mt_border.specs.declared.entry.RightLink.{RightLink}
use Rattle.mt_border.specs.declared.field.KeyPart.{KeyPart}
use Rattle.mt_border.specs.declared.field.ValuePart.{ValuePart}
use Rattle.mt_border.specs.declared.field.ValuePart.TheVariants.{Row as RowPart, Link as LinkPart}
use Rattle.mt_border.specs.declared.found.Found.TheVariants.{Absent as AbsentFound, Row as RowFound, OtherSuffix, Link as LinkFound}
use Rattle.mt_border.specs.declared.unwritten.Unwritten.{Unwritten}
use Rattle.mt_border.specs.declared.unwritten.Unwritten.TheVariants.{Nothing}
use Rattle.mt_border.proofs.SlotLemmas.{live_count}
use Rattle.mt_arena.specs.Arena.{ArenaView, IsArena}
use Rattle.mt_arena.specs.Node.{node_at, IsNode}
use Rattle.mt_arena.specs.Parts.{IsFieldOf, IsPart}
use Rattle.mt_arena.specs.declared.part.Field.{Field}
use Rattle.mt_arena.specs.declared.part.Field.TheVariants.{Right as RightField, Order as OrderField}
use Rattle.mt_arena.specs.declared.part.Part.{Part}
use Rattle.mt_arena.specs.declared.part.Part.TheVariants.{Right as RightPart, Order as OrderPart, Key as KeyPartOf, Value as ValuePartOf}
use Rattle.mt_tree.specs.Descent.{found_for}
use Rattle.mt_tree.proofs.AgeLemmas.{entry_read}
use Rattle.mt_tree.proofs.DescentLemmas.{rank_tells}
use Rattle.mt_steps.specs.declared.entering.Outline.{Outline}
use Rattle.mt_steps.specs.declared.entering.Match.{Match}
use Rattle.mt_steps.specs.declared.entering.Match.TheVariants.{Same, Other as OtherMatch, Layer as LayerMatch}
use Rattle.mt_steps.specs.declared.entering.Sought.{Sought}
use Rattle.mt_steps.specs.declared.entering.Sought.TheVariants.{Before, At, After}
use Rattle.mt_steps.specs.declared.entering.Entering.{Entering}
use Rattle.mt_steps.specs.declared.entering.Entering.TheVariants.{Locked, Bounded, Reads, AtValue}
use Rattle.mt_steps.specs.declared.entering.Entered.{Entered}
use Rattle.mt_steps.specs.declared.entering.Entered.TheVariants.{Enters, Here}
use Rattle.mt_steps.specs.declared.entering.There.TheVariants.{Full, Absent as AbsentThere}
use Rattle.mt_steps.specs.Listing.{key_read_of}
use Rattle.mt_steps.specs.declared.listing.SlotKey.{SlotKey}
use Rattle.mt_word.specs.declared.permutation_word.TheConstants.{SLOTS}
use Rattle.mt_steps.specs.Entering.{part_key, match_by, sought_then, sought_for, bounded_by, bounded, key_noted, keys_with, noted, entry_noted, keys_of, absent_there, keys_read, next_key, value_there, wants, entered, IsEntering, IsOutlined, EnteringIsTrue, EnteredIsTrue, entering_left, HasFewerLeft, EnterLeads}
use Rattle.mt_steps.proofs.PartLemmas.{lends_field}
use Rattle.mt_steps.proofs.ReaderLemmas.{lent_of}
use Rattle.mt_steps.proofs.SoughtLemmas.{MatchedAt, SoughtIsFound, sought_more, sought_found}
use Rattle.mt_steps.proofs.StandLemmas.{few_shown}

-- a key is what it is lent as
key_same : (key : KeyView) (part : KeyPart) → IsKeyPart key part → part_key part ≡ key
key_same key part is = λ i. record { slice = is.slice i; class = is.class i; suffix = is.suffix i; mark = is.mark i }

-- THE ENTRY AT A PLACE has the slice of the key sought
pub record IsThere (rest : List ℕ) (live : List Entry) (place : ℕ) (entry : Entry) : Type 0 where
  pub within : place < length live
  pub read : get_or live place blank_slot.entry ≡ entry
  pub stands : slice_get live place ≡ Some entry
  pub own : entry ≡ record { slice = slice_number rest; content = entry.content }

pub matched_there : (rest : List ℕ) (b : BorderView) → IsBorder b → (place : ℕ) (matched : Match) → (m : MatchedAt rest b.live place matched) → IsThere rest b.live place m.entry
matched_there rest b h place matched m =
    let count : length (drop place b.live) ≡ suc (length m.more) = ap (λ (l : List Entry). length l) m.starts in
    let within : place < length b.live = omega (arith, count, length-drop place b.live) in
    let none : place ≡ place + 0 = omega arith in
    let read : (d : Entry) → get_or b.live place d ≡ m.entry = λ d. ap (λ (n : ℕ). get_or b.live n d) none ∙ (sym (get_or-drop place b.live 0 d) ∙ ap (λ (l : List Entry). get_or l 0 d) m.starts) in
    let whole : IsEntry m.entry = subst IsEntry (read m.entry) (h.entries.each place m.entry within) in
    record {
      within = within;
      read = read blank_slot.entry;
      stands = slice_get-get_or b.live place m.entry within ∙ ap Some (read m.entry);
      own = λ i. record { slice = (rank_tells rest m.entry whole m.rank).0 i; content = m.entry.content };
    }

-- one key more is noted
keys_more : (full : Bool) (live : List Entry) (place : ℕ) (entry : Entry) (part : KeyPart) (keys : List SlotKey) → keys ≡ keys_of full (take place live) → key_noted part ≡ entry_noted entry → take (place + 1) live ≡ take place live ++ (entry ∷ []) → keys_with full keys part ≡ keys_of full (take (place + 1) live)
keys_more true live place entry part keys is one more = rw (is, one, more, map-append entry_noted (take place live) (entry ∷ [])) refl
keys_more false live place entry part keys is one more = is

module _ (rest : List ℕ) (b : BorderView) (h : IsBorder b) where
  most_live : length b.live ≤ 15
  most_live = omega (arith, h.slots)

  -- there are as many live slots as the order says
  live_long : (outline : Outline) → IsOutlined rest b outline → length outline.order.live ≡ length b.live
  live_long outline is = ap (λ (o : Slots). length o.live) is.order ∙ sym (live_count b.live b.unused b.slots b.order h.seen)

  -- the entry at a place is what the slot holds
  slot_there : (outline : Outline) → IsOutlined rest b outline → (place : ℕ) → place < length b.live → (slot_at b (slice_index outline.order.live place)).entry ≡ get_or b.live place blank_slot.entry
  slot_there outline is place within = ap (λ (o : Slots). (slot_at b (slice_index o.live place)).entry) is.order ∙ sym (entry_read b h place within)

  -- ---- the right link, and the order
  right_is : (part : Part) → IsFieldOf b RightField part → EnteredIsTrue rest (entered rest Locked part) b
  right_is (RightPart right) is = subst (λ (r : Option RightLink). EnteredIsTrue rest (bounded (slice_number rest) r) b) (sym is) (go (right_for b.right (slice_number rest)) refl)
    where
      go : (next : Option NodeNo) → right_for b.right (slice_number rest) ≡ next → EnteredIsTrue rest (bounded_by b.right next) b
      go None none = record { same = refl; within = none }
      go (Some next) to = to
  right_is part is = absurd is

  -- no key has the slice and class sought
  absent_is : (outline : Outline) → IsOutlined rest b outline → outline.keys ≡ keys_of (length b.live == SLOTS) b.live → (place : ℕ) → found_for rest b.live ≡ AbsentFound place → EnteredIsTrue rest (Here (absent_there outline place)) b
  absent_is outline is keys place found = go (length outline.order.live == SLOTS) refl
    where
      go : (full : Bool) → (length outline.order.live == SLOTS) ≡ full → EnteredIsTrue rest (Here (if full then Full place outline else AbsentThere place)) b
      go true full =
          let all : length b.live ≡ SLOTS = sym (live_long outline is) ∙ eqb-true (length outline.order.live) SLOTS full in
          (is.bounded.within, (found, is, all, keys ∙ ap (λ (f : Bool). keys_of f b.live) (eq-eqb (length b.live) SLOTS all)))
      go false room =
          let other : length b.live ≢ SLOTS = λ e. (let clash : true ≡ false = sym (eq-eqb (length outline.order.live) SLOTS (live_long outline is ∙ e)) ∙ room in absurd (cc)) in
          (is.bounded.within, (found, omega (arith, other, most_live)))

  -- all keys are read
  all_read : (outline : Outline) → IsOutlined rest b outline → outline.keys ≡ keys_of (length b.live == SLOTS) b.live → EnteredIsTrue rest (keys_read outline (length b.live) (sought_for rest b.live)) b
  all_read outline is keys = go (sought_for rest b.live) refl (sought_found rest b.live)
    where
      go : (sought : Sought) → sought ≡ sought_for rest b.live → SoughtIsFound rest b.live sought → EnteredIsTrue rest (keys_read outline (length b.live) sought) b
      go Before same found = absent_is outline is keys (length b.live) found
      go (At place matched) same found = (is, same)
      go (After place) same found = absent_is outline is keys place found

  -- the keys before a place are read
  next_is : (outline : Outline) → IsOutlined rest b outline → (place : ℕ) → place ≤ length b.live → outline.keys ≡ keys_of (length b.live == SLOTS) (take place b.live) → EnteredIsTrue rest (next_key outline place (sought_for rest (take place b.live))) b
  next_is outline is place within keys = go (nat_lt place (length outline.order.live)) refl
    where
      go : (more : Bool) → nat_lt place (length outline.order.live) ≡ more → EnteredIsTrue rest (if more then Enters (Reads outline place (sought_for rest (take place b.live))) else keys_read outline place (sought_for rest (take place b.live))) b
      go true less = (is, omega (arith, ltb-true place (length outline.order.live) less, live_long outline is), refl, keys)
      go false full =
          let count : place ≡ length b.live = omega (arith, within, ltb-false place (length outline.order.live) full, live_long outline is) in
          let all : take place b.live ≡ b.live = take_all place b.live (omega (arith, count)) in
          subst (λ (l : List Entry). EnteredIsTrue rest (keys_read outline place (sought_for rest l)) b) (sym all) (subst (λ (n : ℕ). EnteredIsTrue rest (keys_read outline n (sought_for rest b.live)) b) (sym count) (all_read outline is (keys ∙ ap (keys_of (length b.live == SLOTS)) all)))

  -- all of it is written: the order that is read is its own
  order_written : b.unwritten ≡ Nothing → order_shown b ≡ b.order
  order_written written = ap (λ (u : Unwritten). order_in u b.order) written

  order_is : b.unwritten ≡ Nothing → (right : Option RightLink) → EnteringIsTrue rest (Bounded right) b → (part : Part) → IsFieldOf b OrderField part → EnteredIsTrue rest (entered rest (Bounded right) part) b
  order_is written right true_of (OrderPart order) is = next_is (record { right = right; order = order; keys = [] }) (record { bounded = true_of; order = is ∙ order_written written }) 0 (omega arith) (none_noted (length b.live == SLOTS))
    where
      none_noted : (full : Bool) → [] ≡ keys_of full []
      none_noted true = refl
      none_noted false = refl
  order_is written right true_of part is = absurd is

  -- ---- a key
  key_is : b.unwritten ≡ Nothing → (outline : Outline) (place : ℕ) (sought : Sought) → EnteringIsTrue rest (Reads outline place sought) b → (part : Part) → IsFieldOf b (wants (Reads outline place sought)) part
      → EnteredIsTrue rest (entered rest (Reads outline place sought) part) b
  key_is written outline place sought (is, within, so_far, keys) (KeyPartOf part) lent =
      let number = slice_index outline.order.live place in
      let own : key_at b number ≡ entry_key (slot_at b number).entry = ap (λ (u : Unwritten). key_in u (next_number b.order) number (entry_key (slot_at b number).entry)) written in
      let key : part_key part ≡ entry_key (get_or b.live place blank_slot.entry) = key_same (key_at b number) part lent ∙ (own ∙ ap entry_key (slot_there outline is place within)) in
      let more : sought_then rest sought place (part_key part) ≡ sought_for rest (take (place + 1) b.live) =
      ap (λ (s : Sought). sought_then rest s place (part_key part)) so_far ∙ (ap (λ (k : KeyView). sought_then rest (sought_for rest (take place b.live)) place k) key ∙ sym (sought_more rest b.live place blank_slot.entry within)) in
      let entry : Entry = get_or b.live place blank_slot.entry in
      let noted_one : key_noted part ≡ entry_noted entry = ap (λ (k : KeyView). record { slice = k.slice; rest = key_read_of k.class k.suffix }) key in
      let outlined : IsOutlined rest b (noted outline part) = record { bounded = is.bounded; order = is.order } in
      let all : keys_with (length outline.order.live == SLOTS) outline.keys part ≡ keys_of (length b.live == SLOTS) (take (place + 1) b.live) =
      ap (λ (n : ℕ). keys_with (n == SLOTS) outline.keys part) (live_long outline is) ∙ keys_more (length b.live == SLOTS) b.live place entry part outline.keys keys noted_one (take_more b.live place blank_slot.entry within) in
      subst (λ (s : Sought). EnteredIsTrue rest (next_key (noted outline part) (place + 1) s) b) (sym more) (next_is (noted outline part) outlined (place + 1) (omega (arith, within)) all)
  key_is written outline place sought true_of part lent = absurd lent

  -- ---- a value
  module _ (place : ℕ) (none : right_for b.right (slice_number rest) ≡ None) where
    -- the value of a content that is at the place, by what the content's key is to the key sought
    value_by : (content : Content) (more : List Entry) → drop place b.live ≡ record { slice = slice_number rest; content = content } ∷ more → slice_get b.live place ≡ Some (record { slice = slice_number rest; content = content })
        → found_for rest b.live ≡ found_content (drop 8 rest) place content → (part : ValuePart) → IsValueOf content part → EnteredIsTrue rest (value_there place (match_by (drop 8 rest) (content_mark content) (content_suffix content)) part) b
    value_by (Short bytes row) more starts stands found (RowPart part) is = (none, (found, ap first_row starts ∙ ap Some (sym is)))
    value_by (Short bytes row) more starts stands found (LinkPart part) is = absurd is
    value_by (Long suffix row) more starts stands found (RowPart part) is = go (bytes_eq suffix (drop 8 rest)) found
      where
        go : (same : Bool) → found_for rest b.live ≡ (if same then RowFound place else OtherSuffix place) → EnteredIsTrue rest (value_there place (if same then Same else OtherMatch suffix) (RowPart part)) b
        go true found = (none, (found, ap first_row starts ∙ ap Some (sym is)))
        go false found = (none, (found, subst (λ (r : Row). slice_get b.live place ≡ Some (record { slice = slice_number rest; content = Long suffix r })) (sym is) stands))
    value_by (Long suffix row) more starts stands found (LinkPart part) is = absurd is
    value_by (Link head) more starts stands found (RowPart part) is = absurd is
    value_by (Link head) more starts stands found (LinkPart part) is = (none, place, subst (λ (n : NodeNo). found_for rest b.live ≡ LinkFound place n) (sym is) found)

  value_is : (outline : Outline) (place : ℕ) (matched : Match) → EnteringIsTrue rest (AtValue outline place matched) b → (part : Part) → IsFieldOf b (wants (AtValue outline place matched)) part
      → EnteredIsTrue rest (entered rest (AtValue outline place matched) part) b
  value_is outline place matched (is, all) (ValuePartOf part) lent =
      let m : MatchedAt rest b.live place matched = subst (SoughtIsFound rest b.live) (sym all) (sought_found rest b.live) in
      let there = matched_there rest b h place matched m in
      let content : (slot_at b (slice_index outline.order.live place)).entry.content ≡ m.entry.content = ap (λ (e : Entry). e.content) (slot_there outline is place there.within ∙ there.read) in
      subst (λ (x : Match). EnteredIsTrue rest (value_there place x part) b) (sym m.is)
      (value_by place is.bounded.within m.entry.content m.more (m.starts ∙ ap (λ (e : Entry). e ∷ m.more) there.own) (there.stands ∙ ap Some there.own) m.found part (subst (λ (c : Content). IsValueOf c part) content lent))
  value_is outline place matched true_of part lent = absurd lent

  -- WHAT IT DOES after the field that it wants is right, if what it has read is, and all of the border is written
  pub entered_is : b.unwritten ≡ Nothing → (entering : Entering) → EnteringIsTrue rest entering b → (part : Part) → IsFieldOf b (wants entering) part → EnteredIsTrue rest (entered rest entering part) b
  entered_is written Locked true_of part lent = right_is part lent
  entered_is written (Bounded right) true_of part lent = order_is written right true_of part lent
  entered_is written (Reads outline place sought) true_of part lent = key_is written outline place sought true_of part lent
  entered_is written (AtValue outline place matched) true_of part lent = value_is outline place matched true_of part lent

  -- a key or a value that it reads is that of a live slot
  pub entering_reads : (entering : Entering) → EnteringIsTrue rest entering b → IsEntering entering
  entering_reads Locked true_of = tt
  entering_reads (Bounded right) true_of = tt
  entering_reads (Reads outline place sought) (is, within, so_far, keys) = omega (arith, within, live_long outline is)
  entering_reads (AtValue outline place matched) (is, all) =
      let m : MatchedAt rest b.live place matched = subst (SoughtIsFound rest b.live) (sym all) (sought_found rest b.live) in
      omega (arith, (matched_there rest b h place matched m).within, live_long outline is)

  -- ---- how many fields it has still to read
  -- AT MOST EIGHTEEN: the right link, the order, fifteen keys and a value
  pub most_left : (entering : Entering) → EnteringIsTrue rest entering b → entering_left entering ≤ 18
  most_left Locked true_of = omega arith
  most_left (Bounded right) true_of = omega arith
  most_left (Reads outline place sought) (is, within, so_far, keys) = omega (arith, most_live, live_long outline is)
  most_left (AtValue outline place matched) true_of = omega arith

  bounded_fewer : (slice : ℕ) (right : Option RightLink) → HasFewerLeft Locked (bounded slice right)
  bounded_fewer slice right = go (right_for right slice)
    where
      go : (next : Option NodeNo) → HasFewerLeft Locked (bounded_by right next)
      go None = omega arith
      go (Some next) = tt

  -- after a key or the order, by the fields that were left before
  next_fewer : (entering : Entering) (outline : Outline) (place : ℕ) (sought : Sought) → (length outline.order.live - place) + 1 < entering_left entering → 1 < entering_left entering → HasFewerLeft entering (next_key outline place sought)
  next_fewer entering outline place sought fewer some = go (nat_lt place (length outline.order.live)) sought
    where
      go : (more : Bool) (sought : Sought) → HasFewerLeft entering (if more then Enters (Reads outline place sought) else keys_read outline place sought)
      go true sought = fewer
      go false Before = tt
      go false (At at matched) = some
      go false (After at) = tt

  value_fewer : (outline : Outline) (place : ℕ) (matched : Match) (part : ValuePart) → HasFewerLeft (AtValue outline place matched) (value_there place matched part)
  value_fewer outline place matched (LinkPart head) = tt
  value_fewer outline place (OtherMatch suffix) (RowPart row) = tt
  value_fewer outline place Same (RowPart row) = tt
  value_fewer outline place LayerMatch (RowPart row) = tt

  -- AND EACH FIELD THAT IT READS leaves fewer
  pub fewer_left : (entering : Entering) → EnteringIsTrue rest entering b → (part : Part) → IsFieldOf b (wants entering) part → HasFewerLeft entering (entered rest entering part)
  fewer_left Locked true_of (RightPart right) lent = bounded_fewer (slice_number rest) right
  fewer_left Locked true_of part lent = absurd lent
  fewer_left (Bounded right) true_of (OrderPart order) lent =
      let few : length order.live ≤ 15 = subst (λ (s : Slots). length s.live ≤ 15) (sym lent) (few_shown b h) in
      next_fewer (Bounded right) (record { right = right; order = order; keys = [] }) 0 Before (omega (arith, few)) (omega arith)
  fewer_left (Bounded right) true_of part lent = absurd lent
  fewer_left (Reads outline place sought) (is, within, so_far, keys) (KeyPartOf part) lent =
      let live : place < length outline.order.live = omega (arith, within, live_long outline is) in
      next_fewer (Reads outline place sought) (noted outline part) (place + 1) (sought_then rest sought place (part_key part)) (omega (arith, live)) (omega (arith, live))
  fewer_left (Reads outline place sought) true_of part lent = absurd lent
  fewer_left (AtValue outline place matched) true_of (ValuePartOf part) lent = value_fewer outline place matched part
  fewer_left (AtValue outline place matched) true_of part lent = absurd lent

-- WHERE IT LEADS by the part that it is lent of the node of a number
pub leads_by : (a : ArenaView) (number : ℕ) (rest : List ℕ) (entering : Entering) (field : Field) (part : Part) (result : Result Entered NoMemory) → field ≡ wants entering
    → IsSomeAnd (node_at a.nodes number) (λ node. IsPart node field part) → IsSomeAnd (node_at a.nodes number) IsNode → IsArena a → IfOk result (λ next. next ≡ entered rest entering part) → EnterLeads a number rest entering result
leads_by a number rest entering field part (Err error) wanted is sound arena does b named written true_of = tt
leads_by a number rest entering field part (Ok next) wanted is sound arena does b named written true_of =
    let lent = lends_field a number (wants entering) part (lent_of a number (wants entering) part (subst (λ (f : Field). IsSomeAnd (node_at a.nodes number) (λ node. IsPart node f part)) wanted is) sound arena) b named in
    subst (λ (e : Entered). EnteredIsTrue rest e b × HasFewerLeft entering e) (sym does)
    (entered_is rest b lent.sound written entering true_of part lent.is, fewer_left rest b lent.sound entering true_of part lent.is)
