-- Which fields a call reads of a border that it has locked, if the border does not change meanwhile: the right link alone,
-- or the right link, the order, each key and at most one value. What it does then is right.
use Rattle.std.proofs.Common.{ℕ, zero, suc, ◌≡◌, ◌<◌, ◌+◌, ◌==◌, Bool, true, false, if◌then◌else◌, List, [], length, take, drop, get_or, Option, Some, None, refl, sym, ap, subst, ◌∙◌, arith}
use Rattle.std.specs.Prelude.{nat_lt, nat_eq, slice_index}
use Rattle.std.specs.Borrow.{Bor}
use Rattle.std.specs.Cmp.Lexicographic.{pointwise}
use Rattle.std.specs.Option.{option_copied, option_map}
use Rattle.std.proofs.lemmas.Bool.{ltb-true, ltb-false}
use Rattle.std.proofs.lemmas.List.{take_all}
use Rattle.mt_types.specs.declared.numbers.NodeNo.{NodeNo}
use Rattle.mt_slice.specs.Place.{slice_number}
use Rattle.mt_border.specs.Border.{BorderView, right_for}
use Rattle.mt_border.specs.Entry.{content_class, content_suffix, entry_class, entry_suffix, IsContent, IsEntry}
use Rattle.mt_border.specs.Find.{found_content}
use Rattle.mt_border.specs.Keys.{KeyView, content_mark, entry_key, IsKeyPart, IsRest}
use Rattle.mt_border.specs.Order.{IsBorder}
use Rattle.mt_border.specs.Parts.{IsValueOf}
use Rattle.mt_border.specs.Slots.{slot_at, key_at, key_in, order_in, order_shown}
use Rattle.mt_border.specs.Table.{blank_slot, next_number}
use Rattle.mt_border.specs.declared.entry.Content.{Content}
use Rattle.mt_border.specs.declared.entry.Content.TheVariants.{Short, Long, Link}
use Rattle.mt_border.specs.declared.entry.Entry.{Entry}
use Rattle.mt_border.specs.declared.field.KeyPart.{KeyPart}
use Rattle.mt_border.specs.declared.field.ValuePart.{ValuePart}
use Rattle.mt_border.specs.declared.field.ValuePart.TheVariants.{Row as RowPart, Link as LinkPart}
use Rattle.mt_border.specs.declared.found.Found.{Found}
use Rattle.mt_border.specs.declared.found.Found.TheVariants.{Absent as AbsentFound, Row as RowFound, OtherSuffix}
use Rattle.mt_border.specs.declared.unwritten.Unwritten.{Unwritten}
use Rattle.mt_border.specs.declared.unwritten.Unwritten.TheVariants.{Nothing}
use Rattle.mt_border.proofs.SlotLemmas.{live_count}
use Rattle.mt_arena.specs.Arena.{ArenaView, IsArena}
use Rattle.mt_arena.specs.Node.{border_at}
use Rattle.mt_arena.specs.Parts.{IsFieldOf}
use Rattle.mt_arena.specs.declared.node.Node.TheVariants.{Border as BorderNode}
use Rattle.mt_arena.specs.declared.part.Field.{Field}
use Rattle.mt_arena.specs.declared.part.Field.TheVariants.{Key as KeyField, Value as ValueField}
use Rattle.mt_arena.specs.declared.part.Part.{Part}
use Rattle.mt_arena.specs.declared.part.Part.TheVariants.{Right as RightPart, Order as OrderPart, Key as KeyPartOf, Value as ValuePartOf}
use Rattle.mt_arena.proofs.NodeLemmas.{node-from_border}
use Rattle.mt_tree.specs.Descent.{found_for}
use Rattle.mt_tree.proofs.AgeLemmas.{entry_read}
use Rattle.mt_steps.specs.Standing.{Lends}
use Rattle.mt_steps.specs.Entering.{part_key, sought_then, sought_for, bounded_by, keys_read, next_key, value_there, wants, entered, EnteredIsTrue, EnteringIsTrue, absent_there, keys_with}
use Rattle.mt_steps.specs.declared.entering.Outline.{Outline}
use Rattle.mt_steps.specs.declared.listing.SlotKey.{SlotKey}
use Rattle.mt_word.specs.declared.permutation_word.TheConstants.{SLOTS}
use Rattle.mt_steps.specs.declared.entering.Match.{Match}
use Rattle.mt_steps.specs.declared.entering.Match.TheVariants.{Same, Other as OtherMatch, Layer as LayerMatch}
use Rattle.mt_steps.specs.declared.entering.Sought.{Sought}
use Rattle.mt_steps.specs.declared.entering.Sought.TheVariants.{Before, At, After}
use Rattle.mt_steps.specs.declared.entering.Entering.{Entering}
use Rattle.mt_steps.specs.declared.entering.Entering.TheVariants.{Locked, Bounded, Reads as ReadsKey, AtValue}
use Rattle.mt_steps.specs.declared.entering.Entered.{Entered}
use Rattle.mt_steps.specs.declared.entering.Entered.TheVariants.{Enters, Right, Here}
use Rattle.mt_steps.proofs.EnterLemmas.{entered_is}
use Rattle.mt_steps.proofs.SoughtLemmas.{SoughtIsFound, sought_more, sought_found}
use Rattle.mt_write.specs.Runs.{values_read}

-- ---- what is read
-- EACH OF THIS NUMBER OF FIELDS is lent, and leads to the next one, and the last one to this
abbrev pub Reads : ArenaView → ℕ → List ℕ → Entered → ℕ → Entered → Type 0
Reads a number rest next zero final = next ≡ final
Reads a number rest next (suc n) final = (entering : Entering) × (next ≡ Enters entering)
    × ((part : Part) × Lends a number (wants entering) part × Reads a number rest (entered rest entering part) n final)

-- it reads nothing more
abbrev pub IsLastField : Entered → Type 0
IsLastField (Enters entering) = ⊥
IsLastField _ = Unit {0}

-- a content that has the slice and class sought is read once
one_value : (suffix : List ℕ) (place : ℕ) (content : Content) → values_read (found_content suffix place content) ≡ 1
one_value suffix place (Short bytes row) = refl
one_value suffix place (Long held row) = go (pointwise nat_eq held suffix)
  where
    go : (same : Bool) → values_read (if same then RowFound place else OtherSuffix place) ≡ 1
    go true = refl
    go false = refl
one_value suffix place (Link head) = refl

-- a value is the last field
last_value : (place : ℕ) (matched : Match) (part : ValuePart) → IsLastField (value_there place matched part)
last_value place matched (LinkPart head) = tt
last_value place (OtherMatch suffix) (RowPart row) = tt
last_value place Same (RowPart row) = tt
last_value place LayerMatch (RowPart row) = tt

-- ---- the parts of an entry that is in a slot, as they are lent
abbrev lent : {A : Type 0} → A → Bor A
lent x = record { ref_ptr = (0, 0); now = x }

copied : (suffix : Option (List ℕ)) → option_copied (option_map lent suffix) ≡ suffix
copied None = refl
copied (Some suffix) = refl

abbrev key_lent : Entry → KeyPart
key_lent entry = record {
  slice = entry.slice;
  class = entry_class entry;
  suffix = option_map lent (entry_suffix entry);
  mark = content_mark entry.content;
}

rest_is : (content : Content) → IsContent content → IsRest (content_class content) (content_suffix content) (content_mark content)
rest_is (Short bytes row) is = is
rest_is (Long suffix row) is = is
rest_is (Link head) is = tt

key_is : (entry : Entry) → IsEntry entry → IsKeyPart (entry_key entry) (key_lent entry)
key_is entry h = record {
  slice = refl;
  class = refl;
  suffix = copied (entry_suffix entry);
  mark = refl;
  whole = record { slice_fits = h.slice_fits; rest = rest_is entry.content h.content };
}

key_same : (entry : Entry) → part_key (key_lent entry) ≡ entry_key entry
key_same entry = λ i. record { slice = entry.slice; class = entry_class entry; suffix = copied (entry_suffix entry) i; mark = content_mark entry.content }

abbrev value_lent : Content → ValuePart
value_lent (Short bytes row) = RowPart (lent row)
value_lent (Long suffix row) = RowPart (lent row)
value_lent (Link head) = LinkPart head

value_is : (content : Content) → IsValueOf content (value_lent content)
value_is (Short bytes row) = refl
value_is (Long suffix row) = refl
value_is (Link head) = refl

-- ---- at a border
module _ (a : ArenaView) (number : ℕ) (rest : List ℕ) (b : BorderView) (named : border_at a.nodes number ≡ Some b) (sound : IsBorder b) (arena : IsArena a) (written : b.unwritten ≡ Nothing) where
  -- a field of it is lent
  lends : (field : Field) (part : Part) → IsFieldOf b field part → Lends a number field part
  lends field part is = record { node = BorderNode b; named = node-from_border a.nodes number b named; sound = sound; is = is; arena = arena }

  -- this number of fields is read, then no more, and what it does then is right
  abbrev Goes : Entered → ℕ → Type 0
  Goes next n = (final : Entered) × Reads a number rest next n final × IsLastField final × EnteredIsTrue rest final b

  -- the field that it wants is one more
  one_more : (entering : Entering) (part : Part) (n : ℕ) → IsFieldOf b (wants entering) part → Goes (entered rest entering part) n → Goes (Enters entering) (suc n)
  one_more entering part n is (final, reads, ends, true_of) = (final, (entering, refl, (part, lends (wants entering) part is, reads)), ends, true_of)

  -- the right link alone is read, if the slice is there or beyond
  pub reads_right : (next : NodeNo) → right_for b.right (slice_number rest) ≡ Some next → Reads a number rest (Enters Locked) 1 (Right next)
  reads_right next is = (Locked, refl, (RightPart b.right, lends (wants Locked) (RightPart b.right) refl, ap (bounded_by b.right) is))

  abbrev outline : List SlotKey → Outline
  outline keys = record { right = b.right; order = b.order; keys = keys }

  abbrev number_of : ℕ → ℕ
  number_of place = slice_index b.order.live place

  abbrev entry_of : ℕ → Entry
  entry_of place = (slot_at b (number_of place)).entry

  abbrev values : ℕ
  values = values_read (found_for rest b.live)

  live_long : length b.order.live ≡ length b.live
  live_long = sym (live_count b.live b.unused b.slots b.order sound.seen)

  -- ---- if the slice is before what is to the right
  module _ (none : right_for b.right (slice_number rest) ≡ None) where
    -- the value
    goes_value : (keys : List SlotKey) (place : ℕ) (matched : Match) → EnteringIsTrue rest (AtValue (outline keys) place matched) b → Goes (Enters (AtValue (outline keys) place matched)) 1
    goes_value keys place matched true_of =
        let entering = AtValue (outline keys) place matched in
        let value = value_lent (entry_of place).content in
        let is : IsFieldOf b (ValueField (number_of place)) (ValuePartOf value) = value_is (entry_of place).content in
        one_more entering (ValuePartOf value) 0 is (value_there place matched value, refl, last_value place matched value, entered_is rest b sound written entering true_of (ValuePartOf value) is)

    -- all keys are read
    goes_all : (keys : List SlotKey) (count : ℕ) → count ≡ length b.live → EnteredIsTrue rest (keys_read (outline keys) count (sought_for rest b.live)) b → Goes (keys_read (outline keys) count (sought_for rest b.live)) values
    goes_all keys count all = go (sought_for rest b.live) (sought_found rest b.live)
      where
        go : (sought : Sought) → SoughtIsFound rest b.live sought → EnteredIsTrue rest (keys_read (outline keys) count sought) b → Goes (keys_read (outline keys) count sought) values
        go Before found true_of =
            let is : found_for rest b.live ≡ AbsentFound count = found ∙ ap AbsentFound (sym all) in
            subst (λ (f : Found). Goes (Here (absent_there (outline keys) count)) (values_read f)) (sym is) (Here (absent_there (outline keys) count), refl, tt, true_of)
        go (At place matched) found true_of =
            let once : values ≡ 1 = ap values_read found.found ∙ one_value (drop 8 rest) place found.entry.content in
            subst (λ (n : ℕ). Goes (Enters (AtValue (outline keys) place matched)) n) (sym once) (goes_value keys place matched true_of)
        go (After place) found true_of =
            subst (λ (f : Found). Goes (Here (absent_there (outline keys) place)) (values_read f)) (sym found) (Here (absent_there (outline keys) place), refl, tt, true_of)

    -- the key at a place
    module _ (place : ℕ) (within : place < length b.live) where
      entry_there : entry_of place ≡ get_or b.live place blank_slot.entry
      entry_there = sym (entry_read b sound place within)

      key_there : IsFieldOf b (KeyField (number_of place)) (KeyPartOf (key_lent (entry_of place)))
      key_there =
          let whole : IsEntry (entry_of place) = subst IsEntry (sym entry_there) (sound.entries.each place blank_slot.entry within) in
          let own : key_at b (number_of place) ≡ entry_key (entry_of place) = ap (λ (u : Unwritten). key_in u (next_number b.order) (number_of place) (entry_key (entry_of place))) written in
          subst (λ (k : KeyView). IsKeyPart k (key_lent (entry_of place))) (sym own) (key_is (entry_of place) whole)

      -- what the keys are once it is read
      key_more : (sought : Sought) → sought ≡ sought_for rest (take place b.live) → sought_then rest sought place (part_key (key_lent (entry_of place))) ≡ sought_for rest (take (place + 1) b.live)
      key_more sought so_far =
          let key : part_key (key_lent (entry_of place)) ≡ entry_key (get_or b.live place blank_slot.entry) = key_same (entry_of place) ∙ ap entry_key entry_there in
          ap (λ (s : Sought). sought_then rest s place (part_key (key_lent (entry_of place)))) so_far
          ∙ (ap (λ (k : KeyView). sought_then rest (sought_for rest (take place b.live)) place k) key ∙ sym (sought_more rest b.live place blank_slot.entry within))

    -- the keys that are noted once it is read
    abbrev keys_after : List SlotKey → ℕ → List SlotKey
    keys_after keys place = keys_with (length b.order.live == SLOTS) keys (key_lent (entry_of place))

    -- no key is left
    goes_end : (keys : List SlotKey) (place : ℕ) (sought : Sought) → place ≡ length b.live → sought ≡ sought_for rest (take place b.live) → EnteredIsTrue rest (next_key (outline keys) place sought) b → Goes (next_key (outline keys) place sought) values
    goes_end keys place sought all so_far = go (nat_lt place (length b.order.live)) refl
      where
        told : sought ≡ sought_for rest b.live
        told = so_far ∙ ap (sought_for rest) (take_all place b.live (omega (arith, all)))

        go : (more : Bool) → nat_lt place (length b.order.live) ≡ more → EnteredIsTrue rest (if more then Enters (ReadsKey (outline keys) place sought) else keys_read (outline keys) place sought) b
            → Goes (if more then Enters (ReadsKey (outline keys) place sought) else keys_read (outline keys) place sought) values
        go true less true_of = absurd (omega (arith, all, live_long, ltb-true place (length b.order.live) less))
        go false full true_of = subst (λ (s : Sought). Goes (keys_read (outline keys) place s) values) (sym told) (goes_all keys place all (subst (λ (s : Sought). EnteredIsTrue rest (keys_read (outline keys) place s) b) told true_of))

    -- the key at a place is read, and then what is left
    goes_key : (keys : List SlotKey) (n place : ℕ) (sought : Sought) → (within : place < length b.live) → EnteredIsTrue rest (next_key (outline keys) place sought) b
        → (EnteredIsTrue rest (next_key (outline (keys_after keys place)) (place + 1) (sought_then rest sought place (part_key (key_lent (entry_of place))))) b → Goes (next_key (outline (keys_after keys place)) (place + 1) (sought_then rest sought place (part_key (key_lent (entry_of place))))) n)
        → Goes (next_key (outline keys) place sought) (suc n)
    goes_key keys n place sought within true_of left = go (nat_lt place (length b.order.live)) refl true_of
      where
        go : (more : Bool) → nat_lt place (length b.order.live) ≡ more → EnteredIsTrue rest (if more then Enters (ReadsKey (outline keys) place sought) else keys_read (outline keys) place sought) b
            → Goes (if more then Enters (ReadsKey (outline keys) place sought) else keys_read (outline keys) place sought) (suc n)
        go true less true_of =
            let key = KeyPartOf (key_lent (entry_of place)) in
            one_more (ReadsKey (outline keys) place sought) key n (key_there place within) (left (entered_is rest b sound written (ReadsKey (outline keys) place sought) true_of key (key_there place within)))
        go false full true_of = absurd (omega (arith, within, live_long, ltb-false place (length b.order.live) full))

    -- the keys from a place on, n of them
    goes_next : (keys : List SlotKey) (n place : ℕ) (sought : Sought) → place + n ≡ length b.live → sought ≡ sought_for rest (take place b.live) → EnteredIsTrue rest (next_key (outline keys) place sought) b → Goes (next_key (outline keys) place sought) (n + values)
    goes_next keys zero place sought count so_far true_of =
        let some : values ≡ zero + values = omega arith in
        subst (λ (k : ℕ). Goes (next_key (outline keys) place sought) k) some (goes_end keys place sought (omega (arith, count)) so_far true_of)
    goes_next keys (suc n) place sought count so_far true_of =
        let within : place < length b.live = omega (arith, count) in
        let some : suc (n + values) ≡ suc n + values = omega arith in
        subst (λ (k : ℕ). Goes (next_key (outline keys) place sought) k) some (goes_key keys (n + values) place sought within true_of
        (goes_next (keys_after keys place) n (place + 1) (sought_then rest sought place (part_key (key_lent (entry_of place)))) (omega (arith, count)) (key_more place within sought so_far)))

    -- OTHERWISE THE RIGHT LINK, THE ORDER, EACH KEY, and a value
    pub reads_all : (final : Entered) × Reads a number rest (Enters Locked) (2 + length b.live + values_read (found_for rest b.live)) final × IsLastField final × EnteredIsTrue rest final b
    reads_all =
        let n : ℕ = length b.live + values in
        let own_order : b.order ≡ order_shown b = sym (ap (λ (u : Unwritten). order_in u b.order) written) in
        let bounded : EnteringIsTrue rest (Bounded b.right) b = record { same = refl; within = none } in
        let keys : Goes (next_key (outline []) 0 Before) n = goes_next [] (length b.live) 0 Before (omega arith) refl (entered_is rest b sound written (Bounded b.right) bounded (OrderPart b.order) own_order) in
        let order : Goes (Enters (Bounded b.right)) (suc n) = one_more (Bounded b.right) (OrderPart b.order) n own_order keys in
        let right : Goes (bounded_by b.right (right_for b.right (slice_number rest))) (suc n) = subst (λ (o : Option NodeNo). Goes (bounded_by b.right o) (suc n)) (sym none) order in
        let some : suc (suc n) ≡ 2 + length b.live + values = omega arith in
        subst (λ (k : ℕ). Goes (Enters Locked) k) some (one_more Locked (RightPart b.right) (suc n) refl right)
