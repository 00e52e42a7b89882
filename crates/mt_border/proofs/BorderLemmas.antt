-- The invariant of a border through each change.
use Rattle.std.proofs.Common.{◌≡◌, ℕ, zero, suc, ◌-◌, ◌<◌, ◌≤◌, List, [], ◌∷◌, ◌++◌, length, take, drop, map, get_or, refl, sym, ap, ◌∙◌, arith, length-append, subst, Option, Some, None, IsSome, Bool, true, false, slice_get, unwrap_or}
use Rattle.std.specs.List.{All, AllPairs, remove}
use Rattle.std.proofs.lemmas.Option.{get_or_from_slice_get}
use Rattle.std.proofs.lemmas.List.{length-map, get_or-map, get_or-set_same, get_or-take, length-take-le, length-drop}
use Rattle.std.proofs.lemmas.List.Edits.{length-remove}
use Rattle.std.proofs.lemmas.List.Elements.{All-take, All-drop, All-append, All-map}
use Rattle.std.proofs.lemmas.List.Quantifiers.{all_pairs_remove}
use Rattle.mt_types.specs.declared.row.Row.{Row}
use Rattle.mt_types.specs.declared.numbers.NodeNo.{NodeNo}
use Rattle.mt_word.specs.Slots.{with_first}
use Rattle.mt_word.specs.Version.{VersionView}
use Rattle.mt_border.specs.Entry.{entry_rank, IsEntry, IsContent, no_row, with_row, with_link, content_with_row, content_class, entry_suffix}
use Rattle.mt_border.specs.Table.{first_changed, changed_at, left_slot, left_slots, number_at, slot_changed, with_entry, filled, blank_slot, picked, suffix_of_first}
use Rattle.mt_border.specs.Border.{BorderView, entries_of, first_suffix, inserting_version, with_filled, with_hidden, with_forgotten, with_value, with_unstable, with_link_at, with_half_linked, suffix_at}
use Rattle.mt_border.specs.Order.{IsBorder, IsUnwritten, AwaitsValue, AwaitsLink, IsOrdered, AreEntries, HoldEntries, AreBelow, IsLeftOf}
use Rattle.mt_border.proofs.TableLemmas.{live_below, suffix_read}
use Rattle.mt_border.proofs.SlotLemmas.{live_count, seen_changed, seen_hidden, seen_next_changed, seen_filled, seen_split}
use Rattle.mt_border.specs.declared.entry.Entry.{Entry}
use Rattle.mt_border.specs.declared.entry.Content.{Content}
use Rattle.mt_border.specs.declared.entry.Content.TheVariants.{Short, Long, Link}
use Rattle.mt_border.specs.declared.entry.RightLink.{RightLink}
use Rattle.mt_border.specs.declared.slot_table.Slot.{Slot}
use Rattle.mt_border.specs.declared.unwritten.SlotKey.{SlotKey}
use Rattle.mt_border.specs.declared.unwritten.Unwritten.{Unwritten}
use Rattle.mt_border.specs.declared.unwritten.Unwritten.TheVariants.{Nothing, Value, Order, LinkAt, MarkAt}

pub suffix_seen : (i : ℕ) (xs : List Slot) → first_suffix (drop i (entries_of xs)) ≡ suffix_of_first (drop i xs)
suffix_seen zero [] = refl
suffix_seen zero (x ∷ xs) = refl
suffix_seen (suc i) [] = refl
suffix_seen (suc i) (x ∷ xs) = suffix_seen i xs

pub entry_there : (slots : List Slot) (i : ℕ) (slot : Slot) → AreEntries (entries_of slots) → i < length (entries_of slots) → slice_get slots i ≡ Some slot → IsEntry slot.entry
entry_there slots i slot h within e =
    let inside : i < length slots = omega (arith, length-map slots (λ (s : Slot). s.entry)) in
    let read : get_or (entries_of slots) i slot.entry ≡ slot.entry = get_or-map (λ (s : Slot). s.entry) slots i slot slot.entry inside ∙ ap (λ (s : Slot). s.entry) (get_or_from_slice_get slots i slot slot e) in
    subst IsEntry read (h.each i slot.entry within)

-- an entry that is read at a place stands there
pub suffix_there : (i : ℕ) (live : List Entry) (entry : Entry) → slice_get live i ≡ Some entry → IsSome (entry_suffix entry) → IsSome (first_suffix (drop i live))
suffix_there zero [] entry e some = absurd (cc)
suffix_there (suc i) [] entry e some = absurd (cc)
suffix_there zero (x ∷ xs) entry e some = let same : entry ≡ x = cc in subst (λ (y : Entry). IsSome (entry_suffix y)) same some
suffix_there (suc i) (x ∷ xs) entry e some = suffix_there i xs entry e some

-- What holds of entries.
pub ordered_take : (live : List Entry) (k : ℕ) → k ≤ length live → IsOrdered live → IsOrdered (take k live)
ordered_take live k h o = record { pairs = taken_pairs live k h o }
  where
    taken_pairs : (live : List Entry) (k : ℕ) → k ≤ length live → IsOrdered live → AllPairs (λ entry later. entry_rank entry < entry_rank later) (take k live)
    taken_pairs live k h o i j d before within =
        let short = length-take-le k live h in
        let below : j < k = omega arith in
        let first : i < k = omega arith in
        rw (get_or-take k live i d first, get_or-take k live j d below) (o.pairs i j d before (omega arith))

pub ordered_remove : (live : List Entry) (k : ℕ) → k < length live → IsOrdered live → IsOrdered (remove live k)
ordered_remove live k h o = record { pairs = all_pairs_remove (λ (entry later : Entry). entry_rank entry < entry_rank later) live k h o.pairs }

ordered_by_ranks : (xs ys : List Entry) → map entry_rank xs ≡ map entry_rank ys → IsOrdered ys → IsOrdered xs
ordered_by_ranks xs ys same o = record {
  pairs = λ i j d before within.
      let long : length xs ≡ length ys = sym (length-map xs entry_rank) ∙ (ap (λ (t : List ℕ). length t) same ∙ length-map ys entry_rank) in
      let at : (k : ℕ) → k < length xs → entry_rank (get_or xs k d) ≡ entry_rank (get_or ys k d) = λ k h. sym (get_or-map entry_rank xs k d (entry_rank d) h) ∙ (ap (λ (t : List ℕ). get_or t k (entry_rank d)) same ∙ get_or-map entry_rank ys k d (entry_rank d) (omega arith)) in
      rw (at i (omega arith), at j within) (o.pairs i j d before (omega arith));
}

content_class-with_row : (row : Row) (content : Content) → content_class (content_with_row row content) ≡ content_class content
content_class-with_row row (Short bytes old) = refl
content_class-with_row row (Long suffix old) = refl
content_class-with_row row (Link head) = refl

IsContent-with_row : (row : Row) (content : Content) → IsContent content → IsContent (content_with_row row content)
IsContent-with_row row (Short bytes old) h = h
IsContent-with_row row (Long suffix old) h = h
IsContent-with_row row (Link head) h = h

All-first_changed : (P : Entry → Type 0) (f : Entry → Entry) → ((e : Entry) → P e → P (f e)) → (xs : List Entry) → All P xs → All P (first_changed f xs)
All-first_changed P f keeps [] h = h
All-first_changed P f keeps (x ∷ xs) h = go
  where
    go : All P (f x ∷ xs)
    go zero d within = keeps x (h zero d (omega arith))
    go (suc k) d within = h (suc k) d (omega arith)

All-changed_at : (P : Entry → Type 0) (f : Entry → Entry) → ((e : Entry) → P e → P (f e)) → (i : ℕ) (xs : List Entry) → All P xs → All P (changed_at i f xs)
All-changed_at P f keeps i xs h =
    All-append P (take i xs) (first_changed f (drop i xs)) (All-take P i xs h) (All-first_changed P f keeps (drop i xs) (All-drop P i xs h))

length-changed_at : {X : Type 0} (i : ℕ) (f : X → X) (xs : List X) → length (changed_at i f xs) ≡ length xs
length-changed_at zero f [] = refl
length-changed_at zero f (x ∷ xs) = refl
length-changed_at (suc i) f [] = refl
length-changed_at (suc i) f (x ∷ xs) = ap suc (length-changed_at i f xs)

-- a change that leaves each slice and rank as it was
ranks-with_row : (row : Row) (i : ℕ) (xs : List Entry) → map entry_rank (changed_at i (with_row row) xs) ≡ map entry_rank xs
ranks-with_row row zero [] = refl
ranks-with_row row zero (x ∷ xs) = rw (content_class-with_row row x.content) refl
ranks-with_row row (suc i) [] = refl
ranks-with_row row (suc i) (x ∷ xs) = ap (λ (t : List ℕ). entry_rank x ∷ t) (ranks-with_row row i xs)

rank-with_link : (head : NodeNo) (slice : ℕ) (content : Content) → IsSome (entry_suffix (record { slice = slice; content = content })) → entry_rank (record { slice = slice; content = Link head }) ≡ entry_rank (record { slice = slice; content = content })
rank-with_link head slice (Short bytes row) h = cc
rank-with_link head slice (Long suffix row) h = refl
rank-with_link head slice (Link old) h = refl

ranks-with_link : (head : NodeNo) (i : ℕ) (xs : List Entry) → IsSome (first_suffix (drop i xs)) → map entry_rank (changed_at i (with_link head) xs) ≡ map entry_rank xs
ranks-with_link head zero [] h = refl
ranks-with_link head zero (x ∷ xs) h = ap (λ (r : ℕ). r ∷ map entry_rank xs) (rank-with_link head x.slice x.content h)
ranks-with_link head (suc i) [] h = refl
ranks-with_link head (suc i) (x ∷ xs) h = ap (λ (t : List ℕ). entry_rank x ∷ t) (ranks-with_link head i xs h)

-- a right link where the live entries change
left_of_kept : (low : ℕ) (live new : List Entry) (right : Option RightLink) → ((bound : ℕ) → AreBelow bound live → AreBelow bound new) → IsLeftOf low live right → IsLeftOf low new right
left_of_kept low live new None keeps h = tt
left_of_kept low live new (Some link) keeps h = (h.0, keeps link.low h.1)

nothing_deleted : {X : Type 0} (xs : List X) (i : ℕ) → i < length xs → xs ≡ [] → ⊥
nothing_deleted xs i h e = omega (arith, ap (λ (t : List _). length t) e)

-- ---- what isn't written yet
-- nothing
pub all_written : (b : BorderView) → b.unwritten ≡ Nothing → IsUnwritten b b.unwritten
all_written b written = subst (λ (u : Unwritten). IsUnwritten b u) (sym written) tt

-- all of a border that isn't locked is written
pub unlocked_written : (b : BorderView) → IsBorder b → b.version.locked ≡ false → b.unwritten ≡ Nothing
unlocked_written b h unlocked = go b.unwritten h.pending
  where
    go : (left : Unwritten) → IsUnwritten b left → left ≡ Nothing
    go Nothing pending = refl
    go (Value key) waits = absurd (let clash : true ≡ false = sym waits.locked ∙ unlocked in cc)
    go (Order shown) waits = absurd (let clash : true ≡ false = sym waits.locked ∙ unlocked in cc)
    go (LinkAt number) waits = absurd (let clash : true ≡ false = sym waits.locked ∙ unlocked in cc)
    go (MarkAt number suffix) waits = absurd (let clash : true ≡ false = sym waits.locked ∙ unlocked in cc)

-- a value
pub awaits : (b : BorderView) (key : SlotKey) → b.unwritten ≡ Value key → IsBorder b → AwaitsValue b key
awaits b key is h = subst (λ (u : Unwritten). IsUnwritten b u) is h.pending

-- the link of a key that is unstable
pub awaits_link : (b : BorderView) (number : ℕ) → b.unwritten ≡ LinkAt number → IsBorder b → AwaitsLink b number
awaits_link b number is h = subst (λ (u : Unwritten). IsUnwritten b u) is h.pending

-- The border after each call.
-- an entry is changed, and this is unwritten then
pub border_changed : (b : BorderView) (i : ℕ) (f : Entry → Entry) (left : Unwritten) → i < length b.live → ((e : Entry) → (f e).slice ≡ e.slice) → ((e : Entry) → IsEntry e → IsEntry (f e)) → map entry_rank (changed_at i f b.live) ≡ map entry_rank b.live →
    IsUnwritten (record b { live = changed_at i f b.live; slots = slot_changed (number_at i b.order) (with_entry f) b.slots; unwritten = left }) left → IsBorder b →
    IsBorder (record b { live = changed_at i f b.live; slots = slot_changed (number_at i b.order) (with_entry f) b.slots; unwritten = left })
border_changed b i f left within slices whole ranks pending h = record {
  seen = seen_changed b.live b.unused b.slots b.order h.seen i f within;
  slots = rw (length-changed_at i f b.live) h.slots;
  low_fits = h.low_fits;
  ordered = ordered_by_ranks _ b.live ranks h.ordered;
  entries = record { each = All-changed_at IsEntry f whole i b.live h.entries.each };
  held_back = h.held_back;
  from_low = record { each = All-changed_at (λ e. b.low ≤ e.slice) f (λ e g. rw (slices e) g) i b.live h.from_low.each };
  left_of = left_of_kept b.low b.live _ b.right (λ bound below. record { each = All-changed_at (λ e. e.slice < bound) f (λ e g. rw (slices e) g) i b.live below.each }) h.left_of;
  deleted_empty = λ deleted. absurd (nothing_deleted b.live i within (h.deleted_empty deleted));
  border = h.border;
  flags = h.flags;
  unspent = h.unspent;
  counters = h.counters;
  pending = pending;
}

pub border_value : (b : BorderView) (i : ℕ) (row : Row) → i < length b.live → b.unwritten ≡ Nothing → IsBorder b → IsBorder (with_value b i row)
border_value b i row within written h =
    border_changed b i (with_row row) b.unwritten within (λ e. refl) (λ e g. record { slice_fits = g.slice_fits; content = IsContent-with_row row e.content g.content }) (ranks-with_row row i b.live) (all_written (with_value b i row) written) h

-- the number of the slot of the entry at a place
number_in : (b : BorderView) (i : ℕ) → i < length b.live → IsBorder b → number_at i b.order < length b.slots
number_in b i within h = omega (arith, live_below b.order i h.seen.table.arranged (omega (arith, within, live_count b.live b.unused b.slots b.order h.seen)), h.seen.table.fifteen)

pub border_link : (b : BorderView) (i : ℕ) (head : NodeNo) → i < length b.live → IsSome (first_suffix (drop i b.live)) → b.unwritten ≡ LinkAt (number_at i b.order) → IsBorder b → IsBorder (with_link_at b i head)
border_link b i head within long unstable h =
    let n = number_at i b.order in
    let there : get_or (slot_changed n (with_entry (with_link head)) b.slots) n blank_slot ≡ with_entry (with_link head) (get_or b.slots n blank_slot) =
    get_or-set_same b.slots n (with_entry (with_link head) (get_or b.slots n blank_slot)) blank_slot (number_in b i within h) in
    border_changed b i (with_link head) (MarkAt n (unwrap_or (suffix_at i b.live) [])) within (λ e. refl) (λ e g. record { slice_fits = g.slice_fits; content = tt }) (ranks-with_link head i b.live long)
    (record { locked = (awaits_link b n unstable h).locked; head = head; link = ap (λ (s : Slot). s.entry.content) there }) h

-- the entries that a hide leaves
All-remove : (P : Entry → Type 0) (i : ℕ) (xs : List Entry) → All P xs → All P (remove xs i)
All-remove P i xs h = All-append P (take i xs) (drop (suc i) xs) (All-take P i xs h) (All-drop P (suc i) xs h)

-- slots of entries that were live hold entries
pub hold_left : (xs : List Entry) (slots : List Slot) → AreEntries xs → HoldEntries slots → HoldEntries (left_slots xs ++ slots)
hold_left xs slots h k = record { each = All-append (λ (slot : Slot). IsEntry slot.entry) (left_slots xs) slots (All-map (λ (slot : Slot). IsEntry slot.entry) left_slot xs h.each) k.each }

length-first : {X : Type 0} (xs : List X) (i : ℕ) → i < length xs → length (take 1 (drop i xs)) ≡ 1
length-first [] i h = absurd (omega arith)
length-first (x ∷ xs) zero h = refl
length-first (x ∷ xs) (suc i) h = length-first xs i (omega arith)

pub border_hidden : (b : BorderView) (i : ℕ) → i < length b.live → b.unwritten ≡ Nothing → IsBorder b → IsBorder (with_hidden b i)
border_hidden b i within written h = record {
  seen = seen_hidden b.live b.unused b.slots b.order h.seen i;
  slots = omega (arith, h.slots, length-remove b.live i within, length-append (left_slots (take 1 (drop i b.live))) b.unused, length-map (take 1 (drop i b.live)) left_slot, length-first b.live i within);
  low_fits = h.low_fits;
  ordered = ordered_remove b.live i within h.ordered;
  entries = record { each = All-remove IsEntry i b.live h.entries.each };
  held_back = hold_left (take 1 (drop i b.live)) b.unused (record { each = All-take IsEntry 1 (drop i b.live) (All-drop IsEntry i b.live h.entries.each) }) h.held_back;
  from_low = record { each = All-remove (λ e. b.low ≤ e.slice) i b.live h.from_low.each };
  left_of = left_of_kept b.low b.live _ b.right (λ bound below. record { each = All-remove (λ e. e.slice < bound) i b.live below.each }) h.left_of;
  deleted_empty = λ deleted. absurd (nothing_deleted b.live i within (h.deleted_empty deleted));
  border = h.border;
  flags = h.flags;
  unspent = h.unspent;
  counters = h.counters;
  pending = all_written (with_hidden b i) written;
}

-- the version of a border into which a key is to be inserted
pub inserting_deleted : (held : Bool) (v : VersionView) → (inserting_version held v).deleted ≡ v.deleted
inserting_deleted true v = refl
inserting_deleted false v = refl

-- something else of it is unwritten
pub border_left : (b : BorderView) (left : Unwritten) → IsUnwritten (record b { unwritten = left }) left → IsBorder b → IsBorder (record b { unwritten = left })
border_left b left pending h = record {
  seen = h.seen;
  slots = h.slots;
  low_fits = h.low_fits;
  ordered = h.ordered;
  entries = h.entries;
  held_back = h.held_back;
  from_low = h.from_low;
  left_of = h.left_of;
  deleted_empty = h.deleted_empty;
  border = h.border;
  flags = h.flags;
  unspent = h.unspent;
  counters = h.counters;
  pending = pending;
}

hold_filled : (entry : Entry) (slots : List Slot) → IsEntry entry → HoldEntries slots → HoldEntries (first_changed (filled entry) slots)
hold_filled entry [] g h = h
hold_filled entry (slot ∷ slots) g h = record { each = holds }
  where
    holds : All (λ (s : Slot). IsEntry s.entry) (filled entry slot ∷ slots)
    holds zero d within = g
    holds (suc k) d within = h.each (suc k) d within

length-first_changed : {X : Type 0} (f : X → X) (xs : List X) → length (first_changed f xs) ≡ length xs
length-first_changed f [] = refl
length-first_changed f (x ∷ xs) = refl

pub border_filled : (b : BorderView) (entry : Entry) → length b.live < 15 → IsEntry entry → IsBorder b → IsBorder (with_filled b entry)
border_filled b entry room g h = record {
  seen = seen_filled b.live b.unused b.slots b.order h.seen entry room;
  slots = rw (length-first_changed (filled entry) b.unused) h.slots;
  low_fits = h.low_fits;
  ordered = h.ordered;
  entries = h.entries;
  held_back = hold_filled entry b.unused g h.held_back;
  from_low = h.from_low;
  left_of = h.left_of;
  deleted_empty = h.deleted_empty;
  border = h.border;
  flags = h.flags;
  unspent = h.unspent;
  counters = h.counters;
  pending = tt;
}

hold_forgotten : (slots : List Slot) → HoldEntries slots → HoldEntries (first_changed (with_entry (with_row no_row)) slots)
hold_forgotten [] h = h
hold_forgotten (slot ∷ slots) h = record { each = holds }
  where
    holds : All (λ (s : Slot). IsEntry s.entry) (with_entry (with_row no_row) slot ∷ slots)
    holds zero d within = let g = h.each 0 d (omega arith) in record { slice_fits = g.slice_fits; content = IsContent-with_row no_row slot.entry.content g.content }
    holds (suc k) d within = h.each (suc k) d within

pub border_forgotten : (b : BorderView) → length b.live < 15 → b.unwritten ≡ Nothing → IsBorder b → IsBorder (with_forgotten b)
border_forgotten b room written h = record {
  seen = seen_next_changed b.live b.unused b.slots b.order h.seen (with_entry (with_row no_row)) room;
  slots = rw (length-first_changed (with_entry (with_row no_row)) b.unused) h.slots;
  low_fits = h.low_fits;
  ordered = h.ordered;
  entries = h.entries;
  held_back = hold_forgotten b.unused h.held_back;
  from_low = h.from_low;
  left_of = h.left_of;
  deleted_empty = h.deleted_empty;
  border = h.border;
  flags = h.flags;
  unspent = h.unspent;
  counters = h.counters;
  pending = all_written (with_forgotten b) written;
}

take_none : (k : ℕ) (xs : List Entry) → xs ≡ [] → take k xs ≡ []
take_none zero xs e = refl
take_none (suc k) xs e = ap (λ (t : List Entry). take (suc k) t) e

-- the key of the entry at a place is unstable
pub border_unstable : (b : BorderView) (i : ℕ) → i < length b.live → IsSome (first_suffix (drop i b.live)) → b.version.locked ≡ true → IsBorder b → IsBorder (with_unstable b i)
border_unstable b i within long locked h =
    let inside : i < length b.order.live = omega (arith, within, live_count b.live b.unused b.slots b.order h.seen) in
    let read : first_suffix (drop i b.live) ≡ entry_suffix (get_or b.slots (number_at i b.order) blank_slot).entry = ap (λ (l : List Entry). first_suffix (drop i l)) h.seen.live_is ∙ (suffix_seen i (picked b.slots b.order.live) ∙ suffix_read b.slots b.order i (number_at i b.order) inside refl) in
    border_left b (LinkAt (number_at i b.order)) (record { locked = locked; long = subst (λ (o : Option (List ℕ)). IsSome o) read long }) h

-- its upper entries are to the right, and the order that others read is still to be cut
pub border_half_linked : (b : BorderView) (keep : ℕ) (right : RightLink) → b.version.locked ≡ true → b.version.splitting ≡ true → keep ≤ length b.live → b.low < right.low → AreBelow right.low (take keep b.live) → IsBorder b → IsBorder (with_half_linked b keep right)
border_half_linked b keep right locked splitting within above below h = record {
  seen = seen_split b.live b.unused b.slots b.order h.seen keep;
  slots = omega (arith, h.slots, length-take-le keep b.live within, length-drop keep b.live, length-append (left_slots (drop keep b.live)) b.unused, length-map (drop keep b.live) left_slot);
  low_fits = h.low_fits;
  ordered = ordered_take b.live keep within h.ordered;
  entries = record { each = All-take IsEntry keep b.live h.entries.each };
  held_back = hold_left (drop keep b.live) b.unused (record { each = All-drop IsEntry keep b.live h.entries.each }) h.held_back;
  from_low = record { each = All-take (λ e. b.low ≤ e.slice) keep b.live h.from_low.each };
  left_of = (above, below);
  deleted_empty = λ deleted. take_none keep b.live (h.deleted_empty deleted);
  border = h.border;
  flags = h.flags;
  unspent = h.unspent;
  counters = h.counters;
  pending = record { locked = locked; splitting = splitting; arranged = h.seen.table.arranged; cut = ap (λ (n : ℕ). with_first b.order n) (sym (length-take-le keep b.live within)) };
}
