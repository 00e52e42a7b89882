-- What a border shows of its slots, in their order, through each change.
use Rattle.std.proofs.Common.{◌≡◌, ◌≢◌, ℕ, zero, suc, ◌<◌, ◌≤◌, List, [], ◌∷◌, ◌++◌, length, take, drop, map, set, get_or, replicate, refl, sym, ap, ◌∙◌, arith, subst, Bool}
use Rattle.std.specs.List.{All, AllPairs, remove}
use Rattle.std.proofs.lemmas.List.{length-map, map-append, take-map, drop-map, get_or-set_same, get_or-set_other, length-set, set-set}
use Rattle.mt_word.specs.Slots.{Slots, places, with_first_unused_at, without_place, with_first}
use Rattle.mt_word.proofs.PlacesLemmas.{fifteen_together, slots_below}
use Rattle.mt_word.proofs.ArrangedLemmas.{places_distinct}
use Rattle.mt_border.specs.Entry.{at_version}
use Rattle.mt_border.specs.Table.{blank_slot, picked, IsSlotTable, none_live, number_at, next_number, slot_changed, left_slot, left_slots, with_entry, filled, marked, shown, with_all_filled, with_more_live, first_changed, changed_at}
use Rattle.mt_border.specs.Border.{BorderView, border_view, entries_of}
use Rattle.mt_border.specs.Order.{AreInSlots, AllHeldKeys}
use Rattle.mt_border.proofs.TableLemmas.{Lists, lists, length-picked, lists-shown, lists-hidden, lists-first, lists-live, lists-unused, picked-set_other, differ_after}
use Rattle.mt_border.proofs.ArrangedLemmas.{none_live_arranged, arranged_shown, arranged_hidden, arranged_first, arranged_more, table_changed}
use Rattle.mt_border.specs.declared.entry.Entry.{Entry}
use Rattle.mt_border.specs.declared.slot_table.Slot.{Slot}

-- ---- slots that held a key
pub AllHeldKeys-take : (i : ℕ) (xs : List Slot) → AllHeldKeys xs → AllHeldKeys (take i xs)
AllHeldKeys-take zero xs h = tt
AllHeldKeys-take (suc i) [] h = tt
AllHeldKeys-take (suc i) (x ∷ xs) h = (h.0, AllHeldKeys-take i xs h.1)

pub AllHeldKeys-drop : (i : ℕ) (xs : List Slot) → AllHeldKeys xs → AllHeldKeys (drop i xs)
AllHeldKeys-drop zero xs h = h
AllHeldKeys-drop (suc i) [] h = tt
AllHeldKeys-drop (suc i) (x ∷ xs) h = AllHeldKeys-drop i xs h.1

pub AllHeldKeys-append : (xs ys : List Slot) → AllHeldKeys xs → AllHeldKeys ys → AllHeldKeys (xs ++ ys)
AllHeldKeys-append [] ys h k = k
AllHeldKeys-append (x ∷ xs) ys h k = (h.0, AllHeldKeys-append xs ys h.1 k)

AllHeldKeys-left_slots : (entries : List Entry) → AllHeldKeys (left_slots entries)
AllHeldKeys-left_slots [] = tt
AllHeldKeys-left_slots (x ∷ xs) = (refl, AllHeldKeys-left_slots xs)

AllHeldKeys-first_changed : (g : Entry → Entry) (xs : List Slot) → AllHeldKeys xs → AllHeldKeys (first_changed (with_entry g) xs)
AllHeldKeys-first_changed g [] h = tt
AllHeldKeys-first_changed g (x ∷ xs) h = h

AllHeldKeys-changed_at : (i : ℕ) (g : Entry → Entry) (xs : List Slot) → AllHeldKeys xs → AllHeldKeys (changed_at i (with_entry g) xs)
AllHeldKeys-changed_at i g xs h =
    AllHeldKeys-append (take i xs) (first_changed (with_entry g) (drop i xs)) (AllHeldKeys-take i xs h) (AllHeldKeys-first_changed g (drop i xs) (AllHeldKeys-drop i xs h))

-- ---- the entries of slots
left_slots-entries_of : (xs : List Slot) → AllHeldKeys xs → left_slots (entries_of xs) ≡ xs
left_slots-entries_of [] h = refl
left_slots-entries_of (x ∷ xs) h =
    ap (λ (b : Bool). record { entry = x.entry; held_key = b } ∷ left_slots (entries_of xs)) (sym h.0) ∙ ap (λ (t : List Slot). x ∷ t) (left_slots-entries_of xs h.1)

entries_of-left_slots : (entries : List Entry) → entries_of (left_slots entries) ≡ entries
entries_of-left_slots [] = refl
entries_of-left_slots (x ∷ xs) = ap (λ (t : List Entry). x ∷ t) (entries_of-left_slots xs)

entries_of-first_changed : (g : Entry → Entry) (xs : List Slot) → entries_of (first_changed (with_entry g) xs) ≡ first_changed g (entries_of xs)
entries_of-first_changed g [] = refl
entries_of-first_changed g (x ∷ xs) = refl

entries_of-changed_at : (i : ℕ) (g : Entry → Entry) (xs : List Slot) → entries_of (changed_at i (with_entry g) xs) ≡ changed_at i g (entries_of xs)
entries_of-changed_at i g xs =
    let rest : entries_of (first_changed (with_entry g) (drop i xs)) ≡ first_changed g (drop i (entries_of xs)) = entries_of-first_changed g (drop i xs) ∙ ap (λ (t : List Entry). first_changed g t) (sym (drop-map (λ (slot : Slot). slot.entry) i xs)) in
    rw (map-append (λ (slot : Slot). slot.entry) (take i xs) (first_changed (with_entry g) (drop i xs)), rest) (simp take-map)

-- slots of which all held a key are what their entries leave
held_part : (n i : ℕ) (xs : List Slot) → AllHeldKeys xs → left_slots (take n (drop i (entries_of xs))) ≡ take n (drop i xs)
held_part n i xs h =
    let part : take n (drop i (entries_of xs)) ≡ entries_of (take n (drop i xs)) = simp (take-map, drop-map) in
    ap left_slots part ∙ left_slots-entries_of (take n (drop i xs)) (AllHeldKeys-take n (drop i xs) (AllHeldKeys-drop i xs h))

held_rest : (i : ℕ) (xs : List Slot) → AllHeldKeys xs → left_slots (drop i (entries_of xs)) ≡ drop i xs
held_rest i xs h = ap left_slots (drop-map (λ (slot : Slot). slot.entry) i xs) ∙ left_slots-entries_of (drop i xs) (AllHeldKeys-drop i xs h)

-- ---- a border is what is seen of its slots
pub view_of_seen : (b : BorderView) → AreInSlots b.live b.unused b.slots b.order → border_view b.layer b.low b.right b.version (record { slots = b.slots; order = b.order }) b.unwritten ≡ b
view_of_seen b h =
    ap (λ (live : List Entry). record b { live = live; unused = picked b.slots b.order.unused }) (sym h.live_is) ∙ ap (λ (unused : List Slot). record b { unused = unused }) (sym h.unused_is)

-- what the lists of another table hold
seen_from : (xs : List Slot) (s : Slots) (live : List Entry) (unused : List Slot) (l : Lists) → IsSlotTable xs s → lists xs s ≡ l → live ≡ entries_of l.live → unused ≡ l.unused → AllHeldKeys l.live → AreInSlots live unused xs s
seen_from xs s live unused l table is shows left held = record {
  table = table;
  live_is = shows ∙ ap (λ (t : Lists). entries_of t.live) (sym is);
  unused_is = left ∙ ap (λ (t : Lists). t.unused) (sym is);
  held = subst (λ (t : Lists). AllHeldKeys t.live) (sym is) held;
}

pub new_seen : AreInSlots [] (replicate 15 blank_slot) (replicate 15 blank_slot) none_live
new_seen = record { table = record { fifteen = refl; arranged = none_live_arranged }; live_is = refl; unused_is = refl; held = tt }

module _ (live : List Entry) (unused : List Slot) (xs : List Slot) (s : Slots) (h : AreInSlots live unused xs s) where
  abbrev l : List Slot
  l = picked xs s.live

  abbrev u : List Slot
  u = picked xs s.unused

  -- as many are live as the order says, and as many unused
  pub live_count : length live ≡ length s.live
  live_count = rw (h.live_is, length-map l (λ (slot : Slot). slot.entry)) (length-picked xs s s.live)

  unused_count : length unused ≡ length s.unused
  unused_count = rw h.unused_is (length-picked xs s s.unused)

  pub unused_there : length live < 15 → 0 < length s.unused
  unused_there room = omega (arith, live_count, fifteen_together s h.table.arranged)

  pub seen_next_changed : (change : Slot → Slot) → length live < 15 → AreInSlots live (first_changed change unused) (slot_changed (next_number s) change xs) s
  seen_next_changed change room =
      seen_from _ s live _ _ (table_changed xs s (next_number s) change h.table) (lists-unused xs s change h.table (unused_there room)) h.live_is (ap (λ (t : List Slot). first_changed change t) h.unused_is) h.held

  pub seen_filled : (entry : Entry) → length live < 15 → AreInSlots live (first_changed (filled entry) unused) (slot_changed (next_number s) (filled entry) xs) s
  seen_filled entry room = seen_next_changed (filled entry) room

  pub seen_hidden : (i : ℕ) → AreInSlots (remove live i) (left_slots (take 1 (drop i live)) ++ unused) xs (without_place s i)
  seen_hidden i =
      let shows : remove live i ≡ entries_of (remove l i) = rw h.live_is (simp (map-append, take-map, drop-map)) in
      let left : left_slots (take 1 (drop i live)) ++ unused ≡ take 1 (drop i l) ++ u = rw (h.live_is, h.unused_is, held_part 1 i l h.held) refl in
      let held : AllHeldKeys (remove l i) = AllHeldKeys-append (take i l) (drop (suc i) l) (AllHeldKeys-take i l h.held) (AllHeldKeys-drop (suc i) l h.held) in
      seen_from xs (without_place s i) _ _ _ (record { fifteen = h.table.fifteen; arranged = arranged_hidden s i h.table.arranged }) (lists-hidden xs s i) shows left held

  pub seen_changed : (i : ℕ) (g : Entry → Entry) → i < length live → AreInSlots (changed_at i g live) unused (slot_changed (number_at i s) (with_entry g) xs) s
  seen_changed i g within =
      seen_from _ s _ unused _ (table_changed xs s (number_at i s) (with_entry g) h.table) (lists-live xs s i (with_entry g) h.table (omega (arith, live_count))) (ap (λ (t : List Entry). changed_at i g t) h.live_is ∙ sym (entries_of-changed_at i g l)) h.unused_is (AllHeldKeys-changed_at i g l h.held)

  pub seen_split : (keep : ℕ) → AreInSlots (take keep live) (left_slots (drop keep live) ++ unused) xs (with_first s keep)
  seen_split keep =
      let shows : take keep live ≡ entries_of (take keep l) = rw h.live_is (simp take-map) in
      let left : left_slots (drop keep live) ++ unused ≡ drop keep l ++ u = rw (h.live_is, h.unused_is, held_rest keep l h.held) refl in
      seen_from xs (with_first s keep) _ _ _ (record { fifteen = h.table.fifteen; arranged = arranged_first s keep h.table.arranged }) (lists-first xs s keep) shows left (AllHeldKeys-take keep l h.held)

-- ---- the first unused slot is shown
shown_live : (l u : List Slot) (i version : ℕ) → entries_of (take i l ++ (take 1 (first_changed (shown version) u) ++ drop i l)) ≡ take i (entries_of l) ++ (map (λ slot. at_version version slot.entry) (take 1 u) ++ drop i (entries_of l))
shown_live l [] i version = simp (map-append, take-map, drop-map)
shown_live l (x ∷ xs) i version = simp (map-append, take-map, drop-map)

shown_unused : (u : List Slot) (version : ℕ) → drop 1 u ≡ drop 1 (first_changed (shown version) u)
shown_unused [] version = refl
shown_unused (x ∷ xs) version = refl

shown_held : (l u : List Slot) (i version : ℕ) → AllHeldKeys l → AllHeldKeys (take i l ++ (take 1 (first_changed (shown version) u) ++ drop i l))
shown_held l [] i version h = AllHeldKeys-append (take i l) (drop i l) (AllHeldKeys-take i l h) (AllHeldKeys-drop i l h)
shown_held l (x ∷ xs) i version h = AllHeldKeys-append (take i l) (shown version x ∷ drop i l) (AllHeldKeys-take i l h) (refl, AllHeldKeys-drop i l h)

pub seen_shown : (live : List Entry) (unused : List Slot) (xs : List Slot) (s : Slots) (i version : ℕ) → AreInSlots live unused xs s → length live < 15 →
    AreInSlots (take i live ++ (map (λ slot. at_version version slot.entry) (take 1 unused) ++ drop i live)) (drop 1 unused) (slot_changed (next_number s) (shown version) xs) (with_first_unused_at s i)
seen_shown live unused xs s i version h room =
    let l = picked xs s.live in
    let u = picked xs s.unused in
    let new = slot_changed (next_number s) (shown version) xs in
    let some : 0 < length s.unused = unused_there live unused xs s h room in
    let table = table_changed xs s (next_number s) (shown version) h.table in
    let write : lists new s ≡ record { live = l; unused = first_changed (shown version) u } = lists-unused xs s (shown version) h.table some in
    let P : Lists → Lists = λ t. record { live = take i t.live ++ (take 1 t.unused ++ drop i t.live); unused = drop 1 t.unused } in
    let is : lists new (with_first_unused_at s i) ≡ P (record { live = l; unused = first_changed (shown version) u }) = lists-shown new s i ∙ ap P write in
    let shows : take i live ++ (map (λ slot. at_version version slot.entry) (take 1 unused) ++ drop i live) ≡ entries_of (take i l ++ (take 1 (first_changed (shown version) u) ++ drop i l)) = rw (h.live_is, h.unused_is) (sym (shown_live l u i version)) in
    seen_from new (with_first_unused_at s i) _ _ _ (record { fifteen = table.fifteen; arranged = arranged_shown s i h.table.arranged }) is shows (ap (λ (t : List Slot). drop 1 t) h.unused_is ∙ shown_unused u version) (shown_held l u i version h.held)

-- ---- entries are filled in, one after the other, and are live
untouched : (numbers : List ℕ) (entries : List Entry) (xs : List Slot) (k : ℕ) → ((i : ℕ) → i < length numbers → get_or numbers i 0 ≢ k) → get_or (with_all_filled numbers entries xs) k blank_slot ≡ get_or xs k blank_slot
untouched numbers [] xs k h = refl
untouched [] (entry ∷ entries) xs k h = refl
untouched (n ∷ numbers) (entry ∷ entries) xs k h =
    let other : k ≢ n = λ e. h 0 (omega arith) (sym e) in
    untouched numbers entries (set xs n (left_slot entry)) k (λ i l. h (suc i) (omega arith)) ∙ get_or-set_other xs n k (left_slot entry) blank_slot other

pub length-with_all_filled : (numbers : List ℕ) (entries : List Entry) (xs : List Slot) → length (with_all_filled numbers entries xs) ≡ length xs
length-with_all_filled numbers [] xs = refl
length-with_all_filled [] (entry ∷ entries) xs = refl
length-with_all_filled (n ∷ numbers) (entry ∷ entries) xs = length-with_all_filled numbers entries (set xs n (left_slot entry)) ∙ length-set xs n (left_slot entry)

distinct_tail : (n : ℕ) (numbers : List ℕ) → AllPairs (λ k j. k ≢ j) (n ∷ numbers) → AllPairs (λ k j. k ≢ j) numbers
distinct_tail n numbers p = λ i j d before within. p (suc i) (suc j) d (omega arith) (omega arith)

-- the slots of these numbers: the first ones hold the entries, and the others what they held
filled_lists : (numbers : List ℕ) (entries : List Entry) (xs : List Slot) → AllPairs (λ k j. k ≢ j) numbers → All (λ k. k < length xs) numbers → length entries ≤ length numbers →
    (picked (with_all_filled numbers entries xs) (take (length entries) numbers) ≡ left_slots entries) × (picked (with_all_filled numbers entries xs) (drop (length entries) numbers) ≡ drop (length entries) (picked xs numbers))
filled_lists numbers [] xs p below fits = (refl, refl)
filled_lists [] (entry ∷ entries) xs p below fits = absurd (omega arith)
filled_lists (n ∷ numbers) (entry ∷ entries) xs p below fits =
    let new = set xs n (left_slot entry) in
    let other : (i : ℕ) → i < length numbers → get_or numbers i 0 ≢ n = differ_after [] numbers n p in
    let long : length new ≡ length xs = length-set xs n (left_slot entry) in
    let inside : n < length xs = below 0 0 (omega arith) in
    let rest = filled_lists numbers entries new (distinct_tail n numbers p) (λ k d within. (let b = below (suc k) d (omega arith) in omega (arith, b, long))) (omega arith) in
    let first : get_or (with_all_filled numbers entries new) n blank_slot ≡ left_slot entry = untouched numbers entries new n other ∙ get_or-set_same xs n (left_slot entry) blank_slot inside in (
      rw (first, rest.0) refl,
      rest.1 ∙ ap (λ (t : List Slot). drop (length entries) t) (picked-set_other xs n (left_slot entry) numbers other),
    )

-- in a border with no live entry
pub seen_entries : (live : List Entry) (unused : List Slot) (xs : List Slot) (s : Slots) (entries : List Entry) → AreInSlots live unused xs s → live ≡ [] → length entries ≤ length unused → AreInSlots entries (drop (length entries) unused) (with_all_filled s.unused entries xs) (with_more_live s (length entries))
seen_entries live unused xs s entries h empty fits = go s.live refl
  where
    new : List Slot
    new = with_all_filled s.unused entries xs

    made : IsSlotTable new (with_more_live s (length entries))
    made = record { fifteen = length-with_all_filled s.unused entries xs ∙ h.table.fifteen; arranged = arranged_more s (length entries) h.table.arranged }

    go : (numbers : List ℕ) → s.live ≡ numbers → AreInSlots entries (drop (length entries) unused) new (with_more_live s (length entries))
    go (n ∷ numbers) e = absurd (omega (arith, live_count live unused xs s h, ap (λ (t : List ℕ). length t) e, ap (λ (t : List Entry). length t) empty))
    go [] e =
        let distinct : AllPairs (λ k j. k ≢ j) s.unused = (rw e at (places_distinct s h.table.arranged)) in
        let below : All (λ k. k < length xs) s.unused = (λ k d within. rw h.table.fifteen ((rw e at (slots_below (places s) h.table.arranged.each_once)) k d within)) in
        let parts = filled_lists s.unused entries xs distinct below (omega (arith, unused_count live unused xs s h)) in
        let is : lists new (with_more_live s (length entries)) ≡ record { live = left_slots entries; unused = drop (length entries) (picked xs s.unused) } = rw (e, parts.0, parts.1) refl in
        seen_from new (with_more_live s (length entries)) entries _ _ made is (sym (entries_of-left_slots entries)) (ap (λ (t : List Slot). drop (length entries) t) h.unused_is) (AllHeldKeys-left_slots entries)

-- ---- the table while entries are filled in
-- the next number, of those that are left
filled_more : (numbers : List ℕ) (ys : List Entry) (entry : Entry) (xs : List Slot) → length ys < length numbers → get_or (drop (length ys) numbers) 0 0 < length xs →
    let n = get_or (drop (length ys) numbers) 0 0 in
    slot_changed n marked (slot_changed n (filled entry) (with_all_filled numbers ys xs)) ≡ with_all_filled numbers (ys ++ entry ∷ []) xs
filled_more [] ys entry xs more within = absurd (omega arith)
filled_more (m ∷ numbers) [] entry xs more within =
    let there : get_or (set xs m (filled entry (get_or xs m blank_slot))) m blank_slot ≡ filled entry (get_or xs m blank_slot) = get_or-set_same xs m (filled entry (get_or xs m blank_slot)) blank_slot within in
    rw (there, set-set xs m (filled entry (get_or xs m blank_slot)) (left_slot entry)) refl
filled_more (m ∷ numbers) (y ∷ ys) entry xs more within =
    filled_more numbers ys entry (set xs m (left_slot y)) (omega arith) (omega (arith, within, length-set xs m (left_slot y)))

-- in a new border
pub new_entries_seen : (entries : List Entry) → length entries ≤ 15 → AreInSlots entries (drop (length entries) (replicate 15 blank_slot)) (with_all_filled none_live.unused entries (replicate 15 blank_slot)) (with_more_live none_live (length entries))
new_entries_seen entries few = seen_entries [] (replicate 15 blank_slot) (replicate 15 blank_slot) none_live entries new_seen refl few
