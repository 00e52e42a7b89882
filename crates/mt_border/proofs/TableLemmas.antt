-- What the live and the unused slots hold, through each edit of the order or of one slot.
use Rattle.std.proofs.Common.{◌≡◌, ◌≢◌, ℕ, suc, ◌+◌, ◌<◌, List, [], ◌∷◌, ◌++◌, length, take, drop, map, set, get_or, refl, sym, ap, ◌∙◌, arith, add-one, length-append, append_assoc, subst, Some, slice_get}
use Rattle.std.specs.List.{AllPairs, remove}
use Rattle.mt_border.specs.Entry.{entry_row, entry_suffix}
use Rattle.std.proofs.lemmas.List.{get_or-map, get_or_default, length-map, map-append, take-map, drop-map, get_or-set_same, get_or-set_other, get_or_append_left, get_or-append-add, take_at, drop_at, drop_more, take-append-drop, length-take-le}
use Rattle.mt_word.specs.Slots as word
use Rattle.mt_word.specs.Slots.{Slots, IsArranged, places}
use Rattle.mt_word.proofs.PlacesLemmas.{fifteen_together, slots_below, at_first_unused}
use Rattle.mt_word.proofs.ArrangedLemmas.{places_distinct}
use Rattle.mt_border.specs.Table.{blank_slot, picked, IsSlotTable, slot_changed, number_at, next_number, changed_at, first_changed, row_of_first, suffix_of_first}
use Rattle.mt_border.specs.declared.slot_table.Slot.{Slot}

-- what the live slots and the unused ones hold
pub record Lists : Type 0 where
  pub live : List Slot
  pub unused : List Slot

abbrev pub lists : List Slot → Slots → Lists
lists slots s = record { live = picked slots s.live; unused = picked slots s.unused }

module _ (xs : List Slot) (s : Slots) where
  pub length-picked : (ks : List ℕ) → length (picked xs ks) ≡ length ks
  length-picked ks = length-map ks (λ (k : ℕ). get_or xs k blank_slot)

  pub room_left : IsArranged s → length (picked xs s.live) < 15 → 0 < length s.unused
  room_left h room = omega (arith, length-picked s.live, fifteen_together s h)

  -- a place that is seen to be live
  pub live_place : (i : ℕ) → i < length (picked xs s.live) → i < length s.live
  live_place i h = omega (arith, length-picked s.live)

  pub lists-shown : (i : ℕ) → let t = lists xs s in lists xs (word.with_first_unused_at s i) ≡ record { live = take i t.live ++ (take 1 t.unused ++ drop i t.live); unused = drop 1 t.unused }
  lists-shown i = simp (map-append, take-map, drop-map)

  pub lists-hidden : (i : ℕ) → let t = lists xs s in lists xs (word.without_place s i) ≡ record { live = remove t.live i; unused = take 1 (drop i t.live) ++ t.unused }
  lists-hidden i = simp (add-one, map-append, take-map, drop-map)

  pub lists-first : (k : ℕ) → let t = lists xs s in lists xs (word.with_first s k) ≡ record { live = take k t.live; unused = drop k t.live ++ t.unused }
  lists-first k = simp (map-append, take-map, drop-map)

-- a write to another slot is not seen
pub picked-set_other : (xs : List Slot) (slot : ℕ) (x : Slot) (ks : List ℕ) → ((i : ℕ) → i < length ks → get_or ks i 0 ≢ slot) → picked (set xs slot x) ks ≡ picked xs ks
picked-set_other xs slot x [] h = refl
picked-set_other xs slot x (k ∷ ks) h =
    let other : k ≢ slot = h 0 (omega arith) in
    rw (get_or-set_other xs slot k x blank_slot other, picked-set_other xs slot x ks (λ i l. h (suc i) (omega arith)))

-- what stands before or after y in a list in which each stands once is another
differ_before : (a c : List ℕ) (y : ℕ) → AllPairs (λ k j. k ≢ j) (a ++ (y ∷ c)) → (k : ℕ) → k < length a → get_or a k 0 ≢ y
differ_before a c y p k h n =
    p k (length a + 0) 0 (omega arith) (omega (arith, length-append a (y ∷ c))) (get_or_append_left a (y ∷ c) 0 k h ∙ (n ∙ sym (get_or-append-add a (y ∷ c) 0 0)))

pub differ_after : (a c : List ℕ) (y : ℕ) → AllPairs (λ k j. k ≢ j) (a ++ (y ∷ c)) → (k : ℕ) → k < length c → get_or c k 0 ≢ y
differ_after a c y p k h n =
    p (length a + 0) (length a + suc k) 0 (omega arith) (omega (arith, length-append a (y ∷ c))) (get_or-append-add a (y ∷ c) 0 0 ∙ (sym n ∙ sym (get_or-append-add a (y ∷ c) (suc k) 0)))

-- a list whose element at place i is changed
changed_at-middle : (a b : List Slot) (y : Slot) (i : ℕ) (f : Slot → Slot) → length a ≡ i → changed_at i f (a ++ (y ∷ b)) ≡ a ++ (f y ∷ b)
changed_at-middle a b y i f e =
    rw (take_at a (y ∷ b) i e, drop_at a (y ∷ b) i e)

-- a write to the slot of one live entry
seen_live : (xs : List Slot) (a b u : List ℕ) (y i : ℕ) (f : Slot → Slot) → length a ≡ i → AllPairs (λ k j. k ≢ j) ((a ++ (y ∷ b)) ++ u) → y < length xs →
    let s : Slots = record { live = a ++ (y ∷ b); unused = u } in
    lists (set xs y (f (get_or xs y blank_slot))) s ≡ record { live = changed_at i f (lists xs s).live; unused = (lists xs s).unused }
seen_live xs a b u y i f e p within =
    let at : ℕ → Slot = λ k. get_or xs k blank_slot in
    let x : Slot = f (get_or xs y blank_slot) in
    let flat : (a ++ (y ∷ b)) ++ u ≡ a ++ (y ∷ (b ++ u)) = append_assoc a (y ∷ b) u in
    let q : AllPairs (λ k j. k ≢ j) (a ++ (y ∷ (b ++ u))) = rw flat at p in
    let longer = length-append b u in
    let first = differ_before a (b ++ u) y q in
    let after = differ_after a (b ++ u) y q in
    let second : (k : ℕ) → k < length b → get_or b k 0 ≢ y = λ k h n. after k (omega (arith, longer)) (get_or_append_left b u 0 k h ∙ n) in
    let third : (k : ℕ) → k < length u → get_or u k 0 ≢ y = λ k h n. after (length b + k) (omega (arith, longer)) (get_or-append-add b u k 0 ∙ n) in
    let short : length (map at a) ≡ i = length-map a at ∙ e in
    rw (map-append (λ k. get_or (set xs y x) k blank_slot) a (y ∷ b), map-append at a (y ∷ b), picked-set_other xs y x a first, picked-set_other xs y x b second, picked-set_other xs y x u third, get_or-set_same xs y x blank_slot within, changed_at-middle (map at a) (map at b) (at y) i f short)

lists-live_at : (xs : List Slot) (s : Slots) (slot i : ℕ) (f : Slot → Slot) → IsArranged s → i < length s.live → slot ≡ get_or s.live i 0 → slot < length xs →
    lists (set xs slot (f (get_or xs slot blank_slot))) s ≡ record { live = changed_at i f (lists xs s).live; unused = (lists xs s).unused }
lists-live_at xs s slot i f h inside read within =
    let cut : s.live ≡ take i s.live ++ (slot ∷ drop (i + 1) s.live) = sym (take-append-drop i s.live) ∙ ap (λ (t : List ℕ). take i s.live ++ t) (drop_more s.live i 0 inside ∙ rw read) in
    let split : AllPairs (λ a b. a ≢ b) ((take i s.live ++ (slot ∷ drop (i + 1) s.live)) ++ s.unused) = rw (← cut) (places_distinct s h) in
    let P : List ℕ → Type 0 = λ l. lists (set xs slot (f (get_or xs slot blank_slot))) (record { live = l; unused = s.unused }) ≡ record { live = changed_at i f (picked xs l); unused = picked xs s.unused } in
    subst P (sym cut) (seen_live xs (take i s.live) (drop (i + 1) s.live) s.unused slot i f (length-take-le i s.live (omega arith)) split within)

-- a write to the first unused slot
seen_first : (xs : List Slot) (l u : List ℕ) (y : ℕ) (f : Slot → Slot) → AllPairs (λ a b. a ≢ b) (l ++ (y ∷ u)) → y < length xs →
    lists (set xs y (f (get_or xs y blank_slot))) (record { live = l; unused = y ∷ u }) ≡ record { live = picked xs l; unused = first_changed f (picked xs (y ∷ u)) }
seen_first xs l u y f p within =
    let x : Slot = f (get_or xs y blank_slot) in
    rw (picked-set_other xs y x l (differ_before l u y p), picked-set_other xs y x u (differ_after l u y p), get_or-set_same xs y x blank_slot within)

seen_unused : (xs : List Slot) (l u : List ℕ) (slot : ℕ) (f : Slot → Slot) → AllPairs (λ a b. a ≢ b) (l ++ u) → 0 < length u → slot ≡ get_or u 0 0 → slot < length xs →
    lists (set xs slot (f (get_or xs slot blank_slot))) (record { live = l; unused = u }) ≡ record { live = picked xs l; unused = first_changed f (picked xs u) }
seen_unused xs l [] slot f p room read within = absurd (omega arith)
seen_unused xs l (y ∷ u) slot f p room read within =
    let same : slot ≡ y = read in
    let inside : y < length xs = omega arith in
    let P : ℕ → Type 0 = λ k. lists (set xs k (f (get_or xs k blank_slot))) (record { live = l; unused = y ∷ u }) ≡ record { live = picked xs l; unused = first_changed f (picked xs (y ∷ u)) } in
    subst P (sym same) (seen_first xs l u y f p inside)

lists-unused_at : (xs : List Slot) (s : Slots) (slot : ℕ) (f : Slot → Slot) → IsArranged s → 0 < length s.unused → slot ≡ get_or s.unused 0 0 → slot < length xs →
    lists (set xs slot (f (get_or xs slot blank_slot))) s ≡ record { live = (lists xs s).live; unused = first_changed f (lists xs s).unused }
lists-unused_at xs s slot f h room read within = seen_unused xs s.live s.unused slot f (places_distinct s h) room read within

-- the number of a live slot, and that of the first unused one, are numbers of slots
pub live_below : (s : Slots) (i : ℕ) → IsArranged s → i < length s.live → number_at i s < 15
live_below s i h inside =
    let within : i < length (places s) = omega (arith, length-append s.live s.unused) in
    rw (← get_or_append_left s.live s.unused 0 i inside) (slots_below (places s) h.each_once i 0 within)

pub next_below : (s : Slots) → IsArranged s → 0 < length s.unused → next_number s < 15
next_below s h room =
    let within : length s.live < length (places s) = omega (arith, length-append s.live s.unused) in
    rw (← at_first_unused s (length s.live) 0 refl) (slots_below (places s) h.each_once (length s.live) 0 within)

-- a change of the slot of a live entry, and of the first unused slot
pub lists-live : (xs : List Slot) (s : Slots) (i : ℕ) (f : Slot → Slot) → IsSlotTable xs s → i < length s.live → lists (slot_changed (number_at i s) f xs) s ≡ record { live = changed_at i f (picked xs s.live); unused = picked xs s.unused }
lists-live xs s i f t inside =
    lists-live_at xs s (number_at i s) i f t.arranged inside refl (omega (arith, t.fifteen, live_below s i t.arranged inside))

pub lists-unused : (xs : List Slot) (s : Slots) (f : Slot → Slot) → IsSlotTable xs s → 0 < length s.unused → lists (slot_changed (next_number s) f xs) s ≡ record { live = picked xs s.live; unused = first_changed f (picked xs s.unused) }
lists-unused xs s f t room =
    lists-unused_at xs s (next_number s) f t.arranged room refl (omega (arith, t.fifteen, next_below s t.arranged room))

-- what is read at a place
pub picked_at : (xs : List Slot) (ks : List ℕ) (i : ℕ) → i < length ks → get_or (picked xs ks) i blank_slot ≡ get_or xs (get_or ks i 0) blank_slot
picked_at xs ks i h = get_or-map (λ (k : ℕ). get_or xs k blank_slot) ks i 0 blank_slot h

pub first_read : (xs : List Slot) (u : List ℕ) (slot : ℕ) (x : Slot) → 0 < length u → slot ≡ get_or u 0 0 → slot < length xs → x ≡ get_or xs slot x → slice_get (picked xs u) 0 ≡ Some x
first_read xs [] slot x room read within e = absurd (omega arith)
first_read xs (y ∷ u) slot x room read within e = ap Some (ap (λ (k : ℕ). get_or xs k blank_slot) (sym read) ∙ (get_or_default xs slot blank_slot x within ∙ sym e))

pub row_read : (xs : List Slot) (s : Slots) (i slot : ℕ) → i < length s.live → slot ≡ get_or s.live i 0 → row_of_first (drop i (lists xs s).live) ≡ entry_row (get_or xs slot blank_slot).entry
row_read xs s i slot inside read =
    let long : i < length (picked xs s.live) = omega (arith, length-map s.live (λ (k : ℕ). get_or xs k blank_slot)) in
    rw (drop_more (picked xs s.live) i blank_slot long, picked_at xs s.live i inside, read)

pub suffix_read : (xs : List Slot) (s : Slots) (i slot : ℕ) → i < length s.live → slot ≡ get_or s.live i 0 → suffix_of_first (drop i (lists xs s).live) ≡ entry_suffix (get_or xs slot blank_slot).entry
suffix_read xs s i slot inside read =
    let long : i < length (picked xs s.live) = omega (arith, length-map s.live (λ (k : ℕ). get_or xs k blank_slot)) in
    rw (drop_more (picked xs s.live) i blank_slot long, picked_at xs s.live i inside, read)
