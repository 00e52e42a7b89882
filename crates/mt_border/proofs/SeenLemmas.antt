-- What a border shows once its table has changed.
use Rattle.std.proofs.Common.{◌≡◌, ℕ, zero, suc, ◌+◌, ◌-◌, ◌<◌, ◌≤◌, List, [], ◌∷◌, ◌++◌, length, take, drop, get_or, set, refl, sym, ap, ◌∙◌, arith, subst, append_assoc, length-append, Option, Some, IsSome, true, unwrap_or}
use Rattle.std.proofs.lemmas.List.{take_all, drop_all, drop-drop, length-map, get_or-set_same, set-set, length-set, take_more, drop_more, length-take, length-drop}
use Rattle.mt_types.specs.declared.row.Row.{Row}
use Rattle.mt_types.specs.declared.numbers.NodeNo.{NodeNo}
use Rattle.mt_word.specs.Slots.{Slots, with_first_unused_at, without_place, with_first}
use Rattle.mt_word.specs.Version.{VersionView}
use Rattle.mt_border.specs.Entry.{IsEntry, entry_with, at_version, no_row, with_row, with_link}
use Rattle.mt_border.specs.Table.{TableView, IsSlotTable, blank_slot, live_slots, number_at, next_number, slot_changed, left_slot, with_entry, filled, marked, with_all_filled, with_more_live, row_of_first, suffix_of_first}
use Rattle.mt_border.specs.Border.{BorderView, border_view, entries_of, first_row, first_suffix, with_filled, with_shown, with_hidden, with_forgotten, with_value, with_link_at, with_entries, with_half_linked, suffix_at}
use Rattle.mt_border.specs.Order.{IsBorder, AreBelow}
use Rattle.mt_border.proofs.TableLemmas.{length-picked, next_below, room_left}
use Rattle.mt_border.proofs.SlotLemmas.{view_of_seen, length-with_all_filled}
use Rattle.mt_border.proofs.BorderLemmas.{suffix_seen, border_value, border_unstable, border_link, border_hidden, border_forgotten, awaits, border_filled, border_half_linked}
use Rattle.mt_border.specs.declared.entry.Entry.{Entry}
use Rattle.mt_border.specs.declared.entry.RightLink.{RightLink}
use Rattle.mt_border.specs.declared.slot_table.Slot.{Slot}
use Rattle.mt_border.specs.declared.unwritten.SlotKey.{SlotKey}
use Rattle.mt_border.specs.declared.unwritten.Unwritten.{Unwritten}
use Rattle.mt_border.specs.declared.unwritten.Unwritten.TheVariants.{Nothing, Value, Order, LinkAt, MarkAt}

-- ---- entries are filled in, one after the other
-- one more entry, at the next of the numbers that are left
filled_more : (numbers : List ℕ) (ys : List Entry) (entry : Entry) (xs : List Slot) → length ys < length numbers → get_or (drop (length ys) numbers) 0 0 < length xs →
    let n = get_or (drop (length ys) numbers) 0 0 in
    slot_changed n marked (slot_changed n (filled entry) (with_all_filled numbers ys xs)) ≡ with_all_filled numbers (ys ++ entry ∷ []) xs
filled_more [] ys entry xs more within = absurd (omega arith)
filled_more (m ∷ numbers) [] entry xs more within =
    let x : Slot = filled entry (get_or xs m blank_slot) in
    let there : get_or (set xs m x) m blank_slot ≡ x = get_or-set_same xs m x blank_slot within in
    rw (there, set-set xs m x (left_slot entry)) refl
filled_more (m ∷ numbers) (y ∷ ys) entry xs more within =
    filled_more numbers ys entry (set xs m (left_slot y)) (omega arith) (omega (arith, within, length-set xs m (left_slot y)))

-- one more of the unused numbers is live
one_more : (s : Slots) (n place : ℕ) → n < length s.unused → place ≡ length (with_more_live s n).live → with_first_unused_at (with_more_live s n) place ≡ with_more_live s (n + 1)
one_more s n place room e =
    let live : List ℕ = s.live ++ take n s.unused in
    let first : take 1 (drop n s.unused) ≡ get_or s.unused n 0 ∷ [] = rw (drop_more s.unused n 0 room) refl in
    rw (take_all place live (omega (arith, e)), drop_all place live (omega (arith, e)), first, take_more s.unused n 0 room, ← append_assoc s.live (take n s.unused) (get_or s.unused n 0 ∷ []), drop-drop 1 n s.unused) refl

-- the table once the entries so far are live after those of the start, and these are left
pub record IsExtended (entries yielded rest : List Entry) (start t : TableView) : Type 0 where
  pub left : entries ≡ yielded ++ rest
  pub made : t ≡ record { slots = with_all_filled start.order.unused yielded start.slots; order = with_more_live start.order (length yielded) }

pub room_for : (entries yielded rest more : List Entry) (start t : TableView) (entry : Entry) → IsExtended entries yielded rest start t → rest ≡ entry ∷ more → length (live_slots start) + length entries ≤ 15 → length (live_slots t) < 15
room_for entries yielded rest more start t entry h e room =
    let all : length entries ≡ length yielded + length rest = ap (λ (l : List Entry). length l) h.left ∙ length-append yielded rest in
    let one : length rest ≡ suc (length more) = ap (λ (l : List Entry). length l) e in
    let long : length t.order.live ≡ length (start.order.live ++ take (length yielded) start.order.unused) = ap (λ (v : TableView). length v.order.live) h.made in
    omega (arith, all, one, long, length-append start.order.live (take (length yielded) start.order.unused), length-take (length yielded) start.order.unused, length-picked t.slots t.order t.order.live, length-picked start.slots start.order start.order.live)

pub extended : (entries yielded rest more : List Entry) (start t : TableView) (entry : Entry) (n : ℕ) → IsExtended entries yielded rest start t → rest ≡ entry ∷ more → length (live_slots t) < 15 → IsSlotTable t.slots t.order → n ≡ length (live_slots t) →
    IsExtended entries (yielded ++ entry ∷ []) more start (record { slots = slot_changed (next_number t.order) marked (slot_changed (next_number t.order) (filled entry) t.slots); order = with_first_unused_at t.order n })
extended entries yielded rest more start t entry n h e room table count =
    let k = length yielded in
    let u = start.order.unused in
    let made : TableView = record { slots = with_all_filled u yielded start.slots; order = with_more_live start.order k } in
    let some : 0 < length t.order.unused = room_left t.slots t.order table.arranged room in
    let left : length t.order.unused ≡ length (drop k u) = ap (λ (v : TableView). length v.order.unused) h.made in
    let more_left : k < length u = omega (arith, some, left, length-drop k u) in
    let slots_kept : length t.slots ≡ length start.slots = ap (λ (v : TableView). length v.slots) h.made ∙ length-with_all_filled u yielded start.slots in
    let number : next_number t.order ≡ get_or (drop k u) 0 0 = ap (λ (v : TableView). next_number v.order) h.made in
    let inside : get_or (drop k u) 0 0 < length start.slots = omega (arith, next_below t.order table.arranged some, number, slots_kept, table.fifteen) in
    let place : n ≡ length (with_more_live start.order k).live = count ∙ (length-picked t.slots t.order t.order.live ∙ ap (λ (v : TableView). length v.order.live) h.made) in
    let long : length (yielded ++ entry ∷ []) ≡ k + 1 = length-append yielded (entry ∷ []) in
    let slots : slot_changed (get_or (drop k u) 0 0) marked (slot_changed (get_or (drop k u) 0 0) (filled entry) (with_all_filled u yielded start.slots)) ≡ with_all_filled u (yielded ++ entry ∷ []) start.slots = filled_more u yielded entry start.slots more_left inside in
    let order : with_first_unused_at (with_more_live start.order k) n ≡ with_more_live start.order (length (yielded ++ entry ∷ [])) = one_more start.order k n more_left place ∙ ap (λ (m : ℕ). with_more_live start.order m) (sym long) in
    let change : TableView → TableView = λ v. record { slots = slot_changed (next_number v.order) marked (slot_changed (next_number v.order) (filled entry) v.slots); order = with_first_unused_at v.order n } in
    let new : TableView = record { slots = with_all_filled u (yielded ++ entry ∷ []) start.slots; order = with_more_live start.order (length (yielded ++ entry ∷ [])) } in
    record {
      left = h.left ∙ (ap (λ (l : List Entry). yielded ++ l) e ∙ sym (append_assoc yielded (entry ∷ []) more));
      made = subst (λ (v : TableView). change v ≡ new) (sym h.made) (rw (slots, order) refl);
    }

pub row_seen : (i : ℕ) (xs : List Slot) → first_row (drop i (entries_of xs)) ≡ row_of_first (drop i xs)
row_seen zero [] = refl
row_seen zero (x ∷ xs) = refl
row_seen (suc i) [] = refl
row_seen (suc i) (x ∷ xs) = row_seen i xs

-- ---- the border over its new table
-- a slot that is changed twice
changed_twice : (n : ℕ) (f g : Slot → Slot) (xs : List Slot) → n < length xs → slot_changed n g (slot_changed n f xs) ≡ slot_changed n (λ x. g (f x)) xs
changed_twice n f g xs within =
    let x : Slot = f (get_or xs n blank_slot) in
    rw (get_or-set_same xs n x blank_slot within, set-set xs n x (g x)) refl

module _ (layer low : ℕ) (right : Option RightLink) (version : VersionView) (t : TableView) (left : Unwritten) where
  abbrev b : BorderView
  b = border_view layer low right version t left

  -- the border with another order of the slots, or with other slots
  abbrev ordered : Slots → BorderView
  ordered order = border_view layer low right version (record t { order = order }) left

  abbrev with_slots : List Slot → BorderView
  with_slots slots = border_view layer low right version (record t { slots = slots }) left

  pub sound_hidden : (i : ℕ) → i < length b.live → left ≡ Nothing → IsBorder b → (ordered (without_place t.order i) ≡ with_hidden b i) × IsBorder (ordered (without_place t.order i))
  sound_hidden i within written h =
      let whole = border_hidden b i within written h in
      let seen = view_of_seen (with_hidden b i) whole.seen in
      (seen, subst IsBorder (sym seen) whole)

  pub sound_value : (i : ℕ) (row : Row) → i < length b.live → left ≡ Nothing → IsBorder b →
      let new : BorderView = with_slots (slot_changed (number_at i t.order) (with_entry (with_row row)) t.slots) in
      (new ≡ with_value b i row) × IsBorder new
  sound_value i row within written h =
      let whole = border_value b i row within written h in
      let seen = view_of_seen (with_value b i row) whole.seen in
      (seen, subst IsBorder (sym seen) whole)

  pub sound_forgotten : length b.live < 15 → left ≡ Nothing → IsBorder b →
      let new : BorderView = with_slots (slot_changed (next_number t.order) (with_entry (with_row no_row)) t.slots) in
      (new ≡ with_forgotten b) × IsBorder new
  sound_forgotten room written h =
      let whole = border_forgotten b room written h in
      let seen = view_of_seen (with_forgotten b) whole.seen in
      (seen, subst IsBorder (sym seen) whole)

  pub sound_link : (i number : ℕ) (head : NodeNo) (suffix : List ℕ) → i < length b.live → IsSome (first_suffix (drop i b.live)) → left ≡ LinkAt (number_at i t.order) → number ≡ number_at i t.order → suffix_of_first (drop i (live_slots t)) ≡ Some suffix → IsBorder b →
      let new : BorderView = border_view layer low right version (record t { slots = slot_changed (number_at i t.order) (with_entry (with_link head)) t.slots }) (MarkAt number suffix) in
      (new ≡ with_link_at b i head) × IsBorder new
  sound_link i number head suffix within long unstable same read h =
      let whole = border_link b i head within long unstable h in
      let kept : suffix ≡ unwrap_or (suffix_at i b.live) [] = sym (ap (λ (o : Option (List ℕ)). unwrap_or o []) (suffix_seen i (live_slots t) ∙ read)) in
      let left_is : MarkAt number suffix ≡ (with_link_at b i head).unwritten = ap (λ (n : ℕ). MarkAt n suffix) same ∙ ap (λ (s : List ℕ). MarkAt (number_at i t.order) s) kept in
      let seen = ap (λ (u : Unwritten). border_view layer low right version (record t { slots = slot_changed (number_at i t.order) (with_entry (with_link head)) t.slots }) u) left_is ∙ view_of_seen (with_link_at b i head) whole.seen in
      (seen, subst IsBorder (sym seen) whole)

  -- its key is marked unstable before
  pub sound_unstable : (i number : ℕ) → i < length b.live → IsSome (first_suffix (drop i b.live)) → version.locked ≡ true → number ≡ number_at i t.order → IsBorder b → IsBorder (border_view layer low right version t (LinkAt number))
  sound_unstable i number within long locked same h = subst (λ (n : ℕ). IsBorder (border_view layer low right version t (LinkAt n))) (sym same) (border_unstable b i within long locked h)

  pub sound_filled : (own : SlotKey) (row : Row) (entry : Entry) → left ≡ Value own → entry ≡ entry_with own row → IsEntry entry → IsBorder b →
      let new : BorderView = border_view layer low right version (record t { slots = slot_changed (next_number t.order) (filled entry) t.slots }) Nothing in
      ((key : SlotKey) → left ≡ Value key → new ≡ with_filled b (entry_with key row)) × IsBorder new
  sound_filled own row entry is e whole h =
      let made = border_filled b entry (awaits b own is h).room whole h in
      let seen = view_of_seen (with_filled b entry) made.seen in (
        λ key named. (let same : Value own ≡ Value key = sym is ∙ named in
            let key_is : own ≡ key = cc in
            seen ∙ ap (λ (x : Entry). with_filled b x) (e ∙ ap (λ (k : SlotKey). entry_with k row) key_is)),
        subst IsBorder (sym seen) made,
      )

  -- the first unused slot has a version and a mark, and is live at place i
  pub sound_shown : (i number : ℕ) → length b.live < 15 → IsSlotTable t.slots t.order → IsBorder (with_shown b i number) →
      let n = next_number t.order in
      let new : BorderView = border_view layer low right version (record { slots = slot_changed n marked (slot_changed n (with_entry (at_version number)) t.slots); order = with_first_unused_at t.order i }) left in
      (new ≡ with_shown b i number) × IsBorder new
  sound_shown i number room table h =
      let some : 0 < length t.order.unused = room_left t.slots t.order table.arranged (omega (arith, room, length-map (live_slots t) (λ (s : Slot). s.entry))) in
      let twice = changed_twice (next_number t.order) (with_entry (at_version number)) marked t.slots (omega (arith, next_below t.order table.arranged some, table.fifteen)) in
      let seen = ap (λ (slots : List Slot). border_view layer low right version (record { slots = slots; order = with_first_unused_at t.order i }) left) twice ∙ view_of_seen (with_shown b i number) h.seen in
      (seen, subst IsBorder (sym seen) h)

  pub sound_half_linked : (keep : ℕ) (shown : Slots) (link : RightLink) → version.locked ≡ true → version.splitting ≡ true → keep ≤ length b.live → low < link.low → AreBelow link.low (take keep b.live) → shown ≡ t.order → IsBorder b →
      let new : BorderView = border_view layer low (Some link) version (record t { order = with_first t.order keep }) (Order shown) in
      (new ≡ with_half_linked b keep link) × IsBorder new
  sound_half_linked keep shown link locked splitting within above below same h =
      let whole = border_half_linked b keep link locked splitting within above below h in
      let seen = ap (λ (s : Slots). border_view layer low (Some link) version (record t { order = with_first t.order keep }) (Order s)) same ∙ view_of_seen (with_half_linked b keep link) whole.seen in
      (seen, subst IsBorder (sym seen) whole)

  -- a border with nothing live gets entries
  pub sound_entries : (entries : List Entry) (link : Option RightLink) → IsBorder (with_entries b entries link) →
      let new : BorderView = border_view layer low link version (record { slots = with_all_filled t.order.unused entries t.slots; order = with_more_live t.order (length entries) }) left in
      (new ≡ with_entries b entries link) × IsBorder new
  sound_entries entries link h =
      let seen = view_of_seen (with_entries b entries link) h.seen in
      (seen, subst IsBorder (sym seen) h)
