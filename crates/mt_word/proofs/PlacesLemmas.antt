-- The places of a permutation through each edit.
use Rattle.std.proofs.Common.{◌≡◌, ℕ, zero, suc, ◌+◌, ◌-◌, ◌<◌, ◌≤◌, List, [], ◌∷◌, ◌++◌, length, take, drop, get_or, refl, sym, ◌∙◌, arith, nat_lt, true, Bool, false, ◌&&◌, length-append, add-one}
use borrow.Author.Tests.{ltb-true}
use Rattle.std.specs.List.{list_all, insert, remove, All}
use Rattle.std.specs.List.Sorted.{IsPermutation}
use Rattle.std.proofs.lemmas.List.{take_at, drop_at, get_or-append_right, get_or_append_left, drop_more, take-append-drop, get_or_default}
use Rattle.std.proofs.lemmas.List.Edits.{remove-append_left, remove-append_right, insert-append_left, length-insert, length-remove}
use Rattle.std.proofs.lemmas.List.Sorted.{All-permutation, length_permutation, IsPermutation-trans, IsPermutation-remove, IsPermutation-insert}
use Rattle.mt_word.specs.Slots.{all_slots, places, IsArranged, Slots, slots_at, with_first_unused_at, without_place}

-- moving one element to another place keeps the elements
moved_permutation : (all ps : List ℕ) (n i x : ℕ) → n < length ps → x ≡ get_or ps n x → IsPermutation all ps → IsPermutation all (insert (remove ps n) i x)
moved_permutation all ps n i x within read p =
    IsPermutation-trans _ _ _ p (IsPermutation-trans _ _ _ (IsPermutation-remove ps n x within read) (IsPermutation-insert (remove ps n) i x))

-- two lists that are joined are the places of these slots
pub slots_at-append : (l u : List ℕ) (n : ℕ) → length l ≡ n → slots_at n (l ++ u) ≡ record { live = l; unused = u }
slots_at-append l u n e = rw (take_at l u n e, drop_at l u n e)

-- the first unused slot goes to place i
slots_at-shown : (l u : List ℕ) (n i x : ℕ) → length l ≡ n → i ≤ n → 0 < length u → x ≡ get_or (l ++ u) n x → slots_at (n + 1) (insert (remove (l ++ u) n) i x) ≡ with_first_unused_at (record { live = l; unused = u }) i
slots_at-shown l [] n i x e within room read = absurd (omega arith)
slots_at-shown l (y ∷ u) n i x e within room read =
    let first : x ≡ y = read ∙ get_or-append_right l (y ∷ u) n n x e (omega arith) ∙ (let z : n - n ≡ 0 = omega arith in rw z) in
    let fits : i ≤ length l = omega arith in
    let removed : remove (l ++ (y ∷ u)) n ≡ l ++ u = remove-append_right l (y ∷ u) n n e (omega arith) ∙ (let z : n - n ≡ 0 = omega arith in rw z) in
    let moved : insert (remove (l ++ (y ∷ u)) n) i x ≡ insert l i x ++ u = rw removed (insert-append_left l u i x fits) in
    rw (moved, slots_at-append (insert l i x) u (n + 1) (omega (arith, length-insert l i x fits)), first)

insert_at_end : (xs ys : List ℕ) (n x : ℕ) → length xs ≡ n → insert (xs ++ ys) n x ≡ xs ++ (x ∷ ys)
insert_at_end xs ys n x e = rw (take_at xs ys n e, drop_at xs ys n e)

-- the slot at place i becomes the first unused one
slots_at-hidden : (l u : List ℕ) (n i x : ℕ) → length l ≡ n → i < n → x ≡ get_or (l ++ u) i x → slots_at (n - 1) (insert (remove (l ++ u) i) (n - 1) x) ≡ without_place (record { live = l; unused = u }) i
slots_at-hidden l u n i x e within read =
    let inside : i < length l = omega arith in
    let short : length (remove l i) ≡ n - 1 = omega (arith, length-remove l i inside) in
    let slot : get_or l i x ≡ x = sym (read ∙ get_or_append_left l u x i inside) in
    let first : take 1 (drop i l) ≡ x ∷ [] = rw (drop_more l i x inside, slot) in
    let removed : remove (l ++ u) i ≡ remove l i ++ u = remove-append_left l u i inside in
    let moved : insert (remove (l ++ u) i) (n - 1) x ≡ remove l i ++ (x ∷ u) = rw removed (insert_at_end (remove l i) u (n - 1) x short) in
    rw (moved, slots_at-append (remove l i) (x ∷ u) (n - 1) short, first, add-one)

-- both tests of an `&&` that is true are true
pub left_true : (a b : Bool) → (a && b) ≡ true → a ≡ true
left_true true b h = refl
left_true false b h = h

pub right_true : (a b : Bool) → (a && b) ≡ true → b ≡ true
right_true true b h = h
right_true false b h = cc

-- a test that computes on a list that is written out
below_by_list_all : (b : ℕ) (xs : List ℕ) → list_all (λ x. nat_lt x b) xs ≡ true → All (λ x. x < b) xs
below_by_list_all b [] h k d l = absurd (omega arith)
below_by_list_all b (x ∷ xs) h zero d l = ltb-true x b (left_true _ _ h)
below_by_list_all b (x ∷ xs) h (suc k) d l = below_by_list_all b xs (right_true _ _ h) k d (omega arith)

-- what names each slot once
pub slots_below : (ps : List ℕ) → IsPermutation all_slots ps → All (λ slot. slot < 15) ps
slots_below ps p = All-permutation (λ slot. slot < 15) _ _ p (below_by_list_all 15 all_slots refl)

pub fields_of_slots : (ps : List ℕ) → IsPermutation all_slots ps → All (λ slot. slot < 16) ps
fields_of_slots ps p k d l = omega (arith, slots_below ps p k d l)

pub fifteen_slots : (ps : List ℕ) → IsPermutation all_slots ps → length ps ≡ 15
fifteen_slots ps p = length_permutation all_slots ps p

-- the live and the unused slots are fifteen
pub fifteen_together : (s : Slots) → IsArranged s → length s.live + length s.unused ≡ 15
fifteen_together s h = omega (arith, fifteen_slots (places s) h.each_once, length-append s.live s.unused)

pub arranged_from_places : (ps : List ℕ) (n : ℕ) → IsPermutation all_slots ps → IsArranged (slots_at n ps)
arranged_from_places ps n p = record { each_once = rw (take-append-drop n ps) p }

-- a read with one default is a read with another
read_there : (ps qs : List ℕ) (n x : ℕ) → ps ≡ qs → n < length qs → x ≡ get_or ps n 0 → x ≡ get_or qs n x
read_there ps qs n x named within read = (rw named at read) ∙ get_or_default qs n 0 x within

-- a slot that moves to another place
pub moved_places : (s : Slots) (ps qs rs : List ℕ) (n i x : ℕ) → IsArranged s → ps ≡ places s → n < 15 → x ≡ get_or ps n 0 → qs ≡ remove ps n → rs ≡ insert qs i x → IsPermutation all_slots rs
moved_places s ps qs rs n i x whole named within read taken put =
    let inside : n < length (places s) = omega (arith, fifteen_slots (places s) whole.each_once) in
    rw (put, taken, named) (moved_permutation all_slots (places s) n i x inside (read_there ps (places s) n x named inside read) whole.each_once)

pub shown_slots : (s : Slots) (ps qs rs : List ℕ) (n i x : ℕ) → n ≡ length s.live → i ≤ length s.live → 0 < length s.unused → ps ≡ places s → x ≡ get_or ps n 0 → qs ≡ remove ps n → rs ≡ insert qs i x → slots_at (n + 1) rs ≡ with_first_unused_at s i
shown_slots s ps qs rs n i x count within room named read taken put =
    let inside : n < length (places s) = omega (arith, length-append s.live s.unused) in
    rw (put, taken, named) (slots_at-shown s.live s.unused n i x (sym count) (omega arith) room (read_there ps (places s) n x named inside read))

pub hidden_slots : (s : Slots) (ps qs rs : List ℕ) (n i x : ℕ) → n ≡ length s.live → i < length s.live → ps ≡ places s → x ≡ get_or ps i 0 → qs ≡ remove ps i → rs ≡ insert qs (n - 1) x → slots_at (n - 1) rs ≡ without_place s i
hidden_slots s ps qs rs n i x count within named read taken put =
    let inside : i < length (places s) = omega (arith, length-append s.live s.unused) in
    rw (put, taken, named) (slots_at-hidden s.live s.unused n i x (sym count) (omega arith) (read_there ps (places s) i x named inside read))

-- the first place that is not live
pub at_first_unused : (s : Slots) (n d : ℕ) → n ≡ length s.live → get_or (places s) n d ≡ get_or s.unused 0 d
at_first_unused s n d e =
    let z : n - n ≡ 0 = omega arith in
    get_or-append_right s.live s.unused n n d (sym e) (omega arith) ∙ rw z

pub slot_below : (s : Slots) (ps : List ℕ) (i x : ℕ) → IsArranged s → ps ≡ places s → i < 15 → x ≡ get_or ps i 0 → x < 15
slot_below s ps i x whole named within read =
    let same : x ≡ get_or (places s) i 0 = rw named at read in
    let below = slots_below (places s) whole.each_once i 0 (omega (arith, fifteen_slots (places s) whole.each_once)) in
    omega (arith, same, below)
