-- What a contract sees of a `Permutation`: the slots in the order of their places.
use Rattle.std.specs.Prelude.{ℕ, ◌+◌, ◌*◌, ◌/◌, ◌%◌, ◌^◌, ◌<◌, List, [], ◌∷◌, ◌++◌, length, take, drop}
use Rattle.std.specs.List.Sorted.{IsPermutation}
use Rattle.mt_word.specs.Fields.{fields, word_of_fields}

-- the live slots in key order, and the unused ones in the order in which they are taken
pub record Slots : Type 0 where
  pub live : List ℕ
  pub unused : List ℕ

-- the slots in the order of their places
abbrev pub places : Slots → List ℕ
places s = s.live ++ s.unused

-- the numbers of the slots
abbrev pub all_slots : List ℕ
all_slots = 0 ∷ 1 ∷ 2 ∷ 3 ∷ 4 ∷ 5 ∷ 6 ∷ 7 ∷ 8 ∷ 9 ∷ 10 ∷ 11 ∷ 12 ∷ 13 ∷ 14 ∷ []

-- each slot is at one place
pub record IsArranged (s : Slots) : Type 0 where
  pub each_once : IsPermutation all_slots (places s)

-- the first `count` places are live
abbrev pub slots_at : ℕ → List ℕ → Slots
slots_at count ps = record { live = take count ps; unused = drop count ps }

-- the slots that a word names: its lowest field counts the live ones, the fifteen above it name them by place
abbrev pub slots_of_word : ℕ → Slots
slots_of_word word = slots_at (word % 16) (fields 15 (word / 16))

-- the word that names these slots
abbrev pub word_of_slots : Slots → ℕ
word_of_slots s = word_of_fields (places s) * 16 + length s.live

-- a word of 64 bits whose fifteen upper fields name each slot once
pub record NamesEachSlot (word : ℕ) : Type 0 where
  pub fits : word < 2 ^ 64
  pub each_once : IsPermutation all_slots (fields 15 (word / 16))

-- the slots once the first unused one is live at place i
abbrev pub with_first_unused_at : Slots → ℕ → Slots
with_first_unused_at s i =
    record { live = take i s.live ++ (take 1 s.unused ++ drop i s.live); unused = drop 1 s.unused }

-- the slots once the one at place i is the first unused one
abbrev pub without_place : Slots → ℕ → Slots
without_place s i =
    record { live = take i s.live ++ drop (i + 1) s.live; unused = take 1 (drop i s.live) ++ s.unused }

-- the slots once only the first k places are live
abbrev pub with_first : Slots → ℕ → Slots
with_first s k = record { live = take k s.live; unused = drop k s.live ++ s.unused }
