-- The cursor of a scan: the layer and the place at which it is, and what it does at an entry.
use Rattle.std.specs.Prelude.{ℕ, ◌≡◌, ◌≢◌, ◌<◌, ◌≤◌, ◌==◌, Bool, true, false, if◌then◌else◌, List, [], ◌∷◌, length, take, drop, reverse}
use Rattle.mt_slice.specs.Place.{Place, last, deeper, under, Precedes, place_of}
use Rattle.mt_chart.specs.Scan.{AtMost}
use Rattle.mt_border.specs.declared.entry.Content.{Content}
use Rattle.mt_border.specs.declared.entry.Content.TheVariants.{Short, Long, Link}
use Rattle.mt_tree.specs.Seen.{content_place}
use Rattle.mt_scan.specs.declared.cursor.Step.{Step}
use Rattle.mt_scan.specs.declared.cursor.Step.TheVariants.{Pass, Take, Enter}

-- the layer in which a scan is, by the slices above it, the nearest first, and its place in that layer
pub record CursorView : Type 0 where
  pub prefix : List ℕ
  pub at : Place

-- the place of these slices, of which the last has this class
abbrev pub place_from : ℕ → List ℕ → Place
place_from class [] = last 0 class
place_from class (slice ∷ []) = last slice class
place_from class (slice ∷ (next ∷ slices)) = deeper slice (place_from class (next ∷ slices))

-- the cursor of these slices, from layer 0 on, in the layer of this number
abbrev pub cursor_view : List ℕ → ℕ → ℕ → CursorView
cursor_view slices class depth = record {
  prefix = reverse (take depth slices);
  at = place_from class
      (drop depth slices);
}

-- the layer is one of the cursor's, and its class is a number of bytes, or 10, after all keys that continue
pub record IsCursor (slices : List ℕ) (class depth : ℕ) : Type 0 where
  pub within : depth < length slices
  pub class_fits : class ≤ 10
  pub no_long : class ≢ 9

-- the place is in the layer below a slice
abbrev pub is_inside : ℕ → Place → Bool
is_inside slice (last own class) = false
is_inside slice (deeper own rest) = own == slice

-- the place to which a scan comes in a layer that it enters at a slice: the rest of its place, if that is in the layer,
-- or the layer's first place
abbrev pub entered_at : ℕ → Place → Place
entered_at slice (last own class) = last 0 0
entered_at slice (deeper own rest) = if own == slice then rest else last 0 0

-- the place of this slice and this number of a class, which continues with the rest if that number is 9
abbrev pub place_with : ℕ → ℕ → Place → Place
place_with slice class rest = if class == 9 then deeper slice rest else last slice class

-- the place of a row's key in its layer, and for a link the place after all that is deeper
abbrev pub content_end : ℕ → Content → Place
content_end slice (Short bytes row) = last slice bytes
content_end slice (Long suffix row) = deeper slice (place_of suffix)
content_end slice (Link top) = last slice 10

-- after all that begins with the prefix of its layer, and back in layer 0; or in layer 0 as it was
abbrev pub Leaves : CursorView → Bool → CursorView → Type 0
Leaves c true d = (slice : ℕ) × (above : List ℕ) × (c.prefix ≡ slice ∷ above)
    × (d ≡ record { prefix = []; at = under above (last slice 10) })
Leaves c false d = (c.prefix ≡ []) × (d ≡ c)

-- What a scan at a place does at an entry: it passes a row whose key is before that place, and takes it otherwise; it
-- passes a link of which all is before that place, and enters it otherwise.
abbrev pub StepsAt : Place → ℕ → Content → Step → Type 0
StepsAt at slice (Link top) Pass = AtMost (last slice 10) at
StepsAt at slice (Link top) Take = ⊥
StepsAt at slice (Link top) (Enter node) = (node ≡ top) × Precedes at (last slice 10)
StepsAt at slice content Pass = Precedes (content_place slice content) at
StepsAt at slice content Take = AtMost at (content_place slice content)
StepsAt at slice content (Enter node) = ⊥
