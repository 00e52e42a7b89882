-- What a batch of a map comes to.
use Rattle.std.specs.Prelude.{ℕ, ◌≡◌, Bool, List, [], ◌∷◌, if◌then◌else◌}
use Rattle.mt_batch.specs.declared.batch.Batched.{Batched}
use Rattle.mt_batch.specs.declared.batch.Batched.TheVariants.{Made, Unmet}
use Rattle.mt_batch.specs.declared.batch.Change.{Change}
use Rattle.mt_batch.specs.declared.batch.Condition.{Condition}
use Rattle.mt_batch.specs.Batch.{ComesTo}
use Rattle.mt_batch.specs.Changes.{removed_keys}
use Rattle.mt_index.specs.Stands.{MachineView}
use Rattle.mt_map.specs.Tidies.{MapView, PurgesIfEmptied}

-- the keys at which tidies are to follow: those whose rows are to be removed, if tidies follow removes
abbrev pub places_of : Bool → List Change → List (List ℕ)
places_of tidies changes = if tidies then removed_keys changes else []

-- at each of these keys, one after the other, tidies follow if its border is empty
abbrev pub PurgesEach : MachineView → List (List ℕ) → MachineView → Type 0
PurgesEach s [] t = t ≡ s
PurgesEach s (key ∷ keys) t = (m : MachineView) × PurgesIfEmptied s key m × PurgesEach m keys t

-- they follow if the batch is made
abbrev pub PurgesAfter : Batched → MachineView → List (List ℕ) → MachineView → Type 0
PurgesAfter (Made made) s keys t = PurgesEach s keys t
PurgesAfter (Unmet place found) s keys t = t ≡ s

-- WHAT A BATCH OF A MAP COMES TO, and then the tidies that follow
abbrev pub MapBatches : MapView → List Condition → List Change → Batched → MapView → Type 0
MapBatches s conditions changes came t = (m : MachineView) × ComesTo s.machine conditions changes came m
    × PurgesAfter came m (places_of s.tidies changes) t.machine
