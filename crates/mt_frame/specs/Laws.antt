-- Laws of the format, each of them proved as the contract of a function of src/laws.rt.
use Rattle.std.specs.Prelude.{◌≡◌, ◌⊎◌, ℕ, List, [], ◌∷◌, ◌++◌, IsTrue}
use Rattle.mt_frame.specs.declared.entry.Entry.{Entry}
use Rattle.mt_frame.specs.Spelling.{frame_of}
use Rattle.mt_frame.specs.Fits.{HasFrame}
use Rattle.mt_frame.specs.Ends.{ends}

-- of bytes that were written over zeros each is there, or still the zero
abbrev pub OldOrNew : List ℕ → List ℕ → Type 0
OldOrNew [] [] = Unit {0}
OldOrNew [] (c ∷ cs) = ⊥
OldOrNew (w ∷ ws) [] = ⊥
OldOrNew (w ∷ ws) (c ∷ cs) = ((c ≡ w) ⊎ (c ≡ 0)) × OldOrNew ws cs

-- no frame begins another, and no two entries have one frame
abbrev pub FramesReadOneWay : Type 0
FramesReadOneWay =
    (generation place : ℕ) (x y : Entry) (after_x after_y : List ℕ) → HasFrame generation place x
    → HasFrame generation place y → frame_of generation place x ++ after_x ≡ frame_of generation place y ++ after_y
    → (x ≡ y) × (after_x ≡ after_y)

-- the log doesn't end at a frame
abbrev pub FramesDoNotEnd : Type 0
FramesDoNotEnd =
    (generation place : ℕ) (entry : Entry) (rest : List ℕ) → HasFrame generation place entry
    → IsTrue (ends (frame_of generation place entry ++ rest)) → ⊥

-- of a frame that was written over zeros all is there, or the log ends there, whatever follows
abbrev pub TornFramesEnd : Type 0
TornFramesEnd =
    (generation place : ℕ) (entry : Entry) (left rest : List ℕ) → HasFrame generation place entry
    → OldOrNew (frame_of generation place entry) left
    → (left ≡ frame_of generation place entry) ⊎ IsTrue (ends (left ++ rest))

-- bytes at which a log ends still end it if a crash sets some of them to zero
abbrev pub EndsStay : Type 0
EndsStay = (bytes left : List ℕ) → OldOrNew bytes left → IsTrue (ends bytes) → IsTrue (ends left)
