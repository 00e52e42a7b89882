-- The bytes of a log, and what they say.
use Rattle.std.specs.Prelude.{◌≡◌, ℕ, ◌+◌, List, [], ◌∷◌, ◌++◌, length, IsTrue}
use Rattle.mt_frame.specs.declared.entry.Entry.{Entry}
use Rattle.mt_frame.specs.declared.entry.Entry.TheVariants.{Header, Commits as Group, Rows, Sealed, Closed}
use Rattle.mt_frame.specs.declared.entry.LogHeader.{LogHeader}
use Rattle.mt_frame.specs.Spelling.{frame_of, frames_of}
use Rattle.mt_frame.specs.Fits.{HasFrame}
use Rattle.mt_frame.specs.Ends.{ends}

-- the number of the last commit of entries that follow the commit n
abbrev pub last_number : ℕ → List Entry → ℕ
last_number n [] = n
last_number n (Header header ∷ entries) = last_number n entries
last_number n (Group commits ∷ entries) = last_number (n + length commits.records) entries
last_number n (Rows part ∷ entries) = last_number n entries
last_number n (Sealed count ∷ entries) = last_number n entries
last_number n (Closed number ∷ entries) = last_number n entries

-- entries that may follow the commit n: the numbers of commits follow one another, and there is no header. What a
-- checkpoint has may stand anywhere
abbrev pub AreNumbered : ℕ → List Entry → Type 0
AreNumbered n [] = Unit {0}
AreNumbered n (Header header ∷ entries) = ⊥
AreNumbered n (Group commits ∷ entries) =
    (commits.first ≡ n + 1) × AreNumbered (n + length commits.records) entries
AreNumbered n (Rows part ∷ entries) = AreNumbered n entries
AreNumbered n (Sealed count ∷ entries) = AreNumbered n entries
AreNumbered n (Closed number ∷ entries) = (number ≡ n) × AreNumbered n entries

-- each of them has a frame, the first at this place, each other after the one before it
abbrev pub HaveFrames : ℕ → ℕ → List Entry → Type 0
HaveFrames generation place [] = Unit {0}
HaveFrames generation place (entry ∷ entries) =
    HasFrame generation place entry
    × HaveFrames generation (place + length (frame_of generation place entry)) entries

abbrev pub header_frame : LogHeader → List ℕ
header_frame header = frame_of 0 0 (Header header)

-- the frames of a log: that of its header, then those of its entries
abbrev pub log_spelling : LogHeader → List Entry → List ℕ
log_spelling header entries =
    header_frame header ++ frames_of header.generation (length (header_frame header)) entries

-- a log may say this
pub record MaySay (header : LogHeader) (entries : List Entry) : Type 0 where
  pub begins : HasFrame 0 0 (Header header)
  pub have : HaveFrames header.generation (length (header_frame header)) entries
  pub numbered : AreNumbered header.base entries

-- these bytes are a log that says this: its frames, and then a zero ends it
pub record IsLog (header : LogHeader) (entries : List Entry) (bytes : List ℕ) : Type 0 where
  pub says : MaySay header entries
  pub rest : List ℕ
  pub parts : bytes ≡ log_spelling header entries ++ rest
  pub ended : IsTrue (ends rest)
