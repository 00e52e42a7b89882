-- The lines of a text.
use Rattle.std.specs.Prelude.{◌≡◌, ◌≢◌, ◌⊎◌, ℕ, ◌==◌, if◌then◌else◌, Bool, true, false, List, [], ◌∷◌, ◌++◌, All, Option, Some, None}
use Rattle.std.specs.List.{onto_first}

-- each line ends with a line feed, which isn't part of it; the last line may lack it
abbrev pub lines_of : List ℕ → List (List ℕ)
lines_of [] = []
lines_of (b ∷ bs) = if b == 10 then [] ∷ lines_of bs else onto_first b (lines_of bs)

-- a text as a line
abbrev pub line_text : List ℕ → List ℕ
line_text text = text ++ 10 ∷ []

-- none of these bytes is a line feed
abbrev pub HasNoFeed : List ℕ → Type 0
HasNoFeed bytes = All (λ b. b ≢ 10) bytes

-- these bytes lose a front up to a line feed, and the line feed; or all of them, if they have none
abbrev pub Takes : List ℕ → List ℕ → List ℕ → Bool → Type 0
Takes old new front true = HasNoFeed front × (old ≡ front ++ 10 ∷ new)
Takes old new front false = HasNoFeed front × (old ≡ front) × (new ≡ [])

-- this line is at the front, with its line feed; or it is the last, and lacks it
abbrev pub IsFirstLine : List ℕ → List ℕ → List ℕ → Type 0
IsFirstLine xs line rest = HasNoFeed line × ((xs ≡ line_text line ++ rest) ⊎ ((xs ≡ line) × (line ≢ []) × (rest ≡ [])))

-- what a reader still gives loses its first line, or there was none
abbrev pub LosesLine : List ℕ → Option (List ℕ) → Option (List ℕ) → Type 0
LosesLine xs new None = lines_of xs ≡ []
LosesLine xs new (Some line) =
    (rest : List ℕ) × (new ≡ Some rest) × (lines_of xs ≡ line ∷ lines_of rest) × IsFirstLine xs line rest

-- after a read that failed: all bytes before the unread ones are the begin of one line, so no whole line is lost
abbrev pub LosesNoLine : Option (List ℕ) → List ℕ → Type 0
LosesNoLine unread bytes =
    (begun : List ℕ) × (left : List ℕ) × (unread ≡ Some left) × (bytes ≡ begun ++ left) × HasNoFeed begun

-- the same after these lines: all bytes before the unread ones are the lines, and the begin of one more
abbrev pub ReadsLines : List (List ℕ) → Option (List ℕ) → List ℕ → Type 0
ReadsLines lines unread bytes =
    (given : List ℕ) × (begun : List ℕ) × (left : List ℕ) × (unread ≡ Some left) × (bytes ≡ given ++ begun ++ left)
    × (lines_of given ≡ lines) × HasNoFeed begun
