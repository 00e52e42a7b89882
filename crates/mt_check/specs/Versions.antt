-- The versions of a key: the rows that its deltas leave, in the order of their numbers, and what can be read off them.
use Rattle.std.specs.Prelude.{ℕ, ◌+◌, ◌<◌, nat_le, slice_get, Bool, false, not, ◌||◌, if◌then◌else◌, List, [], ◌∷◌, map, filter, Option, Some, None}
use Rattle.std.specs.Prelude.{◌≡◌, ◌&&◌, nat_eq}
use Rattle.std.specs.Ordering.{is_eq}
use Rattle.std.specs.Option.{option_map_or}
use Rattle.std.specs.Cmp.Lexicographic.{pointwise}
use Rattle.std.specs.BTreeMap as tree
use Rattle.std.specs.FinMap.{get}
use Rattle.std.specs.Global.{Vec}
use Rattle.mt_types.specs.Keys.{key_cmp}
use Rattle.mt_types.specs.Rows.{shown}
use Rattle.mt_types.specs.declared.row.Row.{Row}
use Rattle.mt_types.specs.declared.row.Delta.{Delta}
use Rattle.mt_check.specs.Receipts.{FitsRow, rows_at}
use Rattle.mt_check.specs.declared.versions.Version.{Version}
use Rattle.mt_check.specs.declared.versions.Versions.{Versions}

abbrev pub version_of : Delta → Version
version_of delta = record { number = delta.number; row = delta.after }

-- the versions of a key among deltas
abbrev pub versions_of : List ℕ → List Delta → List Version
versions_of key deltas = map version_of (filter (λ delta. is_eq (key_cmp key delta.key)) deltas)

-- the numbers of versions rise, from above one on
abbrev pub Rising : ℕ → List Version → Type 0
Rising low [] = Unit {0}
Rising low (version ∷ versions) = (low < version.number) × Rising version.number versions

-- the row that the last of these versions leaves, or the one before them
abbrev pub last_row : Option Row → List Version → Option Row
last_row old [] = old
last_row old (version ∷ versions) = last_row version.row versions

-- the row at a number, of this one before and these versions
abbrev pub standing : ℕ → Option Row → List Version → Option Row
standing number old [] = old
standing number old (version ∷ versions) =
    if nat_le version.number number then standing number version.row versions else standing number old versions

-- the versions after a number
abbrev pub later : ℕ → List Version → List Version
later number versions = filter (λ version. not (nat_le version.number number)) versions

-- one of the first versions, up to a number, leaves a row or none that passes
abbrev pub some_until : (Option Row → Bool) → ℕ → List Version → Bool
some_until test to [] = false
some_until test to (version ∷ versions) =
    if nat_le version.number to then test version.row || some_until test to versions else false

-- at some number from one to another a row or none stands that passes
abbrev pub some_between : (Option Row → Bool) → ℕ → ℕ → List Version → Bool
some_between test from to versions = test (standing from None versions) || some_until test to (later from versions)

-- two rows are the same
abbrev pub same_row : Row → Row → Bool
same_row a b = nat_eq a.version b.version && pointwise (pointwise nat_eq) a.columns b.columns

-- the row is shown so
abbrev pub shows_as : List ℕ → Row → Option Row → Bool
shows_as asked answer None = false
shows_as asked answer (Some row) = same_row (shown asked row) answer

-- the versions that a sorted map has under a key
abbrev pub versions_in : Versions → List ℕ → List Version
versions_in versions key = option_map_or (λ (v : Vec Version). v.items) (tree.get key_cmp versions.of key) []

-- the versions in a sorted map are those of these deltas
abbrev pub AreVersions : List Delta → Versions → Type 0
AreVersions deltas versions = (key : List ℕ) → versions_in versions key ≡ versions_of key deltas

-- each of the first n deltas has its place as its number, and fits
abbrev pub AreSound : List Delta → ℕ → Type 0
AreSound deltas count =
    (i : ℕ) (delta : Delta) → i < count → slice_get deltas i ≡ Some delta
    → (delta.number ≡ i + 1) × FitsRow (get (rows_at deltas i) delta.key) delta
