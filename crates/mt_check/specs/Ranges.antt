-- One walk over both a range's pairs and the versions of the keys from its start on.
use Rattle.std.specs.Prelude.{ℕ, nat_le, Bool, true, false, ◌&&◌, ◌||◌, List, [], ◌∷◌, filter, length}
use Rattle.std.specs.List.{AllByRecursion}
use Rattle.std.specs.Option.{is_none}
use Rattle.std.specs.Ordering.{is_ge, match_ordering}
use Rattle.std.specs.Global.{Vec}
use Rattle.mt_types.specs.Keys.{key_cmp}
use Rattle.mt_types.specs.declared.row.Row.{Row}
use Rattle.mt_check.specs.declared.versions.Version.{Version}
use Rattle.mt_check.specs.declared.versions.Versions.{Versions}
use Rattle.mt_check.specs.Versions.{Rising, some_between, shows_as}

-- Each pair is one of the keys and shows so, and each key that is passed over lacks a row at some time; past the last
--     pair no key counts where the limit was met.
abbrev pub walks : {V : Type 0} → (V → Bool) → (V → Row → Bool) → Bool → List (List ℕ × V) → List (List ℕ × Row) → Bool
walks lacks shows full [] [] = true
walks lacks shows full [] (pair ∷ pairs) = false
walks lacks shows full (entry ∷ entries) [] = full || (lacks entry.1 && walks lacks shows full entries [])
walks lacks shows full (entry ∷ entries) (pair ∷ pairs) =
    match_ordering (key_cmp entry.0 pair.0)
    (lacks entry.1 && walks lacks shows full entries (pair ∷ pairs))
    (shows entry.1 pair.1 && walks lacks shows full entries pairs)
    false

-- at some number from one to another the key has no row
abbrev pub lacks_in : ℕ → ℕ → Vec Version → Bool
lacks_in from to versions = some_between is_none from to versions.items

-- at some such number its row is shown so
abbrev pub shows_in : List ℕ → ℕ → ℕ → Vec Version → Row → Bool
shows_in asked from to versions answer = some_between (shows_as asked answer) from to versions.items

-- the keys from a start on, with their versions
abbrev pub entries_from : List ℕ → Versions → List (List ℕ × Vec Version)
entries_from start versions = filter (λ entry. is_ge (key_cmp entry.0 start)) versions.of.entries

abbrev pub walks_in : Versions → List ℕ → ℕ → List ℕ → ℕ → ℕ → List (List ℕ × Row) → Bool
walks_in versions start limit asked from to pairs =
    walks (lacks_in from to) (shows_in asked from to) (nat_le limit (length pairs)) (entries_from start versions) pairs

-- the numbers of each key's versions rise
abbrev pub AllRise : List (List ℕ × Vec Version) → Type 0
AllRise entries = AllByRecursion (λ entry. Rising 0 entry.1.items) entries
