-- Which rows and numbers of commits some legal history leads to.
use Rattle.std.specs.Prelude.{ℕ, ◌+◌, ◌*◌, ◌-◌, ◌≡◌, ◌<◌, ◌≤◌, ◌⊎◌, List, [], ◌∷◌, length, Option, Some, None, cond}
use Rattle.std.specs.List.{AllByRecursion}
use Rattle.std.specs.Ordering.{eq_by_cmp}
use Rattle.std.specs.FinMap.{get}
use Rattle.mt_types.specs.Keys.{key_cmp}
use Rattle.mt_types.specs.Numbers.{greatest_number}
use Rattle.mt_types.specs.declared.limits.TheConstants.{MAX_KEY_BYTES, MAX_COLUMN_BYTES}
use Rattle.mt_types.specs.declared.row.Row.{Row}
use Rattle.mt_promise.specs.History.{History, moment, rows}
use Rattle.mt_promise.specs.Legal.{Legal}

-- a key with its row
abbrev pub Entry : Type 0
Entry = List ℕ × Row

-- the row of a key among entries: that of the first entry with the key
abbrev pub row_in : List Entry → List ℕ → Option Row
row_in [] key = None
row_in (e ∷ es) key = cond (eq_by_cmp key_cmp key e.0) (Some e.1) (row_in es key)

-- the versions of the entries are from n down to 1, each less than the one before it
abbrev pub Falls : ℕ → List Entry → Type 0
Falls n [] = Unit {0}
Falls n (e ∷ es) = (0 < e.1.version) × (e.1.version ≤ n) × Falls (e.1.version - 1) es

-- an index of C columns may have the entry
abbrev pub Fits : ℕ → Entry → Type 0
Fits C e =
    (length e.0 ≤ MAX_KEY_BYTES) × (length e.1.columns ≡ C)
    × AllByRecursion (λ (bytes : List ℕ). length bytes ≤ MAX_COLUMN_BYTES) e.1.columns

-- the first entry, which is the newest, has the version n; if there is none, n is 0
abbrev pub EndsAt : ℕ → List Entry → Type 0
EndsAt n [] = n ≡ 0
EndsAt n (e ∷ es) = e.1.version ≡ n

-- the condition: a row has the version n, or at least two of the numbers from 1 to n are of no row
abbrev pub CanEndAt : ℕ → List Entry → Type 0
CanEndAt n es = EndsAt n es ⊎ (length es + 2 ≤ n)

-- n calls have begun, which made n commits; no call is open, no view was built, and no epoch has advanced
pub record IsClosedAt (n : ℕ) (h : History) : Type 0 where
  pub commits : length (moment h).commits ≡ n
  pub begun : (moment h).begun ≡ n
  pub calls : (moment h).calls ≡ []
  pub built : (moment h).built ≡ 0
  pub views : (moment h).views ≡ []
  pub epoch : (moment h).epoch ≡ 0

-- some legal history of an index of C columns, closed at n commits, has exactly these rows; each commit took three events
pub record IsReached (C n : ℕ) (es : List Entry) : Type 0 where
  pub h : History
  pub legal : Legal C h
  pub closed : IsClosedAt n h
  pub long : length h ≡ 3 * n
  pub rows : (key : List ℕ) → get (rows C (moment h)) key ≡ row_in es key

-- THE CONDITION SUFFICES. Some key of no row is needed: commits of no row are puts and removes of it
abbrev pub RowsAreReached : Type 0
RowsAreReached =
    (C n : ℕ) (es : List Entry) (unused : List ℕ) → n ≤ greatest_number → Falls n es → AllByRecursion (Fits C) es
    → length unused ≤ MAX_KEY_BYTES → row_in es unused ≡ None → CanEndAt n es → IsReached C n es

-- each of these entries is the row of its key
abbrev pub AreRowsOf : ℕ → History → List Entry → Type 0
AreRowsOf C h es = AllByRecursion (λ (e : Entry). get (rows C (moment h)) e.0 ≡ Some e.1) es

-- THE CONDITION IS NEEDED: all rows of a legal history, in the order of their versions, meet it
abbrev pub LegalRowsPass : Type 0
LegalRowsPass =
    (C : ℕ) (h : History) (es : List Entry) → Legal C h → Falls (length (moment h).commits) es → AreRowsOf C h es
    → ((key : List ℕ) (row : Row) → get (rows C (moment h)) key ≡ Some row → row_in es key ≡ Some row)
    → CanEndAt (length (moment h).commits) es
