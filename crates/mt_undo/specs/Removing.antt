-- What removing rows at once leaves of a tree and of its log.
use Rattle.std.specs.Prelude.{ℕ, ◌-◌, ◌≡◌, ◌≢◌, ◌≤◌, List, [], ◌∷◌, ◌++◌, length, map, Some}
use Rattle.std.specs.FinMap.{get, len}
use Rattle.std.specs.List.{AllByRecursion}
use Rattle.mt_types.specs.Rows.{Rows, after}
use Rattle.mt_types.specs.declared.row.Row.{Row}
use Rattle.mt_types.specs.declared.row.Change.{Change}
use Rattle.mt_types.specs.declared.row.Change.TheVariants.{Drop}
use Rattle.mt_commit.specs.Log.{LogView}
use Rattle.mt_arena.specs.Arena.{ArenaView}
use Rattle.mt_steps.specs.Lone.{IsLoneTree}
use Rattle.mt_undo.specs.Undoing.{HaveMade}

-- a key that is to be removed, and its row
abbrev pub Taken : Type 0
Taken = List ℕ × Row

-- no key is there twice
abbrev pub AreApart : List Taken → Type 0
AreApart [] = Unit {0}
AreApart (t ∷ taken) = AllByRecursion (λ (other : Taken). other.0 ≢ t.0) taken × AreApart taken

-- each key has its row
abbrev pub AreThere : Rows → List Taken → Type 0
AreThere rows taken = AllByRecursion (λ (t : Taken). get rows t.0 ≡ Some t.1) taken

-- the changes by which these rows are removed, one after the other
abbrev pub drops : List Taken → List Change
drops taken = map (λ (t : Taken). Drop t.0) taken

-- rows that the tree has, and room for their deltas
pub record CanRemove (C : ℕ) (changes : List Change) (taken : List Taken) (a : ArenaView) (log : LogView) : Type 0 where
  pub made : HaveMade C changes a log
  pub there : AreThere (after C changes) taken
  pub apart : AreApart taken
  pub room : length taken ≤ log.reserved

-- these rows are removed, each by a commit, and no change is under way, in the same epoch
pub record HaveRemoved (C : ℕ) (changes : List Change) (taken : List Taken) (now : ℕ) (log : LogView) (a : ArenaView)
    (left : LogView) : Type 0 where
  pub lone : IsLoneTree a
  pub same_now : lone.now ≡ now
  pub made : HaveMade C (changes ++ drops taken) a left
  pub same_log : left ≡ record log {
    deltas = left.deltas;
    reserved = log.reserved - length taken;
    rows = left.rows;
  }
  pub counted : log.rows ≡ len (after C changes) → left.rows ≡ len (after C (changes ++ drops taken))
