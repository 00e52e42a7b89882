-- THE CHANGES OF AN INDEX, of which it has made the first.
use Rattle.std.specs.Prelude.{◌≡◌, ℕ, List, ◌++◌, length, take}
use Rattle.mt_types.specs.Rows.{after}
use Rattle.mt_types.specs.declared.row.Change.{Change}

-- THESE COMMITS ARE THE FIRST OF THE CHANGES. Those by which the index was loaded may be others, as many, which made the same rows
pub record AreFirstOf (C : ℕ) (changes commits : List Change) : Type 0 where
  pub loaded : List Change
  pub before : List Change
  pub more : List Change
  pub commits_are : commits ≡ loaded ++ more
  pub changes_are : take (length commits) changes ≡ before ++ more
  pub as_many : length loaded ≡ length before
  pub same_rows : after C loaded ≡ after C before
