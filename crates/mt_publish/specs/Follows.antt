-- What it is to follow an index: the deltas of its next commits are published.
use Rattle.std.specs.Prelude.{ℕ, ◌≡◌, List, ◌++◌, length, Ok}
use Rattle.std.specs.Global.{Vec}
use Rattle.mt_types.specs.declared.row.Delta.{Delta}
use Rattle.mt_shared.specs.Feeds.{FeedsSomewhere}

-- `before` and `after` are the lists that were published before and after a follow. `after` is `before`, and then the
-- deltas that the index returned, while its lock was held once, for the commits after the first `from`, at most `most`.
-- `count` is the number of these deltas.
pub record Follows (before after : List Delta) (from most count : ℕ) : Type 0 where
  pub deltas : Vec Delta
  pub fed : FeedsSomewhere from most (Ok deltas)
  pub list : after ≡ before ++ deltas.items
  pub many : count ≡ length deltas.items
