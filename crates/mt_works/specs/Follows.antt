-- That a call gets on, of each kind.
use Rattle.std.specs.Prelude.{◌≡◌}
use Rattle.mt_arena.specs.Arena.{ArenaView, IsArena}
use Rattle.mt_steps.specs.declared.progress.Progress.{Progress}
use Rattle.mt_steps.specs.Getting.{GetFollows}
use Rattle.mt_steps.specs.Ranging.{RangeReads}
use Rattle.mt_commit.specs.Log.{LogView}
use Rattle.mt_write.specs.Follows.{WriteFollows, HeadFollows, PostsFollow, DropsFollow}
use Rattle.mt_remove.specs.Tidy.{TidyReads}
use Rattle.mt_remove.specs.Follows.{TidyFollows}
use Rattle.mt_works.specs.Building.{BuildFollows}
use Rattle.mt_works.specs.declared.work.Work.{Work}
use Rattle.mt_works.specs.declared.work.Work.TheVariants.{Get, Write, Range, Tidy, Build}

-- a get, range or build reads one field of a border, and does what follows from it; so does a put or remove, on its way
-- to its key, of a border that it has locked; otherwise, and for a tidy, which stage follows
abbrev pub WorkFollows : ArenaView → LogView → Work → Progress → Work → Type 0
WorkFollows a log (Get get) p (Get new) = GetFollows a get p new
WorkFollows a log (Get get) p _ = ⊥
WorkFollows a log (Write write) p (Write new) = WriteFollows a write p new
WorkFollows a log (Write write) p _ = ⊥
WorkFollows a log (Range range) p (Range new) = RangeReads a range p new
WorkFollows a log (Range range) p _ = ⊥
WorkFollows a log (Tidy tidy) p (Tidy new) = TidyFollows a tidy p new
WorkFollows a log (Tidy tidy) p _ = ⊥
WorkFollows a log (Build building) p (Build new) = BuildFollows a log building p new
WorkFollows a log (Build building) p _ = ⊥

-- a get, range or build changes no node, nor does a tidy on a way
abbrev pub WorkReads : ArenaView → ArenaView → Work → Type 0
WorkReads a after (Get get) = after ≡ a
WorkReads a after (Write write) = Unit {0}
WorkReads a after (Range range) = after ≡ a
WorkReads a after (Tidy tidy) = TidyReads a after tidy
WorkReads a after (Build building) = after ≡ a

-- for a put or remove, which head it then has, with which posting it continues, and whether it drops the row that it has
-- hidden; and the tree is an arena of nodes
abbrev pub WorkPosts : ArenaView → ArenaView → Work → Progress → Work → Type 0
WorkPosts a after (Write write) p (Write new) = HeadFollows write p new × PostsFollow a after write p new
    × IsArena a × IsArena after × DropsFollow a after write
WorkPosts a after _ p new = Unit {0}
