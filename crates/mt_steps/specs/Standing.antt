-- The state of a call that reads a border field by field, and what it is lent of that border.
use Rattle.std.specs.Prelude.{ℕ, ◌≡◌, ◌<◌, ◌^◌, List, Option, Some}
use Rattle.std.specs.Option.{option_map}
use Rattle.mt_border.specs.Border.{BorderView}
use Rattle.mt_border.specs.declared.entry.RightLink.{RightLink}
use Rattle.mt_arena.specs.Arena.{ArenaView, IsArena}
use Rattle.mt_arena.specs.Node.{node_at, border_at, IsNode}
use Rattle.mt_arena.specs.declared.node.Node.{Node}
use Rattle.mt_arena.specs.Parts.{IsPart}
use Rattle.mt_arena.specs.declared.part.Field.{Field}
use Rattle.mt_arena.specs.declared.part.Part.{Part}
use Rattle.mt_chart.specs.Noted.{Counters as NotedCounters, IsQuiet}
use Rattle.mt_chart.specs.Reading.{HasLooked, HasRight}
use Rattle.mt_tree.specs.Seen.{right_seen}
use Rattle.mt_tree.specs.Fields.{fields_seen, HasSlots}
use Rattle.mt_steps.specs.declared.reader.Counters.{Counters}
use Rattle.mt_steps.specs.World.{World}

-- A PART OF A NODE IS LENT: the arena is sound, the number names a sound node in it, and this is what its field holds
pub record Lends (a : ArenaView) (number : ℕ) (field : Field) (part : Part) : Type 0 where
  pub node : Node
  pub named : node_at a.nodes number ≡ Some node
  pub sound : IsNode node
  pub is : IsPart node field part
  pub arena : IsArena a

-- the counters, as the theory sees them
abbrev pub counters_seen : Counters → NotedCounters
counters_seen counters = record { inserts = counters.inserts; splits = counters.splits }

-- it is at a border, has read the border's version, with these counters, and seeks this slice of its layer
pub record StandsAt (begun : ℕ) (prefix : List ℕ) (slice number : ℕ) (counters : Counters) (a : ArenaView) (w : World) : Type 0 where
  pub b : BorderView
  pub named : border_at a.nodes number ≡ Some b
  pub slots : HasSlots b
  pub fits : b.low < 2 ^ 64
  pub looked : HasLooked (counters_seen counters) w.chart begun number prefix slice (fields_seen b)

-- the border is still quiet: not marked deleted, without a flag, with these counters
abbrev pub Still : Counters → BorderView → Type 0
Still counters b = IsQuiet (counters_seen counters) (fields_seen b)

-- it has read the right link, and its slice is before it
abbrev pub IsBounded : List ℕ → ℕ → Counters → BorderView → Option RightLink → ℕ → World → Type 0
IsBounded prefix slice counters b right begun w =
    HasRight (counters_seen counters) w.chart begun prefix slice (fields_seen b) (option_map right_seen right)
