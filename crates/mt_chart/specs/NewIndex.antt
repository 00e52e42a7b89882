-- A new index: head 0, and one empty border below it, under some other number.
use Rattle.std.specs.Prelude.{ℕ, zero, suc, ◌==◌, if◌then◌else◌, [], ◌∷◌, Option, Some, None, true, false}
use Rattle.mt_types.specs.declared.row.Row.{Row}
use Rattle.mt_chart.specs.Tree.{short, HeadNode, BorderNode, head, border, Arena}
use Rattle.mt_chart.specs.Chart.{on, top, at_level, spot, Chart}

-- at one number alone something stands
abbrev pub only_at : {A : Type 0} → ℕ → A → ℕ → Option A
only_at at value number = if number == at then Some value else None

-- its head, which names the border
abbrev pub new_head : ℕ → HeadNode
new_head root = record { deleted = false; locked = false; root = root; level = 0 }

-- its border
abbrev pub new_border : BorderNode
new_border = record { deleted = false; locked = false; low = 0; entries = []; right = None }

-- an arena with the head, and this border under this number, which isn't 0
abbrev pub arena_of_two : ℕ → BorderNode → Arena
arena_of_two root node zero = Some (head (new_head root))
arena_of_two root node (suc number) = only_at root (border node) (suc number)

-- its arena
abbrev pub new_arena : ℕ → Arena
new_arena root = arena_of_two root new_border

-- its chart
abbrev pub new_chart : ℕ → Chart
new_chart root zero = Some (spot top [] 0 (on true))
new_chart root (suc number) = only_at root (spot (at_level 0) [] 0 (on true)) (suc number)

-- the border once the empty key has a row
abbrev pub first_row_border : Row → BorderNode
first_row_border row =
    record {
      deleted = false;
      locked = false;
      low = 0;
      entries = record { slice = 0; content = short 0 row } ∷ [];
      right = None;
    }

-- the arena once the empty key has a row
abbrev pub first_row_arena : ℕ → Row → Arena
first_row_arena root row = arena_of_two root (first_row_border row)
