-- The laws by which a build is exact.
use Rattle.std.specs.Prelude.{ℕ, List, [], ◌∷◌}
use Rattle.mt_types.specs.Rows.{Rows}
use Rattle.mt_types.specs.declared.row.Delta.{Delta}
use Rattle.mt_slice.specs.Place.{first_slice, under}
use Rattle.mt_chart.specs.Tree.{Arena}
use Rattle.mt_chart.specs.Chart.{Chart, Holds, IsTree, Evolves}
use Rattle.mt_view.specs.State.{StateView, IsAfresh, applied}
use Rattle.mt_works.specs.History.{GoesBy, IsReadOf, LeadsTo}
use Rattle.mt_works.specs.Build.{BuildView, IsScanning, HasRead, HadRows}

-- A state that is afresh for what a scan has read is led by the deltas since its begin to the rows at its end.
abbrev pub ScansLeadToTheEnd : Type 0
ScansLeadToTheEnd =
    (rows read : Rows) (past : List Rows) (deltas : List Delta) (state : StateView) → GoesBy (rows ∷ past) deltas
    → IsReadOf state.spec (rows ∷ past) read → IsAfresh state read → LeadsTo deltas rows state

-- each delta that it takes leads it on
abbrev pub DeltasLeadOn : Type 0
DeltasLeadOn =
    (delta : Delta) (deltas : List Delta) (rows : Rows) (state : StateView) → LeadsTo (delta ∷ deltas) rows state
    → LeadsTo deltas rows (applied delta state)

-- and if none is left it is afresh for those rows
abbrev pub LedIsAfresh : Type 0
LedIsAfresh = (rows : Rows) (state : StateView) → LeadsTo [] rows state → IsAfresh state rows

-- THE SCAN OF THE TREE, AND THE DELTAS SINCE ITS BEGIN, LEAD TO THE ROWS AT ITS END, whatever other calls did while it
-- was open
abbrev pub BuildsAreExact : Type 0
BuildsAreExact =
    (arena : Arena) (arenas : List Arena) (rows : Rows) (past : List Rows) (deltas : List Delta) (state : StateView)
    → HadRows (arena ∷ arenas) (rows ∷ past) → GoesBy (rows ∷ past) deltas
    → HasRead (arena ∷ arenas) (λ key. Unit {0}) state → LeadsTo deltas rows state

-- what is true of a scan stays true at one moment more, whatever others did
abbrev pub OthersKeepScans : Type 0
OthersKeepScans =
    (chart new : Chart) (begun number : ℕ) (arena : Arena) (arenas : List Arena) (build : BuildView)
    → Evolves begun chart new → IsScanning chart begun arenas number build
    → IsScanning new begun (arena ∷ arenas) number build

-- and of the build that has begun its way again
abbrev pub RestartsKeepScans : Type 0
RestartsKeepScans =
    (chart : Chart) (begun number : ℕ) (arena : Arena) (arenas : List Arena) (build : BuildView) → IsTree arena chart
    → IsScanning chart begun arenas number build
    → IsScanning chart begun arenas 0 (record build { prefix = []; at = under build.prefix build.at })

-- and at each node that it then holds for its slice
abbrev pub WaysKeepScans : Type 0
WaysKeepScans =
    (chart : Chart) (begun number next : ℕ) (arenas : List Arena) (build : BuildView)
    → Holds chart begun next build.prefix (first_slice build.at) → IsScanning chart begun arenas number build
    → IsScanning chart begun arenas next build
