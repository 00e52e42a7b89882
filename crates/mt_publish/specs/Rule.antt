-- The rule: what is shown is the opening state after some list of deltas, and what each thread knows is a beginning of that list.
use Rattle.std.specs.Prelude.{ℕ, ◌≡◌, List, [], Option, Some, None, IfSome}
use mathlib.Core.Option.{some}
use lib.ListN.{get_elem?}
use Rattle.mt_types.specs.declared.row.Delta.{Delta}
use Rattle.mt_view.specs.State.{StateView}
use Rattle.mt_publish.specs.declared.shown.Shown.{Shown}
use Rattle.mt_publish.specs.declared.rule.Known.{Known}
use Rattle.mt_publish.specs.Marks.{Source, StartsWith}
use Rattle.mt_publish.specs.Shown.{shown_after}

abbrev pub Agrees : Shown → List Delta → Known → Type 0
Agrees opening list v = IfSome v.opening (λ o. o ≡ opening) × StartsWith list v.list

abbrev pub AllAgree : Shown → List Delta → List Known → Type 0
AllAgree opening list views = (seat : ℕ) (v : Known) → get_elem? views seat ≡ some v → Agrees opening list v

abbrev pub Keeps : Shown → List Known → Type 0
Keeps x views =
    (opening : Shown) × (list : List Delta) × (opening.mark.list ≡ []) × (x ≡ shown_after opening list)
    × AllAgree opening list views

-- the publisher knows what it shows as what was shown first
abbrev pub Opened : Known → Shown → Shown → Known → Type 0
Opened v x y w = (w.opening ≡ Some y) × (w.list ≡ [])

-- the publisher knows what it knew
abbrev pub Stays : Known → Shown → Shown → Known → Type 0
Stays v x y w = w ≡ v

-- what is read is the opening state after a list, which begins with the one known before
abbrev pub Read : Known → Shown → Shown → Known → Type 0
Read v x y w =
    (opening : Shown) × (w.opening ≡ Some opening) × IfSome v.opening (λ o. o ≡ opening)
    × (x ≡ shown_after opening w.list) × StartsWith w.list v.list

abbrev pub first_of : Option Shown → Option Shown → Option Shown
first_of None o = o
first_of (Some s) o = Some s

-- of which chain it is what was shown first
abbrev pub source_in : Option Shown → Option Source
source_in None = None
source_in (Some shown) = Some shown.mark.source

-- the state that was shown first
abbrev pub state_in : Option Shown → Option StateView
state_in None = None
state_in (Some shown) = Some shown.state
