-- What a tidy knows of the nodes that it has noted, and how far it has read the border at which it is.
use Rattle.std.specs.Prelude.{ℕ, ◌≡◌, ◌+◌, List, [], ◌∷◌, Option, Some, None}
use Rattle.mt_types.specs.declared.numbers.NodeNo.{NodeNo}
use Rattle.mt_slice.specs.Place.{slices_above}
use Rattle.mt_arena.specs.Arena.{ArenaView}
use Rattle.mt_chart.specs.Tree.{Arena}
use Rattle.mt_chart.specs.Chart.{Role}
use Rattle.mt_chart.specs.Walk.{Known}
use Rattle.mt_tree.specs.Seen.{arena_seen}
use Rattle.mt_steps.specs.declared.way.Way.{Way}
use Rattle.mt_steps.specs.World.{World}
use Rattle.mt_steps.specs.declared.finding.Kind.TheVariants.{Row as RowKind}
use Rattle.mt_steps.specs.declared.finding.Sight.TheVariants.{Absent as AbsentSight, Row as RowSight}
use Rattle.mt_steps.specs.declared.reader.Reader.TheVariants.{Begins, Looked, Bounded, AtValue, Settles}
use Rattle.mt_steps.specs.Finding.{Finding}
use Rattle.mt_steps.specs.Getting.{AtBorder, FindingIsTrue}
use Rattle.mt_steps.specs.Standing.{StandsAt}
use Rattle.mt_steps.specs.Way.{prefix_of, IsHeadOf}
use Rattle.mt_remove.specs.declared.noted.Came.{Came}
use Rattle.mt_remove.specs.declared.noted.Came.TheVariants.{Head as FromHead, Child as AsChild, Left as FromLeft}
use Rattle.mt_remove.specs.declared.noted.Namer.{Namer}
use Rattle.mt_remove.specs.declared.noted.Namer.TheVariants.{Head as NamedByHead, Interior as NamedByInterior}
use Rattle.mt_remove.specs.declared.noted.OneChild.{OneChild}
use Rattle.mt_remove.specs.declared.noted.Noted.{Noted}

-- the number is a node of the layer of the prefix, and didn't go before the epoch
pub record IsKnownIn (w : World) (begun number : ℕ) (prefix : List ℕ) : Type 0 where
  pub role : Role
  pub low : ℕ
  pub known : Known w.chart begun number role prefix low

abbrev pub NamerIsKnown : ℕ → List ℕ → World → Namer → Type 0
NamerIsKnown begun prefix w (NamedByHead head) = IsHeadOf w begun head.0 prefix
NamerIsKnown begun prefix w (NamedByInterior interior) = IsKnownIn w begun interior.0 prefix

abbrev pub LoneIsKnown : ℕ → List ℕ → World → OneChild → Type 0
LoneIsKnown begun prefix w lone = IsKnownIn w begun lone.interior.0 prefix × NamerIsKnown begun prefix w lone.namer

abbrev pub IfLone : ℕ → List ℕ → World → Option OneChild → Type 0
IfLone begun prefix w None = Unit {0}
IfLone begun prefix w (Some lone) = LoneIsKnown begun prefix w lone

abbrev pub CameIsKnown : ℕ → List ℕ → World → Came → Type 0
CameIsKnown begun prefix w FromHead = Unit {0}
CameIsKnown begun prefix w FromLeft = Unit {0}
CameIsKnown begun prefix w (AsChild parent first) = IsKnownIn w begun parent.0 prefix

-- what is noted as the border above is a node of the layer above
abbrev pub IfAbove : ℕ → List ℕ → ℕ → World → Option NodeNo → Type 0
IfAbove begun key layer w None = Unit {0}
IfAbove begun key layer w (Some above) =
    (upper : ℕ) × (layer ≡ upper + 1) × IsKnownIn w begun above.0 (slices_above upper key)

-- what it has noted are nodes of the layer where it is
pub record NotedIsTrue (begun : ℕ) (key : List ℕ) (way : Way) (noted : Noted) (w : World) : Type 0 where
  pub head : IsHeadOf w begun noted.head.0 (prefix_of key way)
  pub above : IfAbove begun key way.layer w noted.above
  pub came : CameIsKnown begun (prefix_of key way) w noted.came
  pub lone : IfLone begun (prefix_of key way) w noted.lone

-- HOW FAR IT HAS READ the border at which it is, on its way: as of a get that asks for no columns; but it reads no row's
-- value, and of a key that has no layer it has found nothing
abbrev pub SeekFinding : List ℕ → Way → Finding → ℕ → List Arena → ArenaView → World → Type 0
SeekFinding key way (AtValue notes RowKind) begun arenas a w = ⊥
SeekFinding key way (Settles counters AbsentSight) begun arenas a w = AtBorder begun key way counters a w
SeekFinding key way (Settles counters (RowSight row)) begun arenas a w = AtBorder begun key way counters a w
SeekFinding key way finding begun arenas a w = FindingIsTrue key [] way finding begun arenas a w

abbrev pub SeekIsTrue : ℕ → List ℕ → Way → Finding → ArenaView → World → Type 0
SeekIsTrue begun key way finding a w = (past : List Arena) × SeekFinding key way finding begun (arena_seen a ∷ past) a w

-- of the border before the one that it unlinks it reads the version and the right link
abbrev pub LeftFinding : ℕ → List ℕ → ℕ → ℕ → Finding → ArenaView → World → Type 0
LeftFinding begun prefix slice number Begins a w = Unit {0}
LeftFinding begun prefix slice number (Looked counters) a w = StandsAt begun prefix slice number counters a w
LeftFinding begun prefix slice number (Bounded counters right) a w = StandsAt begun prefix slice number counters a w
LeftFinding begun prefix slice number _ a w = ⊥

-- and then it locks that
abbrev pub AtLock : Finding → Type 0
AtLock (Bounded counters right) = Unit {0}
AtLock _ = ⊥
