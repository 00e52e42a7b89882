-- The way down a layer, in a tree in which no change is under way: what is held now is on, and with each node less is left.
use Rattle.std.proofs.Common.{ℕ, suc, ◌≡◌, ◌<◌, ◌≤◌, ◌^◌, inl, List, Some, refl, arith}
use Rattle.mt_types.specs.declared.numbers.NodeNo.{NodeNo}
use Rattle.mt_slice.specs.Place.{last}
use Rattle.mt_arena.specs.Arena.{ArenaView}
use Rattle.mt_chart.specs.Chart.{Standing, on, gone, spot}
use Rattle.mt_tree.specs.Seen.{arena_seen}
use Rattle.mt_chart.specs.Walk.{Moves}
use Rattle.mt_scan.specs.Cursor.{CursorView}
use Rattle.mt_steps.specs.Causes.{IsMarkedAt}
use Rattle.mt_steps.specs.Lone.{IsLoneTree}
use Rattle.mt_steps.specs.Ranging.{IsHeldFor, Seeks}
use Rattle.mt_tree.specs.declared.visit.Visit.TheVariants.{To, Below, Here}
use Rattle.mt_steps.proofs.LoneRange.{ScanStands, scan_nearer}
use Rattle.mt_steps.proofs.LoneWay.{way_left, not_marked}
use Rattle.mt_walk.specs.Descent.{HoldsNow, MaySeek, SeeksBorder}

module _ (a : ArenaView) (lone : IsLoneTree a) where
  -- what is held now is on
  pub held_on : (number slice : ℕ) (prefix : List ℕ) → HoldsNow a lone prefix number slice → ScanStands lone.w.chart number prefix
  held_on number slice prefix held = go held.standing held.place held.since
    where
      go : (s : Standing) → lone.w.chart number ≡ Some (spot held.role prefix held.low s) → ((epoch : ℕ) → s ≡ gone epoch → suc lone.now ≤ epoch) → ScanStands lone.w.chart number prefix
      go (on posted) place since = record { role = held.role; low = held.low; posted = posted; place = place }
      go (gone epoch) place since =
          let late = since epoch refl in
          let went = lone.world.index.dated number held.role prefix held.low epoch place in
          absurd (omega (arith, late, went))

  pub held_for : (number slice : ℕ) (prefix : List ℕ) → HoldsNow a lone prefix number slice → IsHeldFor a number slice
  held_for number slice prefix held = record {
    now = lone.now;
    twins = lone.w.twins;
    chart = lone.w.chart;
    begun = suc lone.now;
    prefix = prefix;
    index = lone.world.index;
    holds = held;
  }

  pub unmarked : (number slice : ℕ) (prefix : List ℕ) → HoldsNow a lone prefix number slice → IsMarkedAt a number → ⊥
  unmarked number slice prefix held marked =
      let s = held_on number slice prefix held in
      not_marked a lone.now lone.w lone.world number (lone.free number) (record { role = s.role; prefix = prefix; low = s.low; posted = s.posted; place = s.place }) marked

  -- with each move less is left
  pub nearer : (number next slice : ℕ) (prefix : List ℕ) → slice < 2 ^ 64 → HoldsNow a lone prefix number slice → Moves (arena_seen a) number next → HoldsNow a lone prefix next slice → way_left a 0 next < way_left a 0 number
  nearer number next slice prefix fits held moves then =
      let c : CursorView = record { prefix = prefix; at = last slice 0 } in
      let less = (scan_nearer a lone.now lone.w lone.world number next (suc lone.now) (suc lone.now) slice c c (held_on number slice prefix held) held (inl (record { fits = fits; moves = moves }, refl)) then).1 in
      omega (arith, less)

-- it is on its way, and whoever holds the node from which it began holds this one
pub record IsSeeking (a : ArenaView) (from slice node : ℕ) : Type 0 where
  pub may : MaySeek a node slice
  pub leads : (lone : IsLoneTree a) (prefix : List ℕ) → HoldsNow a lone prefix from slice → HoldsNow a lone prefix node slice

pub seeking_begins : (a : ArenaView) (from slice : ℕ) → MaySeek a from slice → IsSeeking a from slice from
seeking_begins a from slice may = record { may = may; leads = λ lone prefix held. held }

pub seeking_goes : (a : ArenaView) (from slice node next : ℕ) → slice < 2 ^ 64 → IsSeeking a from slice node → Seeks a node slice (To (record { 0 = next })) → Moves (arena_seen a) node next
    → IsSeeking a from slice next × (way_left a 0 next < way_left a 0 node)
seeking_goes a from slice node next fits s seeks moves =
    let lone = s.may.lone in
    let to : HoldsNow a lone s.may.prefix next slice = seeks.leads lone.now lone.w.twins lone.w.chart (suc lone.now) s.may.prefix lone.world.index s.may.held in (
      record {
        may = record { lone = lone; prefix = s.may.prefix; held = to };
        leads = λ other prefix held. seeks.leads other.now other.w.twins other.w.chart (suc other.now) prefix other.world.index (s.leads other prefix held);
      },
      nearer a lone node next slice s.may.prefix fits s.may.held moves to,
    )

-- no link leads further from a slice
pub never_below : (a : ArenaView) (slice node : ℕ) (top : NodeNo) → MaySeek a node slice → Seeks a node slice (Below top) → ⊥
never_below a slice node top may seeks = seeks.leads may.lone.now may.lone.w.twins may.lone.w.chart (suc may.lone.now) may.prefix may.lone.world.index may.held

pub seeking_ends : (a : ArenaView) (from slice node : ℕ) → IsSeeking a from slice node → Seeks a node slice Here → SeeksBorder a from slice node
seeking_ends a from slice node s seeks =
    let lone = s.may.lone in
    record {
      at_slice = seeks.leads lone.now lone.w.twins lone.w.chart (suc lone.now) s.may.prefix lone.world.index s.may.held;
      leads = s.leads;
    }
