-- What steps leave if nothing changes, and if one border does.
use Rattle.std.proofs.Common.{ℕ, ◌≡◌, ◌<◌, ◌⊎◌, ◌↔◌, true, inl, inr, List, [], ◌∷◌, Option, Some, None, IsSome, refl, sym, ap, subst, ◌∙◌, arith}
use Rattle.std.specs.Option.{option_map, option_and_then}
use Rattle.std.proofs.lemmas.Bool.{cases_lt}
use Rattle.mt_types.specs.declared.limits.TheConstants.{MAX_NODES}
use Rattle.mt_commit.specs.Log.{LogView}
use Rattle.std.specs.Prelude.{IsSomeAnd}
use Rattle.mt_interior.specs.Head.{HeadView}
use Rattle.mt_arena.specs.declared.retired.Retired.{Retired}
use Rattle.mt_arena.specs.Node.{node_at, head_of}
use Rattle.mt_arena.specs.Arena.{ArenaView, IsArena}
use Rattle.mt_arena.specs.declared.node.Node.{Node}
use Rattle.mt_chart.specs.Tree.{Among, first, later, PlainNode}
use Rattle.mt_chart.proofs.Basics.{same_number}
use Rattle.mt_chart.proofs.Entries.{among_cases}
use Rattle.mt_chart.specs.Chart.{spot, Chart, IsTree, Holds}
use Rattle.mt_chart.specs.Walk.{Bounded, Trail, begins, height}
use Rattle.mt_chart.proofs.HeldNodes.{evolves_same}
use Rattle.mt_chart.proofs.TreeLemmas.{nodes_there}
use Rattle.mt_chart.proofs.Trail.{trail_bound}
use Rattle.mt_tree.specs.Seen.{arena_seen, node_seen}
use Rattle.mt_steps.specs.World.{World, IsWorld, NotRetired, IsLocked, IsTaken, IsSame, NotAmong, Goes}
use Rattle.mt_steps.specs.Step.{IsQuiet}
use Rattle.mt_steps.proofs.AgingLemmas.{age_same}

-- a number is one of a list, or not
pub is_among : (number : ℕ) (l : List ℕ) → Among number l ⊎ NotAmong number l
is_among number [] = inr (λ i. elim i [ ])
is_among number (other ∷ l) = elim (same_number number other) [
  | inl e ↦ inl (subst (λ (m : ℕ). Among number (m ∷ l)) e first)
  | inr differ ↦ elim (is_among number l) [
    | inl i ↦ inl (later i)
    | inr out ↦ inr (λ i. elim (among_cases number other l i) [ inl e ↦ differ e | inr j ↦ out j ])
  ]
]

-- what names the same node in the same place is taken as it was
pub taken_back : (a after : ArenaView) (w next : World) (number : ℕ) → IsSame a after w next number → IsTaken after next number → IsTaken a w number
taken_back a after w next number same (inl locked) = inl (subst (λ (x : Option Node). IsLocked x) same.node locked)
taken_back a after w next number same (inr (inl spare)) = inr (inl (subst (λ (x : Option Node). IsSome x) same.node spare.0, sym same.spot ∙ spare.1))
taken_back a after w next number same (inr (inr head)) = inr (inr (record {
  marked = subst (λ (x : Option HeadView). IsSomeAnd x (λ h. h.version.deleted ≡ true)) (ap (option_and_then head_of) same.node) head.marked;
  kept = same.retired.0 head.kept;
}))

-- the same numbers are retired if the list is the same
pub retired_same : (retired then : List Retired) (number : ℕ) → then ≡ retired → NotRetired then number ↔ NotRetired retired number
retired_same retired then number same = ((λ h. subst (λ (l : List Retired). NotRetired l number) same h), (λ h. subst (λ (l : List Retired). NotRetired l number) (sym same) h))

-- nothing changes, and the call owns what it owned
pub goes_same : (now : ℕ) (a : ArenaView) (w : World) (Then : World → Type 0) (owned owns : List ℕ) → owned ≡ owns → IsWorld a now w → Then w → Goes now a a w owned owns Then
goes_same now a w Then owned owns same world truth = record {
  next = w;
  world = world;
  evolves = λ begun before. evolves_same begun w.chart;
  leaves = λ other taken apart. (record { node = refl; spot = refl; twins = λ one other here. ((λ h. h), (λ h. h)); closing = λ i. i; retired = ((λ h. h), (λ h. h)) }, λ i. apart (subst (λ (l : List ℕ). Among other l) (sym same) i));
  takes = λ number taken. elim (is_among number owned) [ inl i ↦ inl (subst (λ (l : List ℕ). Among number l) same i) | inr out ↦ inr (taken, out) ];
  spots = λ number out apart. refl;
  age = age_same;
  true = truth;
}

pub quiet_same : (a : ArenaView) (log : LogView) → IsQuiet a a log log
quiet_same a log = record { content = λ key row. ((λ h. h), (λ h. h)); trimmed = refl; deltas = refl; rows = refl }

-- each number of the chart is one of the arena's
named_within : (number : ℕ) (node : Option Node) (seen : PlainNode) → option_map node_seen node ≡ Some seen → node ≡ None → ⊥
named_within number node seen e none = (let clash : ◌≡◌ {A = Option PlainNode} None (Some seen) = sym (ap (option_map node_seen) none) ∙ e in cc)

pub chart_bounded : (a : ArenaView) (chart : Chart) → IsArena a → IsTree (arena_seen a) chart → Bounded chart 4294967295
chart_bounded a chart sound tree number (spot role prefix low standing) place =
    let holds : Holds chart 0 number prefix low = record { role = role; low = low; standing = standing; place = place; at_most = omega arith; since = λ epoch is. omega arith } in
    let (seen, is) = nodes_there (arena_seen a) chart tree 0 number low prefix holds in
    elim (cases_lt number 4294967295) [
      | inl below ↦ below
      | inr above ↦ absurd (named_within number (node_at a.nodes number) seen is (sound.below.each number above))
    ]

-- a run of moves is short
pub moves_bounded : (a : ArenaView) (chart : Chart) (begun number moves : ℕ) → IsArena a → IsTree (arena_seen a) chart → Trail begun chart number moves → moves < MAX_NODES
moves_bounded a chart begun number moves sound tree trail = trail_bound begun 4294967295 number moves chart (chart_bounded a chart sound tree) trail

-- a run begins at what a call holds
pub trail_begins : (chart : Chart) (begun number : ℕ) (prefix : List ℕ) (slice : ℕ) → Holds chart begun number prefix slice → Trail begun chart number 0
trail_begins chart begun number prefix slice h = begins {reached = height h.role prefix h.low} (record { role = h.role; prefix = prefix; low = h.low; known = record { standing = h.standing; place = h.place; since = h.since }; is_height = refl })
