-- The place of a put or remove that runs alone, and how much of its way is left at most.
use Rattle.std.proofs.Common.{ℕ, ◌≡◌, ◌<◌, ◌≤◌, ◌+◌, ◌*◌, ◌-◌, inl, inr, List, [], ◌∷◌, length, Option, Some, sym, ap, subst, ◌∙◌, refl, arith}
use Rattle.std.specs.Prelude.{◌^◌}
use Rattle.std.proofs.Math.Nat.{mul-le-mul_left}
use Rattle.mt_types.specs.declared.limits.TheConstants.{MAX_LAYER, MAX_KEY_BYTES}
use Rattle.mt_slice.specs.Place.{AreBytes}
use Rattle.mt_arena.specs.Arena.{ArenaView}
use Rattle.mt_chart.specs.Tree.{PlainNode, HeadNode, BorderNode, head as head_node, border as border_node, first, later}
use Rattle.mt_chart.specs.Chart.{Standing, Role, top, at_level, Spot, spot, on, gone, Evolves}
use Rattle.mt_chart.specs.Walk.{all_heights, IsOn}
use Rattle.mt_chart.proofs.Rise.{border_on}
use Rattle.mt_tree.specs.Seen.{arena_seen, border_seen}
use Rattle.mt_tree.proofs.SeenLemmas.{seen-border}
use Rattle.mt_steps.specs.declared.way.Way.{Way}
use Rattle.mt_steps.specs.World.{World, IsWorld, IsLockedBorder, NotAmong}
use Rattle.mt_steps.specs.Way.{prefix_of, IsOnWay}
use Rattle.mt_steps.proofs.LoneWay.{layer_height, height_in, way_left, layers_above, on_height, IsOnThere, stands_in}

-- ---- what is left
-- what is left of a way, at most, at the head of the layer below
abbrev pub layer_left : ℕ → ℕ
layer_left layer = all_heights - layer_height (layer + 1) top 0

-- what is left of a way, multiplied by more than all the steps that a write takes at one node, if a posting takes at
-- most `most` steps
abbrev pub times : ℕ → ℕ → ℕ
times most left = (most + 64) * left

-- ---- numbers
pub more : (x n m : ℕ) → n < m → x + n < x + m
more x n m h = omega arith

pub above : (x n m : ℕ) → n < m → n < x + m
above x n m h = omega arith

pub falls_times : (most less left : ℕ) → less < left → times most less + (most + 63) < times most left
falls_times most less left h = let up : (most + 64) * (less + 1) ≤ (most + 64) * left = mul-le-mul_left (most + 64) (omega arith) in omega (arith, up)

pub locks_times : (most less left : ℕ) → less < left → times most (left - 1) + (most + 59) < times most left
locks_times most less left h = omega (arith, falls_times most (left - 1) left (omega (arith, h)))

pub below_times : (most less left : ℕ) → less < left → times most less ≤ times most (left - 1)
below_times most less left h = mul-le-mul_left (most + 64) (omega (arith, h))

pub moves_times : (most less left : ℕ) → less < left → times most less < times most left
moves_times most less left h = omega (arith, falls_times most less left h)

pub ends_times : (most here there : ℕ) → here ≡ there → times most here < times most there + 2
ends_times most here there same = let both : times most here ≡ times most there = ap (times most) same in omega (arith, both)

-- a node of a layer is before the head of the layer below
pub before_below : (layer : ℕ) (role : Role) (low : ℕ) → layer ≤ MAX_LAYER → low < 2 ^ 64 → layer_left layer < all_heights - layer_height layer role low
before_below layer top low deep fits = omega arith
before_below layer (at_level level) low deep fits = omega arith

-- ---- in a world: the spot of its node determines what is left of a way
pub left_by_spot : (a : ArenaView) (now : ℕ) (w : World) → IsWorld a now w → (key : List ℕ) (way : Way) (there : IsOnThere w key way)
    → way_left a way.layer way.node.0 ≡ all_heights - layer_height way.layer there.role there.low
left_by_spot a now w world key way there =
    ap (λ (n : ℕ). all_heights - n)
    (subst (λ (n : ℕ). height_in n (arena_seen a way.node.0) ≡ layer_height n there.role there.low) (layers_above way.layer key)
    (on_height (arena_seen a) w.chart world.index.tree way.node.0 there.role (prefix_of key way) there.low there.posted there.place))

-- so it stays where the spot does
pub same_left : (a after : ArenaView) (now : ℕ) (w next : World) → IsWorld a now w → IsWorld after now next → (key : List ℕ) (way : Way)
    → IsOnThere w key way → next.chart way.node.0 ≡ w.chart way.node.0
    → IsOnThere next key way × (way_left after way.layer way.node.0 ≡ way_left a way.layer way.node.0)
same_left a after now w next world then key way there same = (still, left_by_spot after now next then key way still ∙ sym (left_by_spot a now w world key way there))
  where
    still : IsOnThere next key way
    still = record { posted = there.posted; role = there.role; low = there.low; place = same ∙ there.place }

-- and at a border that is locked after the step: it is still on, and as far
pub still_on : (a after : ArenaView) (now : ℕ) (w next : World) → IsWorld a now w → IsWorld after now next → (key : List ℕ) (way : Way)
    → IsOnThere w key way → Evolves 0 w.chart next.chart → IsLockedBorder after next way.node.0
    → IsOnThere next key way × (way_left after way.layer way.node.0 ≡ way_left a way.layer way.node.0)
still_on a after now w next world then key way there evolves k = elim (evolves way.node.0 there.role (prefix_of key way) there.low (on there.posted) there.place) [
  | inl kept ↦ alive kept.0 kept.1
  | inr freed ↦ absurd (let clash : on there.posted ≡ gone freed.0 = freed.1 in cc)
]
  where
    alive : (standing : Standing) → next.chart way.node.0 ≡ Some (spot there.role (prefix_of key way) there.low standing)
        → IsOnThere next key way × (way_left after way.layer way.node.0 ≡ way_left a way.layer way.node.0)
    alive standing place =
        let (stands, is_role, is_low) = border_on (arena_seen after) next.chart then.index.tree 0 way.node.0 there.role (prefix_of key way) there.low standing place (border_seen k.b) (seen-border after way.node.0 k.b k.named) k.alive in
        let here : IsOnThere next key way = record {
          posted = stands.posted;
          role = there.role;
          low = there.low;
          place = stands.place ∙ (ap (λ (l : ℕ). Some (spot (at_level 0) (prefix_of key way) l (on stands.posted))) is_low ∙ ap (λ (r : Role). Some (spot r (prefix_of key way) there.low (on stands.posted))) (sym is_role));
        } in
        (here, left_by_spot after now next then key way here ∙ sym (left_by_spot a now w world key way there))

-- at a node of a layer more is left than at the head of the layer below
pub more_left : (a : ArenaView) (now begun : ℕ) (w : World) (key : List ℕ) (way : Way) → IsWorld a now w → AreBytes key → length key ≤ MAX_KEY_BYTES
    → IsOnWay begun key way w → IsOnThere w key way → layer_left way.layer < way_left a way.layer way.node.0
more_left a now begun w key way world bytes fits held there =
    let within = held.layer.within in
    let deep : way.layer ≤ MAX_LAYER = omega (arith, within, fits) in
    let inside = stands_in w begun key way bytes held there in
    let here : IsOnThere w key way = record { posted = inside.posted; role = inside.role; low = inside.low; place = inside.place } in
    subst (λ (n : ℕ). layer_left way.layer < n) (sym (left_by_spot a now w world key way here)) (before_below way.layer inside.role inside.low deep inside.fits)

-- ---- a head is no border
pub head_apart : (a : ArenaView) (one other : ℕ) (h : HeadNode) (b : BorderNode) → arena_seen a one ≡ Some (head_node h) → arena_seen a other ≡ Some (border_node b) → one ≡ other → ⊥
head_apart a one other h b is_head is_border same =
    let both : ◌≡◌ {A = Option PlainNode} (Some (head_node h)) (Some (border_node b)) = sym is_head ∙ (ap (arena_seen a) same ∙ is_border) in
    cc

pub not_only : (number other : ℕ) → (number ≡ other → ⊥) → NotAmong number (other ∷ [])
not_only number other apart first = apart refl
not_only number other apart (later i) = elim i [ ]

pub not_none : (number : ℕ) → NotAmong number []
not_none number i = elim i [ ]

-- what is on and known to a call as the head of a layer is on as that head
pub head_place : (w : World) (number : ℕ) (prefix : List ℕ) (standing : Standing) → w.chart number ≡ Some (spot top prefix 0 standing) → (stands : IsOn w.chart number)
    → w.chart number ≡ Some (spot top prefix 0 (on stands.posted))
head_place w number prefix standing place stands = place ∙ ap (λ (s : Standing). Some (spot top prefix 0 s)) (same top stands.role 0 stands.low standing (on stands.posted) prefix stands.prefix (sym place ∙ stands.place))
  where
    same : (one other : Role) (low least : ℕ) (standing stands : Standing) (prefix layer : List ℕ) → ◌≡◌ {A = Option Spot} (Some (spot one prefix low standing)) (Some (spot other layer least stands)) → standing ≡ stands
    same one other low least standing stands prefix layer e = cc
