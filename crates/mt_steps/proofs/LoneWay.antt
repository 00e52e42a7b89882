-- A call that runs alone on its way: each node that it comes to is on, and with each move what is left of its way falls.
use Rattle.std.proofs.Common.{ℕ, zero, suc, ◌≡◌, ◌<◌, ◌≤◌, ◌+◌, ◌*◌, ◌-◌, List, length, Option, Some, None, Bool, true, false, refl, sym, ap, subst, ◌∙◌, arith}
use Rattle.std.specs.Prelude.{◌^◌, IsSomeAnd}
use Rattle.mt_types.specs.declared.limits.TheConstants.{MAX_LAYER, MAX_LEVEL, MAX_KEY_BYTES}
use Rattle.mt_slice.specs.Place.{AreBytes, slices_above}
use Rattle.mt_slice.proofs.Slices.{slice_number-below, bytes-drop}
use Rattle.mt_arena.specs.Node.{node_at}
use Rattle.mt_arena.specs.Arena.{ArenaView}
use Rattle.mt_arena.specs.declared.node.Node.{Node}
use Rattle.mt_chart.specs.Tree.{Arena, PlainNode, head, interior, border}
use Rattle.mt_chart.specs.Chart.{Standing, on, gone, Role, top, at_level, Spot, spot, Chart, IsTree, Dated}
use Rattle.mt_chart.specs.Walk.{height, below_top, all_heights, KnownAt, Moves, IsOn}
use Rattle.mt_chart.proofs.Rise.{rises, at_height}
use Rattle.mt_chart.proofs.Alone.{in_range}
use Rattle.mt_tree.specs.Seen.{arena_seen}
use Rattle.mt_tree.specs.Descent.{is_marked}
use Rattle.mt_steps.specs.declared.way.Way.{Way}
use Rattle.mt_steps.specs.declared.way.Went.TheVariants.{To}
use Rattle.mt_steps.specs.World.{World, IsWorld, IsTaken}
use Rattle.mt_steps.specs.Way.{prefix_of, rest_of, IsOnWay, GoesTo}
use Rattle.mt_steps.specs.Causes.{IsMarkedAt}
use Rattle.mt_steps.proofs.LoneLemmas.{untaken_alive}

-- how high a node of so low a layer stands
abbrev pub layer_height : ℕ → Role → ℕ → ℕ
layer_height layer role low = (layer * (MAX_LEVEL + 2) + below_top role) * (2 ^ 64) + low

abbrev pub height_in : ℕ → Option PlainNode → ℕ
height_in layer None = 0
height_in layer (Some (head node)) = layer_height layer top 0
height_in layer (Some (interior node)) = layer_height layer (at_level node.level) node.low
height_in layer (Some (border node)) = layer_height layer (at_level 0) node.low

-- WHAT IS LEFT of the way of a call that is at a node of a layer
abbrev pub way_left : ArenaView → ℕ → ℕ → ℕ
way_left a layer number = all_heights - height_in layer (arena_seen a number)

-- the number is on in the layer of a prefix, from at most the slice on
pub record StandsIn (chart : Chart) (number : ℕ) (prefix : List ℕ) : Type 0 where
  pub role : Role
  pub low : ℕ
  pub posted : Bool
  pub place : chart number ≡ Some (spot role prefix low (on posted))
  pub fits : low < 2 ^ 64

-- its node determines its height
pub height_told : (layer : ℕ) (arena : Arena) (chart : Chart) → IsTree arena chart → (number : ℕ) (role : Role) (prefix : List ℕ) (low : ℕ) (posted : Bool)
    → chart number ≡ Some (spot role prefix low (on posted)) → height_in layer (arena number) ≡ layer_height layer role low
height_told layer arena chart tree number top prefix low posted place =
    let u = tree.heads number prefix low posted place in
    ap (height_in layer) u.is_node ∙ ap (layer_height layer top) (sym u.low)
height_told layer arena chart tree number (at_level zero) prefix low posted place =
    let (node, is_node, same) = tree.borders number prefix low posted place in
    ap (height_in layer) is_node ∙ ap (layer_height layer (at_level 0)) same
height_told layer arena chart tree number (at_level (suc below)) prefix low posted place =
    let u = tree.interiors number below prefix low (on posted) place in
    ap (height_in layer) u.is_node
    ∙ (ap (λ (level : ℕ). layer_height layer (at_level level) u.node.low) u.level ∙ ap (layer_height layer (at_level (suc below))) u.low)

pub on_height : (arena : Arena) (chart : Chart) → IsTree arena chart → (number : ℕ) (role : Role) (prefix : List ℕ) (low : ℕ) (posted : Bool)
    → chart number ≡ Some (spot role prefix low (on posted)) → height_in (length prefix) (arena number) ≡ height role prefix low
on_height arena chart tree number role prefix low posted place = height_told (length prefix) arena chart tree number role prefix low posted place

-- what a call that began after the present epoch would know to be there is on
pub still_there : (chart : Chart) (now number reached : ℕ) → Dated chart now → (k : KnownAt chart (suc now) number reached)
    → (posted : Bool) × (chart number ≡ Some (spot k.role k.prefix k.low (on posted)))
still_there chart now number reached dated k = go k.known.standing k.known.place k.known.since
  where
    go : (standing : Standing) → chart number ≡ Some (spot k.role k.prefix k.low standing) → ((epoch : ℕ) → standing ≡ gone epoch → suc now ≤ epoch)
        → (posted : Bool) × (chart number ≡ Some (spot k.role k.prefix k.low (on posted)))
    go (on posted) place since = (posted, place)
    go (gone epoch) place since = absurd (let before : epoch ≤ now = dated number k.role k.prefix k.low epoch place in let after : suc now ≤ epoch = since epoch refl in omega arith)

-- a move leads on, and what is left falls
pub record MovesOn (a : ArenaView) (chart : Chart) (next left : ℕ) : Type 0 where
  pub prefix : List ℕ
  pub role : Role
  pub low : ℕ
  pub posted : Bool
  pub place : chart next ≡ Some (spot role prefix low (on posted))
  pub falls : way_left a (length prefix) next < left

pub moves_on : (a : ArenaView) (now : ℕ) (w : World) → IsWorld a now w → (number next : ℕ) (prefix : List ℕ) → (at : StandsIn w.chart number prefix) → length prefix ≤ MAX_LAYER
    → Moves (arena_seen a) number next → MovesOn a w.chart next (way_left a (length prefix) number)
moves_on a now w world number next prefix at deep move =
    let known = at_height w.chart (suc now) number at.role prefix at.low (record { standing = on at.posted; place = at.place; since = λ epoch is. absurd (let clash : on at.posted ≡ gone epoch = is in cc) }) in
    let x = rises (arena_seen a) w.chart world.index.tree (suc now) number next (height at.role prefix at.low) known move in
    let (posted, place) = still_there w.chart now next x.height world.index.dated x.known in
    let here = on_height (arena_seen a) w.chart world.index.tree number at.role prefix at.low at.posted at.place in
    let there = on_height (arena_seen a) w.chart world.index.tree next x.known.role x.known.prefix x.known.low posted place in
    let reached : height x.known.role x.known.prefix x.known.low ≡ x.height = x.known.is_height in
    let up = x.rises in
    let room = in_range at.role prefix at.low deep at.fits in
    record {
      prefix = x.known.prefix;
      role = x.known.role;
      low = x.known.low;
      posted = posted;
      place = place;
      falls = less (height_in (length prefix) (arena_seen a number)) (height_in (length x.known.prefix) (arena_seen a next)) (height at.role prefix at.low) (height x.known.role x.known.prefix x.known.low) x.height here there reached up room;
    }
  where
    less : (one other h k r : ℕ) → one ≡ h → other ≡ k → k ≡ r → h < r → h < all_heights → all_heights - other < all_heights - one
    less one other h k r is is_other reached up room = omega (arith, is, is_other, reached, up, room)

-- ---- the way to a key
-- as many slices as layers
pub layers_above : (layer : ℕ) (key : List ℕ) → length (slices_above layer key) ≡ layer
layers_above zero key = refl
layers_above (suc layer) key = ap (λ (n : ℕ). suc n) (layers_above layer key)

-- the node where it stands is on
pub record IsOnThere (w : World) (key : List ℕ) (way : Way) : Type 0 where
  pub posted : Bool
  pub role : Role
  pub low : ℕ
  pub place : w.chart way.node.0 ≡ Some (spot role (prefix_of key way) low (on posted))

-- if the call holds it for its key's slice, its low is a slice
pub stands_in : (w : World) (begun : ℕ) (key : List ℕ) (way : Way) → AreBytes key → IsOnWay begun key way w → IsOnThere w key way → StandsIn w.chart way.node.0 (prefix_of key way)
stands_in w begun key way bytes held there = record {
  role = there.role;
  low = there.low;
  posted = there.posted;
  place = there.place;
  fits =
      let same = same_low held.held.role there.role held.held.low there.low held.held.standing (on there.posted) (prefix_of key way) (prefix_of key way) (sym held.held.place ∙ there.place) in
      let most = held.held.at_most in
      let fits = slice_number-below (rest_of key way) (bytes-drop (8 * way.layer) key bytes) in
      omega (arith, same, most, fits);
}
  where
    same_low : (one other : Role) (low least : ℕ) (standing stands : Standing) (prefix layer : List ℕ) → ◌≡◌ {A = Option Spot} (Some (spot one prefix low standing)) (Some (spot other layer least stands)) → low ≡ least
    same_low one other low least standing stands prefix layer e = cc

-- after a move of the way the call is at a node that is on, and less is left
pub move_nearer : (a : ArenaView) (now begun : ℕ) (w : World) (key : List ℕ) (way next : Way) → IsWorld a now w → AreBytes key → length key ≤ MAX_KEY_BYTES
    → IsOnWay begun key way w → IsOnThere w key way → IsOnWay begun key next w → Moves (arena_seen a) way.node.0 next.node.0
    → IsOnThere w key next × (way_left a next.layer next.node.0 < way_left a way.layer way.node.0)
move_nearer a now begun w key way next world bytes fits held there further move =
    let within = held.layer.within in
    let many = layers_above way.layer key in
    let many_next = layers_above next.layer key in
    let deep : length (prefix_of key way) ≤ MAX_LAYER = omega (arith, many, within, fits) in
    let on_next = moves_on a now w world way.node.0 next.node.0 (prefix_of key way) (stands_in w begun key way bytes held there) deep move in
    let same = same_prefix on_next.role further.held.role on_next.low further.held.low (on on_next.posted) further.held.standing on_next.prefix (prefix_of key next) (sym on_next.place ∙ further.held.place) in (
      record { posted = on_next.posted; role = on_next.role; low = on_next.low; place = on_next.place ∙ ap (λ (p : List ℕ). Some (spot on_next.role p on_next.low (on on_next.posted))) same },
      subst (λ (n : ℕ). way_left a n next.node.0 < way_left a way.layer way.node.0) (ap (λ (p : List ℕ). length p) same ∙ many_next)
          (subst (λ (n : ℕ). way_left a (length on_next.prefix) next.node.0 < way_left a n way.node.0) many on_next.falls),
    )
  where
    same_prefix : (one other : Role) (low least : ℕ) (standing stands : Standing) (prefix layer : List ℕ) → ◌≡◌ {A = Option Spot} (Some (spot one prefix low standing)) (Some (spot other layer least stands)) → prefix ≡ layer
    same_prefix one other low least standing stands prefix layer e = cc

-- and so after a visit that leads on
pub way_moves : (a : ArenaView) (now begun : ℕ) (w : World) (key : List ℕ) (way next : Way) → IsWorld a now w → AreBytes key → length key ≤ MAX_KEY_BYTES
    → IsOnWay begun key way w → IsOnThere w key way → GoesTo a begun key way w (To next)
    → IsOnThere w key next × (way_left a next.layer next.node.0 < way_left a way.layer way.node.0)
way_moves a now begun w key way next world bytes fits held there (further, move, deeper) = move_nearer a now begun w key way next world bytes fits held there further move

-- what is on, and that no call has taken, is not marked
pub not_marked : (a : ArenaView) (now : ℕ) (w : World) → IsWorld a now w → (number : ℕ) → (IsTaken a w number → ⊥) → IsOn w.chart number → IsMarkedAt a number → ⊥
not_marked a now w world number free stands marked = go (node_at a.nodes number) refl marked
  where
    go : (node : Option Node) → node_at a.nodes number ≡ node → IsSomeAnd node (λ (x : Node). is_marked x ≡ true) → ⊥
    go None is m = m
    go (Some node) is m =
        let alive = untaken_alive a now w world number free stands node is in
        let clash : false ≡ true = sym alive ∙ m in
        cc

-- its way begins at a node that is on
pub starts_on : (a : ArenaView) (now : ℕ) (w : World) (key : List ℕ) → IsWorld a now w → IsOnThere w key (record { node = record { 0 = 0 }; layer = 0 })
starts_on a now w key world = record { posted = true; role = top; low = 0; place = world.index.tree.layer_0 }
