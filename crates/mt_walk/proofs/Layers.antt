-- The layers of a tree are fewer than its nodes; and what is left of a walk falls with each step that gives no pair.
use Rattle.std.proofs.Common.{ℕ, zero, suc, ◌≡◌, ◌<◌, ◌≤◌, ◌+◌, ◌*◌, ◌-◌, ◌⊎◌, inl, inr, List, [], ◌∷◌, length, Some, Bool, true, refl, ap, ◌∙◌, arith}
use Rattle.std.proofs.Math.Nat.{mul-le-mul_right}
use Rattle.mt_arena.specs.Arena.{ArenaView, IsArena}
use Rattle.mt_chart.specs.Tree.{Arena}
use Rattle.mt_chart.specs.Chart.{on, Role, top, at_level, spot, Chart, OnHead, IsTree}
use Rattle.mt_chart.specs.Walk.{height, Bounded, Run, Known}
use Rattle.mt_chart.proofs.Cursor.{less_than_more}
use Rattle.mt_chart.proofs.Reach.{on_border_at, children_on, first_child_on}
use Rattle.mt_chart.proofs.Rise.{at_height}
use Rattle.mt_chart.proofs.Walk.{run_bound}
use Rattle.mt_tree.specs.Seen.{arena_seen}
use Rattle.mt_scan.specs.Cursor.{CursorView}
use Rattle.mt_scan.specs.Onward.{cursor_of, all_cursors}
use Rattle.mt_steps.specs.Lone.{IsLoneTree}
use Rattle.mt_steps.proofs.FrameLemmas.{chart_bounded}
use Rattle.mt_walk.specs.Descent.{HoldsNow}
use Rattle.mt_walk.specs.Steps.{Advances}
use Rattle.mt_walk.proofs.DescentLemmas.{held_on}

module _ (arena : Arena) (chart : Chart) (tree : IsTree arena chart) where
  -- the heads above a head, each higher than the next
  record HeadsAbove (prefix : List ℕ) : Type 0 where
    came : List ℕ
    run : Run chart 0 came (height top prefix 0)
    many : length came ≡ length prefix

  head_known : (number : ℕ) (prefix : List ℕ) → OnHead chart number prefix → Known chart 0 number top prefix 0
  head_known number prefix head = record { standing = on true; place = head; since = λ epoch is. omega arith }

  heads_above : (prefix : List ℕ) (number : ℕ) → OnHead chart number prefix → HeadsAbove prefix
  heads_above [] number head = record { came = []; run = tt; many = refl }
  heads_above (slice ∷ prefix) number head =
      let (above, node, stands, there) = tree.hung number (slice ∷ prefix) head in
      let (over, over_head) = tree.in_layer above prefix node stands in
      let rest = heads_above prefix over over_head in
      record {
        came = over ∷ rest.came;
        run = (height top prefix 0, at_height chart 0 over top prefix 0 (head_known over prefix over_head), omega arith, rest.run);
        many = ap (λ (n : ℕ). suc n) rest.many;
      }

  few_heads : (bound : ℕ) → Bounded chart bound → (number : ℕ) (prefix : List ℕ) → OnHead chart number prefix → length prefix < bound
  few_heads bound bounded number prefix head =
      let above = heads_above prefix number head in
      let many = above.many in
      let few = run_bound chart 0 bound number above.came (height top prefix 0) bounded above.run (at_height chart 0 number top prefix 0 (head_known number prefix head)) in
      omega (arith, many, few)

  -- the layer of a node that is on has a head that is on
  has_head_at : (most level : ℕ) → level ≤ most → (number : ℕ) (prefix : List ℕ) (low : ℕ) (posted : Bool) → chart number ≡ Some (spot (at_level level) prefix low (on posted)) → (over : ℕ) × OnHead chart over prefix
  has_head_at most zero up number prefix low posted place =
      let (node, stands, same) = on_border_at arena chart tree number prefix low posted place in
      tree.in_layer number prefix node stands
  has_head_at zero (suc below) up number prefix low posted place = absurd (omega arith)
  has_head_at (suc most) (suc below) up number prefix low posted place =
      let u = tree.interiors number below prefix low (on posted) place in
      let (child, others, is, lower, stands) = first_child_on chart posted prefix low (suc below) u.node.children (children_on arena chart tree number below prefix low posted u.node place u.is_node) in
      has_head_at most child.level (omega arith) child.number prefix low true stands

  has_head : (number : ℕ) (role : Role) (prefix : List ℕ) (low : ℕ) (posted : Bool) → chart number ≡ Some (spot role prefix low (on posted)) → (over : ℕ) × OnHead chart over prefix
  has_head number top prefix low posted place =
      let u = tree.heads number prefix low posted place in
      (number, place ∙ (ap (λ (l : ℕ). Some (spot top prefix l (on posted))) u.low ∙ ap (λ (b : Bool). Some (spot top prefix 0 (on b))) u.posted))
  has_head number (at_level level) prefix low posted place = has_head_at level level (omega arith) number prefix low posted place

-- more layers than a tree has: one for each node that it may have
pub all_layers : ℕ
all_layers = 4294967295

layers_fit : (layers : ℕ) → layers < 4294967295 → layers < all_layers
unfolding all_layers
layers_fit layers few = few

pub few_layers : (a : ArenaView) (lone : IsLoneTree a) (number slice : ℕ) (prefix : List ℕ) → IsArena a → HoldsNow a lone prefix number slice → length prefix < all_layers
few_layers a lone number slice prefix sound held =
    let s = held_on a lone number slice prefix held in
    let tree = lone.world.index.tree in
    let (over, head) = has_head (arena_seen a) lone.w.chart tree number s.role prefix s.low s.posted s.place in
    layers_fit (length prefix) (few_heads (arena_seen a) lone.w.chart tree 4294967295 (chart_bounded a lone.w.chart sound tree) over prefix head)

-- WHAT IS LEFT of a walk: first how far its cursor is from the end of all, then how many layers there may be below it
abbrev pub left_at : CursorView → ℕ
left_at c = (all_cursors all_layers - cursor_of all_layers c) * (all_layers + 1) + (all_layers - length c.prefix)

further_falls : (all one other layers below : ℕ) → one < other → one < all → below ≤ all_layers → (all - other) * (all_layers + 1) + below < (all - one) * (all_layers + 1) + layers
further_falls all one other layers below less within few =
    less_than_more (all - other) (all - one) below (all_layers + 1) layers (omega (arith, less, within)) (omega (arith, few))

deeper_falls : (fewer cursors layers below : ℕ) → fewer ≤ cursors → below < layers → fewer * (all_layers + 1) + below < cursors * (all_layers + 1) + layers
deeper_falls fewer cursors layers below most less =
    let held : fewer * (all_layers + 1) ≤ cursors * (all_layers + 1) = mul-le-mul_right (all_layers + 1) most in
    omega (arith, held, less)

pub advance_falls : (a : ArenaView) (c d : CursorView) → length c.prefix < all_layers → Advances a c d → left_at d < left_at c
advance_falls a c d deep advances = go (advances.gets_on all_layers deep)
  where
    go : (cursor_of all_layers c < cursor_of all_layers d) ⊎ ((cursor_of all_layers c ≤ cursor_of all_layers d) × (length d.prefix ≡ length c.prefix + 1)) → left_at d < left_at c
    go (inl less) =
        further_falls (all_cursors all_layers) (cursor_of all_layers c) (cursor_of all_layers d) (all_layers - length c.prefix) (all_layers - length d.prefix) less (advances.within all_layers) (omega arith)
    go (inr (most, one)) =
        deeper_falls (all_cursors all_layers - cursor_of all_layers d) (all_cursors all_layers - cursor_of all_layers c) (all_layers - length c.prefix) (all_layers - length d.prefix) (omega (arith, most)) (omega (arith, one, deep))
