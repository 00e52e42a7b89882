-- A new machine is at the history in which nothing has happened.
use Rattle.std.proofs.Common.{true, false, ℕ, ◌≡◌, inl, inr, List, [], Option, Some, None, IsSome, refl, sym, ap, subst, ◌∙◌, arith, ◌-◌, ◌≤◌}
use Rattle.std.specs.FinMap.{get-empty, len-empty}
use Rattle.mt_types.specs.Keys.{key_cmp}
use Rattle.mt_tree.specs.Seen.{arena_seen, HasRow}
use Rattle.std.specs.Prelude.{min, max, MatchOption, Result, Ok, Err}
use Rattle.mt_types.specs.declared.refusal.Refusal.{Refusal}
use Rattle.mt_types.specs.declared.row.Row.{Row}
use Rattle.mt_types.specs.declared.limits.TheConstants.{MAX_COLUMNS}
use Rattle.mt_commit.specs.Log.{LogView}
use Rattle.mt_arena.specs.Arena.{ArenaView}
use Rattle.mt_chart.specs.Tree.{Among, Has}
use Rattle.mt_chart.specs.Tree.{PlainNode, head}
use Rattle.mt_chart.specs.Chart.{Chart, Spot}
use Rattle.mt_interior.specs.Head.{HeadView, new_head}
use Rattle.mt_tree.specs.Seen.{head_seen}
use Rattle.mt_tree.proofs.SeenLemmas.{seen-head}
use Rattle.mt_slice.specs.Place.{Place}
use Rattle.std.proofs.lemmas.List.Elements.{All-nil}
use Rattle.mt_arena.specs.declared.retired.Retired.{Retired}
use Rattle.mt_arena.specs.declared.node.Node.{Node}
use Rattle.mt_arena.specs.declared.node.Node.TheVariants.{Head as HeadIn, Border as BorderIn}
use Rattle.mt_border.specs.Border.{new_border}
use Rattle.mt_tree.specs.Keeping.{IsIndexAt}
use Rattle.mt_tree.specs.Descent.{is_marked}
use Rattle.mt_steps.proofs.AliveLemmas.{alive_node}
use Rattle.std.specs.Prelude.{IsSomeAnd, All, ◌⊎◌}
use Rattle.std.specs.Option.{option_and_then}
use Rattle.mt_arena.specs.Node.{node_at, head_at, head_of}
use Rattle.mt_arena.proofs.NodeLemmas.{node-from_head, node-from_border}
use Rattle.mt_chart.proofs.Basics.{same_number}
use Rattle.mt_tree.specs.NewTree.{IsNewTree}
use Rattle.mt_steps.specs.World.{IsLocked, IsTaken, World, IsWorld, RowsAreOfKeys, HeadsStand, is_locked, IsAliveIfFree, FreeAreAlive, TwinsAreLocked, IsGone, RetiredAreGone}
use Rattle.mt_index.specs.Stands.{Stands}

-- ---- the new machine
pub opens-stands : (C feed keep : ℕ) (a : ArenaView) (log : LogView) (w : World) → C ≤ MAX_COLUMNS → IsWorld a 0 w → ((number : ℕ) → IsTaken a w number → ⊥) → ((key : List ℕ) (row : Row) → HasRow a key row → ⊥) → log ≡ record { base = 0; held_after = 0; deltas = []; reserved = 0; holders = []; capacity = feed; retention = keep; rows = 0 }
    → Stands (record { columns = C; epoch = 0; tree = a; log = log; calls = record { begun = 0; calls = [] }; views = record { built = 0; building = 0; views = [] } }) []
opens-stands C feed keep a log w few world nobody empty is = subst (λ (l : LogView). Stands (record { columns = C; epoch = 0; tree = a; log = l; calls = record { begun = 0; calls = [] }; views = record { built = 0; building = 0; views = [] } }) []) (sym is) (record {
  legal = tt;
  few = few;
  commits = refl;
  begun = refl;
  epoch = refl;
  in_order = tt;
  w = w;
  world = world;
  content = λ key bytes row. ((λ has. absurd (empty key row has)), (λ e. absurd (let clash : ◌≡◌ {A = Option Row} None (Some row) = sym (get-empty key_cmp key) ∙ e in cc)));
  keys = λ key row e. absurd (let clash : ◌≡◌ {A = Option Row} None (Some row) = sym (get-empty key_cmp key) ∙ e in cc);
  logged = refl;
  trimmed = let none : 0 ≡ min 0 (max 0 (0 - keep)) = omega arith in none;
  counted = sym (len-empty key_cmp Row);
  held = λ number. refl;
  views = record { built = refl; standing = refl; exact = tt; rises = omega arith; building = refl; few = omega arith };
  calls = omega arith;
  apart = λ one other i. elim i [ ];
  owned = λ number taken. absurd (nobody number taken);
  reserved = refl;
})

-- a new tree has no row
pub new_keys : (a : ArenaView) → ((place : Place) (row : Row) → Has (arena_seen a) place row → ⊥) → RowsAreOfKeys a
new_keys a empty = record { key_of = λ place row has. absurd (empty place row has) }

-- it has no twins
pub new_twins : (a : ArenaView) (chart : Chart) → TwinsAreLocked a chart []
new_twins a chart = record { locked = λ one other pair. elim pair [ ] }

-- nothing is retired
pub new_retired : (a : ArenaView) → IsNewTree a → (now : ℕ) (chart : Chart) → RetiredAreGone a now chart
new_retired a new now chart = record { each = subst (λ (r : List Retired). All (IsGone a now chart) r) (sym new.retired) (All-nil (IsGone a now chart)) }

-- its only head is not marked deleted or locked, and nothing is closing
pub new_heads : (a : ArenaView) → IsNewTree a → (chart : Chart) → HeadsStand a [] chart
new_heads a new chart = record {
  alive = λ number prefix head place is. elim (same_number number 0) [
    | inl e ↦ (let both : ◌≡◌ {A = Option HeadView} (Some (new_head new.root 0 false)) (Some head) = sym new.top ∙ (ap (λ (m : ℕ). head_at a.nodes m) (sym e) ∙ is) in
        let same : new_head new.root 0 false ≡ head = cc in (inl (ap (λ (h : HeadView). h.version.deleted) (sym same)), ap (λ (h : HeadView). h.version.locked) (sym same)))
    | inr apart ↦ elim (same_number number new.root.0) [
      | inl e ↦ no_head (sym (ap (option_and_then head_of) (ap (λ (m : ℕ). node_at a.nodes m) e ∙ node-from_border a.nodes new.root.0 _ new.below)) ∙ is)
      | inr other ↦ no_head (sym (ap (option_and_then head_of) (new.rest number apart other)) ∙ is)
    ]
  ];
  roots = λ number i. elim i [ ];
}
  where
    no_head : {head : HeadView} → ◌≡◌ {A = Option HeadView} None (Some head) → ((head.version.deleted ≡ false) ⊎ Among head.root.0 []) × (head.version.locked ≡ false)
    no_head e = absurd (cc)

-- nor is its only border
pub new_alive : (a : ArenaView) → IsNewTree a → (chart : Chart) → FreeAreAlive a chart
new_alive a new chart = record {
  each = λ number. elim (same_number number 0) [
    | inl e ↦ subst (λ (m : ℕ). IsAliveIfFree a chart m) (sym e) (alive_node a chart 0 (HeadIn (new_head new.root 0 false)) (node-from_head a.nodes 0 _ new.top) (inr refl))
    | inr apart ↦ elim (same_number number new.root.0) [
      | inl e ↦ subst (λ (m : ℕ). IsAliveIfFree a chart m) (sym e) (alive_node a chart new.root.0 (BorderIn (new_border 0 0 false)) (node-from_border a.nodes new.root.0 _ new.below) (inr refl))
      | inr other ↦ λ prefix stands node is. no_node (sym (new.rest number apart other) ∙ is)
    ]
  ];
}
  where
    no_node : {node : Node} → ◌≡◌ {A = Option Node} None (Some node) → is_locked node ≡ false → is_marked node ≡ false
    no_node e = absurd (cc)

-- so it is a world, if it is an index without a row
pub new_world : (a : ArenaView) → IsNewTree a → (chart : Chart) → IsIndexAt a 0 [] chart → ((place : Place) (row : Row) → Has (arena_seen a) place row → ⊥) → IsWorld a 0 (record { twins = []; closing = []; chart = chart })
new_world a new chart index empty = record { index = index; keys = new_keys a empty; heads = new_heads a new chart; alive = new_alive a new chart; twins = new_twins a chart; retired = new_retired a new 0 chart }

-- and nothing in it is locked
pub new_unlocked : (a : ArenaView) → IsNewTree a → (number : ℕ) → IsLocked (node_at a.nodes number) → ⊥
new_unlocked a new number locked = elim (same_number number 0) [
  | inl e ↦ (let here : false ≡ true = subst (λ (x : Option Node). IsLocked x) (ap (λ (m : ℕ). node_at a.nodes m) e ∙ node-from_head a.nodes 0 _ new.top) locked in cc)
  | inr apart ↦ elim (same_number number new.root.0) [
    | inl e ↦ (let here : false ≡ true = subst (λ (x : Option Node). IsLocked x) (ap (λ (m : ℕ). node_at a.nodes m) e ∙ node-from_border a.nodes new.root.0 _ new.below) locked in cc)
    | inr other ↦ subst (λ (x : Option Node). IsLocked x) (new.rest number apart other) locked
  ]
]

-- nor is a head marked deleted
new_unmarked : (a : ArenaView) → IsNewTree a → (number : ℕ) → IsSomeAnd (head_at a.nodes number) (λ h. h.version.deleted ≡ true) → ⊥
new_unmarked a new number marked = elim (same_number number 0) [
  | inl e ↦ (let here : false ≡ true = subst (λ (o : Option HeadView). IsSomeAnd o (λ h. h.version.deleted ≡ true)) (ap (λ (m : ℕ). head_at a.nodes m) e ∙ new.top) marked in cc)
  | inr apart ↦ elim (same_number number new.root.0) [
    | inl e ↦ subst (λ (o : Option HeadView). IsSomeAnd o (λ h. h.version.deleted ≡ true)) (ap (option_and_then head_of) (ap (λ (m : ℕ). node_at a.nodes m) e ∙ node-from_border a.nodes new.root.0 _ new.below)) marked
    | inr other ↦ subst (λ (o : Option HeadView). IsSomeAnd o (λ h. h.version.deleted ≡ true)) (ap (option_and_then head_of) (new.rest number apart other)) marked
  ]
]

-- and nothing in it is a spare
pub new_untaken : (a : ArenaView) (new : IsNewTree a) (now : ℕ) (w : World) → IsWorld a now w → (number : ℕ) → IsTaken a w number → ⊥
new_untaken a new now w world number (inl locked) = new_unlocked a new number locked
new_untaken a new now w world number (inr (inr marked)) = new_unmarked a new number marked.marked
new_untaken a new now w world number (inr (inl spare)) = elim (same_number number 0) [
  | inl e ↦ known w.chart number _ (ap w.chart e ∙ world.index.tree.layer_0) spare.1
  | inr apart ↦ elim (same_number number new.root.0) [
    | inl e ↦ (let at = world.index.tree.heads 0 [] 0 true world.index.tree.layer_0 in
        let both : ◌≡◌ {A = Option PlainNode} (Some (head at.node)) (Some (head (head_seen (new_head new.root 0 false)))) = sym at.is_node ∙ seen-head a 0 (new_head new.root 0 false) new.top in
        let same : at.node.root ≡ new.root.0 = cc in
        known w.chart number _ (ap w.chart (e ∙ sym same) ∙ at.root) spare.1)
    | inr other ↦ (let some : IsSome (let nothing : Option Node = None in nothing) = subst (λ (x : Option Node). IsSome x) (new.rest number apart other) spare.0 in cc)
  ]
]
  where
    known : (chart : Chart) (m : ℕ) (place : Spot) → chart m ≡ Some place → chart m ≡ None → ⊥
    known chart m place some none = (let clash : ◌≡◌ {A = Option Spot} None (Some place) = sym none ∙ some in cc)

-- what was opened broke no limit
pub no_fault : (M P : Type 0) (machine : M) (fault : Option Refusal) → MatchOption fault P (λ refusal. ◌≡◌ {A = Result M Refusal} (Ok machine) (Err refusal)) → fault ≡ None
no_fault M P machine None h = refl
no_fault M P machine (Some refusal) h = absurd (cc)
