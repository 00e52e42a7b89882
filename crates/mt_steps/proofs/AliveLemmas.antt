-- What is on, and not locked, is not marked deleted: how a step keeps it.
use Rattle.std.proofs.Common.{ℕ, ◌≡◌, ◌≢◌, ◌⊎◌, inl, inr, List, Option, Some, None, Bool, true, false, refl, sym, ap, subst, ◌∙◌}
use Rattle.mt_arena.specs.Node.{node_at}
use Rattle.mt_arena.specs.Arena.{ArenaView}
use Rattle.mt_arena.specs.declared.node.Node.{Node}
use Rattle.mt_chart.specs.Chart.{Role, top, at_level, Standing, on, gone, Chart, Spot, spot, Changes}
use Rattle.mt_chart.proofs.Basics.{same_number}
use Rattle.mt_tree.specs.InteriorSteps.{IsInLayer}
use Rattle.mt_tree.specs.Descent.{is_marked}
use Rattle.mt_steps.specs.World.{is_locked, IsAliveIfFree, FreeAreAlive}

-- ---- of one number
-- a node that is locked, or not marked deleted
pub alive_node : (a : ArenaView) (chart : Chart) (number : ℕ) (node : Node) → node_at a.nodes number ≡ Some node → (is_locked node ≡ true) ⊎ (is_marked node ≡ false) → IsAliveIfFree a chart number
alive_node a chart number node named held prefix stands other is free =
    let both : ◌≡◌ {A = Option Node} (Some node) (Some other) = sym named ∙ is in
    let same : node ≡ other = cc in
    elim held [
      | inl locked ↦ absurd (let clash : true ≡ false = sym locked ∙ (ap is_locked same ∙ free) in cc)
      | inr alive ↦ sym (ap is_marked same) ∙ alive
    ]

-- what the chart doesn't know, or what is gone, is not on
pub alive_unknown : (a : ArenaView) (chart : Chart) (number : ℕ) → chart number ≡ None → IsAliveIfFree a chart number
alive_unknown a chart number unknown prefix stands node is free = absurd (not_on (sym unknown ∙ stands.place))
  where
    not_on : {place : Spot} → ◌≡◌ {A = Option Spot} None (Some place) → ⊥
    not_on e = cc

pub alive_gone : (a : ArenaView) (chart : Chart) (number : ℕ) (role : Role) (prefix : List ℕ) (low epoch : ℕ) → chart number ≡ Some (spot role prefix low (gone epoch)) → IsAliveIfFree a chart number
alive_gone a chart number role prefix low epoch place layer stands node is free = absurd (not_on (sym place ∙ stands.place))
  where
    not_on : {level least : ℕ} {other : List ℕ} {posted : Bool} → ◌≡◌ {A = Option Spot} (Some (spot role prefix low (gone epoch))) (Some (spot (at_level level) other least (on posted))) → ⊥
    not_on e = cc

-- nor is a head one of a layer's borders or interiors
pub alive_head : (a : ArenaView) (chart : Chart) (number : ℕ) (prefix : List ℕ) (low : ℕ) (standing : Standing) → chart number ≡ Some (spot top prefix low standing) → IsAliveIfFree a chart number
alive_head a chart number prefix low standing place layer stands node is free = absurd (no_layer (sym place ∙ stands.place))
  where
    no_layer : {level least : ℕ} {other : List ℕ} {posted : Bool} → ◌≡◌ {A = Option Spot} (Some (spot top prefix low standing)) (Some (spot (at_level level) other least (on posted))) → ⊥
    no_layer e = cc

-- ---- of the tree
-- what is on then was on before
abbrev pub WasOn : Chart → Chart → ℕ → Type 0
WasOn chart next number = (prefix : List ℕ) → IsInLayer next number prefix → IsInLayer chart number prefix

pub same_on : (chart next : Chart) (number : ℕ) → next number ≡ chart number → WasOn chart next number
same_on chart next number same prefix stands = record { level = stands.level; low = stands.low; posted = stands.posted; place = sym same ∙ stands.place }

-- what is named and stands as it was
pub alive_same : (a after : ArenaView) (chart next : Chart) (number : ℕ) → node_at after.nodes number ≡ node_at a.nodes number → WasOn chart next number → IsAliveIfFree a chart number → IsAliveIfFree after next number
alive_same a after chart next number same was alive prefix stands node is free = alive prefix (was prefix stands) node (sym same ∙ is) free

-- one number comes to name another node, and others are on only if they were
pub alive_beside : (a after : ArenaView) (chart next : Chart) (n : ℕ) → IsAliveIfFree after next n → ((other : ℕ) → other ≢ n → node_at after.nodes other ≡ node_at a.nodes other) → ((other : ℕ) → other ≢ n → WasOn chart next other) → FreeAreAlive a chart → FreeAreAlive after next
alive_beside a after chart next n now others were alive = record {
  each = λ number. elim (same_number number n) [
    | inl e ↦ subst (λ (m : ℕ). IsAliveIfFree after next m) (sym e) now
    | inr differ ↦ alive_same a after chart next number (others number differ) (were number differ) (alive.each number)
  ];
}

-- the same, if all places stay
pub alive_there : (a after : ArenaView) (chart : Chart) (n : ℕ) → IsAliveIfFree after chart n → ((other : ℕ) → other ≢ n → node_at after.nodes other ≡ node_at a.nodes other) → FreeAreAlive a chart → FreeAreAlive after chart
alive_there a after chart n now others alive = alive_beside a after chart chart n now others (λ other differ prefix stands. stands) alive

-- one number comes to another place, and all nodes stay
pub alive_placed : (a : ArenaView) (chart next : Chart) (at : ℕ) (place : Option Spot) → Changes chart next at place → IsAliveIfFree a next at → FreeAreAlive a chart → FreeAreAlive a next
alive_placed a chart next at place changes now alive = alive_beside a a chart next at now (λ other differ. refl) (λ other differ. same_on chart next other (changes.rest other differ)) alive
