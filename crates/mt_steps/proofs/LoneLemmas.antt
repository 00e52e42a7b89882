-- What no call has taken is not locked, and is not marked deleted if it is on.
use Rattle.std.proofs.Common.{ℕ, ◌≡◌, ◌⊎◌, inl, inr, Option, Some, Bool, true, false, refl, sym, ap, subst, ◌∙◌}
use Rattle.std.specs.Prelude.{IsSomeAnd}
use Rattle.std.specs.Option.{option_and_then}
use Rattle.mt_interior.specs.Head.{HeadView}
use Rattle.mt_arena.specs.Node.{node_at, head_at, head_of, interior_of, border_of}
use Rattle.mt_arena.specs.Arena.{ArenaView}
use Rattle.mt_arena.specs.declared.node.Node.{Node}
use Rattle.mt_arena.specs.declared.node.Node.TheVariants.{Head, Interior, Border}
use Rattle.mt_chart.specs.Tree.{PlainNode, HeadNode, head, interior, border}
use Rattle.mt_chart.specs.Chart.{Role, top, at_level, spot, on}
use Rattle.mt_chart.specs.Walk.{IsOn}
use Rattle.mt_tree.specs.Seen.{arena_seen, border_seen, interior_seen}
use Rattle.mt_tree.specs.Descent.{is_marked}
use Rattle.mt_tree.proofs.SeenLemmas.{seen-interior, seen-border}
use Rattle.mt_steps.specs.World.{World, IsWorld, IsLocked, IsTaken, is_locked}
use Rattle.mt_steps.proofs.BorderLemmas.{on_kept}

true_or_false : (b : Bool) → (b ≡ true) ⊎ (b ≡ false)
true_or_false true = inl refl
true_or_false false = inr refl

module _ (a : ArenaView) (now : ℕ) (w : World) (world : IsWorld a now w) (number : ℕ) (free : IsTaken a w number → ⊥) where
  -- WHAT IS NOT TAKEN is not locked
  pub untaken_unlocked : (node : Node) → node_at a.nodes number ≡ Some node → is_locked node ≡ false
  untaken_unlocked node named = elim (true_or_false (is_locked node)) [
    | inl locked ↦ absurd (free (inl (subst (λ (x : Option Node). IsLocked x) (sym named) locked)))
    | inr is ↦ is
  ]

  -- a head that is on and marked deleted is taken
  head_alive : (h : HeadView) → IsOn w.chart number → head_at a.nodes number ≡ Some h → h.version.deleted ≡ false
  head_alive h stands named = elim (true_or_false h.version.deleted) [
    | inl marked ↦ absurd (free (inr (inr (record {
      marked = subst (λ (o : Option HeadView). IsSomeAnd o (λ x. x.version.deleted ≡ true)) (sym named) marked;
      kept = on_kept a now w.chart number stands.role stands.prefix stands.low stands.posted stands.place world.retired;
    }))))
    | inr is ↦ is
  ]

  -- an interior or border that is on stands as no head
  inner_alive : IsOn w.chart number → (node : Node) (seen : PlainNode) → node_at a.nodes number ≡ Some node → arena_seen a number ≡ Some seen → ((h : HeadNode) → seen ≡ head h → ⊥) → is_marked node ≡ false
  inner_alive stands node seen named there inner = go stands.role stands.place
    where
      go : (role : Role) → w.chart number ≡ Some (spot role stands.prefix stands.low (on stands.posted)) → is_marked node ≡ false
      go (at_level level) place = world.alive.each number stands.prefix (record { level = level; low = stands.low; posted = stands.posted; place = place }) node named (untaken_unlocked node named)
      go top place =
          let h = world.index.tree.heads number stands.prefix stands.low stands.posted place in
          let both : ◌≡◌ {A = Option PlainNode} (Some seen) (Some (head h.node)) = sym there ∙ h.is_node in
          absurd (inner h.node (cc))

  -- WHAT IS ON, and not taken, is not marked deleted
  pub untaken_alive : IsOn w.chart number → (node : Node) → node_at a.nodes number ≡ Some node → is_marked node ≡ false
  untaken_alive stands (Head h) named = head_alive h stands (ap (option_and_then head_of) named)
  untaken_alive stands (Interior i) named = inner_alive stands (Interior i) (interior (interior_seen i)) named (seen-interior a number i (ap (option_and_then interior_of) named)) (λ h e. (let clash : interior (interior_seen i) ≡ head h = e in cc))
  untaken_alive stands (Border b) named = inner_alive stands (Border b) (border (border_seen b)) named (seen-border a number b (ap (option_and_then border_of) named)) (λ h e. (let clash : border (border_seen b) ≡ head h = e in cc))
