-- What a step leaves that retires a node, which is gone.
use Rattle.std.proofs.Common.{ℕ, ◌≡◌, ◌≢◌, ◌↔◌, inl, inr, List, [], ◌∷◌, ◌++◌, Option, Some, None, refl, sym, ap, subst, ◌∙◌, arith}
use Rattle.std.proofs.lemmas.List.Elements.{All-push, All-pop, All-weaker}
use Rattle.mt_types.specs.declared.numbers.NodeNo.{NodeNo}
use Rattle.mt_arena.specs.Node.{node_at}
use Rattle.mt_arena.specs.Arena.{ArenaView, with_retired}
use Rattle.mt_arena.specs.declared.retired.Retired.{Retired}
use Rattle.mt_chart.specs.Tree.{Among, first, later}
use Rattle.mt_chart.specs.Chart.{Role, gone, Spot, spot}
use Rattle.mt_chart.specs.Steps.{Keeps, SameContent}
use Rattle.mt_chart.proofs.Basics.{same_number}
use Rattle.mt_chart.proofs.Entries.{among_cases}
use Rattle.mt_chart.proofs.HeldNodes.{evolves_same}
use Rattle.mt_tree.specs.Seen.{arena_seen}
use Rattle.mt_tree.specs.Keeping.{KeepsTree}
use Rattle.mt_steps.specs.World.{World, IsWorld, HeadsStand, IsLockedInterior, TwinsAreLocked, IsGone, RetiredAreGone, NotRetired, IsLocked, IsTaken, IsSame, NotAmong, NodesAge, Goes}
use Rattle.mt_steps.proofs.FrameLemmas.{is_among, taken_back}
use Rattle.mt_steps.proofs.AliveLemmas.{alive_gone, alive_there}
use Rattle.mt_steps.proofs.BorderLemmas.{keys_same, retired_kept}
use Rattle.mt_steps.proofs.LayerLemmas.{content_twice}

-- what was not retired, and is not what is retired now, is not retired then; and the other way round
not_retired_then : (retired : List Retired) (node : Retired) (number : ℕ) → node.node.0 ≢ number → NotRetired (retired ++ node ∷ []) number ↔ NotRetired retired number
not_retired_then retired node number differ = (
  (λ h. (All-pop (λ (r : Retired). r.node.0 ≢ number) (retired ++ node ∷ []) retired (Some node) refl h).0),
  (λ h. All-push (λ (r : Retired). r.node.0 ≢ number) retired node h differ),
)

-- what is retired now is retired
retired_now : (retired : List Retired) (node : Retired) → NotRetired (retired ++ node ∷ []) node.node.0 → ⊥
retired_now retired node h = (All-pop (λ (r : Retired). r.node.0 ≢ node.node.0) (retired ++ node ∷ []) retired (Some node) refl h).1 refl

-- The node of a number that the call owns changes, is gone and no longer locked, and is retired now. The call owns it no more.
module _ (now : ℕ) (a mid : ArenaView) (w : World) (number : NodeNo) (rest : List ℕ) (Then : World → Type 0) (role : Role) (prefix : List ℕ) (low epoch : ℕ) (world : IsWorld a now w) (kept : Keeps now w.twins (arena_seen a) (arena_seen mid) w.chart w.chart) (same : mid.retired ≡ a.retired)
    (others : (other : ℕ) → other ≢ number.0 → node_at mid.nodes other ≡ node_at a.nodes other) (place : w.chart number.0 ≡ Some (spot role prefix low (gone epoch))) (apart : NotRetired a.retired number.0) (unlocked : IsLocked (node_at mid.nodes number.0) → ⊥)
    (age : NodesAge None a mid w w) (heads : HeadsStand mid w.closing w.chart) (twins : TwinsAreLocked mid w.chart w.twins) (keeps : KeepsTree mid (with_retired mid number now)) where
  abbrev after : ArenaView
  after = with_retired mid number now

  abbrev node : Retired
  node = record { node = number; epoch = now }

  again : Keeps now w.twins (arena_seen mid) (arena_seen after) w.chart w.chart
  again = keeps.keeps now w.twins w.chart kept.index

  content : SameContent (arena_seen a) (arena_seen after)
  content = content_twice a mid after kept.content again.content

  list_is : after.retired ≡ a.retired ++ node ∷ []
  list_is = ap (λ (l : List Retired). l ++ node ∷ []) same

  retired_same_but : (other : ℕ) → other ≢ number.0 → NotRetired after.retired other ↔ NotRetired a.retired other
  retired_same_but other differ = subst (λ (l : List Retired). NotRetired l other ↔ NotRetired a.retired other) (sym list_is) (not_retired_then a.retired node other (λ e. differ (sym e)))

  -- the nodes are those that they were before
  is_gone : (r : Retired) → IsGone mid now w.chart r → IsGone after now w.chart r
  is_gone r g = record { role = g.role; prefix = g.prefix; low = g.low; epoch = g.epoch; place = g.place; before = g.before; dated = g.dated; unlocked = g.unlocked }

  still_locked : (other : ℕ) → IsLockedInterior mid w.chart other → IsLockedInterior after w.chart other
  still_locked other l = record { known = l.known; locked = l.locked }

  retired_are : RetiredAreGone after now w.chart
  retired_are = record {
    each = All-push (IsGone after now w.chart) mid.retired node
        (All-weaker (IsGone mid now w.chart) (IsGone after now w.chart) is_gone mid.retired (retired_kept a mid now w.chart w.chart number.0 (evolves_same 0 w.chart) apart others same world.retired).each)
        (record { role = role; prefix = prefix; low = low; epoch = epoch; place = place; before = world.index.dated number.0 role prefix low epoch place; dated = omega arith; unlocked = unlocked });
  }

  nobody : IsTaken after w number.0 → ⊥
  nobody (inl locked) = unlocked locked
  nobody (inr (inl spare)) = (let clash : ◌≡◌ {A = Option Spot} None (Some (spot role prefix low (gone epoch))) = sym spare.1 ∙ place in cc)
  nobody (inr (inr m)) = retired_now mid.retired node m.kept

  is_same : (other : ℕ) → other ≢ number.0 → IsSame a after w w other
  is_same other differ = record { node = others other differ; spot = refl; twins = λ one two here. ((λ h. h), (λ h. h)); closing = λ i. i; retired = retired_same_but other differ }

  pub goes_retired : NotAmong number.0 rest → Then w → Goes now a after w (number.0 ∷ rest) rest Then × SameContent (arena_seen a) (arena_seen after)
  goes_retired once truth = (
    record {
      next = w;
      world = record { index = again.index; keys = keys_same a after content world.keys; heads = record { alive = heads.alive; roots = heads.roots }; alive = record { each = (alive_there a mid w.chart number.0 (alive_gone mid w.chart number.0 role prefix low epoch place) others world.alive).each }; twins = record { locked = λ one other pair. let both = twins.locked one other pair in (still_locked one both.0, still_locked other both.1) }; retired = retired_are };
      evolves = λ begun before. evolves_same begun w.chart;
      leaves = λ other taken out. (is_same other (λ e. out (subst (λ (m : ℕ). Among m (number.0 ∷ rest)) (sym e) first)), λ i. out (later i));
      takes = λ other taken. elim (same_number other number.0) [
        | inl e ↦ absurd (nobody (subst (λ (m : ℕ). IsTaken after w m) e taken))
        | inr differ ↦ elim (is_among other rest) [
          | inl i ↦ inl i
          | inr out ↦ inr (taken_back a after w w other (is_same other differ) taken, λ i. elim (among_cases other number.0 rest i) [ inl e ↦ differ e | inr j ↦ out j ])
        ]
      ];
      spots = λ number out apart. refl;
      age = record {
        borders = record { ages = age.borders.ages; rights = age.borders.rights };
        one = record { number = age.one.number; border = age.one.border; others = age.one.others };
      };
      true = truth;
    },
    content,
  )
