-- What the steps of a split leave, up to its link: a spare is occupied and filled, and the half is linked.
use Rattle.std.proofs.Common.{ℕ, ◌≡◌, ◌≢◌, ◌==◌, inl, inr, cond, true, false, if◌then◌else◌, List, ◌∷◌, Option, Some, None, IsSome, refl, sym, ap, subst, ◌∙◌, arith}
use Rattle.std.proofs.lemmas.Bool.{eq-eqb}
use Rattle.std.proofs.lemmas.Bool.Decides.{eqb_tells}
use Rattle.mt_border.specs.Border.{BorderView}
use Rattle.mt_arena.specs.Node.{node_at, head_at, head_of, interior_of, border_at, border_of, Updates}
use Rattle.mt_interior.specs.Head.{HeadView}
use Rattle.std.specs.Prelude.{IsSomeAnd}
use Rattle.mt_arena.specs.Arena.{ArenaView, with_border_changed}
use Rattle.mt_arena.specs.declared.node.Node.{Node}
use Rattle.mt_arena.specs.declared.node.Node.TheVariants.{Border}
use Rattle.mt_arena.proofs.NodeLemmas.{node-from_border}
use Rattle.mt_chart.specs.Tree.{Among, first, later}
use Rattle.mt_chart.proofs.Basics.{same_number}
use Rattle.mt_chart.proofs.HeldNodes.{evolves_same}
use Rattle.mt_chart.specs.Chart.{on, at_level, top, Spot, spot, Standing, Chart, Changes}
use Rattle.std.specs.Option.{option_and_then}
use Rattle.mt_chart.specs.Steps.{SameContent}
use Rattle.mt_chart.proofs.Entries.{among_cases}
use Rattle.mt_tree.specs.Seen.{arena_seen}
use Rattle.mt_tree.specs.Fields.{BorderChanges}
use Rattle.mt_tree.specs.Keeping.{KeepsTree, KeepsUnknown, IsUnknown, IsOnIn}
use Rattle.mt_tree.specs.BorderSteps.{LinksHalfAt}
use Rattle.mt_steps.specs.World.{World, IsWorld, HeadsStand, FreeAreAlive, IsLocked, IsTaken, NotAmong, Goes}
use Rattle.mt_steps.proofs.BorderLemmas.{goes_border, locked_may, alive_changed, unknown_kept, no_root, roots_kept, now_named, heads_changed, twins_changed, twins_beside, no_interior, retired_kept, keys_same, others_named}
use Rattle.mt_steps.proofs.AgingLemmas.{unknown_ages, on_as, age_beside, age_one}
use Rattle.mt_steps.proofs.FrameLemmas.{is_among, taken_back, retired_same}
use Rattle.mt_steps.proofs.AliveLemmas.{alive_node, alive_unknown, alive_there, alive_placed}

pub eqb-ne : (a b : ℕ) → a ≢ b → (a == b) ≡ false
eqb-ne a b ne = elim (eqb_tells a b) [ inl p ↦ absurd (ne p.1) | inr p ↦ p.0 ]

-- ---- a spare
-- a number that names nothing is nobody's
pub vacant_free : (a : ArenaView) (w : World) (number other : ℕ) → node_at a.nodes number ≡ None → IsTaken a w other → other ≢ number
vacant_free a w number other vacant (inl locked) e = subst (λ (x : Option Node). IsLocked x) (ap (λ (m : ℕ). node_at a.nodes m) e ∙ vacant) locked
vacant_free a w number other vacant (inr (inr head)) e =
    subst (λ (o : Option HeadView). IsSomeAnd o (λ h. h.version.deleted ≡ true)) (ap (λ (m : ℕ). head_at a.nodes m) e ∙ ap (option_and_then head_of) vacant) head.marked
vacant_free a w number other vacant (inr (inl spare)) e =
    let some : IsSome (let nothing : Option Node = None in nothing) = subst (λ (x : Option Node). IsSome x) (ap (λ (m : ℕ). node_at a.nodes m) e ∙ vacant) spare.0 in cc

not_known : {x : Spot} → ◌≡◌ {A = Option Spot} None (Some x) → ⊥
not_known e = cc

no_top : {level low other_low : ℕ} {prefix other : List ℕ} {standing stands : Standing} → ◌≡◌ {A = Option Spot} (Some (spot (at_level level) prefix low standing)) (Some (spot top other other_low stands)) → ⊥
no_top e = cc

-- what the chart doesn't know is no head of the tree, and what is not closing may be changed
pub heads_occupied : (a after : ArenaView) (w : World) (number : ℕ) (node : Option Node) → Updates a.nodes after.nodes number node → w.chart number ≡ None → NotAmong number w.closing → HeadsStand a w.closing w.chart → HeadsStand after w.closing w.chart
heads_occupied a after w number node updates unknown free heads = record {
  alive = λ other prefix head place is. elim (same_number other number) [
    | inl e ↦ absurd (not_known (sym unknown ∙ (ap w.chart (sym e) ∙ place)))
    | inr differ ↦ heads.alive other prefix head place (sym (ap (option_and_then head_of) (updates.others other differ)) ∙ is)
  ];
  roots = roots_kept a after w.closing number (λ i. absurd (free i)) updates.others heads.roots;
}

-- what names nothing is not closing
pub vacant_root : (a : ArenaView) (w : World) (number : ℕ) → node_at a.nodes number ≡ None → HeadsStand a w.closing w.chart → NotAmong number w.closing
vacant_root a w number vacant heads = no_root a w.closing w.chart number (ap (option_and_then border_of) vacant) heads

-- once a spare is occupied, the call owns it too; it is taken, since the chart doesn't know it
pub goes_occupied : (now : ℕ) (a after : ArenaView) (w : World) (number : ℕ) (node : Node) (owned : List ℕ) (Then : World → Type 0) → node_at a.nodes number ≡ None → Updates a.nodes after.nodes number (Some node) → after.retired ≡ a.retired → IsUnknown a number → KeepsTree a after
    → IsWorld a now w → Then w → Goes now a after w owned (number ∷ owned) Then
goes_occupied now a after w number node owned Then vacant updates retired unknown keeps world truth =
    let kept = keeps.keeps now w.twins w.chart world.index in
    record {
      next = w;
      world = record { index = kept.index; keys = keys_same a after kept.content world.keys; heads = heads_occupied a after w number (Some node) updates (unknown.unknown now w.twins w.chart world.index) (vacant_root a w number vacant world.heads) world.heads; alive = alive_there a after w.chart number (alive_unknown after w.chart number (unknown.unknown now w.twins w.chart world.index)) updates.others world.alive; twins = twins_beside a after w.chart w.chart w.twins number (evolves_same 0 w.chart) (no_interior a w.chart number (ap (option_and_then interior_of) vacant)) updates.others world.twins; retired = retired_kept a after now w.chart w.chart number (evolves_same 0 w.chart) (unknown_kept a now w.chart number (unknown.unknown now w.twins w.chart world.index) world.retired) updates.others retired world.retired };
      evolves = kept.evolves;
      leaves = λ other taken apart.
          let differ = vacant_free a w number other vacant taken in
          (record { node = updates.others other differ; spot = refl; twins = λ one other here. ((λ h. h), (λ h. h)); closing = λ i. i; retired = retired_same a.retired after.retired other retired }, λ i. elim (among_cases other number owned i) [ inl e ↦ differ e | inr j ↦ apart j ]);
      takes = λ other taken. elim (same_number other number) [
        | inl e ↦ inl (subst (λ (m : ℕ). Among other (m ∷ owned)) e first)
        | inr differ ↦ elim (is_among other owned) [ inl i ↦ inl (later i) | inr out ↦ inr (taken_back a after w w other (record { node = updates.others other differ; spot = refl; twins = λ one other here. ((λ h. h), (λ h. h)); closing = λ i. i; retired = retired_same a.retired after.retired other retired }) taken, out) ]
      ];
      spots = λ number out apart. refl;
      age = age_beside number (ap (option_and_then border_of) vacant) updates.others;
      true = truth;
    }

pub spare_taken : (a after : ArenaView) (w : World) (now number : ℕ) (node : Node) → Updates a.nodes after.nodes number (Some node) → IsUnknown a number → IsWorld a now w → IsTaken after w number
spare_taken a after w now number node updates unknown world = inr (inl (subst (λ (x : Option Node). IsSome x) (sym updates.changed) refl, unknown.unknown now w.twins w.chart world.index))

-- once a spare border is filled
pub goes_filled : (now : ℕ) (a : ArenaView) (w : World) (n : ℕ) (b : BorderView) (change : BorderView → BorderView) (owned : List ℕ) (Then : World → Type 0) → border_at a.nodes n ≡ Some b → KeepsUnknown a (with_border_changed a n change) n
    → Among n owned → w.chart n ≡ None → (Among n w.closing → (change b).version.locked ≡ true) → IsWorld a now w → Then w → Goes now a (with_border_changed a n change) w owned owned Then
goes_filled now a w n b change owned Then named keeps mine unknown locked world truth =
    let kept = keeps.keeps now w.twins w.chart world.index unknown in
    goes_border a n b change named now w owned owned Then world (unknown_ages w w.chart n b (change b) unknown) kept.index (keys_same a (with_border_changed a n change) kept.content world.keys)
    (λ other taken apart e. apart (subst (λ (m : ℕ). Among m owned) (sym e) mine)) (λ other i. inl i) (λ other ne i. i) (λ locked. mine) (unknown_kept a now w.chart n unknown world.retired, locked, alive_unknown (with_border_changed a n change) w.chart n unknown) truth

-- ---- the link
-- the chart with one more number
abbrev pub with_spot : Chart → ℕ → Spot → Chart
with_spot chart at place number = if number == at then Some place else chart number

pub spot_changes : (chart : Chart) (at : ℕ) (place : Spot) → Changes chart (with_spot chart at place) at (Some place)
spot_changes chart at place = record {
  now = ap (λ b. cond b (Some place) (chart at)) (eq-eqb at at refl);
  rest = λ other ne. ap (λ b. cond b (Some place) (chart other)) (eqb-ne other at ne);
}

-- a half that comes to be known is no head
heads_linked : {closing : List ℕ} (a : ArenaView) (chart next : Chart) (half : ℕ) (prefix : List ℕ) (low : ℕ) → Changes chart next half (Some (spot (at_level 0) prefix low (on false))) → HeadsStand a closing chart → HeadsStand a closing next
heads_linked a chart next half prefix low changes heads = record {
  alive = λ number other head place is. elim (same_number number half) [
    | inl e ↦ absurd (no_top (sym changes.now ∙ (ap next (sym e) ∙ place)))
    | inr differ ↦ heads.alive number other head (sym (changes.rest number differ) ∙ place) is
  ];
  roots = heads.roots;
}

-- the border and its half are locked still, and other borders and interiors stand as they stood
alive_linked : (a : ArenaView) (n half : ℕ) (b upper : BorderView) (change : BorderView → BorderView) (chart next : Chart) (place : Spot) → border_at a.nodes n ≡ Some b → border_at a.nodes half ≡ Some upper → (change b).version.locked ≡ true → upper.version.locked ≡ true → Changes chart next half (Some place)
    → FreeAreAlive a chart → FreeAreAlive (with_border_changed a n change) next
alive_linked a n half b upper change chart next place named filled still half_locked changes alive =
    alive_there a (with_border_changed a n change) next n (alive_changed a n b change named next (inl still)) (others_named a n b change named)
    (alive_placed a chart next half (Some place) changes (alive_node a next half (Border upper) (node-from_border a.nodes half upper filled) (inl half_locked)) alive)

-- Once the half is linked, the tree is an index in the world in which the half is known. The call owns the border and the half, so no other
-- call's number changes its node or its place. What is to be true of the call is asked of that world.
pub goes_linked : (now : ℕ) (a : ArenaView) (w : World) (n half : ℕ) (b upper : BorderView) (prefix : List ℕ) (change : BorderView → BorderView) (owned : List ℕ) (Then : World → Type 0)
    → border_at a.nodes n ≡ Some b → border_at a.nodes half ≡ Some upper → LinksHalfAt a (with_border_changed a n change) n half
    → IsOnIn w.chart n prefix → w.chart half ≡ None → Among n owned → Among half owned → b.version.locked ≡ true → (change b).version.locked ≡ true → upper.version.locked ≡ true → NotAmong n w.closing → BorderChanges None b (change b) → IsWorld a now w
    → Then (record { twins = w.twins; closing = w.closing; chart = with_spot w.chart half (spot (at_level 0) prefix upper.low (on false)) })
    → Goes now a (with_border_changed a n change) w owned owned Then × SameContent (arena_seen a) (arena_seen (with_border_changed a n change))
goes_linked now a w n half b upper prefix change owned Then named filled links stands unknown mine spare locked still half_locked opened ages world truth =
    let may = locked_may a n b change named now w world locked opened (inl still) in
    let place : Spot = spot (at_level 0) prefix upper.low (on false) in
    let changes = spot_changes w.chart half place in
    let kept = (links.links upper filled).keeps now w.twins w.chart (with_spot w.chart half place) world.index (record {
      prefix = prefix;
      stands = stands;
      unknown = unknown;
      charted = changes;
      head_alive = λ number head place is names. elim (world.heads.alive number prefix head place is).0 [
        | inl alive ↦ alive
        | inr i ↦ absurd (opened (subst (λ (m : ℕ). Among m w.closing) names i))
      ];
    }) in (
      record {
        next = record { twins = w.twins; closing = w.closing; chart = with_spot w.chart half place };
        world = record { index = kept.index; keys = keys_same a (with_border_changed a n change) kept.content world.keys; heads = heads_linked (with_border_changed a n change) w.chart _ half prefix upper.low changes (heads_changed a n b change named w.chart may.1 world.heads); alive = alive_linked a n half b upper change w.chart (with_spot w.chart half place) place named filled still half_locked changes world.alive; twins = twins_changed a n b change named w.chart (with_spot w.chart half place) w.twins (kept.evolves 0 (omega arith)) world.twins; retired = retired_kept a (with_border_changed a n change) now w.chart (with_spot w.chart half place) n (kept.evolves 0 (omega arith)) may.0 (others_named a n b change named) refl world.retired };
        evolves = kept.evolves;
        leaves = λ other taken apart. (
          record {
            node = others_named a n b change named other (λ e. apart (subst (λ (m : ℕ). Among m owned) (sym e) mine));
            spot = changes.rest other (λ e. apart (subst (λ (m : ℕ). Among m owned) (sym e) spare));
            twins = λ one other here. ((λ h. h), (λ h. h));
            closing = λ i. i;
            retired = ((λ h. h), (λ h. h));
          },
          apart,
        );
        takes = λ other taken. elim (is_among other owned) [
          | inl i ↦ inl i
          | inr apart ↦ inr (
            taken_back a (with_border_changed a n change) w (record { twins = w.twins; closing = w.closing; chart = with_spot w.chart half place }) other (record {
              node = others_named a n b change named other (λ e. apart (subst (λ (m : ℕ). Among m owned) (sym e) mine));
              spot = changes.rest other (λ e. apart (subst (λ (m : ℕ). Among m owned) (sym e) spare));
              twins = λ one other here. ((λ h. h), (λ h. h));
              closing = λ i. i;
              retired = ((λ h. h), (λ h. h));
            }) taken,
            apart,
          )
        ];
        spots = λ number out apart. changes.rest number (λ e. out (subst (λ (m : ℕ). Among m owned) (sym e) spare));
        age = age_one n b (change b) named (now_named a n b change named) (λ known. (ages, inl (on_as stands (changes.rest n (λ e. not_known (sym unknown ∙ (ap w.chart (sym e) ∙ stands.place))))))) (others_named a n b change named);
        true = truth;
      },
      kept.content,
    )
