-- What the steps that make a new layer leave: two spares, a spare given back or changed, and the link to the layer.
use Rattle.std.proofs.Common.{ℕ, ◌≡◌, ◌≢◌, inl, inr, true, false, List, [], ◌∷◌, slice_get, Option, Some, None, IsSome, refl, sym, ap, subst, ◌∙◌, arith}
use Rattle.std.specs.Option.{option_and_then}
use Rattle.std.specs.Prelude.{IsSomeAnd}
use Rattle.mt_types.specs.declared.numbers.NodeNo.{NodeNo}
use Rattle.mt_border.specs.Border.{BorderView}
use Rattle.mt_border.specs.declared.entry.Entry.{Entry}
use Rattle.mt_interior.specs.Head.{HeadView, new_head}
use Rattle.mt_arena.specs.Node.{node_at, head_at, head_of, interior_of, border_at, border_of, Updates}
use Rattle.mt_arena.specs.declared.retired.Retired.{Retired}
use Rattle.mt_arena.specs.Arena.{ArenaView, with_border_changed}
use Rattle.mt_arena.specs.declared.node.Node.{Node}
use Rattle.mt_arena.specs.declared.node.Node.TheVariants.{Border}
use Rattle.mt_arena.proofs.NodeLemmas.{node-from_head, node-from_border}
use Rattle.mt_chart.specs.Tree.{Among, first, later}
use Rattle.mt_chart.specs.Chart.{on, at_level, top, Spot, spot, Chart}
use Rattle.mt_chart.specs.Steps.{SameContent}
use Rattle.mt_chart.proofs.Basics.{same_number}
use Rattle.mt_chart.proofs.HeldNodes.{evolves_same, evolves_again}
use Rattle.mt_tree.specs.Seen.{arena_seen}
use Rattle.mt_tree.specs.Fields.{BorderChanges}
use Rattle.mt_tree.specs.Keeping.{KeepsTree, KeepsUnknown, IsUnknown, IsOnIn}
use Rattle.mt_tree.specs.BorderSteps.{MakesLayerAt}
use Rattle.mt_steps.specs.World.{World, IsWorld, HeadsStand, IsLockedInterior, IsAliveIfFree, FreeAreAlive, NotRetired, IsLocked, IsTaken, NotAmong, Goes}
use Rattle.mt_steps.proofs.AgingLemmas.{on_as, age_known, age_of_unknown, age_one}
use Rattle.mt_steps.proofs.FrameLemmas.{is_among, taken_back, retired_same}
use Rattle.mt_steps.proofs.AliveLemmas.{alive_node, alive_unknown, alive_head, alive_there, alive_placed, same_on}
use Rattle.mt_steps.proofs.BorderLemmas.{keys_same, heads_changed, twins_changed, twins_beside, no_interior, retired_kept, unknown_kept, MayChange, now_named, others_named}
use Rattle.mt_steps.proofs.SplitLemmas.{vacant_free, vacant_root, heads_occupied, with_spot, spot_changes}

-- ---- two spares
-- what the chart doesn't know is no locked interior of the tree
unknown_free : (a : ArenaView) (chart : Chart) (number : ℕ) → chart number ≡ None → IsLockedInterior a chart number → ⊥
unknown_free a chart number unknown locked = (let some : IsSome (let nothing : Option Spot = None in nothing) = subst (λ (x : Option Spot). IsSome x) unknown locked.known in cc)

-- a number that it knows is another
unknown_apart : (chart : Chart) {one number : ℕ} → chart one ≡ None → IsSome (chart number) → number ≢ one
unknown_apart chart unknown known e = (let clash : false ≡ true = subst (λ (x : Option Spot). IsSome x) (ap chart e ∙ unknown) known in cc)

-- the same rows, by two changes
pub content_twice : (a mid after : ArenaView) → SameContent (arena_seen a) (arena_seen mid) → SameContent (arena_seen mid) (arena_seen after) → SameContent (arena_seen a) (arena_seen after)
content_twice a mid after one two = λ place row. ((λ has. (one place row).0 ((two place row).0 has)), (λ has. (two place row).1 ((one place row).1 has)))

module _ (now : ℕ) (a mid after : ArenaView) (w : World) (one two : ℕ) (node_one node_two : Node) (owned : List ℕ) (Then : World → Type 0) (vacant_one : node_at a.nodes one ≡ None) (updates_one : Updates a.nodes mid.nodes one (Some node_one)) (retired_one : mid.retired ≡ a.retired) (unknown_one : IsUnknown a one)
    (keeps_one : KeepsTree a mid) (vacant_two : node_at mid.nodes two ≡ None) (updates_two : Updates mid.nodes after.nodes two (Some node_two)) (retired_two : after.retired ≡ mid.retired) (unknown_two : IsUnknown mid two) (keeps_two : KeepsTree mid after) (world : IsWorld a now w) where
  pub two_apart : one ≢ two
  two_apart e = (let clash : ◌≡◌ {A = Option Node} None (Some node_one) = sym vacant_two ∙ (ap (λ (m : ℕ). node_at mid.nodes m) (sym e) ∙ updates_one.changed) in cc)

  pub others_same : (other : ℕ) → other ≢ one → other ≢ two → node_at after.nodes other ≡ node_at a.nodes other
  others_same other ne_one ne_two = updates_two.others other ne_two ∙ updates_one.others other ne_one

  vacant_first : node_at a.nodes two ≡ None
  vacant_first = sym (updates_one.others two (λ e. two_apart (sym e))) ∙ vacant_two

  -- once two spares are occupied, the call owns both
  pub goes_two : Then w → Goes now a after w owned (two ∷ one ∷ owned) Then × SameContent (arena_seen a) (arena_seen after)
  goes_two truth =
      let kept = keeps_one.keeps now w.twins w.chart world.index in
      let again = keeps_two.keeps now w.twins w.chart kept.index in
      let content = content_twice a mid after kept.content again.content in (
        record {
          next = w;
          world = record {
            index = again.index;
            keys = keys_same a after content world.keys;
            heads = heads_occupied mid after w two (Some node_two) updates_two (unknown_two.unknown now w.twins w.chart kept.index) (vacant_root a w two vacant_first world.heads)
                (heads_occupied a mid w one (Some node_one) updates_one (unknown_one.unknown now w.twins w.chart world.index) (vacant_root a w one vacant_one world.heads) world.heads);
            alive = alive_there mid after w.chart two (alive_unknown after w.chart two (unknown_two.unknown now w.twins w.chart kept.index)) updates_two.others
                (alive_there a mid w.chart one (alive_unknown mid w.chart one (unknown_one.unknown now w.twins w.chart world.index)) updates_one.others world.alive);
            twins = twins_beside mid after w.chart w.chart w.twins two (evolves_same 0 w.chart) (no_interior mid w.chart two (ap (option_and_then interior_of) vacant_two)) updates_two.others
                (twins_beside a mid w.chart w.chart w.twins one (evolves_same 0 w.chart) (no_interior a w.chart one (ap (option_and_then interior_of) vacant_one)) updates_one.others world.twins);
            retired = retired_kept mid after now w.chart w.chart two (evolves_same 0 w.chart) (subst (λ (l : List Retired). NotRetired l two) (sym retired_one) (unknown_kept a now w.chart two (unknown_two.unknown now w.twins w.chart kept.index) world.retired)) updates_two.others retired_two
                (retired_kept a mid now w.chart w.chart one (evolves_same 0 w.chart) (unknown_kept a now w.chart one (unknown_one.unknown now w.twins w.chart world.index) world.retired) updates_one.others retired_one world.retired);
          };
          evolves = λ begun before. evolves_again begun w.chart w.chart w.chart (kept.evolves begun before) (again.evolves begun before);
          leaves = λ other taken apart.
              let not_one = vacant_free a w one other vacant_one taken in
              let not_two = vacant_free a w two other vacant_first taken in
              (record { node = others_same other not_one not_two; spot = refl; twins = λ one other here. ((λ h. h), (λ h. h)); closing = λ i. i; retired = retired_same a.retired after.retired other (retired_two ∙ retired_one) }, λ i. neither other not_one not_two apart i);
          takes = λ other taken. elim (same_number other two) [
            | inl e ↦ inl (subst (λ (m : ℕ). Among other (m ∷ (one ∷ owned))) e first)
            | inr not_two ↦ elim (same_number other one) [
              | inl e ↦ inl (later (subst (λ (m : ℕ). Among other (m ∷ owned)) e first))
              | inr not_one ↦ elim (is_among other owned) [ inl i ↦ inl (later (later i)) | inr out ↦ inr (taken_back a after w w other (record { node = others_same other not_one not_two; spot = refl; twins = λ one other here. ((λ h. h), (λ h. h)); closing = λ i. i; retired = retired_same a.retired after.retired other (retired_two ∙ retired_one) }) taken, out) ]
            ]
          ];
          spots = λ number out apart. refl;
          age = age_known (λ number known. others_same number (λ e. unknown_apart w.chart (unknown_one.unknown now w.twins w.chart world.index) known e) (λ e. unknown_apart w.chart (unknown_two.unknown now w.twins w.chart kept.index) known e));
          true = truth;
        },
        content,
      )
    where
      neither : (other : ℕ) → other ≢ one → other ≢ two → NotAmong other owned → Among other (two ∷ one ∷ owned) → ⊥
      neither other not_one not_two apart first = not_two refl
      neither other not_one not_two apart (later first) = not_one refl
      neither other not_one not_two apart (later (later i)) = apart i

-- ---- a spare that is given back in the same step
pub goes_given_back : (now : ℕ) (a mid after : ArenaView) (w : World) (number : ℕ) (node : Node) (owned : List ℕ) (Then : World → Type 0) → node_at a.nodes number ≡ None → Updates a.nodes mid.nodes number (Some node) → mid.retired ≡ a.retired → IsUnknown a number → KeepsTree a mid
    → Updates mid.nodes after.nodes number None → after.retired ≡ mid.retired → KeepsUnknown mid after number → IsWorld a now w → Then w → Goes now a after w owned owned Then × SameContent (arena_seen a) (arena_seen after)
goes_given_back now a mid after w number node owned Then vacant updates retired unknown keeps back retired_back keeps_back world truth =
    let kept = keeps.keeps now w.twins w.chart world.index in
    let unknown_now = unknown.unknown now w.twins w.chart world.index in
    let again = keeps_back.keeps now w.twins w.chart kept.index unknown_now in
    let content = content_twice a mid after kept.content again.content in
    let free = vacant_root a w number vacant world.heads in (
      record {
        next = w;
        world = record {
          index = again.index;
          keys = keys_same a after content world.keys;
          heads = heads_occupied mid after w number None back unknown_now free (heads_occupied a mid w number (Some node) updates unknown_now free world.heads);
          alive = alive_there mid after w.chart number (alive_unknown after w.chart number unknown_now) back.others (alive_there a mid w.chart number (alive_unknown mid w.chart number unknown_now) updates.others world.alive);
          twins = twins_beside mid after w.chart w.chart w.twins number (evolves_same 0 w.chart) (unknown_free mid w.chart number unknown_now) back.others
              (twins_beside a mid w.chart w.chart w.twins number (evolves_same 0 w.chart) (unknown_free a w.chart number unknown_now) updates.others world.twins);
          retired = retired_kept mid after now w.chart w.chart number (evolves_same 0 w.chart) (subst (λ (l : List Retired). NotRetired l number) (sym retired) (unknown_kept a now w.chart number unknown_now world.retired)) back.others retired_back
              (retired_kept a mid now w.chart w.chart number (evolves_same 0 w.chart) (unknown_kept a now w.chart number unknown_now world.retired) updates.others retired world.retired);
        };
        evolves = λ begun before. evolves_again begun w.chart w.chart w.chart (kept.evolves begun before) (again.evolves begun before);
        leaves = λ other taken apart. (record { node = same other; spot = refl; twins = λ one other here. ((λ h. h), (λ h. h)); closing = λ i. i; retired = retired_same a.retired after.retired other (retired_back ∙ retired) }, apart);
        takes = λ other taken. elim (is_among other owned) [ inl i ↦ inl i | inr out ↦ inr (taken_back a after w w other (record { node = same other; spot = refl; twins = λ one other here. ((λ h. h), (λ h. h)); closing = λ i. i; retired = retired_same a.retired after.retired other (retired_back ∙ retired) }) taken, out) ];
        spots = λ number out apart. refl;
        age = age_known (λ number known. same number);
        true = truth;
      },
      content,
    )
  where
    same : (other : ℕ) → node_at after.nodes other ≡ node_at a.nodes other
    same other = elim (same_number other number) [
      | inl e ↦ ap (λ (m : ℕ). node_at after.nodes m) e ∙ (back.changed ∙ (sym vacant ∙ ap (λ (m : ℕ). node_at a.nodes m) (sym e)))
      | inr ne ↦ back.others other ne ∙ updates.others other ne
    ]

-- ---- a spare that the call owns is changed
pub goes_spare_changed : (now : ℕ) (a after : ArenaView) (w : World) (number : ℕ) (node : Node) (owned : List ℕ) (Then : World → Type 0) → Updates a.nodes after.nodes number (Some node) → after.retired ≡ a.retired → KeepsTree a after → w.chart number ≡ None → NotAmong number w.closing → Among number owned
    → IsWorld a now w → Then w → Goes now a after w owned owned Then
goes_spare_changed now a after w number node owned Then updates retired keeps unknown free mine world truth =
    let kept = keeps.keeps now w.twins w.chart world.index in
    record {
      next = w;
      world = record { index = kept.index; keys = keys_same a after kept.content world.keys; heads = heads_occupied a after w number (Some node) updates unknown free world.heads; alive = alive_there a after w.chart number (alive_unknown after w.chart number unknown) updates.others world.alive; twins = twins_beside a after w.chart w.chart w.twins number (evolves_same 0 w.chart) (unknown_free a w.chart number unknown) updates.others world.twins; retired = retired_kept a after now w.chart w.chart number (evolves_same 0 w.chart) (unknown_kept a now w.chart number unknown world.retired) updates.others retired world.retired };
      evolves = kept.evolves;
      leaves = λ other taken apart. (record { node = updates.others other (λ e. apart (subst (λ (m : ℕ). Among m owned) (sym e) mine)); spot = refl; twins = λ one other here. ((λ h. h), (λ h. h)); closing = λ i. i; retired = retired_same a.retired after.retired other retired }, apart);
      takes = λ other taken. elim (is_among other owned) [
        | inl i ↦ inl i
        | inr out ↦ inr (taken_back a after w w other (record { node = updates.others other (λ e. out (subst (λ (m : ℕ). Among m owned) (sym e) mine)); spot = refl; twins = λ one other here. ((λ h. h), (λ h. h)); closing = λ i. i; retired = retired_same a.retired after.retired other retired }) taken, out)
      ];
      spots = λ number out apart. refl;
      age = age_of_unknown number unknown updates.others;
      true = truth;
    }

-- ---- the link to the layer
-- a head and a border have different numbers
pub head_apart : (a : ArenaView) (head root : ℕ) (h : HeadView) (b : BorderView) → head_at a.nodes head ≡ Some h → border_at a.nodes root ≡ Some b → root ≢ head
head_apart a head root h b is_head is_root e =
    let none : border_at a.nodes head ≡ None = ap (option_and_then border_of) (node-from_head a.nodes head h is_head) in
    (let clash : ◌≡◌ {A = Option BorderView} None (Some b) = sym none ∙ (ap (λ (m : ℕ). border_at a.nodes m) (sym e) ∙ is_root) in cc)

-- the head's spot and its root's, in the layer of a prefix
abbrev pub head_spot : List ℕ → Spot
head_spot prefix = spot top prefix 0 (on true)

abbrev pub root_spot : List ℕ → Spot
root_spot prefix = spot (at_level 0) prefix 0 (on true)

-- the world that knows the layer
abbrev pub layered : World → ℕ → ℕ → List ℕ → World
layered w head root prefix = record { twins = w.twins; closing = w.closing; chart = with_spot (with_spot w.chart root (root_spot prefix)) head (head_spot prefix) }

-- Once the link to the layer is made, the tree is an index in the world that knows the layer. The head and its root are unlocked, and the call
-- owns the border alone.
module _ (now : ℕ) (a : ArenaView) (w : World) (n head : ℕ) (root : NodeNo) (b root_b : BorderView) (prefix : List ℕ) (place : ℕ) (entry : Entry) (change : BorderView → BorderView)
    (named : border_at a.nodes n ≡ Some b) (stands : slice_get b.live place ≡ Some entry) (is_head : head_at a.nodes head ≡ Some (new_head root 0 false)) (is_root : border_at a.nodes root.0 ≡ Some root_b) (unlocked : root_b.version.locked ≡ false) (root_alive : root_b.version.deleted ≡ false)
    (apart_head : n ≢ head) (apart_root : n ≢ root.0) (head_unknown : w.chart head ≡ None) (root_unknown : w.chart root.0 ≡ None) (ages : BorderChanges None b (change b)) (world : IsWorld a now w) (may : MayChange a n b change named w) where
  abbrev below : List ℕ
  below = entry.slice ∷ prefix

  abbrev next : World
  next = layered w head root.0 below

  abbrev new : ArenaView
  new = with_border_changed a n change

  two : root.0 ≢ head
  two = head_apart a head root.0 (new_head root 0 false) root_b is_head is_root

  pub head_placed : next.chart head ≡ Some (head_spot below)
  head_placed = (spot_changes (with_spot w.chart root.0 (root_spot below)) head (head_spot below)).now

  root_placed : next.chart root.0 ≡ Some (root_spot below)
  root_placed = (spot_changes (with_spot w.chart root.0 (root_spot below)) head (head_spot below)).rest root.0 two ∙ (spot_changes w.chart root.0 (root_spot below)).now

  pub others_placed : (other : ℕ) → other ≢ head → other ≢ root.0 → next.chart other ≡ w.chart other
  others_placed other ne_head ne_root = (spot_changes (with_spot w.chart root.0 (root_spot below)) head (head_spot below)).rest other ne_head ∙ (spot_changes w.chart root.0 (root_spot below)).rest other ne_root

  head_now : node_at new.nodes head ≡ node_at a.nodes head
  head_now = others_named a n b change named head (λ e. apart_head (sym e))

  root_now : node_at new.nodes root.0 ≡ node_at a.nodes root.0
  root_now = others_named a n b change named root.0 (λ e. apart_root (sym e))

  -- an unlocked node that the chart knows is not taken
  free : (number : ℕ) (node : Option Node) (place : Spot) → node_at new.nodes number ≡ node → (IsLocked node → ⊥) → (IsSomeAnd (option_and_then head_of node) (λ h. h.version.deleted ≡ true) → ⊥) → next.chart number ≡ Some place → IsTaken new next number → ⊥
  free number node place is unlocked unmarked known (inl locked) = unlocked (subst (λ (x : Option Node). IsLocked x) is locked)
  free number node place is unlocked unmarked known (inr (inr h)) = unmarked (subst (λ (o : Option HeadView). IsSomeAnd o (λ x. x.version.deleted ≡ true)) (ap (option_and_then head_of) is) h.marked)
  free number node place is unlocked unmarked known (inr (inl spare)) = (let clash : ◌≡◌ {A = Option Spot} None (Some place) = sym spare.1 ∙ known in cc)

  head_free : IsTaken new next head → ⊥
  head_free = free head _ (head_spot below) (head_now ∙ node-from_head a.nodes head (new_head root 0 false) is_head) (λ locked. (let clash : false ≡ true = locked in cc)) (λ marked. (let clash : false ≡ true = marked in cc)) head_placed

  root_free : IsTaken new next root.0 → ⊥
  root_free = free root.0 _ (root_spot below) (root_now ∙ node-from_border a.nodes root.0 root_b is_root) (λ locked. (let clash : false ≡ true = sym unlocked ∙ locked in cc)) (λ marked. marked) root_placed

  heads_layered : HeadsStand new next.closing next.chart
  heads_layered = record {
    alive = λ number other h standing is. elim (same_number number head) [
      | inl e ↦ (let both : ◌≡◌ {A = Option HeadView} (Some (new_head root 0 false)) (Some h) = sym is_head ∙ (sym (ap (option_and_then head_of) head_now) ∙ (ap (λ (m : ℕ). head_at new.nodes m) (sym e) ∙ is)) in
          let same : new_head root 0 false ≡ h = cc in (inl (ap (λ (x : HeadView). x.version.deleted) (sym same)), ap (λ (x : HeadView). x.version.locked) (sym same)))
      | inr ne_head ↦ elim (same_number number root.0) [
        | inl e ↦ absurd (no_head (root_spot below) other (sym root_placed ∙ (ap next.chart (sym e) ∙ standing)))
        | inr ne_root ↦ (heads_changed a n b change named w.chart may.1 world.heads).alive number other h (sym (others_placed number ne_head ne_root) ∙ standing) is
      ]
    ];
    roots = (heads_changed a n b change named w.chart may.1 world.heads).roots;
  }
    where
      no_head : (place : Spot) (other : List ℕ) → ◌≡◌ {A = Option Spot} (Some (root_spot below)) (Some (head_spot other)) → ⊥
      no_head place other e = cc

  abbrev between : Chart
  between = with_spot w.chart root.0 (root_spot below)

  -- the root is not marked deleted, and the head is no border or interior
  alive_layered : FreeAreAlive new next.chart
  alive_layered = alive_there a new next.chart n at_n (others_named a n b change named)
      (alive_placed a between next.chart head (Some (head_spot below)) (spot_changes between head (head_spot below)) (alive_head a next.chart head below 0 (on true) head_placed)
      (alive_placed a w.chart between root.0 (Some (root_spot below)) (spot_changes w.chart root.0 (root_spot below)) (alive_node a between root.0 (Border root_b) (node-from_border a.nodes root.0 root_b is_root) (inr root_alive)) world.alive))
    where
      at_n : IsAliveIfFree new next.chart n
      at_n layer stands = may.2 layer (same_on w.chart next.chart n (others_placed n apart_head apart_root) layer stands)

  pub goes_layered : MakesLayerAt a new n place head → IsOnIn w.chart n prefix → (Then : World → Type 0) → Then next → Goes now a new w (head ∷ root.0 ∷ n ∷ []) (n ∷ []) Then × SameContent (arena_seen a) (arena_seen new)
  goes_layered makes on_in Then truth =
      let kept = (makes.makes b entry (new_head root 0 false) named stands is_head).keeps now w.twins w.chart next.chart world.index
      (record { prefix = prefix; stands = on_in; head_unknown = head_unknown; root_unknown = root_unknown; head_charted = head_placed; root_charted = root_placed; others = others_placed }) in (
        record {
          next = next;
          world = record { index = kept.index; keys = keys_same a new kept.content world.keys; heads = heads_layered; alive = alive_layered; twins = twins_changed a n b change named w.chart next.chart w.twins (kept.evolves 0 (omega arith)) world.twins; retired = retired_kept a new now w.chart next.chart n (kept.evolves 0 (omega arith)) may.0 (others_named a n b change named) refl world.retired };
          evolves = kept.evolves;
          leaves = λ other taken apart. (
            record {
              node = others_named a n b change named other (λ e. apart (subst (λ (m : ℕ). Among m (head ∷ root.0 ∷ n ∷ [])) (sym e) (later (later first))));
              spot = others_placed other (λ e. apart (subst (λ (m : ℕ). Among m (head ∷ root.0 ∷ n ∷ [])) (sym e) first)) (λ e. apart (subst (λ (m : ℕ). Among m (head ∷ root.0 ∷ n ∷ [])) (sym e) (later first)));
              twins = λ one other here. ((λ h. h), (λ h. h));
              closing = λ i. i;
              retired = ((λ h. h), (λ h. h));
            },
            λ i. apart (later (later i)),
          );
          takes = λ other taken. elim (same_number other n) [
            | inl e ↦ inl (subst (λ (m : ℕ). Among m (n ∷ [])) (sym e) first)
            | inr ne ↦ elim (same_number other head) [
              | inl e ↦ absurd (head_free (subst (λ (m : ℕ). IsTaken new next m) e taken))
              | inr ne_head ↦ elim (same_number other root.0) [
                | inl e ↦ absurd (root_free (subst (λ (m : ℕ). IsTaken new next m) e taken))
                | inr ne_root ↦ inr (
                  taken_back a new w next other (record { node = others_named a n b change named other ne; spot = others_placed other ne_head ne_root; twins = λ one other here. ((λ h. h), (λ h. h)); closing = λ i. i; retired = ((λ h. h), (λ h. h)) }) taken,
                  λ i. none_of other ne ne_head ne_root i,
                )
              ]
            ]
          ];
          spots = λ number out apart. others_placed number (λ e. out (subst (λ (m : ℕ). Among m (head ∷ root.0 ∷ n ∷ [])) (sym e) first)) (λ e. out (subst (λ (m : ℕ). Among m (head ∷ root.0 ∷ n ∷ [])) (sym e) (later first)));
          age = age_one n b (change b) named (now_named a n b change named) (λ known. (ages, inl (on_as on_in (others_placed n apart_head apart_root)))) (others_named a n b change named);
          true = truth;
        },
        kept.content,
      )
    where
      none_of : (other : ℕ) → other ≢ n → other ≢ head → other ≢ root.0 → Among other (head ∷ root.0 ∷ n ∷ []) → ⊥
      none_of other ne ne_head ne_root first = ne_head refl
      none_of other ne ne_head ne_root (later first) = ne_root refl
      none_of other ne ne_head ne_root (later (later first)) = ne refl
      none_of other ne ne_head ne_root (later (later (later i))) = elim i [ ]
