-- What a step leaves that changes one node, and what is known of a node that is seen.
use Rattle.std.proofs.Common.{ℕ, zero, suc, ◌≡◌, ◌≢◌, ◌≤◌, ◌⊎◌, inl, inr, List, [], ◌∷◌, Option, Some, None, IsSome, true, false, refl, sym, ap, subst, ◌∙◌, arith}
use Rattle.std.specs.Option.{option_and_then}
use Rattle.mt_border.specs.Border.{BorderView}
use Rattle.mt_interior.specs.Head.{HeadView}
use Rattle.mt_interior.specs.Interior.{InteriorView}
use Rattle.mt_arena.specs.Node.{node_at, head_at, head_of, interior_at, interior_of, border_at, border_of, Updates}
use Rattle.mt_arena.specs.Arena.{ArenaView, with_interior_changed}
use Rattle.std.specs.Prelude.{IsSomeAnd}
use Rattle.mt_arena.specs.declared.node.Node.{Node}
use Rattle.mt_arena.specs.declared.node.Node.TheVariants.{Interior}
use Rattle.mt_arena.proofs.NodeLemmas.{updates-with_node, node-from_head, node-from_interior}
use Rattle.mt_chart.specs.Tree.{Among, HeadNode, first, head as plain_head}
use Rattle.mt_chart.specs.Chart.{Role, top, at_level, Standing, on, gone, Evolves, Chart, Spot, spot, Holds, IsTree, OnHead, Changes}
use Rattle.mt_chart.specs.Walk.{Known}
use Rattle.mt_chart.specs.Steps.{Twin, AreTwins, NoTwin, Keeps, SameContent}
use Rattle.mt_chart.proofs.Basics.{same_number}
use Rattle.mt_chart.proofs.TreeLemmas.{free_interiors_on}
use Rattle.mt_tree.specs.Seen.{arena_seen, head_seen, interior_seen}
use Rattle.mt_tree.specs.InteriorSteps.{IsInLayer}
use Rattle.mt_tree.proofs.SeenLemmas.{changed-interior, seen-head, head-seen, seen-interior}
use Rattle.mt_tree.proofs.InteriorPlaces.{stands_as}
use Rattle.mt_steps.specs.World.{World, IsWorld, HeadsStand, IsLockedInterior, IsAliveIfFree, FreeAreAlive, TwinsAreLocked, NotRetired, IsLocked, IsTaken, HasSameTwins, NotAmong, NodesAge, Goes}
use Rattle.mt_steps.proofs.FrameLemmas.{is_among, taken_back, retired_same}
use Rattle.mt_steps.proofs.AliveLemmas.{alive_node}
use Rattle.mt_steps.proofs.BorderLemmas.{interior_kept, keys_same, twins_beside, retired_kept, no_root, roots_kept}

-- the same twins, at another chart
abbrev pub at_chart : World → Chart → World
at_chart w chart = record { twins = w.twins; closing = w.closing; chart = chart }

-- The node of one number changes, which no other call has taken, and the places and twins of own numbers: what the step leaves.
pub goes_with : (now : ℕ) (a after : ArenaView) (w next : World) (n : ℕ) (owned owns : List ℕ) (Then : World → Type 0)
    → IsWorld after now next → NodesAge None a after w next → next.closing ≡ w.closing → after.retired ≡ a.retired → ((begun : ℕ) → begun ≤ now → Evolves begun w.chart next.chart)
    → ((other : ℕ) → other ≢ n → node_at after.nodes other ≡ node_at a.nodes other)
    → ((other : ℕ) → NotAmong other owned → next.chart other ≡ w.chart other)
    → ((other : ℕ) → NotAmong other owned → HasSameTwins w.twins next.twins other)
    → (IsTaken a w n → NotAmong n owned → ⊥)
    → ((other : ℕ) → IsTaken a w other → NotAmong other owned → NotAmong other owns)
    → ((other : ℕ) → Among other owned → IsTaken after next other → Among other owns)
    → (NotAmong n owned → IsTaken after next n → Among n owns)
    → Then next
    → Goes now a after w owned owns Then
goes_with now a after w next n owned owns Then world age closing retired evolves others spots twins nobody no_more stays not_taken truth = record {
  next = next;
  world = world;
  evolves = evolves;
  leaves = λ other taken apart. (
    record {
      node = others other (λ e. nobody (subst (λ (m : ℕ). IsTaken a w m) e taken) (λ i. apart (subst (λ (m : ℕ). Among m owned) (sym e) i)));
      spot = spots other apart;
      twins = twins other apart;
      closing = λ i. subst (λ (l : List ℕ). Among other l) closing i;
      retired = retired_same a.retired after.retired other retired;
    },
    no_more other taken apart,
  );
  takes = λ other taken. elim (is_among other owned) [
    | inl i ↦ inl (stays other i taken)
    | inr out ↦ elim (same_number other n) [
      | inl e ↦ inl (subst (λ (m : ℕ). Among m owns) (sym e) (not_taken (λ i. out (subst (λ (m : ℕ). Among m owned) (sym e) i)) (subst (λ (m : ℕ). IsTaken after next m) e taken)))
      | inr differ ↦ inr (taken_back a after w next other (record { node = others other differ; spot = spots other out; twins = twins other out; closing = λ i. subst (λ (l : List ℕ). Among other l) closing i; retired = retired_same a.retired after.retired other retired }) taken, out)
    ]
  ];
  spots = λ number out apart. spots number out;
  age = age;
  true = truth;
}

-- the same, if the twins stay
pub goes_kept : (now : ℕ) (a after : ArenaView) (w : World) (chart : Chart) (n : ℕ) (owned owns : List ℕ) (Then : World → Type 0)
    → IsWorld a now w → NodesAge None a after w (at_chart w chart) → Keeps now w.twins (arena_seen a) (arena_seen after) w.chart chart → after.retired ≡ a.retired → NotRetired a.retired n
    → ((other : ℕ) → other ≢ n → node_at after.nodes other ≡ node_at a.nodes other)
    → ((other : ℕ) → NotAmong other owned → chart other ≡ w.chart other)
    → HeadsStand after w.closing chart
    → FreeAreAlive after chart
    → TwinsAreLocked after chart w.twins
    → (IsTaken a w n → NotAmong n owned → ⊥)
    → ((other : ℕ) → IsTaken a w other → NotAmong other owned → NotAmong other owns)
    → ((other : ℕ) → Among other owned → IsTaken after (at_chart w chart) other → Among other owns)
    → (NotAmong n owned → IsTaken after (at_chart w chart) n → Among n owns)
    → Then (at_chart w chart)
    → Goes now a after w owned owns Then × SameContent (arena_seen a) (arena_seen after)
goes_kept now a after w chart n owned owns Then world age kept retired apart others spots heads alive twins nobody no_more stays not_taken truth = (
  goes_with now a after w (at_chart w chart) n owned owns Then (record {
    index = kept.index;
    keys = keys_same a after kept.content world.keys;
    heads = heads;
    alive = alive;
    twins = twins;
    retired = retired_kept a after now w.chart chart n (kept.evolves 0 (omega arith)) apart others retired world.retired;
  }) age refl retired kept.evolves others spots (λ other apart one two here. ((λ h. h), (λ h. h))) nobody no_more stays not_taken truth,
  kept.content,
)

-- the same, if the number is no locked interior
pub goes_at : (now : ℕ) (a after : ArenaView) (w : World) (chart : Chart) (n : ℕ) (owned owns : List ℕ) (Then : World → Type 0)
    → IsWorld a now w → NodesAge None a after w (at_chart w chart) → Keeps now w.twins (arena_seen a) (arena_seen after) w.chart chart → after.retired ≡ a.retired → NotRetired a.retired n
    → ((other : ℕ) → other ≢ n → node_at after.nodes other ≡ node_at a.nodes other)
    → ((other : ℕ) → NotAmong other owned → chart other ≡ w.chart other)
    → HeadsStand after w.closing chart
    → FreeAreAlive after chart
    → (IsLockedInterior a w.chart n → ⊥)
    → (IsTaken a w n → NotAmong n owned → ⊥)
    → ((other : ℕ) → IsTaken a w other → NotAmong other owned → NotAmong other owns)
    → ((other : ℕ) → Among other owned → IsTaken after (at_chart w chart) other → Among other owns)
    → (NotAmong n owned → IsTaken after (at_chart w chart) n → Among n owns)
    → Then (at_chart w chart)
    → Goes now a after w owned owns Then × SameContent (arena_seen a) (arena_seen after)
goes_at now a after w chart n owned owns Then world age kept retired apart others spots heads alive free nobody no_more stays not_taken truth =
    goes_kept now a after w chart n owned owns Then world age kept retired apart others spots heads alive (twins_beside a after w.chart chart w.twins n (kept.evolves 0 (omega arith)) free others world.twins) nobody no_more stays not_taken truth

-- twins are still locked, if the one interior that changes is no twin
pub twins_lone : (a after : ArenaView) (chart next : Chart) (twins : List Twin) (n : ℕ) → Evolves 0 chart next → NoTwin twins n → ((other : ℕ) → other ≢ n → node_at after.nodes other ≡ node_at a.nodes other) → TwinsAreLocked a chart twins → TwinsAreLocked after next twins
twins_lone a after chart next twins n evolves lone others all = record {
  locked = λ one other pair.
      let both = all.locked one other pair in (
        interior_kept a after chart next one evolves (others one (λ e. lone.1 other (subst (λ (m : ℕ). AreTwins twins m other) e pair))) both.0,
        interior_kept a after chart next other evolves (others other (λ e. lone.0 one (subst (λ (m : ℕ). AreTwins twins one m) e pair))) both.1,
      );
}

-- a node that nobody has taken changes, and the place of a number that the call owns
pub goes_beside : (now : ℕ) (a after : ArenaView) (w : World) (chart : Chart) (n m : ℕ) (place : Option Spot) (Then : World → Type 0)
    → IsWorld a now w → NodesAge None a after w (at_chart w chart) → Keeps now w.twins (arena_seen a) (arena_seen after) w.chart chart → after.retired ≡ a.retired → NotRetired a.retired n
    → ((other : ℕ) → other ≢ n → node_at after.nodes other ≡ node_at a.nodes other)
    → Changes w.chart chart m place
    → HeadsStand after w.closing chart
    → FreeAreAlive after chart
    → (IsLockedInterior a w.chart n → ⊥)
    → (IsTaken a w n → ⊥)
    → (IsTaken after (at_chart w chart) n → ⊥)
    → Then (at_chart w chart)
    → Goes now a after w (m ∷ []) (m ∷ []) Then × SameContent (arena_seen a) (arena_seen after)
goes_beside now a after w chart n m place Then world age kept retired apart others charted heads alive free nobody nobody_then truth =
    goes_at now a after w chart n (m ∷ []) (m ∷ []) Then world age kept retired apart others (λ other out. charted.rest other (λ e. out (subst (λ (k : ℕ). Among k (m ∷ [])) (sym e) first))) heads alive free
    (λ taken out. nobody taken) (λ other taken out k. out k) (λ other k taken. k) (λ out taken. absurd (nobody_then taken)) truth

-- ---- heads are as they were, if one number that is no head changes
pub heads_beside : {closing : List ℕ} (a after : ArenaView) (chart next : Chart) (n : ℕ) → ((number : ℕ) (prefix : List ℕ) → OnHead next number prefix → OnHead chart number prefix)
    → head_at after.nodes n ≡ None → border_at a.nodes n ≡ None → ((other : ℕ) → other ≢ n → node_at after.nodes other ≡ node_at a.nodes other) → HeadsStand a closing chart → HeadsStand after closing next
heads_beside {closing = closing} a after chart next n were none was others heads = record {
  alive = λ number prefix head place is. elim (same_number number n) [
    | inl e ↦ absurd (let clash : ◌≡◌ {A = Option HeadView} None (Some head) = sym none ∙ (ap (λ (m : ℕ). head_at after.nodes m) (sym e) ∙ is) in cc)
    | inr differ ↦ heads.alive number prefix head (were number prefix place) (sym (ap (option_and_then head_of) (others number differ)) ∙ is)
  ];
  roots = roots_kept a after closing n (λ i. absurd (no_root a closing chart n was heads i)) others heads.roots;
}

-- ---- an interior is changed
module _ (a : ArenaView) (n : ℕ) (i : InteriorView) (change : InteriorView → InteriorView) (named : interior_at a.nodes n ≡ Some i) where
  abbrev changed : ArenaView
  changed = with_interior_changed a n change

  interior_updated : Updates a.nodes changed.nodes n (Some (Interior (change i)))
  interior_updated = subst (λ (x : ArenaView). Updates a.nodes x.nodes n (Some (Interior (change i)))) (sym (changed-interior a n i change named))
      (updates-with_node a.nodes n (Interior (change i)) (subst (λ (x : Option Node). IsSome x) (sym (node-from_interior a.nodes n i named)) refl))

  pub interior_now : interior_at changed.nodes n ≡ Some (change i)
  interior_now = ap (option_and_then interior_of) interior_updated.changed

  pub interior_others : (other : ℕ) → other ≢ n → node_at changed.nodes other ≡ node_at a.nodes other
  interior_others = interior_updated.others

  pub interior_no_head : head_at changed.nodes n ≡ None
  interior_no_head = ap (option_and_then head_of) interior_updated.changed

  pub interior_no_border : border_at a.nodes n ≡ None
  interior_no_border = ap (option_and_then border_of) (node-from_interior a.nodes n i named)

  -- an interior that is locked still, or is not marked deleted, is so if it is not locked
  pub interior_alive : (chart : Chart) → ((change i).version.locked ≡ true) ⊎ ((change i).version.deleted ≡ false) → IsAliveIfFree changed chart n
  interior_alive chart held = alive_node changed chart n (Interior (change i)) interior_updated.changed held

  -- a border is named as it was
  pub interior_border : (other : ℕ) (b : BorderView) → border_at a.nodes other ≡ Some b → border_at changed.nodes other ≡ Some b
  interior_border other b is = ap (option_and_then border_of) (interior_others other apart) ∙ is
    where
      apart : other ≢ n
      apart e = (let clash : ◌≡◌ {A = Option BorderView} None (Some b) = sym (ap (option_and_then border_of) (node-from_interior a.nodes n i named)) ∙ (ap (λ (m : ℕ). border_at a.nodes m) (sym e) ∙ is) in cc)

  -- the interior is taken if it is locked, or the chart doesn't know it
  pub interior_taken : (w : World) → IsTaken changed w n → ((change i).version.locked ≡ true) ⊎ (w.chart n ≡ None)
  interior_taken w (inl locked) = inl (subst (λ (x : Option Node). IsLocked x) interior_updated.changed locked)
  interior_taken w (inr (inl spare)) = inr spare.1
  interior_taken w (inr (inr m)) = absurd (subst (λ (o : Option HeadView). IsSomeAnd o (λ h. h.version.deleted ≡ true)) interior_no_head m.marked)

-- an interior is taken if it is locked, or the chart doesn't know it
pub interior_is_taken : (a : ArenaView) (n : ℕ) (i : InteriorView) (w : World) → interior_at a.nodes n ≡ Some i → IsTaken a w n → (i.version.locked ≡ true) ⊎ (w.chart n ≡ None)
interior_is_taken a n i w named (inl locked) = inl (subst (λ (x : Option Node). IsLocked x) (node-from_interior a.nodes n i named) locked)
interior_is_taken a n i w named (inr (inl spare)) = inr spare.1
interior_is_taken a n i w named (inr (inr m)) = absurd (subst (λ (o : Option HeadView). IsSomeAnd o (λ h. h.version.deleted ≡ true)) (ap (option_and_then head_of) (node-from_interior a.nodes n i named)) m.marked)

-- a head that is known, and neither locked nor marked deleted, is not taken
pub alive_free : (a : ArenaView) (n : ℕ) (h : HeadView) (w : World) → head_at a.nodes n ≡ Some h → h.version.locked ≡ false → h.version.deleted ≡ false → IsSome (w.chart n) → IsTaken a w n → ⊥
alive_free a n h w named free alive known (inl locked) = (let clash : false ≡ true = sym free ∙ subst (λ (x : Option Node). IsLocked x) (node-from_head a.nodes n h named) locked in cc)
alive_free a n h w named free alive known (inr (inl spare)) = (let clash : false ≡ true = subst (λ (x : Option Spot). IsSome x) spare.1 known in cc)
alive_free a n h w named free alive known (inr (inr m)) = (let clash : false ≡ true = sym alive ∙ subst (λ (o : Option HeadView). IsSomeAnd o (λ x. x.version.deleted ≡ true)) named m.marked in cc)

-- what is unlocked and known is not taken
pub not_both : (locked : _) (place : Option Spot) → locked ≡ false → IsSome place → (locked ≡ true) ⊎ (place ≡ None) → ⊥
not_both locked place free known (inl e) = (let clash : false ≡ true = sym free ∙ e in cc)
not_both locked place free known (inr e) = (let clash : false ≡ true = subst (λ (x : Option Spot). IsSome x) e known in cc)

-- ---- what is known of a node that is seen
pub known_some : (w : World) (number : ℕ) (place : Spot) → w.chart number ≡ Some place → IsSome (w.chart number)
known_some w number place is = subst (λ (x : Option Spot). IsSome x) (sym is) refl

-- what is a node of a layer's tree is no head
no_top : {level low other_low : ℕ} {prefix other : List ℕ} {standing stands : Standing} → ◌≡◌ {A = Option Spot} (Some (spot (at_level level) prefix low standing)) (Some (spot top other other_low stands)) → ⊥
no_top e = cc

-- if another number than a head's is charted, the heads were on
pub heads_were : (chart next : Chart) (at level low : ℕ) (prefix : List ℕ) (standing : Standing) → Changes chart next at (Some (spot (at_level level) prefix low standing)) → (number : ℕ) (layer : List ℕ) → OnHead next number layer → OnHead chart number layer
heads_were chart next at level low prefix standing changes number layer place = elim (same_number number at) [
  | inl e ↦ absurd (no_top (sym changes.now ∙ (ap next (sym e) ∙ place)))
  | inr differ ↦ sym (changes.rest number differ) ∙ place
]

-- the root of a head that is not marked deleted
pub root_place : (a : ArenaView) (chart : Chart) (begun node low : ℕ) (prefix : List ℕ) (h : HeadView) → IsTree (arena_seen a) chart → Holds chart begun node prefix low → head_at a.nodes node ≡ Some h → h.version.deleted ≡ false
    → OnHead chart node prefix × (chart h.root.0 ≡ Some (spot (at_level h.level) prefix 0 (on true)))
root_place a chart begun node low prefix h tree held named alive = go held.role held.standing held.place
  where
    there : arena_seen a node ≡ Some (plain_head (head_seen h))
    there = seen-head a node h named

    go : (role : Role) (standing : Standing) → chart node ≡ Some (spot role prefix held.low standing) → OnHead chart node prefix × (chart h.root.0 ≡ Some (spot (at_level h.level) prefix 0 (on true)))
    go top (on posted) place =
        let u = tree.heads node prefix held.low posted place in
        let is_node = u.is_node in
        let at_node = there in
        let same : u.node ≡ head_seen h = cc in
        (place ∙ (ap (λ (l : ℕ). Some (spot top prefix l (on posted))) u.low ∙ ap (λ b. Some (spot top prefix 0 (on b))) u.posted), rw same at u.root)
    go top (gone epoch) place =
        let (u, is_node, marked) = tree.gone_heads node prefix held.low epoch place in
        let at_node = there in
        absurd (let same : u ≡ head_seen h = cc in let clash : u.deleted ≡ false = ap (λ x. x.deleted) same ∙ alive in cc)
    go (at_level zero) (on posted) place = absurd (let at_node = there in let (u, is_node, l) = tree.borders node prefix held.low posted place in cc)
    go (at_level zero) (gone epoch) place = absurd (let at_node = there in let (u, is_node, marked) = tree.gone_borders node prefix held.low epoch place in cc)
    go (at_level (suc below)) standing place = absurd (let at_node = there in let is_node = (tree.interiors node below prefix held.low standing place).is_node in cc)

-- an interior that is seen neither marked deleted nor locked is on
pub seen_on : (a : ArenaView) (chart : Chart) (begun number slice : ℕ) (prefix : List ℕ) (i : InteriorView) → IsTree (arena_seen a) chart → Holds chart begun number prefix slice → interior_at a.nodes number ≡ Some i → i.version.deleted ≡ false → i.version.locked ≡ false → IsInLayer chart number prefix
seen_on a chart begun number slice prefix i tree held named alive unlocked =
    let there = seen-interior a number i named in
    let stands = stands_as (arena_seen a) chart number (interior_seen i) tree there held.role prefix held.low held.standing held.place in
    let place : chart number ≡ Some (spot (at_level (suc stands.below)) prefix held.low held.standing) = held.place ∙ ap (λ (r : Role). Some (spot r prefix held.low held.standing)) stands.is_role in
    let (posted, is_on) = free_interiors_on (arena_seen a) chart tree number stands.below prefix held.low held.standing (interior_seen i) place there alive unlocked in
    record { level = suc stands.below; low = held.low; posted = posted; place = place ∙ ap (λ (s : Standing). Some (spot (at_level (suc stands.below)) prefix held.low s)) is_on }

-- the head of the layer is there
pub head_there : (a : ArenaView) (w : World) (begun number : ℕ) (prefix : List ℕ) (now : ℕ) → IsWorld a now w → Known w.chart begun number top prefix 0 → IsSome (head_at a.nodes number)
head_there a w begun number prefix now world known = go known.standing known.place
  where
    some : (node : HeadNode) → arena_seen a number ≡ Some (plain_head node) → IsSome (head_at a.nodes number)
    some node seen = let (h, named, same) = head-seen a number node seen in subst (λ (x : Option HeadView). IsSome x) (sym named) refl

    go : (standing : Standing) → w.chart number ≡ Some (spot top prefix 0 standing) → IsSome (head_at a.nodes number)
    go (on posted) place = let u = world.index.tree.heads number prefix 0 posted place in some u.node u.is_node
    go (gone epoch) place = let (u, is_node, marked) = world.index.tree.gone_heads number prefix 0 epoch place in some u is_node

-- what is known and an unlocked interior is no twin
pub free_no_twin : (a : ArenaView) (chart : Chart) (twins : List Twin) (n : ℕ) → (IsLockedInterior a chart n → ⊥) → TwinsAreLocked a chart twins → NoTwin twins n
free_no_twin a chart twins n free all = ((λ other pair. free (all.locked other n pair).1), (λ other pair. free (all.locked n other pair).0))

-- an interior that is not locked is no locked interior
pub unlocked_no : (a : ArenaView) (chart : Chart) (n : ℕ) (i : InteriorView) → interior_at a.nodes n ≡ Some i → i.version.locked ≡ false → IsLockedInterior a chart n → ⊥
unlocked_no a chart n i named unlocked locked =
    let held : i.version.locked ≡ true = subst (λ (o : Option InteriorView). IsSomeAnd o (λ x. x.version.locked ≡ true)) named locked.locked in
    let clash : false ≡ true = sym unlocked ∙ held in
    cc
