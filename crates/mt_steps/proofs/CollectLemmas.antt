-- After the epoch advances, and after the node that was retired first is freed, the tree is still an index for all
-- calls that began later.
use Rattle.std.proofs.Common.{ℕ, suc, ◌≡◌, ◌≢◌, ◌<◌, ◌≤◌, ◌+◌, inl, inr, List, [], ◌∷◌, drop, Option, Some, None, IsSome, Bool, true, false, refl, sym, ap, subst, ◌∙◌, arith}
use Rattle.std.specs.Prelude.{IsSomeAnd, All, AllPairs, if◌then◌else◌}
use Rattle.std.proofs.Common.{◌==◌, set}
use Rattle.std.proofs.lemmas.Bool.{eq-eqb}
use Rattle.std.specs.Option.{option_and_then}
use Rattle.std.proofs.lemmas.List.Elements.{All-nil, All-cons, All-head, All-tail, All-weaker}
use Rattle.mt_border.specs.Border.{BorderView}
use Rattle.mt_interior.specs.Head.{HeadView}
use Rattle.mt_interior.specs.Interior.{InteriorView}
use Rattle.mt_arena.specs.Node.{Nodes, node_at, head_of, interior_of, border_at, border_of, Updates}
use Rattle.mt_arena.specs.Arena.{ArenaView, IsArena, FreesFirst}
use Rattle.mt_arena.specs.declared.retired.Retired.{Retired}
use Rattle.mt_arena.specs.declared.node.Node.{Node}
use Rattle.mt_arena.proofs.NodeLemmas.{updates-without}
use Rattle.mt_chart.specs.Tree.{Among, first, later, InteriorNode, border, interior, PlainNode}
use Rattle.mt_chart.specs.Chart.{Role, top, at_level, on, gone, Spot, spot, Chart, Evolves, Changes}
use Rattle.mt_chart.specs.Steps.{SameContent}
use Rattle.mt_chart.proofs.Basics.{same_number}
use Rattle.mt_tree.specs.Seen.{arena_seen, border_seen, interior_seen}
use Rattle.mt_tree.specs.Keeping.{IsIndexAt, FreesNode}
use Rattle.std.specs.Option.{option_map}
use Rattle.mt_arena.specs.declared.node.Node.TheVariants.{Head, Interior, Border}
use Rattle.mt_chart.specs.Tree.{head}
use Rattle.mt_tree.specs.Seen.{node_seen, head_seen}
use Rattle.mt_tree.proofs.SeenLemmas.{seen-border}
use Rattle.mt_steps.specs.World.{World, IsWorld, HeadsStand, IsLockedInterior, IsGone, NotRetired, IsLocked, IsTaken, IsSame, GoneSince}
use Rattle.mt_steps.proofs.FrameLemmas.{taken_back}
use Rattle.mt_steps.proofs.AliveLemmas.{alive_unknown, alive_beside, same_on}
use Rattle.mt_steps.proofs.BorderLemmas.{keys_same}
use Rattle.mt_steps.proofs.SplitLemmas.{eqb-ne}

-- ---- what calls own, and is gone
-- a border is no interior of the chart
pub border_no : (a : ArenaView) (now : ℕ) (w : World) (number : ℕ) (b : BorderView) → IsWorld a now w → border_at a.nodes number ≡ Some b → {begun : ℕ} → (below : ℕ) (prefix : List ℕ) (low epoch : ℕ) → w.chart number ≡ Some (spot (at_level (suc below)) prefix low (gone epoch)) → begun ≤ epoch
border_no a now w number b world named below prefix low epoch place =
    let t = world.index.tree.interiors number below prefix low (gone epoch) place in
    absurd (let clash : ◌≡◌ {A = Option PlainNode} (Some (interior t.node)) (Some (border (border_seen b))) = sym t.is_node ∙ seen-border a number b named in cc)

-- what is on, or not known, is not gone
pub on_no : (begun : ℕ) (w : World) (number : ℕ) (role : Role) (layer : List ℕ) (least : ℕ) (posted : Bool) → w.chart number ≡ Some (spot role layer least (on posted)) → (below : ℕ) (prefix : List ℕ) (low epoch : ℕ) → w.chart number ≡ Some (spot (at_level (suc below)) prefix low (gone epoch)) → begun ≤ epoch
on_no begun w number role layer least posted stands below prefix low epoch place =
    absurd (let clash : ◌≡◌ {A = Option Spot} (Some (spot role layer least (on posted))) (Some (spot (at_level (suc below)) prefix low (gone epoch))) = sym stands ∙ place in cc)

pub unknown_no : (begun : ℕ) (w : World) (number : ℕ) → w.chart number ≡ None → (below : ℕ) (prefix : List ℕ) (low epoch : ℕ) → w.chart number ≡ Some (spot (at_level (suc below)) prefix low (gone epoch)) → begun ≤ epoch
unknown_no begun w number unknown below prefix low epoch place =
    absurd (let clash : ◌≡◌ {A = Option Spot} None (Some (spot (at_level (suc below)) prefix low (gone epoch))) = sym unknown ∙ place in cc)

-- one number that is owned
pub only_since : (begun : ℕ) (w : World) (n : ℕ) → ((below : ℕ) (prefix : List ℕ) (low epoch : ℕ) → w.chart n ≡ Some (spot (at_level (suc below)) prefix low (gone epoch)) → begun ≤ epoch) → GoneSince begun w (n ∷ [])
only_since begun w n so number i below prefix low epoch place = so below prefix low epoch (subst (λ (m : ℕ). w.chart m ≡ Some (spot (at_level (suc below)) prefix low (gone epoch))) (one number i) place)
  where
    one : (number : ℕ) → Among number (n ∷ []) → number ≡ n
    one number first = refl
    one number (later i) = elim i [ ]

-- ---- the epoch advances
pub advances : (a : ArenaView) (now : ℕ) (w : World) → IsWorld a now w → IsWorld a (now + 1) w
advances a now w world = record {
  index = record {
    tree = world.index.tree;
    owned = world.index.owned;
    named = world.index.named;
    marked = world.index.marked;
    dated = λ number role prefix low epoch place. let less = world.index.dated number role prefix low epoch place in omega (arith, less);
  };
  keys = world.keys;
  heads = world.heads;
  alive = world.alive;
  twins = world.twins;
  retired = record {
    each = All-weaker (IsGone a now w.chart) (IsGone a (now + 1) w.chart) (λ node g. record { role = g.role; prefix = g.prefix; low = g.low; epoch = g.epoch; place = g.place; before = g.before; dated = let less = g.dated in omega (arith, less); unlocked = g.unlocked }) a.retired world.retired.each;
  };
}

-- ---- a node is freed
-- the chart without a number
abbrev pub without_spot : Chart → ℕ → Chart
without_spot chart at number = if number == at then None else chart number

spot_goes : (chart : Chart) (at : ℕ) → Changes chart (without_spot chart at) at None
spot_goes chart at = record {
  now = ap (λ (b : Bool). if b then None else chart at) (eq-eqb at at refl);
  rest = λ other ne. ap (λ (b : Bool). if b then None else chart other) (eqb-ne other at ne);
}

-- an interior that is seen locked is locked
locked_seen : (o : Option Node) (node : InteriorNode) → option_map node_seen o ≡ Some (interior node) → node.locked ≡ true → IsLocked o
locked_seen None node e locked = absurd (let clash : ◌≡◌ {A = Option PlainNode} None (Some (interior node)) = e in cc)
locked_seen (Some (Head h)) node e locked = absurd (let clash : ◌≡◌ {A = Option PlainNode} (Some (head (head_seen h))) (Some (interior node)) = e in cc)
locked_seen (Some (Border b)) node e locked = absurd (let clash : ◌≡◌ {A = Option PlainNode} (Some (border (border_seen b))) (Some (interior node)) = e in cc)
locked_seen (Some (Interior i)) node e locked =
    let same : interior_seen i ≡ node = (let both : ◌≡◌ {A = Option PlainNode} (Some (interior (interior_seen i))) (Some (interior node)) = e in cc) in
    ap (λ (x : InteriorNode). x.locked) same ∙ locked

-- none is retired twice
apart_from_first : (node : Retired) (others : List Retired) → AllPairs (λ (r later : Retired). r.node.0 ≢ later.node.0) (node ∷ others) → All (λ (r : Retired). r.node.0 ≢ node.node.0) others
apart_from_first node others pairs k d within = λ same. pairs 0 (suc k) d (omega arith) (omega arith) (sym same)

-- What is left after a collection frees the node that was retired first: each call that began after the epoch in which
-- it was retired may continue, and each taken number is as it was. The freed number names nothing; all others name what
-- they named, at the same places.
pub record Frees (now : ℕ) (a after : ArenaView) (w next : World) (retired_in : ℕ) : Type 0 where
  pub world : IsWorld after now next
  pub content : SameContent (arena_seen a) (arena_seen after)
  pub evolves : (begun : ℕ) → retired_in < begun → Evolves begun w.chart next.chart
  pub leaves : (number : ℕ) → IsTaken a w number → IsSame a after w next number
  pub takes : (number : ℕ) → IsTaken after next number → IsTaken a w number
  pub number : ℕ
  pub nothing : node_at after.nodes number ≡ None
  pub others : (other : ℕ) → other ≢ number → node_at after.nodes other ≡ node_at a.nodes other
  pub placed : (other : ℕ) → other ≢ number → next.chart other ≡ w.chart other

-- Each interior that is taken and gone went after the node was retired: so it is where each call that is open began later, and what is taken is
-- owned by one of them.
module _ (a : ArenaView) (now : ℕ) (w : World) (node : Retired) (others : List Retired) (sound : IsArena a) (world : IsWorld a now w) (is : a.retired ≡ node ∷ others) (after : ArenaView) (freed : FreesFirst a after) (frees : FreesNode a after node.node.0)
    (later_gone : (number : ℕ) → IsTaken a w number → (below : ℕ) (prefix : List ℕ) (low epoch : ℕ) → w.chart number ≡ Some (spot (at_level (suc below)) prefix low (gone epoch)) → node.epoch < epoch) where
  abbrev n : ℕ
  n = node.node.0

  abbrev next : World
  next = record { twins = w.twins; closing = w.closing; chart = without_spot w.chart n }

  all_gone : All (IsGone a now w.chart) (node ∷ others)
  all_gone = subst (λ (l : List Retired). All (IsGone a now w.chart) l) is world.retired.each

  g : IsGone a now w.chart node
  g = All-head (IsGone a now w.chart) node others all_gone

  charted : Changes w.chart next.chart n None
  charted = spot_goes w.chart n

  named : IsSome (node_at a.nodes n)
  named = All-head (λ (r : Retired). IsSome (node_at a.nodes r.node.0)) node others (subst (λ (l : List Retired). All (λ (r : Retired). IsSome (node_at a.nodes r.node.0)) l) is sound.retired.named)

  both_are : ◌≡◌ {A = List Retired} (freed.first ∷ after.retired) (node ∷ others)
  both_are = sym freed.retired ∙ is

  updated : Updates a.nodes after.nodes n None
  updated = let same : freed.first ≡ node = (let both = both_are in cc) in
      subst (λ (r : Retired). Updates a.nodes after.nodes r.node.0 None) same freed.updates

  retired_are : after.retired ≡ others
  retired_are = let both = both_are in cc

  apart : All (λ (r : Retired). r.node.0 ≢ n) others
  apart = apart_from_first node others (subst (λ (l : List Retired). AllPairs (λ (r later : Retired). r.node.0 ≢ later.node.0) l) is sound.retired.once)

  kept : IsIndexAt after now w.twins next.chart × SameContent (arena_seen a) (arena_seen after) × ((begun : ℕ) → g.epoch < begun → Evolves begun w.chart next.chart)
  kept = frees.frees now w.twins w.chart next.chart g.epoch world.index (record {
    number = n;
    role = g.role;
    prefix = g.prefix;
    low = g.low;
    place = g.place;
    charted = charted;
    later = λ other below prefix low epoch there place seen unmarked.
        let i = world.index.tree.interiors other below prefix low (gone epoch) place in
        let same : i.node ≡ there = (let both : ◌≡◌ {A = Option PlainNode} (Some (interior i.node)) (Some (interior there)) = sym i.is_node ∙ seen in cc) in
        let locked : there.locked ≡ true = elim (i.locked_till_deleted epoch refl) [
          | inl deleted ↦ absurd (let clash : false ≡ true = sym unmarked ∙ (ap (λ (x : InteriorNode). x.deleted) (sym same) ∙ deleted) in cc)
          | inr locked ↦ ap (λ (x : InteriorNode). x.locked) (sym same) ∙ locked
        ] in
        let less = later_gone other (inl (locked_seen (node_at a.nodes other) there seen locked)) below prefix low epoch place in
        let before = g.before in
        omega (arith, less, before);
  }) refl

  not_first_taken : (number : ℕ) → IsTaken a w number → number ≢ n
  not_first_taken number (inl locked) e = g.unlocked (subst (λ (m : ℕ). IsLocked (node_at a.nodes m)) e locked)
  not_first_taken number (inr (inl spare)) e = (let clash : ◌≡◌ {A = Option Spot} None (Some (spot g.role g.prefix g.low (gone g.epoch))) = sym spare.1 ∙ (ap w.chart e ∙ g.place) in cc)
  not_first_taken number (inr (inr m)) e = All-head (λ (r : Retired). r.node.0 ≢ number) node others (subst (λ (l : List Retired). NotRetired l number) is m.kept) (sym e)

  is_same : (number : ℕ) → number ≢ n → IsSame a after w next number
  is_same number differ = record {
    node = updated.others number differ;
    spot = charted.rest number differ;
    twins = λ one other here. ((λ h. h), (λ h. h));
    closing = λ i. i;
    retired = (
      (λ h. subst (λ (l : List Retired). NotRetired l number) (sym is) (All-cons (λ (r : Retired). r.node.0 ≢ number) node others (λ e. differ (sym e)) (subst (λ (l : List Retired). NotRetired l number) retired_are h))),
      (λ h. subst (λ (l : List Retired). NotRetired l number) (sym retired_are) (All-tail (λ (r : Retired). r.node.0 ≢ number) node others (subst (λ (l : List Retired). NotRetired l number) is h))),
    );
  }

  nobody : IsTaken after next n → ⊥
  nobody (inl locked) = subst (λ (x : Option Node). IsLocked x) updated.changed locked
  nobody (inr (inl spare)) = (let clash : false ≡ true = subst (λ (x : Option Node). IsSome x) updated.changed spare.0 in cc)
  nobody (inr (inr m)) = subst (λ (o : Option HeadView). IsSomeAnd o (λ h. h.version.deleted ≡ true)) (ap (option_and_then head_of) updated.changed) m.marked

  locked_root : (o : Option Node) → IsSomeAnd (option_and_then border_of o) (λ b. b.version.locked ≡ true) → IsLocked o
  locked_root None h = absurd h
  locked_root (Some (Head x)) h = absurd h
  locked_root (Some (Interior x)) h = absurd h
  locked_root (Some (Border b)) h = h

  heads : HeadsStand after w.closing next.chart
  heads = record {
    alive = λ number layer h place there. elim (same_number number n) [
      | inl e ↦ absurd (let clash : ◌≡◌ {A = Option Spot} None (Some (spot top layer 0 (on true))) = sym charted.now ∙ (ap next.chart (sym e) ∙ place) in cc)
      | inr differ ↦ world.heads.alive number layer h (sym (charted.rest number differ) ∙ place) (sym (ap (option_and_then head_of) (updated.others number differ)) ∙ there)
    ];
    roots = λ number i.
        let locked = world.heads.roots number i in
        let differ : number ≢ n = λ e. g.unlocked (subst (λ (m : ℕ). IsLocked (node_at a.nodes m)) e (locked_root (node_at a.nodes number) locked)) in
        subst (λ (o : Option BorderView). IsSomeAnd o (λ b. b.version.locked ≡ true)) (ap (option_and_then border_of) (sym (updated.others number differ))) locked;
  }

  locked_interior : (o : Option Node) → IsSomeAnd (option_and_then interior_of o) (λ i. i.version.locked ≡ true) → IsLocked o
  locked_interior None h = absurd h
  locked_interior (Some (Head x)) h = absurd h
  locked_interior (Some (Border x)) h = absurd h
  locked_interior (Some (Interior i)) h = h

  twin_stays : (number : ℕ) → IsLockedInterior a w.chart number → IsLockedInterior after next.chart number
  twin_stays number l =
      let differ : number ≢ n = λ e. g.unlocked (subst (λ (m : ℕ). IsLocked (node_at a.nodes m)) e (locked_interior (node_at a.nodes number) l.locked)) in
      record {
        known = subst (λ (x : Option Spot). IsSome x) (sym (charted.rest number differ)) l.known;
        locked = subst (λ (o : Option InteriorView). IsSomeAnd o (λ i. i.version.locked ≡ true)) (ap (option_and_then interior_of) (sym (updated.others number differ))) l.locked;
      }

  stays_gone : (r : Retired) → r.node.0 ≢ n → IsGone a now w.chart r → IsGone after now next.chart r
  stays_gone r differ x = record {
    role = x.role;
    prefix = x.prefix;
    low = x.low;
    epoch = x.epoch;
    place = charted.rest r.node.0 differ ∙ x.place;
    before = x.before;
    dated = x.dated;
    unlocked = λ locked. x.unlocked (subst (λ (o : Option Node). IsLocked o) (updated.others r.node.0 differ) locked);
  }

  all_stay : (l : List Retired) → All (λ (r : Retired). r.node.0 ≢ n) l → All (IsGone a now w.chart) l → All (IsGone after now next.chart) l
  all_stay [] out gone_ = All-nil (IsGone after now next.chart)
  all_stay (r ∷ l) out gone_ = All-cons (IsGone after now next.chart) r l (stays_gone r (All-head (λ (x : Retired). x.node.0 ≢ n) r l out) (All-head (IsGone a now w.chart) r l gone_)) (all_stay l (All-tail (λ (x : Retired). x.node.0 ≢ n) r l out) (All-tail (IsGone a now w.chart) r l gone_))

  pub collects : Frees now a after w next node.epoch
  collects =
      let (index, content, evolves) = kept in
      record {
        world = record {
          index = index;
          keys = keys_same a after content world.keys;
          heads = heads;
          alive = alive_beside a after w.chart next.chart n (alive_unknown after next.chart n charted.now) updated.others (λ other differ. same_on w.chart next.chart other (charted.rest other differ)) world.alive;
          twins = record { locked = λ one other pair. let both = world.twins.locked one other pair in (twin_stays one both.0, twin_stays other both.1) };
          retired = record { each = subst (λ (l : List Retired). All (IsGone after now next.chart) l) (sym retired_are) (all_stay others apart (All-tail (IsGone a now w.chart) node others all_gone)) };
        };
        content = content;
        evolves = λ begun less. evolves begun (let before = g.before in omega (arith, before, less));
        leaves = λ number taken. is_same number (not_first_taken number taken);
        takes = λ number taken. elim (same_number number n) [
          | inl e ↦ absurd (nobody (subst (λ (m : ℕ). IsTaken after next m) e taken))
          | inr differ ↦ taken_back a after w next number (is_same number differ) taken
        ];
        number = n;
        nothing = updated.changed;
        others = updated.others;
        placed = charted.rest;
      }
