-- A step that changes one border, which the call owns, or which is neither locked nor a spare.
use Rattle.std.proofs.Common.{ℕ, ◌≡◌, ◌≢◌, ◌⊎◌, arith, inl, inr, List, [], ◌∷◌, Option, Some, None, IsSome, true, false, refl, sym, ap, subst, ◌∙◌}
use Rattle.std.specs.Prelude.{IsSomeAnd, All, Bool}
use Rattle.std.proofs.lemmas.List.Elements.{All-nil, All-cons, All-head, All-tail, All-weaker}
use Rattle.std.specs.Option.{option_and_then}
use Rattle.mt_types.specs.declared.row.Row.{Row}
use Rattle.mt_border.specs.Border.{BorderView}
use Rattle.mt_arena.specs.Node.{node_at, head_at, head_of, interior_at, interior_of, border_at, border_of, Updates}
use Rattle.mt_interior.specs.Head.{HeadView}
use Rattle.mt_interior.specs.Interior.{InteriorView}
use Rattle.mt_arena.specs.Arena.{ArenaView, with_border_changed}
use Rattle.mt_arena.specs.declared.retired.Retired.{Retired}
use Rattle.mt_arena.specs.declared.node.Node.{Node}
use Rattle.mt_arena.specs.declared.node.Node.TheVariants.{Border}
use Rattle.mt_arena.proofs.NodeLemmas.{updates-with_node, node-from_border}
use Rattle.mt_chart.specs.Tree.{Among, first, later}
use Rattle.mt_chart.specs.Chart.{Role, on, gone, Standing, Chart, Spot, spot, Later, still_on, still_gone, went, Evolves}
use Rattle.mt_chart.proofs.Basics.{same_number}
use Rattle.mt_chart.proofs.HeldNodes.{evolves_same}
use Rattle.mt_tree.specs.Keeping.{IsIndexAt}
use Rattle.mt_tree.proofs.SeenLemmas.{changed-border}
use Rattle.mt_commit.specs.Log.{LogView}
use Rattle.mt_chart.specs.Steps.{Twin, SameContent}
use Rattle.mt_tree.specs.Seen.{arena_seen}
use Rattle.mt_steps.specs.Step.{Changes}
use Rattle.mt_steps.proofs.AgingLemmas.{AgesAt, age_one}
use Rattle.mt_steps.proofs.FrameLemmas.{is_among, taken_back}
use Rattle.mt_steps.proofs.AliveLemmas.{alive_node, alive_there}
use Rattle.mt_steps.specs.World.{World, IsWorld, RowsAreOfKeys, IsLockedRoot, HeadsStand, IsLockedInterior, IsAliveIfFree, TwinsAreLocked, IsGone, RetiredAreGone, NotRetired, IsLocked, IsTaken, NotAmong, GoesBy}

-- ---- rows of keys
pub keys_same : (a after : ArenaView) → SameContent (arena_seen a) (arena_seen after) → RowsAreOfKeys a → RowsAreOfKeys after
keys_same a after same keys = record { key_of = λ place row has. keys.key_of place row ((same place row).0 has) }

-- a change of one key's row, which is a row of that key of bytes
pub keys_changed : (a after : ArenaView) (log left : LogView) (key : List ℕ) (before then : Option Row) (number : ℕ) → Changes a after log left key before then number → RowsAreOfKeys a → RowsAreOfKeys after
keys_changed a after log left key before then number change keys = record {
  key_of = λ place row has. elim ((change.content place row).0 has) [
    | inl new ↦ record { key = key; bytes = change.bytes; fits = change.fits; is = sym new.0 }
    | inr old ↦ keys.key_of place row old.0
  ];
}

-- what is known stays known
pub known_stays : (chart next : Chart) (number : ℕ) → Evolves 0 chart next → IsSome (chart number) → IsSome (next number)
known_stays chart next number evolves known = go (chart number) refl known
  where
    some : (place : Spot) → next number ≡ Some place → IsSome (next number)
    some place is = subst (λ (x : Option Spot). IsSome x) (sym is) refl

    go : (place : Option Spot) → chart number ≡ place → IsSome place → IsSome (next number)
    go None is known = absurd (let clash : false ≡ true = known in cc)
    go (Some (spot role prefix low standing)) is known = elim (evolves number role prefix low standing is) [
      | inl (then, place, how) ↦ some _ place
      | inr (epoch, same, before) ↦ absurd (omega (arith, before))
    ]

-- an interior that is named as it was is locked as it was
pub interior_kept : (a after : ArenaView) (chart next : Chart) (number : ℕ) → Evolves 0 chart next → node_at after.nodes number ≡ node_at a.nodes number → IsLockedInterior a chart number → IsLockedInterior after next number
interior_kept a after chart next number evolves same locked = record {
  known = known_stays chart next number evolves locked.known;
  locked = subst (λ (o : Option InteriorView). IsSomeAnd o (λ i. i.version.locked ≡ true)) (ap (option_and_then interior_of) (sym same)) locked.locked;
}

-- what names no interior is no twin
pub no_interior : (a : ArenaView) (chart : Chart) (number : ℕ) → interior_at a.nodes number ≡ None → IsLockedInterior a chart number → ⊥
no_interior a chart number none locked = subst (λ (o : Option InteriorView). IsSomeAnd o (λ i. i.version.locked ≡ true)) none locked.locked

-- the twins are still locked, if each locked interior is
pub twins_kept : (a after : ArenaView) (chart next : Chart) (twins : List Twin) → ((number : ℕ) → IsLockedInterior a chart number → IsLockedInterior after next number) → TwinsAreLocked a chart twins → TwinsAreLocked after next twins
twins_kept a after chart next twins kept all = record { locked = λ one other pair. let both = all.locked one other pair in (kept one both.0, kept other both.1) }

-- the same, if the one number that comes to name another node is no locked interior
pub twins_beside : (a after : ArenaView) (chart next : Chart) (twins : List Twin) (number : ℕ) → Evolves 0 chart next → (IsLockedInterior a chart number → ⊥) → ((other : ℕ) → other ≢ number → node_at after.nodes other ≡ node_at a.nodes other) → TwinsAreLocked a chart twins → TwinsAreLocked after next twins
twins_beside a after chart next twins number evolves free others = twins_kept a after chart next twins (λ other locked. elim (same_number other number) [
  | inl e ↦ absurd (free (subst (λ (m : ℕ). IsLockedInterior a chart m) e locked))
  | inr differ ↦ interior_kept a after chart next other evolves (others other differ) locked
])

-- ---- what is retired
-- what is locked, or not known, or on is not retired
pub locked_kept : (a : ArenaView) (now : ℕ) (chart : Chart) (number : ℕ) → IsLocked (node_at a.nodes number) → RetiredAreGone a now chart → NotRetired a.retired number
locked_kept a now chart number locked all =
    All-weaker (IsGone a now chart) (λ node. node.node.0 ≢ number) (λ node g e. g.unlocked (subst (λ (m : ℕ). IsLocked (node_at a.nodes m)) (sym e) locked)) a.retired all.each

pub unknown_kept : (a : ArenaView) (now : ℕ) (chart : Chart) (number : ℕ) → chart number ≡ None → RetiredAreGone a now chart → NotRetired a.retired number
unknown_kept a now chart number unknown all =
    All-weaker (IsGone a now chart) (λ node. node.node.0 ≢ number) (λ node g e. not_gone (sym unknown ∙ (ap chart (sym e) ∙ g.place))) a.retired all.each
  where
    not_gone : {x : Spot} → ◌≡◌ {A = Option Spot} None (Some x) → ⊥
    not_gone e = cc

pub on_kept : (a : ArenaView) (now : ℕ) (chart : Chart) (number : ℕ) (role : Role) (prefix : List ℕ) (low : ℕ) (posted : Bool) → chart number ≡ Some (spot role prefix low (on posted)) → RetiredAreGone a now chart → NotRetired a.retired number
on_kept a now chart number role prefix low posted stands all =
    All-weaker (IsGone a now chart) (λ node. node.node.0 ≢ number) (λ node g e. not_gone (sym stands ∙ (ap chart (sym e) ∙ g.place))) a.retired all.each
  where
    not_gone : {one : Role} {other : List ℕ} {least epoch : ℕ} → ◌≡◌ {A = Option Spot} (Some (spot role prefix low (on posted))) (Some (spot one other least (gone epoch))) → ⊥
    not_gone e = cc

-- what is retired is still gone, and no other is retired, if one number changes and it is not retired
pub retired_kept : (a after : ArenaView) (now : ℕ) (chart next : Chart) (n : ℕ) → Evolves 0 chart next → NotRetired a.retired n → ((other : ℕ) → other ≢ n → node_at after.nodes other ≡ node_at a.nodes other) → after.retired ≡ a.retired → RetiredAreGone a now chart → RetiredAreGone after now next
retired_kept a after now chart next n evolves apart others same all = record { each = subst (λ (l : List Retired). All (IsGone after now next) l) (sym same) (go a.retired apart all.each) }
  where
    later_gone : {standing then : Standing} {epoch : ℕ} → Later 0 standing then → standing ≡ gone epoch → then ≡ gone epoch
    later_gone {epoch = epoch} (still_on {posted = posted}) e = absurd (let clash : on posted ≡ gone epoch = e in cc)
    later_gone still_gone e = e
    later_gone {epoch = epoch} (went {posted = posted} from) e = absurd (let clash : on posted ≡ gone epoch = e in cc)

    stays : (node : Retired) → node.node.0 ≢ n → IsGone a now chart node → IsGone after now next node
    stays node differ g = elim (evolves node.node.0 g.role g.prefix g.low (gone g.epoch) g.place) [
      | inl (then, is, how) ↦ record {
        role = g.role;
        prefix = g.prefix;
        low = g.low;
        epoch = g.epoch;
        place = is ∙ ap (λ (s : Standing). Some (spot g.role g.prefix g.low s)) (later_gone how refl);
        before = g.before;
        dated = g.dated;
        unlocked = λ locked. g.unlocked (subst (λ (x : Option Node). IsLocked x) (others node.node.0 differ) locked);
      }
      | inr (epoch, is, before) ↦ absurd (omega (arith, before))
    ]

    go : (retired : List Retired) → NotRetired retired n → All (IsGone a now chart) retired → All (IsGone after now next) retired
    go [] out gone_ = All-nil (IsGone after now next)
    go (node ∷ retired) out gone_ =
        All-cons (IsGone after now next) node retired (stays node (All-head (λ (r : Retired). r.node.0 ≢ n) node retired out) (All-head (IsGone a now chart) node retired gone_))
        (go retired (All-tail (λ (r : Retired). r.node.0 ≢ n) node retired out) (All-tail (IsGone a now chart) node retired gone_))

-- what names no border is not closing
pub no_root : (a : ArenaView) (closing : List ℕ) (chart : Chart) (number : ℕ) → border_at a.nodes number ≡ None → HeadsStand a closing chart → NotAmong number closing
no_root a closing chart number none heads i = subst (λ (o : Option BorderView). IsSomeAnd o (λ b. b.version.locked ≡ true)) none (heads.roots number i)

-- nor is a border that is not locked
pub unlocked_root : (a : ArenaView) (closing : List ℕ) (chart : Chart) (number : ℕ) (b : BorderView) → border_at a.nodes number ≡ Some b → b.version.locked ≡ false → HeadsStand a closing chart → NotAmong number closing
unlocked_root a closing chart number b named unlocked heads i =
    let locked : b.version.locked ≡ true = subst (λ (o : Option BorderView). IsSomeAnd o (λ x. x.version.locked ≡ true)) named (heads.roots number i) in
    let clash : false ≡ true = sym unlocked ∙ locked in
    cc

-- the closing borders are still locked, if one number changes that is none of them or is still locked
pub roots_kept : (a after : ArenaView) (closing : List ℕ) (n : ℕ) → (Among n closing → IsLockedRoot after n) → ((other : ℕ) → other ≢ n → node_at after.nodes other ≡ node_at a.nodes other) → ((number : ℕ) → Among number closing → IsLockedRoot a number) → (number : ℕ) → Among number closing → IsLockedRoot after number
roots_kept a after closing n kept others roots number i = elim (same_number number n) [
  | inl e ↦ subst (λ (m : ℕ). IsLockedRoot after m) (sym e) (kept (subst (λ (m : ℕ). Among m closing) e i))
  | inr differ ↦ subst (λ (o : Option BorderView). IsSomeAnd o (λ b. b.version.locked ≡ true)) (ap (option_and_then border_of) (sym (others number differ))) (roots number i)
]

-- ---- one border is changed
module _ (a : ArenaView) (n : ℕ) (b : BorderView) (change : BorderView → BorderView) (named : border_at a.nodes n ≡ Some b) where
  some_node : IsSome (node_at a.nodes n)
  some_node = subst (λ (x : Option Node). IsSome x) (sym (node-from_border a.nodes n b named)) refl

  updated : Updates a.nodes (with_border_changed a n change).nodes n (Some (Border (change b)))
  updated = subst (λ (x : ArenaView). Updates a.nodes x.nodes n (Some (Border (change b)))) (sym (changed-border a n b change named)) (updates-with_node a.nodes n (Border (change b)) some_node)

  pub now_named : border_at (with_border_changed a n change).nodes n ≡ Some (change b)
  now_named = ap (option_and_then border_of) updated.changed

  pub others_named : (other : ℕ) → other ≢ n → node_at (with_border_changed a n change).nodes other ≡ node_at a.nodes other
  others_named other apart = updated.others other apart

  -- heads are as they were, and so are the closing borders, if the border is none of them or is still locked
  pub heads_changed : {closing : List ℕ} (chart : Chart) → (Among n closing → (change b).version.locked ≡ true) → HeadsStand a closing chart → HeadsStand (with_border_changed a n change) closing chart
  heads_changed {closing = closing} chart kept heads = record {
    alive = λ number prefix head on is. elim (same_number number n) [
      | inl e ↦ (let none : head_at (with_border_changed a n change).nodes number ≡ None = ap (λ (m : ℕ). head_at (with_border_changed a n change).nodes m) e ∙ ap (option_and_then head_of) updated.changed in
          let clash : ◌≡◌ {A = Option HeadView} None (Some head) = sym none ∙ is in cc)
      | inr differ ↦ heads.alive number prefix head on (sym (ap (option_and_then head_of) (others_named number differ)) ∙ is)
    ];
    roots = roots_kept a (with_border_changed a n change) closing n (λ i. subst (λ (o : Option BorderView). IsSomeAnd o (λ x. x.version.locked ≡ true)) (sym now_named) (kept i)) others_named heads.roots;
  }

  -- and so are interiors
  pub twins_changed : (chart next : Chart) (twins : List Twin) → Evolves 0 chart next → TwinsAreLocked a chart twins → TwinsAreLocked (with_border_changed a n change) next twins
  twins_changed chart next twins evolves = twins_beside a (with_border_changed a n change) chart next twins n evolves (no_interior a chart n (ap (option_and_then interior_of) (node-from_border a.nodes n b named))) others_named

  -- a border that is locked still, or is not marked deleted, is so if it is not locked
  pub alive_changed : (chart : Chart) → ((change b).version.locked ≡ true) ⊎ ((change b).version.deleted ≡ false) → IsAliveIfFree (with_border_changed a n change) chart n
  alive_changed chart held = alive_node (with_border_changed a n change) chart n (Border (change b)) updated.changed held

  -- what the change asks of the border: it is not retired; if it is closing, it is locked still; and if it is on and not locked, it is not marked deleted
  abbrev pub MayChange : World → Type 0
  MayChange w = NotRetired a.retired n × (Among n w.closing → (change b).version.locked ≡ true) × IsAliveIfFree (with_border_changed a n change) w.chart n

  is_locked_node : b.version.locked ≡ true → IsLocked (node_at a.nodes n)
  is_locked_node locked = subst (λ (x : Option Node). IsLocked x) (sym (node-from_border a.nodes n b named)) locked

  -- a border that is locked may be changed, if it is not closing
  pub locked_may : (now : ℕ) (w : World) → IsWorld a now w → b.version.locked ≡ true → NotAmong n w.closing → ((change b).version.locked ≡ true) ⊎ ((change b).version.deleted ≡ false) → MayChange w
  locked_may now w world locked free held = (locked_kept a now w.chart n (is_locked_node locked) world.retired, λ i. absurd (free i), alive_changed w.chart held)

  -- what the step leaves
  pub goes_border : {commit : Option ℕ} (now : ℕ) (w : World) (owned owns : List ℕ) (Then : World → Type 0) → IsWorld a now w → AgesAt commit w w.chart n b (change b) → IsIndexAt (with_border_changed a n change) now w.twins w.chart → RowsAreOfKeys (with_border_changed a n change)
      → ((other : ℕ) → IsTaken a w other → NotAmong other owned → other ≢ n) → ((other : ℕ) → Among other owns → Among other owned ⊎ (other ≡ n))
      → ((other : ℕ) → other ≢ n → Among other owned → Among other owns) → (((change b).version.locked ≡ true) ⊎ (w.chart n ≡ None) → Among n owns) → MayChange w → Then w
      → GoesBy commit now a (with_border_changed a n change) w owned owns Then
  goes_border now w owned owns Then world ages index keys free fewer more mine may truth = record {
    next = w;
    world = record { index = index; keys = keys; heads = heads_changed w.chart may.1 world.heads; alive = alive_there a (with_border_changed a n change) w.chart n may.2 others_named world.alive; twins = twins_changed w.chart w.chart w.twins (evolves_same 0 w.chart) world.twins; retired = retired_kept a (with_border_changed a n change) now w.chart w.chart n (evolves_same 0 w.chart) may.0 others_named refl world.retired };
    evolves = λ begun before. evolves_same begun w.chart;
    leaves = λ other taken apart. (
      record { node = others_named other (free other taken apart); spot = refl; twins = λ one other here. ((λ h. h), (λ h. h)); closing = λ i. i; retired = ((λ h. h), (λ h. h)) },
      λ i. elim (fewer other i) [ inl j ↦ apart j | inr e ↦ free other taken apart e ],
    );
    takes = λ number taken. elim (same_number number n) [
      | inl e ↦ inl (subst (λ (m : ℕ). Among m owns) (sym e) (mine (elim taken [
        | inl locked ↦ inl (subst (λ (x : Option Node). IsLocked x) (ap (λ (m : ℕ). node_at (with_border_changed a n change).nodes m) e ∙ updated.changed) locked)
        | inr (inl spare) ↦ inr (ap w.chart (sym e) ∙ spare.1)
        | inr (inr head) ↦ absurd (no_head (subst (λ (o : Option HeadView). IsSomeAnd o (λ h. h.version.deleted ≡ true)) (ap (λ (m : ℕ). head_at (with_border_changed a n change).nodes m) e ∙ ap (option_and_then head_of) updated.changed) head.marked))
      ])))
      | inr differ ↦ elim (is_among number owned) [
        | inl i ↦ inl (more number differ i)
        | inr out ↦ inr (taken_back a (with_border_changed a n change) w w number (record { node = others_named number differ; spot = refl; twins = λ one other here. ((λ h. h), (λ h. h)); closing = λ i. i; retired = ((λ h. h), (λ h. h)) }) taken, out)
      ]
    ];
    spots = λ number out apart. refl;
    age = age_one n b (change b) named now_named ages others_named;
    true = truth;
  }
    where
      no_head : IsSomeAnd (let nothing : Option HeadView = None in nothing) (λ h. h.version.deleted ≡ true) → ⊥
      no_head h = h

  -- a border that is not locked, and that the chart knows, is nobody's
  pub unlocked_free : (w : World) (owned : List ℕ) → b.version.locked ≡ false → IsSome (w.chart n) → (other : ℕ) → IsTaken a w other → NotAmong other owned → other ≢ n
  unlocked_free w owned unlocked known other (inl locked) apart e =
      let here : b.version.locked ≡ true = subst (λ (x : Option Node). IsLocked x) (ap (λ (m : ℕ). node_at a.nodes m) e ∙ node-from_border a.nodes n b named) locked in
      let clash : false ≡ true = sym unlocked ∙ here in cc
  unlocked_free w owned unlocked known other (inr (inr head)) apart e =
      subst (λ (o : Option HeadView). IsSomeAnd o (λ h. h.version.deleted ≡ true)) (ap (λ (m : ℕ). head_at a.nodes m) e ∙ ap (option_and_then head_of) (node-from_border a.nodes n b named)) head.marked
  unlocked_free w owned unlocked known other (inr (inl spare)) apart e =
      let none : w.chart n ≡ None = ap w.chart (sym e) ∙ spare.1 in
      let some : IsSome (let nothing : Option Spot = None in nothing) = subst (λ (x : Option Spot). IsSome x) none known in
      cc

-- what the call owns is no other's
pub own_free : (a : ArenaView) (n : ℕ) (w : World) (other : ℕ) → IsTaken a w other → NotAmong other (n ∷ []) → other ≢ n
own_free a n w other taken apart e = apart (subst (λ (m : ℕ). Among m (n ∷ [])) (sym e) first)

pub mine_free : (a : ArenaView) (n : ℕ) (w : World) (owned : List ℕ) → Among n owned → (other : ℕ) → IsTaken a w other → NotAmong other owned → other ≢ n
mine_free a n w owned mine other taken apart e = apart (subst (λ (m : ℕ). Among m owned) (sym e) mine)

-- one number that is owned
pub among_one : (other n : ℕ) → Among other (n ∷ []) → other ≡ n
among_one other n first = refl
among_one other n (later i) = elim i [ ]
