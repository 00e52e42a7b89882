-- What stays of a posting's record where the numbers that it owns do, and which of its numbers differ.
use Rattle.std.proofs.Common.{ℕ, ◌≡◌, ◌≢◌, ◌≤◌, ◌<◌, ◌+◌, inl, inr, List, [], ◌∷◌, Option, Some, None, IsSome, true, refl, sym, ap, subst, ◌∙◌, arith}
use Rattle.std.specs.Option.{option_and_then}
use Rattle.mt_types.specs.declared.limits.TheConstants.{MAX_LEVEL}
use Rattle.mt_types.specs.declared.numbers.NodeNo.{NodeNo}
use Rattle.mt_interior.specs.Head.{HeadView}
use Rattle.mt_interior.specs.Interior.{InteriorView}
use Rattle.mt_arena.specs.Node.{node_at, head_at, head_of, interior_at, interior_of, border_of}
use Rattle.mt_arena.specs.Arena.{ArenaView}
use Rattle.mt_arena.specs.declared.node.Node.{Node}
use Rattle.mt_arena.proofs.NodeLemmas.{node-from_interior, node-from_border}
use Rattle.mt_chart.specs.Tree.{Among, first, later}
use Rattle.mt_chart.specs.Chart.{Spot}
use Rattle.mt_chart.specs.Steps.{NoTwin}
use Rattle.mt_tree.specs.InteriorSteps.{IsInLayer}
use Rattle.mt_steps.specs.World.{World, IsLocked, IsTaken, IsSame}
use Rattle.mt_steps.proofs.FrameLemmas.{retired_same}
use Rattle.mt_post.specs.declared.split.Split.{Split}
use Rattle.mt_post.specs.Posting.{IsToPost, IsSpareInterior, IsSplitting, IsHalved, AreWaiting, IsLetGo, IsPostedHalf, goal, goal_level, split_owns, upper_half}

module _ (a after : ArenaView) (w next : World) (prefix : List ℕ) where
  -- the border that is to be posted stays so where its number does
  pub to_post_stays : (number low : ℕ) → IsSame a after w next number → IsToPost a w prefix number low → IsToPost after next prefix number low
  to_post_stays number low same t = record { b = t.b; named = ap (option_and_then border_of) same.node ∙ t.named; low_is = t.low_is; locked = t.locked; alive = t.alive; written = t.written; place = same.spot ∙ t.place; free = λ i. t.free (same.closing i) }

  -- a spare stays one
  pub spare_stays : (number : ℕ) (i : InteriorView) → IsSame a after w next number → IsSpareInterior a w number i → IsSpareInterior after next number i
  spare_stays number i same s = record { named = ap (option_and_then interior_of) same.node ∙ s.named; unknown = same.spot ∙ s.unknown; alive = s.alive }

  pub layer_stays : (number : ℕ) → IsSame a after w next number → IsInLayer w.chart number prefix → IsInLayer next.chart number prefix
  layer_stays number same s = record { level = s.level; low = s.low; posted = s.posted; place = same.spot ∙ s.place }

  -- so does what has no twin
  pub lone_stays : (number : ℕ) → IsSame a after w next number → NoTwin w.twins number → NoTwin next.twins number
  lone_stays number same lone = (
    (λ other pair. lone.0 other ((same.twins other number (inr refl)).0 pair)),
    (λ other pair. lone.1 other ((same.twins number other (inl refl)).0 pair)),
  )

  pub splitting_stays : (number : ℕ) (i : InteriorView) → IsSame a after w next number → IsSplitting a w prefix number i → IsSplitting after next prefix number i
  splitting_stays number i same s = record {
    named = ap (option_and_then interior_of) same.node ∙ s.named;
    locked = s.locked;
    alive = s.alive;
    stands = layer_stays number same s.stands;
    lone = lone_stays number same s.lone;
    full = s.full;
    below_top = s.below_top;
    sound = s.sound;
  }

  pub halved_stays : (split : Split) → IsSame a after w next split.interior.0 → IsSame a after w next split.half.node.0 → IsHalved a w prefix split → IsHalved after next prefix split
  halved_stays split same same_half h = record {
    interior = h.interior;
    splits = splitting_stays split.interior.0 h.interior same h.splits;
    spare = spare_stays split.half.node.0 (upper_half h.interior split.half.low) same_half h.spare;
    level = h.level;
    starts = h.starts;
  }

  -- the splits that wait stay, and the border
  waiting_stays : (half : ℕ) (waiting : List Split) → ((number : ℕ) → Among number (split_owns half waiting) → IsSame a after w next number) → AreWaiting a w prefix waiting → AreWaiting after next prefix waiting
  waiting_stays half [] same truth = tt
  waiting_stays half (split ∷ waiting) same (above, h, more) = (above, halved_stays split (same split.interior.0 (later first)) (same split.half.node.0 first) h, waiting_stays half waiting (λ number i. same number (later (later i))) more)

  half_stays : (half low : ℕ) (waiting : List Split) → ((number : ℕ) → Among number (split_owns half waiting) → IsSame a after w next number) → IsToPost a w prefix half low → IsToPost after next prefix half low
  half_stays half low [] same t = to_post_stays half low (same half first) t
  half_stays half low (split ∷ waiting) same t = half_stays half low waiting (λ number i. same number (later (later i))) t

  pub all_stay : (half low : ℕ) (waiting : List Split) → ((number : ℕ) → Among number (split_owns half waiting) → IsSame a after w next number) → IsToPost a w prefix half low → AreWaiting a w prefix waiting
      → IsToPost after next prefix half low × AreWaiting after next prefix waiting
  all_stay half low waiting same t truth = (half_stays half low waiting same t, waiting_stays half waiting same truth)

  pub let_go_stays : (number below : ℕ) → IsSame a after w next number → IsLetGo a w prefix number below → IsLetGo after next prefix number below
  let_go_stays number below same l = record {
    interior = l.interior;
    named = ap (option_and_then interior_of) same.node ∙ l.named;
    locked = l.locked;
    alive = l.alive;
    stands = layer_stays number same l.stands;
    lone = lone_stays number same l.lone;
    above = l.above;
  }

  pub posted_half_stays : (split : Split) → IsSame a after w next split.interior.0 → IsSame a after w next split.half.node.0 → IsPostedHalf a w prefix split → IsPostedHalf after next prefix split
  posted_half_stays split same same_half p = record {
    interior = p.interior;
    half = p.half;
    named = ap (option_and_then interior_of) same.node ∙ p.named;
    half_named = ap (option_and_then interior_of) same_half.node ∙ p.half_named;
    locked = p.locked;
    half_locked = p.half_locked;
    alive = p.alive;
    half_alive = p.half_alive;
    level = p.level;
    half_level = p.half_level;
    stands = layer_stays split.interior.0 same p.stands;
    half_stands = layer_stays split.half.node.0 same_half p.half_stands;
    full = p.full;
    upper = p.upper;
    twins = λ one other pair here. p.twins one other ((same.twins one other here).0 pair) here;
    half_twins = λ one other pair here. p.half_twins one other ((same_half.twins one other here).0 pair) here;
  }

-- what holds of the only number
pub only : (P : ℕ → Type 0) (half number : ℕ) → P half → Among number (half ∷ []) → P number
only P half number h first = h
only P half number h (later i) = elim i [ ]

-- ---- numbers that differ
module _ (a : ArenaView) (w : World) (prefix : List ℕ) where
  -- what the chart knows is no spare
  pub apart_known : (number root : ℕ) (place : Spot) → w.chart number ≡ Some place → w.chart root ≡ None → number ≢ root
  apart_known number root place is unknown e = (let clash : ◌≡◌ {A = Option Spot} None (Some place) = sym unknown ∙ (ap w.chart (sym e) ∙ is) in cc)

  pub apart_from : (half low root : ℕ) → IsToPost a w prefix half low → w.chart root ≡ None → half ≢ root
  apart_from half low root t unknown = apart_known half root _ t.place unknown

  -- a border is no interior, and no head
  pub apart_interior : (number half low : ℕ) (i : InteriorView) → IsToPost a w prefix half low → interior_at a.nodes number ≡ Some i → half ≢ number
  apart_interior number half low i t named e = (let clash : ◌≡◌ {A = Option InteriorView} None (Some i) = sym (ap (option_and_then interior_of) (node-from_border a.nodes half t.b t.named)) ∙ (ap (λ (m : ℕ). interior_at a.nodes m) e ∙ named) in cc)

  pub apart_head : (number half low : ℕ) (h : HeadView) → IsToPost a w prefix half low → head_at a.nodes number ≡ Some h → half ≢ number
  apart_head number half low h t named e = (let clash : ◌≡◌ {A = Option HeadView} None (Some h) = sym (ap (option_and_then head_of) (node-from_border a.nodes half t.b t.named)) ∙ (ap (λ (m : ℕ). head_at a.nodes m) e ∙ named) in cc)

  -- an interior is no head
  pub interior_apart_head : (number other : ℕ) (i : InteriorView) (h : HeadView) → interior_at a.nodes other ≡ Some i → head_at a.nodes number ≡ Some h → other ≢ number
  interior_apart_head number other i h named is e = (let clash : ◌≡◌ {A = Option HeadView} None (Some h) = sym (ap (option_and_then head_of) (node-from_interior a.nodes other i named)) ∙ (ap (λ (m : ℕ). head_at a.nodes m) e ∙ is) in cc)

  -- interiors of two levels have two numbers
  levels_apart : (number other : ℕ) (i j : InteriorView) → interior_at a.nodes number ≡ Some i → interior_at a.nodes other ≡ Some j → i.level < j.level → number ≢ other
  levels_apart number other i j is js less e =
      (let both : ◌≡◌ {A = Option InteriorView} (Some i) (Some j) = sym is ∙ (ap (λ (m : ℕ). interior_at a.nodes m) e ∙ js) in let same : i ≡ j = cc in let level = ap (λ (x : InteriorView). x.level) same in omega (arith, less, level))

  -- what is above what is to be named is owned by no split that waits, and isn't the border
  pub owns_below : (half low other : ℕ) (j : InteriorView) (waiting : List Split) → IsToPost a w prefix half low → AreWaiting a w prefix waiting → interior_at a.nodes other ≡ Some j → goal_level waiting < j.level → (number : ℕ) → Among number (split_owns half waiting) → number ≢ other
  owns_below half low other j [] t truth named above number i = only (λ (m : ℕ). m ≢ other) half number (apart_interior other half low j t named) i
  owns_below half low other j (split ∷ waiting) t (less, h, more) named above number first = levels_apart split.half.node.0 other _ j h.spare.named named (let level = h.level in omega (arith, above, level))
  owns_below half low other j (split ∷ waiting) t (less, h, more) named above number (later first) = levels_apart split.interior.0 other _ j h.splits.named named (let level = h.level in omega (arith, above, level))
  owns_below half low other j (split ∷ waiting) t (less, h, more) named above number (later (later i)) = owns_below half low other j waiting t more named (omega (arith, above, less)) number i

  -- the numbers of those below a split are neither of its two
  pub beside_half : (split : Split) (half low : ℕ) (waiting : List Split) → IsToPost a w prefix half low → IsHalved a w prefix split → goal_level waiting < split.half.level → AreWaiting a w prefix waiting → (number : ℕ) → Among number (split_owns half waiting)
      → (number ≢ split.half.node.0) × (number ≢ split.interior.0)
  beside_half split half low waiting t h above more number k =
      let less : goal_level waiting < h.interior.level = subst (λ (l : ℕ). goal_level waiting < l) h.level above in
      (owns_below half low split.half.node.0 _ waiting t more h.spare.named less number k, owns_below half low split.interior.0 h.interior waiting t more h.splits.named less number k)

  -- ---- what it owns is taken
  pub spare_taken : (root : ℕ) (i : InteriorView) → IsSpareInterior a w root i → IsTaken a w root
  spare_taken root i spare = inr (inl (subst (λ (x : Option Node). IsSome x) (sym (node-from_interior a.nodes root i spare.named)) refl, spare.unknown))

  pub locked_taken : (number : ℕ) (i : InteriorView) → interior_at a.nodes number ≡ Some i → i.version.locked ≡ true → IsTaken a w number
  locked_taken number i named locked = inl (subst (λ (x : Option Node). IsLocked x) (sym (node-from_interior a.nodes number i named)) locked)

  border_taken : (half low : ℕ) → IsToPost a w prefix half low → IsTaken a w half
  border_taken half low t = inl (subst (λ (x : Option Node). IsLocked x) (sym (node-from_border a.nodes half t.b t.named)) t.locked)

  pub owns_taken : (half low : ℕ) (waiting : List Split) → IsToPost a w prefix half low → AreWaiting a w prefix waiting → (number : ℕ) → Among number (split_owns half waiting) → IsTaken a w number
  owns_taken half low [] t truth number i = only (λ (m : ℕ). IsTaken a w m) half number (border_taken half low t) i
  owns_taken half low (split ∷ waiting) t (less, h, more) number first = spare_taken split.half.node.0 _ h.spare
  owns_taken half low (split ∷ waiting) t (less, h, more) number (later first) = locked_taken split.interior.0 h.interior h.splits.named h.splits.locked
  owns_taken half low (split ∷ waiting) t (less, h, more) number (later (later i)) = owns_taken half low waiting t more number i

  -- so it is no number that isn't taken
  pub owns_beside : (half low other : ℕ) (waiting : List Split) → IsToPost a w prefix half low → AreWaiting a w prefix waiting → (IsTaken a w other → ⊥) → (number : ℕ) → Among number (split_owns half waiting) → number ≢ other
  owns_beside half low other waiting t truth free number i e = free (subst (λ (m : ℕ). IsTaken a w m) e (owns_taken half low waiting t truth number i))

  -- what is to be named is below the greatest level, and has one more level for each split that waits
  pub goal_below : (waiting : List Split) → AreWaiting a w prefix waiting → goal_level waiting + 1 ≤ MAX_LEVEL
  goal_below [] truth = omega arith
  goal_below (split ∷ waiting) (less, h, more) = subst (λ (l : ℕ). l + 1 ≤ MAX_LEVEL) (sym h.level) h.splits.below_top

-- the level of what is to be named
pub goal_has_level : (half : NodeNo) (low : ℕ) (waiting : List Split) → (goal half low waiting).level ≡ goal_level waiting
goal_has_level half low [] = refl
goal_has_level half low (split ∷ waiting) = refl

-- what is another number than the one that changes is the same, where places and twins stay
pub same_beside : (a after : ArenaView) (w : World) → after.retired ≡ a.retired → (n : ℕ) → ((other : ℕ) → other ≢ n → node_at after.nodes other ≡ node_at a.nodes other) → (number : ℕ) → number ≢ n → IsSame a after w w number
same_beside a after w same n others number apart = record { node = others number apart; spot = refl; twins = λ one other here. ((λ h. h), (λ h. h)); closing = λ i. i; retired = retired_same a.retired after.retired number same }
