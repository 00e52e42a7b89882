-- What the spares of a new layer leave of the border that the call has locked.
use Rattle.std.proofs.Common.{ℕ, ◌≡◌, ◌≢◌, inl, inr, true, false, List, [], ◌∷◌, Option, Some, None, IsSome, refl, sym, ap, subst, ◌∙◌}
use Rattle.std.specs.Option.{option_and_then}
use Rattle.mt_types.specs.declared.numbers.NodeNo.{NodeNo}
use Rattle.mt_border.specs.Border.{BorderView, new_border, with_splitting}
use Rattle.mt_border.specs.declared.entry.Entry.{Entry}
use Rattle.mt_interior.specs.Head.{new_head}
use Rattle.mt_arena.specs.Node.{node_at, head_of, border_at, border_of, Updates}
use Rattle.mt_arena.specs.Arena.{ArenaView}
use Rattle.mt_arena.specs.declared.node.Node.{Node}
use Rattle.mt_arena.specs.declared.node.Node.TheVariants.{Head, Border}
use Rattle.mt_chart.specs.Tree.{first, later}
use Rattle.mt_chart.specs.Chart.{Spot}
use Rattle.mt_chart.specs.Steps.{SameContent}
use Rattle.mt_chart.proofs.Basics.{same_number}
use Rattle.mt_tree.specs.Seen.{arena_seen}
use Rattle.mt_steps.specs.declared.entering.Outline.{Outline}
use Rattle.mt_steps.specs.declared.way.Way.{Way}
use Rattle.mt_steps.specs.World.{World, IsWorld, Goes}
use Rattle.mt_steps.proofs.FrameLemmas.{retired_same}
use Rattle.mt_steps.proofs.LayerLemmas.{goes_two, two_apart, content_twice}
use Rattle.mt_steps.proofs.TwiceLemmas.{goes_then}
use Rattle.mt_steps.proofs.SplitLemmas.{goes_occupied, vacant_root}
use Rattle.mt_steps.proofs.BorderLemmas.{others_named}
use Rattle.mt_tree.proofs.AgeLemmas.{ages_splitting}
use Rattle.mt_write.specs.declared.writing.Halves.{Halves}
use Rattle.mt_write.specs.declared.writing.Layer.{Layer}
use Rattle.mt_write.specs.Held.{layer_owned}
use Rattle.mt_write.specs.Writing.{IsLockedAt, HasLocked, AreHalves, IsToFill, IsSpare}
use Rattle.mt_write.specs.Splitting.{IsCutAt, empty_half}
use Rattle.mt_write.specs.Ready.{LayerSpares, Occupies, Spares}
use Rattle.mt_write.proofs.InsertLemmas.{goes_marked, sound_now}
use Rattle.mt_write.proofs.WriteLemmas.{owned_at-changed, written_at}
use Rattle.mt_write.proofs.WorkLemmas.{locked_at_stays}

-- what names nothing is no border
pub vacant_border : (a : ArenaView) (n : ℕ) (b : BorderView) → node_at a.nodes n ≡ None → border_at a.nodes n ≡ Some b → ⊥
vacant_border a n b vacant named = (let clash : ◌≡◌ {A = Option BorderView} None (Some b) = sym (ap (option_and_then border_of) vacant) ∙ named in cc)

-- what the chart knows is no spare
pub unknown_known : (w : World) (spare number : ℕ) → w.chart spare ≡ None → IsSome (w.chart number) → number ≡ spare → ⊥
unknown_known w spare number unknown known e = (let clash : false ≡ true = subst (λ (o : Option Spot). IsSome o) (ap w.chart e ∙ unknown) known in absurd (cc))

-- what the call has locked, after a spare was occupied and given back
pub has_locked_back : (prefix : List ℕ) (a between after : ArenaView) (w : World) (n : ℕ) (split : Option Halves) (number : ℕ) (node : Node) → node_at a.nodes number ≡ None → Updates a.nodes between.nodes number (Some node) → Updates between.nodes after.nodes number None
    → HasLocked prefix a w n split → HasLocked prefix after w n split
has_locked_back prefix a between after w n split number node vacant updates back has = record {
  locked = λ other i.
      let k = has.locked other i in
      let differ : other ≢ number = λ e. vacant_border a number k.b vacant (ap (λ (m : ℕ). border_at a.nodes m) (sym e) ∙ k.named) in
      record { b = k.b; named = ap (option_and_then border_of) (back.others other differ ∙ updates.others other differ) ∙ k.named; known = k.known; locked = k.locked; alive = k.alive; written = k.written; free = k.free };
  own = has.own;
  halves = halves_back split has.halves;
}
  where
    halves_back : (split : Option Halves) → AreHalves prefix a w split → AreHalves prefix after w split
    halves_back None halves = tt
    halves_back (Some split) halves = record {
      apart = halves.apart;
      low = halves.low;
      place = halves.place;
      low_is = λ b is. elim (same_number split.half.0 number) [
        | inl e ↦ absurd (vacant_border after number b back.changed (ap (λ (m : ℕ). border_at after.nodes m) (sym e) ∙ is))
        | inr differ ↦ halves.low_is b (sym (ap (option_and_then border_of) (back.others split.half.0 differ ∙ updates.others split.half.0 differ)) ∙ is)
      ];
    }

-- once the spare of a half is occupied, and the border is marked for the split
module _ (now begun : ℕ) (a after : ArenaView) (w : World) (key : List ℕ) (way : Way) (half : NodeNo) (cut place : ℕ) (outline : Outline) (f : Spares key way a half.0 cut place outline after) (world : IsWorld a now w) (at : IsLockedAt a key way f.b w) where
  abbrev n : ℕ
  n = way.node.0

  abbrev spare : BorderView
  spare = empty_half f.b f.cut_at.middle

  abbrev o : Occupies a f.between half.0 (Border spare)
  o = f.occupied

  unknown : w.chart half.0 ≡ None
  unknown = o.unknown.unknown now w.twins w.chart world.index

  differ : n ≢ half.0
  differ e = vacant_border a half.0 f.b o.vacant (ap (λ (m : ℕ). border_at a.nodes m) (sym e) ∙ at.named)

  there : IsLockedAt f.between key way f.b w
  there = locked_at_stays a f.between w w key way f.b (record { node = o.updates.others n differ; spot = refl; twins = λ one other here. ((λ h. h), (λ h. h)); closing = λ i. i; retired = retired_same a.retired f.between.retired n o.retired }) at

  spare_there : border_at after.nodes half.0 ≡ Some spare
  spare_there = subst (λ (x : ArenaView). border_at x.nodes half.0 ≡ Some spare) (sym f.marked)
      (ap (option_and_then border_of) (others_named f.between n f.b with_splitting there.named half.0 (λ e. differ (sym e))) ∙ ap (option_and_then border_of) o.updates.changed)

  marked : IsLockedAt after key way (with_splitting f.b) w
  marked = subst (λ (x : ArenaView). IsLockedAt x key way (with_splitting f.b) w) (sym f.marked)
      (written_at _ key way (with_splitting f.b) w there.written (owned_at-changed f.between key way f.b w with_splitting there.named there.layer there.stands there.last refl refl refl there.alive there.locked there.free))

  marked_cut : IsCutAt key way (with_splitting f.b) cut place
  marked_cut = record {
    sound = sound_now f.between after n f.b with_splitting there.named f.marked f.sound;
    full = f.cut_at.full;
    best = f.cut_at.best;
    middle = f.cut_at.middle;
    is_middle = f.cut_at.is_middle;
    absent = f.cut_at.absent;
  }

  pub half_goes : (Then : World → Type 0) → (IsLockedAt after key way (with_splitting f.b) w → (c : IsCutAt key way (with_splitting f.b) cut place) → IsSpare after w half.0 (empty_half (with_splitting f.b) c.middle) → Then w)
      → Goes now a after w (n ∷ []) (half.0 ∷ n ∷ []) Then × SameContent (arena_seen a) (arena_seen after)
  unfolding marked_cut
  half_goes Then then =
      let kept = o.keeps.keeps now w.twins w.chart world.index in
      let truth : Then w = then marked marked_cut (record { named = spare_there; unknown = unknown; locked = refl; free = vacant_root a w half.0 o.vacant world.heads }) in (
        goes_then now a f.between after w (n ∷ []) (half.0 ∷ n ∷ []) (half.0 ∷ n ∷ []) Then
            (goes_occupied now a f.between w half.0 (Border spare) (n ∷ []) (λ next. next ≡ w) o.vacant o.updates o.retired o.unknown o.keeps world refl)
            (λ number known. o.updates.others number (λ e. unknown_known w half.0 number unknown known e))
            (λ number i. inr i)
            (λ mid. (goes_marked f.between n with_splitting after f.marked f.keeps (half.0 ∷ n ∷ []) Then now w f.b there.named mid (ages_splitting f.b) refl there.locked there.alive there.free (later first) truth).0),
        content_twice a f.between after kept.content (f.keeps.keeps now w.twins w.chart kept.index).content,
      )

-- once both spares of a layer are occupied
pub spares_go : (now begun : ℕ) (a after : ArenaView) (w : World) (key : List ℕ) (way : Way) (layer : Layer) (entries : List Entry) (f : LayerSpares key way a layer entries after) → IsWorld a now w → IsLockedAt a key way f.b w
    → Goes now a after w (way.node.0 ∷ []) (layer_owned way.node.0 layer) (λ next. (b : BorderView) × IsLockedAt after key way b next × IsToFill after next key way b layer entries) × SameContent (arena_seen a) (arena_seen after)
spares_go now begun a after w key way layer entries f world at =
    let one = f.root in
    let two = f.head in
    let apart = two_apart now a f.between after w layer.root.0 layer.head.0 (Border (new_border f.number 0 false)) (Head (new_head layer.root 0 true)) [] (λ next. IsWorld a now w) one.vacant one.updates one.retired one.unknown one.keeps two.vacant two.updates two.retired two.unknown two.keeps world in
    let kept = one.keeps.keeps now w.twins w.chart world.index in
    let not_root : way.node.0 ≢ layer.root.0 = λ e. vacant_border a layer.root.0 f.b one.vacant (ap (λ (m : ℕ). border_at a.nodes m) (sym e) ∙ at.named) in
    let not_head : way.node.0 ≢ layer.head.0 = λ e. vacant_border f.between layer.head.0 f.b two.vacant (ap (λ (m : ℕ). border_at f.between.nodes m) (sym e) ∙ (ap (option_and_then border_of) (one.updates.others way.node.0 not_root) ∙ at.named)) in
    goes_two now a f.between after w layer.root.0 layer.head.0 (Border (new_border f.number 0 false)) (Head (new_head layer.root 0 true)) (way.node.0 ∷ []) (λ next. (b : BorderView) × IsLockedAt after key way b next × IsToFill after next key way b layer entries)
    one.vacant one.updates one.retired one.unknown one.keeps two.vacant two.updates two.retired two.unknown two.keeps world (
      f.b,
      locked_at_stays a after w w key way f.b (record { node = two.updates.others way.node.0 not_head ∙ one.updates.others way.node.0 not_root; spot = refl; twins = λ one other here. ((λ h. h), (λ h. h)); closing = λ i. i; retired = retired_same a.retired after.retired way.node.0 (two.retired ∙ one.retired) }) at,
      record {
        number = f.number;
        at = f.at;
        has = record {
          head = ap (option_and_then head_of) two.updates.changed;
          is_root = ap (option_and_then border_of) (two.updates.others layer.root.0 apart ∙ one.updates.changed);
          head_unknown = two.unknown.unknown now w.twins w.chart kept.index;
          root_unknown = one.unknown.unknown now w.twins w.chart world.index;
        };
        moved = f.moved;
        whole = f.whole;
      },
    )
