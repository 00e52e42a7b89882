-- The steps of a split in a write: the half is filled, it is linked, and once the write is done the left half is unlocked.
use Rattle.std.proofs.Common.{ℕ, ◌≡◌, ◌≢◌, ◌≤◌, ◌<◌, inl, inr, List, [], ◌∷◌, drop, Option, Some, None, IsSome, true, false, refl, sym, ap, subst, ◌∙◌, arith}
use Rattle.std.specs.Prelude.{◌-◌, IsSomeAnd}
use Rattle.std.specs.Option.{option_and_then, option_map}
use Rattle.std.proofs.lemmas.List.{length-take-le, length-drop, take-append-drop}
use Rattle.mt_slice.specs.Place.{first_slice, place_of, slice_number}
use Rattle.mt_border.specs.declared.entry.RightLink.{RightLink}
use Rattle.mt_tree.specs.Seen.{right_seen}
use Rattle.mt_commit.specs.Log.{LogView}
use Rattle.mt_types.specs.declared.numbers.NodeNo.{NodeNo}
use Rattle.mt_border.specs.declared.unwritten.Unwritten.TheVariants.{Nothing}
use Rattle.mt_border.specs.Border.{BorderView, with_entries, with_half_linked, with_written}
use Rattle.mt_border.specs.declared.entry.Entry.{Entry}
use Rattle.mt_border.proofs.SplitLemmas.{above_cut, cut_upper, cut_above_low, cut_above_kept}
use Rattle.mt_arena.specs.Node.{border_at, border_of}
use Rattle.mt_arena.specs.Arena.{ArenaView, with_border_changed}
use Rattle.mt_chart.specs.Tree.{Among, Below, first, later, before_right}
use Rattle.mt_chart.specs.Chart.{spot, Spot, at_level, on}
use Rattle.mt_tree.specs.Spares.{MayFill}
use Rattle.mt_tree.specs.Keeping.{KeepsTree, KeepsUnknown}
use Rattle.mt_tree.specs.Descent.{IsLast}
use Rattle.mt_tree.specs.BorderSteps.{AwaitsSomeCut, IsUpperHalf, LinksHalfAt}
use Rattle.mt_tree.proofs.DescentLemmas.{slice_of_place}
use Rattle.mt_tree.proofs.SeenLemmas.{seen-border}
use Rattle.mt_steps.specs.declared.way.Way.{Way}
use Rattle.mt_write.specs.declared.writing.Edit.{Edit}
use Rattle.mt_write.specs.declared.writing.Halves.{Halves}
use Rattle.mt_write.specs.declared.writing.Stage.TheVariants.{Spared, HalfFilled, HalfLinked, Halved}
use Rattle.mt_steps.specs.declared.progress.Progress.TheVariants.{Moved}
use Rattle.mt_steps.specs.World.{World}
use Rattle.mt_steps.specs.Way.{rest_of, prefix_of}
use Rattle.mt_steps.specs.Step.{StepLaw, Stepped}
use Rattle.mt_write.specs.Held.{edit_request, stage_held}
use Rattle.mt_write.specs.Writing.{StageIsTrue, IsLockedAt, HasLocked, IsSpare, PutsNew}
use Rattle.mt_write.specs.Splitting.{IsSplit, IsCutAt, IsHalf, IsHalfLinked, IsHalfOf, empty_half, upper_half}
use Rattle.mt_steps.specs.World.{IsLockedBorder}
use Rattle.mt_tree.proofs.AgeLemmas.{ages_half_linked, ages_written}
use Rattle.mt_write.proofs.InsertLemmas.{goes_marked}
use Rattle.mt_steps.proofs.FoundLemmas.{some_at, some_and}
use Rattle.mt_write.proofs.AbsentLemmas.{IsParted, parted}
use Rattle.mt_steps.proofs.BorderLemmas.{now_named, others_named}
use Rattle.mt_steps.proofs.SplitLemmas.{goes_filled, goes_linked, with_spot, spot_changes}
use Rattle.mt_write.proofs.WorkLemmas.{locked_at_stays}
use Rattle.mt_write.proofs.WriteLemmas.{quiet_step}

-- ---- before the steps
pub half_may_fill : (key : List ℕ) (edit : Edit) (way : Way) (b : BorderView) (cut place : ℕ) (c : IsCutAt key way b cut place) → MayFill (empty_half b c.middle) (drop cut b.live) b.right
half_may_fill key edit way b cut place c = record { empty = refl; fresh = refl; sound = cut_upper b cut c.middle true c.sound c.full c.best.lawful c.is_middle }

pub half_is_upper : (key : List ℕ) (edit : Edit) (way : Way) (b : BorderView) (cut place : ℕ) (c : IsCutAt key way b cut place) → b.version.locked ≡ true → b.version.splitting ≡ true → b.unwritten ≡ Nothing → IsUpperHalf b (upper_half b cut c.middle) cut
half_is_upper key edit way b cut place c locked splitting written = record {
  locked = locked;
  splitting = splitting;
  written = written;
  within = let full = c.full in let last = c.best.lawful.last in omega (arith, full, last);
  upper = refl;
  right = refl;
  above_low = cut_above_low b cut c.middle c.sound c.full c.best.lawful c.is_middle;
  above_kept = cut_above_kept b cut c.middle c.sound c.full c.best.lawful c.is_middle;
}

module _ (C : ℕ) (a : ArenaView) (log : LogView) (key : List ℕ) (edit : Edit) (way : Way) (half : NodeNo) (cut place : ℕ) where
  abbrev n : ℕ
  n = way.node.0

  -- a border of the tree and a spare differ
  differ : (b u : BorderView) (w : World) → IsLockedAt a key way b w → IsSpare a w half.0 u → n ≢ half.0
  differ b u w at s e = (let clash : ◌≡◌ {A = Option Spot} None (Some (spot (at_level 0) (prefix_of key way) b.low (on at.stands.stands.posted))) = sym s.unknown ∙ (ap w.chart (sym e) ∙ at.stands.stands.place) in cc)

  -- ---- the half is filled
  pub fills_half : (right : Option RightLink) (entries : List Entry) (after : ArenaView) → after ≡ with_border_changed a half.0 (λ spare. with_entries spare entries right) → KeepsUnknown a after half.0
      → StepLaw C a after log log (edit_request key edit) (stage_held n (Spared half cut place right entries)) Moved (stage_held n (HalfFilled half cut place)) (λ begun moves past x w. StageIsTrue C key edit way (Spared half cut place right entries) begun x w) (λ begun moves past x w. StageIsTrue C key edit way (HalfFilled half cut place) begun x w)
  fills_half right entries after filled keeps = record {
    steps = λ now begun moves past w world before truth.
        let (b, at, flagged, c, s, copied, p, noted) = truth in
        let is : after ≡ with_border_changed a half.0 (λ spare. with_entries spare entries b.right) =
        subst (λ (r : Option RightLink). after ≡ with_border_changed a half.0 (λ spare. with_entries spare entries r)) (sym noted) filled in
        let change : BorderView → BorderView = λ x. with_entries x entries b.right in
        let new : ArenaView = with_border_changed a half.0 change in
        let made : change (empty_half b c.middle) ≡ upper_half b cut c.middle = ap (λ (es : List Entry). with_entries (empty_half b c.middle) es b.right) copied in
        let keeps_new : KeepsUnknown a new half.0 = subst (λ (x : ArenaView). KeepsUnknown a x half.0) is keeps in
        subst (λ (x : ArenaView). Stepped C now moves past a x log log w (edit_request key edit) (stage_held n (Spared half cut place right entries)) Moved (stage_held n (HalfFilled half cut place)) (λ m next. StageIsTrue C key edit way (HalfFilled half cut place) begun x next)) (sym is) (quiet_step key edit
        (goes_filled now a w half.0 (empty_half b c.middle) change (half.0 ∷ n ∷ []) _ s.named keeps_new first s.unknown (λ i. refl) world (
          b,
          locked_at_stays a new w w key way b (record { node = others_named a half.0 (empty_half b c.middle) change s.named n (differ b (empty_half b c.middle) w at s); spot = refl; twins = λ one other here. ((λ h. h), (λ h. h)); closing = λ i. i; retired = ((λ h. h), (λ h. h)) }) at,
          flagged,
          c,
          record { named = now_named a half.0 (empty_half b c.middle) change s.named ∙ ap Some made; unknown = s.unknown; locked = refl; free = s.free },
          p,
        ))
        ((keeps_new.keeps now w.twins w.chart world.index s.unknown).content) refl refl (inl refl));
  }

  -- ---- the half is linked
  abbrev link : ℕ → BorderView → BorderView
  link low b = with_half_linked b cut (record { low = low; node = half })

  -- what holds once it is linked, in the world that knows it
  module _ (w : World) (b : BorderView) (at : IsLockedAt a key way b w) (c : IsCutAt key way b cut place) (s : IsSpare a w half.0 (upper_half b cut c.middle)) where
    abbrev low : ℕ
    low = c.middle.slice

    abbrev upper : BorderView
    upper = upper_half b cut c.middle

    abbrev new : ArenaView
    new = with_border_changed a n (link low)

    abbrev half_spot : Spot
    half_spot = spot (at_level 0) (prefix_of key way) low (on false)

    abbrev next : World
    next = record { twins = w.twins; closing = w.closing; chart = with_spot w.chart half.0 half_spot }

    apart : n ≢ half.0
    apart = differ b upper w at s

    left_spot : next.chart n ≡ Some (spot (at_level 0) (prefix_of key way) b.low (on at.stands.stands.posted))
    left_spot = (spot_changes w.chart half.0 half_spot).rest n apart ∙ at.stands.stands.place

    half_named : border_at new.nodes half.0 ≡ Some upper
    half_named = ap (option_and_then border_of) (others_named a n b (link low) at.named half.0 (λ e. apart (sym e))) ∙ s.named

    are_split : IsSplit (prefix_of key way) new next (record { left = way.node; half = half })
    are_split = record {
      apart = apart;
      low = low;
      place = (spot_changes w.chart half.0 half_spot).now;
      low_is = λ r is. (let both : ◌≡◌ {A = Option BorderView} (Some upper) (Some r) = sym half_named ∙ is in let same : upper ≡ r = cc in ap (λ (x : BorderView). x.low) (sym same));
    }

    cut_apart : IsParted (rest_of key way) b.live cut place low
    cut_apart = parted (rest_of key way) b.live cut place c.middle c.sound.ordered c.sound.entries c.is_middle (above_cut b cut c.middle c.sound c.full c.best.lawful c.is_middle) c.absent

    half_linked : IsHalfLinked new next key way half cut place
    half_linked = record {
      layer = at.layer;
      b = link low b;
      named = now_named a n b (link low) at.named;
      upper = upper;
      filled = half_named;
      posted = at.stands.stands.posted;
      charted = left_spot;
      halves = are_split;
      right = refl;
      from_low = at.stands.from_low;
      to_right = at.stands.to_right;
      locked = at.locked;
      alive = at.alive;
      free = at.free;
      upper_locked = refl;
      upper_alive = refl;
      upper_written = refl;
      upper_free = s.free;
      lower_half = λ less. record {
        room = let full = c.full in let last = c.best.lawful.last in let short = length-take-le cut b.live (omega (arith, full, last)) in omega (arith, short, last);
        absent = cut_apart.lower less;
      };
      upper_half = λ from. record {
        room = let full = c.full in let start = c.best.lawful.first in let rest = length-drop cut b.live in omega (arith, full, start, rest);
        absent = cut_apart.upper from;
      };
      shown = b.order;
      uncut = refl;
      moved = sym c.sound.seen.live_is ∙ sym (take-append-drop cut b.live);
    }

  pub links : (after : ArenaView) → IsSomeAnd (border_at a.nodes half.0) (λ upper. after ≡ with_border_changed a n (λ b. with_half_linked b cut (record { low = upper.low; node = half }))) → LinksHalfAt a after n half.0
      → StepLaw C a after log log (edit_request key edit) (stage_held n (HalfFilled half cut place)) Moved (stage_held n (HalfLinked half cut place)) (λ begun moves past x w. StageIsTrue C key edit way (HalfFilled half cut place) begun x w) (λ begun moves past x w. StageIsTrue C key edit way (HalfLinked half cut place) begun x w)
  links after value half_links = record {
    steps = λ now begun moves past w world before truth.
        let (b, at, flagged, c, s, p) = truth in
        let is : after ≡ with_border_changed a n (link c.middle.slice) = some_at _ (border_at a.nodes half.0) (upper_half b cut c.middle) value s.named in
        let (goes, content) = goes_linked now a w n half.0 b (upper_half b cut c.middle) (prefix_of key way) (link c.middle.slice) (half.0 ∷ n ∷ [])
        (λ next. StageIsTrue C key edit way (HalfLinked half cut place) begun (with_border_changed a n (link c.middle.slice)) next) at.named s.named
        (subst (λ (x : ArenaView). LinksHalfAt a x n half.0) is half_links) (record { low = b.low; posted = at.stands.stands.posted; place = at.stands.stands.place })
        s.unknown (later first) first at.locked at.locked refl at.free (ages_half_linked b cut (record { low = c.middle.slice; node = half }) flagged at.written) world (half_linked w b at c s, p) in
        subst (λ (x : ArenaView). Stepped C now moves past a x log log w (edit_request key edit) (stage_held n (HalfFilled half cut place)) Moved (stage_held n (HalfLinked half cut place)) (λ m next. StageIsTrue C key edit way (HalfLinked half cut place) begun x next)) (sym is) (quiet_step key edit
        goes
        content refl refl (inl refl));
  }

-- ---- the order is cut
module _ (C : ℕ) (a : ArenaView) (log : LogView) (key : List ℕ) (edit : Edit) (way : Way) (half : NodeNo) (cut place : ℕ) where
  abbrev left : ℕ
  left = way.node.0

  abbrev halves : Halves
  halves = record { left = way.node; half = half }

  abbrev CutLaw : ArenaView → Way → ℕ → Type 0
  CutLaw after goal there = StepLaw C a after log log (edit_request key edit) (stage_held left (HalfLinked half cut place)) Moved (stage_held goal.node.0 (Halved halves there)) (λ begun moves past x w. StageIsTrue C key edit way (HalfLinked half cut place) begun x w) (λ begun moves past x w. StageIsTrue C key edit goal (Halved halves there) begun x w)

  -- what holds then
  module _ (w : World) (h : IsHalfLinked a w key way half cut place) where
    abbrev cut_one : ArenaView
    cut_one = with_border_changed a left with_written

    abbrev done : BorderView
    done = with_written h.b

    left_named : border_at cut_one.nodes left ≡ Some done
    left_named = now_named a left h.b with_written h.named

    upper_named : border_at cut_one.nodes half.0 ≡ Some h.upper
    upper_named = ap (option_and_then border_of) (others_named a left h.b with_written h.named half.0 (λ e. h.halves.apart (sym e))) ∙ h.filled

    left_locked : IsLockedBorder cut_one w left
    left_locked = record { b = done; named = left_named; known = subst (λ (x : Option Spot). IsSome x) (sym h.charted) refl; locked = h.locked; alive = h.alive; written = refl; free = h.free }

    half_locked : IsLockedBorder cut_one w half.0
    half_locked = record { b = h.upper; named = upper_named; known = subst (λ (x : Option Spot). IsSome x) (sym h.halves.place) refl; locked = h.upper_locked; alive = h.upper_alive; written = h.upper_written; free = h.upper_free }

    both_locked : (other : ℕ) → Among other (half.0 ∷ left ∷ []) → IsLockedBorder cut_one w other
    both_locked other first = half_locked
    both_locked other (later first) = left_locked
    both_locked other (later (later i)) = elim i [ ]

    low_is : h.upper.low ≡ h.halves.low
    low_is = h.halves.low_is h.upper h.filled

    are_cut : IsSplit (prefix_of key way) cut_one w halves
    are_cut = record {
      apart = h.halves.apart;
      low = h.halves.low;
      place = h.halves.place;
      low_is = λ r is. (let both : ◌≡◌ {A = Option BorderView} (Some h.upper) (Some r) = sym upper_named ∙ is in let same : h.upper ≡ r = cc in ap (λ (x : BorderView). x.low) (sym same) ∙ low_is);
    }

    at_left : slice_number (rest_of key way) < h.upper.low → IsLockedAt cut_one key way done w × IsHalf key way place done × HasLocked (prefix_of key way) cut_one w left (Some halves)
    at_left less = (
      record {
        layer = h.layer;
        named = left_named;
        stands = record {
          stands = record { posted = h.posted; place = h.charted; node = seen-border cut_one left done left_named };
          from_low = h.from_low;
          to_right = subst (λ (r : Option RightLink). Below (first_slice (place_of (rest_of key way))) (option_map right_seen r)) (sym h.right) (before_right (subst (λ (m : ℕ). m < h.upper.low) (sym (slice_of_place (rest_of key way))) less));
        };
        alive = h.alive;
        last = subst IsLast (sym (h.lower_half less).absent) tt;
        locked = h.locked;
        written = refl;
        free = h.free;
      },
      record { room = (h.lower_half less).room; absent = (h.lower_half less).absent },
      record { locked = both_locked; own = later first; halves = are_cut },
    )

    at_half : h.upper.low ≤ slice_number (rest_of key way) → IsLockedAt cut_one key (record { node = half; layer = way.layer }) h.upper w × IsHalf key (record { node = half; layer = way.layer }) (place - cut) h.upper × HasLocked (prefix_of key way) cut_one w half.0 (Some halves)
    at_half from = (
      record {
        layer = record { within = h.layer.within; under = h.layer.under };
        named = upper_named;
        stands = record {
          stands = record { posted = false; place = subst (λ (l : ℕ). w.chart half.0 ≡ Some (spot (at_level 0) (prefix_of key way) l (on false))) (sym low_is) h.halves.place; node = seen-border cut_one half.0 h.upper upper_named };
          from_low = subst (λ (m : ℕ). h.upper.low ≤ m) (sym (slice_of_place (rest_of key way))) from;
          to_right = h.to_right;
        };
        alive = h.upper_alive;
        last = subst IsLast (sym (h.upper_half from).absent) tt;
        locked = h.upper_locked;
        written = h.upper_written;
        free = h.upper_free;
      },
      record { room = (h.upper_half from).room; absent = (h.upper_half from).absent },
      record { locked = both_locked; own = first; halves = are_cut },
    )

  module _ (after : ArenaView) (is : after ≡ with_border_changed a left with_written) (keeps : KeepsTree a after) where
    cut_law : (goal : Way) (there : ℕ) → stage_held goal.node.0 (Halved halves there) ≡ stage_held left (HalfLinked half cut place) → ((begun : ℕ) (w : World) → IsHalfLinked a w key way half cut place → PutsNew edit → StageIsTrue C key edit goal (Halved halves there) begun (with_border_changed a left with_written) w) → CutLaw after goal there
    cut_law goal there held then = record {
      steps = λ now begun moves past w world before truth.
          let (h, p) = truth in
          let (goes, content) = goes_marked a left with_written after is keeps (half.0 ∷ left ∷ []) (λ next. StageIsTrue C key edit goal (Halved halves there) begun after next) now w h.b h.named world (ages_written h.b) refl h.locked h.alive h.free (later first)
          (subst (λ (x : ArenaView). StageIsTrue C key edit goal (Halved halves there) begun x w) (sym is) (then begun w h p)) in
          quiet_step key edit goes content refl refl (inl refl);
    }

    pub cuts : (goal : Way) (there : ℕ) → IsSomeAnd (border_at a.nodes half.0) (λ upper. IsHalfOf key way half upper.low cut place goal there) → CutLaw after goal there
    cuts goal there either =
        let (r, read, one) = some_and _ (border_at a.nodes half.0) either in
        elim one [
          | inl at ↦ subst (λ (g : Way). CutLaw after g there) (sym at.1) (subst (λ (n : ℕ). CutLaw after way n) (sym at.2) (cut_law way place refl (λ begun w h p.
              let (stands, is_half, has) = at_left w h (subst (λ (m : ℕ). slice_number (rest_of key way) < m) (low_read w h r read) at.0) in (with_written h.b, stands, is_half, has, p))))
          | inr at ↦ subst (λ (g : Way). CutLaw after g there) (sym at.1) (subst (λ (n : ℕ). CutLaw after (record { node = half; layer = way.layer }) n) (sym at.2) (cut_law (record { node = half; layer = way.layer }) (place - cut) refl (λ begun w h p.
              let (stands, is_half, has) = at_half w h (subst (λ (m : ℕ). m ≤ slice_number (rest_of key way)) (low_read w h r read) at.0) in (h.upper, stands, is_half, has, p))))
        ]
      where
        -- the low of the half, as it was read
        low_read : (w : World) (h : IsHalfLinked a w key way half cut place) (r : BorderView) → border_at a.nodes half.0 ≡ Some r → r.low ≡ h.upper.low
        low_read w h r read = (let both : ◌≡◌ {A = Option BorderView} (Some r) (Some h.upper) = sym read ∙ h.filled in let same : r ≡ h.upper = cc in ap (λ (x : BorderView). x.low) same)

-- the half is in the same layer
pub half_prefix : (a : ArenaView) (key : List ℕ) (way goal : Way) (half : NodeNo) (cut place there : ℕ) → IsSomeAnd (border_at a.nodes half.0) (λ upper. IsHalfOf key way half upper.low cut place goal there) → prefix_of key way ≡ prefix_of key goal
half_prefix a key way goal half cut place there either =
    let (r, read, one) = some_and _ (border_at a.nodes half.0) either in
    elim one [ inl left ↦ ap (prefix_of key) (sym left.1) | inr right ↦ ap (prefix_of key) (sym right.1) ]

-- ---- what the calls of a step ask for
module _ (C begun : ℕ) (a : ArenaView) (w : World) (key : List ℕ) (edit : Edit) (way : Way) (half : NodeNo) (cut place : ℕ) where
  pub spared_fill : (right : Option RightLink) (entries : List Entry) → StageIsTrue C key edit way (Spared half cut place right entries) begun a w → IsSomeAnd (border_at a.nodes half.0) (λ spare. MayFill spare entries right)
  spared_fill right entries truth =
      let (b, at, flagged, c, s, copied, p, noted) = truth in
      subst (λ (o : Option BorderView). IsSomeAnd o (λ spare. MayFill spare entries right)) (sym s.named)
      (subst (λ (r : Option RightLink). MayFill (empty_half b c.middle) entries r) noted
      (subst (λ (es : List Entry). MayFill (empty_half b c.middle) es b.right) (sym copied) (half_may_fill key edit way b cut place c)))

  pub filled_link : StageIsTrue C key edit way (HalfFilled half cut place) begun a w → IsSomeAnd (border_at a.nodes way.node.0) (λ b. IsSomeAnd (border_at a.nodes half.0) (λ upper. IsUpperHalf b upper cut))
  filled_link truth =
      let (b, at, flagged, c, s, p) = truth in
      subst (λ (o : Option BorderView). IsSomeAnd o (λ x. IsSomeAnd (border_at a.nodes half.0) (λ upper. IsUpperHalf x upper cut))) (sym at.named)
      (subst (λ (o : Option BorderView). IsSomeAnd o (λ upper. IsUpperHalf b upper cut)) (sym s.named) (half_is_upper key edit way b cut place c at.locked flagged at.written))

pub linked_cut : (C begun : ℕ) (a : ArenaView) (w : World) (key : List ℕ) (edit : Edit) (way : Way) (half : NodeNo) (cut place : ℕ) → StageIsTrue C key edit way (HalfLinked half cut place) begun a w → IsSomeAnd (border_at a.nodes way.node.0) AwaitsSomeCut × IsSome (border_at a.nodes half.0)
linked_cut C begun a w key edit way half cut place truth = let (h, p) = truth in (
  subst (λ (o : Option BorderView). IsSomeAnd o AwaitsSomeCut) (sym h.named) (h.shown, h.uncut),
  subst (λ (o : Option BorderView). IsSome o) (sym h.filled) refl,
)
