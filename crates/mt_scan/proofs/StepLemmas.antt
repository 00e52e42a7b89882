-- What a cursor does at an entry, by how it compares.
use Rattle.std.proofs.Common.{ℕ, ◌≡◌, ◌≢◌, ◌⊎◌, inl, inr, IsSome, refl, sym, ◌∙◌}
use Rattle.std.specs.declared.cmp.Ordering.{Ordering}
use Rattle.std.specs.declared.cmp.Ordering.TheVariants.{Less}
use Rattle.mt_types.specs.declared.numbers.NodeNo.{NodeNo}
use Rattle.mt_slice.specs.Place.{Place, last, deeper, Precedes, place_of, place_cmp}
use Rattle.mt_slice.proofs.PlaceOrder.{three, place_cmp-less, place_cmp-Less}
use Rattle.mt_chart.specs.Scan.{AtMost}
use Rattle.mt_border.specs.Entry.{content_row}
use Rattle.mt_border.specs.declared.entry.Content.{Content}
use Rattle.mt_border.specs.declared.entry.Content.TheVariants.{Short, Long, Link}
use Rattle.mt_scan.specs.Cursor.{StepsAt, content_end}
use Rattle.mt_scan.specs.declared.cursor.Step.TheVariants.{Pass, Take}

pub not_less : (x y : Place) → place_cmp x y ≢ Less → AtMost y x
not_less x y n = go (three x y)
  where
    go : Precedes x y ⊎ ((x ≡ y) ⊎ Precedes y x) → AtMost y x
    go (inl h) = absurd (n (place_cmp-less x y h))
    go (inr (inl e)) = inl (sym e)
    go (inr (inr h)) = inr h

module _ (at : Place) (slice : ℕ) (order : Ordering) where
  pub steps-pass : (content : Content) → order ≡ place_cmp (content_end slice content) at → order ≡ Less → StepsAt at slice content Pass
  steps-pass (Short bytes row) is e = (place_cmp-Less (last slice bytes) at).0 (sym is ∙ e)
  steps-pass (Long suffix row) is e = (place_cmp-Less (deeper slice (place_of suffix)) at).0 (sym is ∙ e)
  steps-pass (Link top) is e = inr ((place_cmp-Less (last slice 10) at).0 (sym is ∙ e))

  pub steps-take : (content : Content) → order ≡ place_cmp (content_end slice content) at → ((top : NodeNo) → content ≢ Link top) → order ≢ Less → StepsAt at slice content Take
  steps-take (Short bytes row) is no_link n = not_less (last slice bytes) at (λ e. n (is ∙ e))
  steps-take (Long suffix row) is no_link n = not_less (deeper slice (place_of suffix)) at (λ e. n (is ∙ e))
  steps-take (Link top) is no_link n = absurd (no_link top (cc))

-- only a row is taken
pub takes-row : (at : Place) (slice : ℕ) (content : Content) → StepsAt at slice content Take → IsSome (content_row content)
takes-row at slice (Short bytes row) takes = refl
takes-row at slice (Long suffix row) takes = refl
takes-row at slice (Link top) takes = absurd takes
