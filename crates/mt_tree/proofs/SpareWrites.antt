-- A number that the chart does not know may be written.
use Rattle.std.proofs.Common.{ℕ, ◌≡◌, ◌≢◌, List, Option, Some, None, sym, ap, ◌∙◌}
use Rattle.mt_chart.specs.Tree.{Arena, PlainNode}
use Rattle.mt_chart.specs.Chart.{Spot, Chart, Changes}
use Rattle.mt_chart.specs.Steps.{Twin, IsIndex, Keeps}
use Rattle.mt_chart.proofs.InteriorLaws.{changing_spares}

pub spare_changed : (now : ℕ) (twins : List Twin) (arena after : Arena) (chart : Chart) (number : ℕ) → IsIndex now twins arena chart → ((other : ℕ) → other ≢ number → after other ≡ arena other) → chart number ≡ None →
    Keeps now twins arena after chart chart
spare_changed now twins arena after chart number index rest unknown =
    changing_spares now twins arena after chart index (λ other place known. rest other (differs other place known))
  where
    differs : (other : ℕ) (place : Spot) → chart other ≡ Some place → other ≢ number
    differs other place known e = let clash : ◌≡◌ {A = Option Spot} None (Some place) = sym unknown ∙ (ap chart (sym e) ∙ known) in cc

pub spare_written : (now : ℕ) (twins : List Twin) (arena after : Arena) (chart : Chart) (number : ℕ) (new : Option PlainNode) → IsIndex now twins arena chart → Changes arena after number new → chart number ≡ None →
    Keeps now twins arena after chart chart
spare_written now twins arena after chart number new index written unknown = spare_changed now twins arena after chart number index written.rest unknown
