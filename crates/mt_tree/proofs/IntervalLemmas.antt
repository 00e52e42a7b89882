-- The entries of a border in order, and its interval.
use Rattle.std.proofs.Common.{◌≡◌, ◌<◌, ◌⊎◌, inl, inr, List, [], ◌∷◌, refl, subst, arith}
use Rattle.std.proofs.lemmas.Bool.{cases_lt}
use Rattle.mt_slice.specs.Classes.{class_number}
use Rattle.mt_border.specs.Border.{BorderView}
use Rattle.mt_border.specs.Entry.{entry_rank, content_class, IsEntry}
use Rattle.mt_border.specs.Order.{IsBorder, IsOrdered}
use Rattle.mt_border.specs.declared.entry.Content.{Content}
use Rattle.mt_border.specs.declared.entry.Content.TheVariants.{Short, Long, Link}
use Rattle.mt_border.specs.declared.entry.Entry.{Entry}
use Rattle.mt_chart.specs.Tree.{Among, first, later}
use Rattle.mt_chart.specs.Tree.{PlainEntry}
use Rattle.mt_chart.specs.Chart.{class}
use Rattle.mt_chart.specs.ScanRun.{EntriesInOrder}
use Rattle.mt_chart.proofs.TreeLemmas.{borders_on, in_their_intervals}
use Rattle.mt_tree.specs.Seen.{arena_seen, border_seen, entry_seen, entries_seen, content_seen}
use Rattle.mt_tree.specs.Descent.{HeldBordersHaveIntervals}
use Rattle.mt_tree.proofs.SeenLemmas.{seen-border, among_unmap}
use Rattle.mt_tree.proofs.FoundLemmas.{all_among, ranks_rise, order_later}
use Rattle.mt_tree.proofs.DescentLemmas.{content_class-below}

class_seen : (content : Content) → class (content_seen content) ≡ class_number (content_class content)
class_seen (Short bytes row) = refl
class_seen (Long suffix row) = refl
class_seen (Link top) = refl

-- entries of rising ranks stand in order, by slice and then by class
by_rank : (entry other : Entry) → IsEntry entry → IsEntry other → entry_rank entry < entry_rank other →
    (entry.slice < other.slice) ⊎ ((entry.slice ≡ other.slice) × (class (content_seen entry.content) < class (content_seen other.content)))
by_rank entry other whole other_whole less = elim (cases_lt entry.slice other.slice) [
  | inl before ↦ inl before
  | inr after ↦ (
      let few = content_class-below other.content other_whole.content in
      let c = class_seen entry.content in
      let d = class_seen other.content in
      let same : entry.slice ≡ other.slice = omega (arith, after, few, less) in
      inr (same, omega (arith, same, few, less, c, d)))
]

in_order : (live : List Entry) → IsOrdered live → ((entry : Entry) → Among entry live → IsEntry entry) → EntriesInOrder (entries_seen live)
in_order [] order whole = tt
in_order (entry ∷ entries) order whole = (before, in_order entries (order_later entry entries order) (λ e i. whole e (later i)))
  where
    before : (other : PlainEntry) → Among other (entries_seen entries) → (entry.slice < other.slice) ⊎ ((entry.slice ≡ other.slice) × (class (content_seen entry.content) < class other.content))
    before other i =
        let s = among_unmap entry_seen other entries i in
        subst (λ (o : PlainEntry). (entry.slice < o.slice) ⊎ ((entry.slice ≡ o.slice) × (class (content_seen entry.content) < class o.content))) s.is
        (by_rank entry s.source (whole entry first) (whole s.source (later s.stands)) (ranks_rise entry s.source entries order s.stands))

pub entries_in_order : (b : BorderView) → IsBorder b → EntriesInOrder (border_seen b).entries
entries_in_order b sound = in_order b.live sound.ordered (λ entry i. all_among IsEntry entry b.live sound.entries.each i)

pub held_intervals : HeldBordersHaveIntervals
held_intervals a now twins chart begun number slice prefix b index holds named alive sound =
    let (stands, low) = borders_on (arena_seen a) chart index.tree begun number slice prefix (border_seen b) holds (seen-border a number b named) alive in
    (low, entries_in_order b sound, λ place row from to has. in_their_intervals (arena_seen a) chart number prefix (border_seen b) place index.tree (record { stands = stands; from_low = from; to_right = to }) row has)
