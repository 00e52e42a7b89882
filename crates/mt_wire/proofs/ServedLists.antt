-- Reading undoes the spelling of what a server counts, and of the views that it lists.
use Rattle.std.proofs.Common.{ℕ, ◌^◌, ◌<◌, List, [], ◌∷◌, refl}
use Rattle.std.specs.List.{AllByRecursion}
use Rattle.std.specs.Int.{w64, to_be_bytes}
use Rattle.mt_wire.specs.declared.server.Count.{Count}
use Rattle.mt_wire.specs.declared.server.ListedView.{ListedView}
use Rattle.mt_wire.specs.Spelling.{count_spelling, listed_spelling}
use Rattle.mt_wire.specs.Fits.{KeyFits, SpecLengths, ListedNumbers}
use Rattle.mt_wire.specs.Reading.{number_at}
use Rattle.mt_wire.proofs.ResponseReading.{count_at, listed_at}
use Rattle.mt_wire.proofs.QueryLaws.{SpecFits, spec_exact}
use Rattle.mt_wire.proofs.Exact.{IsExact, wide64, both_exact, made_exact, number_exact, key_exact}

n64 : IsExact ℕ (λ n. n < 2 ^ 64) (λ n. to_be_bytes w64 n) (number_at w64)
n64 = number_exact w64 (2 ^ 64) wide64

abbrev pub CountFits : Count → Type 0
CountFits count = KeyFits count.name × (count.number < 2 ^ 64)

pub count_exact : IsExact Count CountFits count_spelling count_at
unfolding count_at
count_exact = made_exact (λ x. record { name = x.0; number = x.1 }) (λ count. (count.name, count.number)) count_spelling CountFits (both_exact key_exact n64)
    (λ x h. refl) (λ x h. h) (λ y h. h) (λ y. refl) (λ y. refl)

pub counts_parts : (counts : List Count) → AllByRecursion CountFits counts → AllByRecursion (λ count. KeyFits count.name) counts × AllByRecursion (λ count. count.number < 2 ^ 64) counts
counts_parts [] h = (tt, tt)
counts_parts (count ∷ counts) h = let others = counts_parts counts h.1 in ((h.0.0, others.0), (h.0.1, others.1))

pub counts_whole : (counts : List Count) → AllByRecursion (λ count. KeyFits count.name) counts → AllByRecursion (λ count. count.number < 2 ^ 64) counts → AllByRecursion CountFits counts
counts_whole [] h k = tt
counts_whole (count ∷ counts) h k = ((h.0, k.0), counts_whole counts h.1 k.1)

abbrev pub ListedFits : ListedView → Type 0
ListedFits view = (((view.number.0 < 2 ^ 64) × (view.at < 2 ^ 64)) × (view.rows < 2 ^ 64)) × SpecFits view.spec

pub listed_exact : IsExact ListedView ListedFits listed_spelling listed_at
unfolding listed_at
listed_exact =
    made_exact (λ x. record { number = record { 0 = x.0.0.0 }; at = x.0.0.1; rows = x.0.1; spec = x.1 }) (λ view. (((view.number.0, view.at), view.rows), view.spec)) listed_spelling ListedFits
    (both_exact (both_exact (both_exact n64 n64) n64) spec_exact)
    (λ x h. refl) (λ x h. h) (λ y h. h) (λ y. refl) (λ y. refl)

pub listed_parts : (views : List ListedView) → AllByRecursion ListedFits views → AllByRecursion (λ view. SpecLengths view.spec) views × AllByRecursion ListedNumbers views
listed_parts [] h = (tt, tt)
listed_parts (view ∷ views) h =
    let others = listed_parts views h.1 in
    ((h.0.1.0, others.0), ((h.0.0.0.0, h.0.0.0.1, h.0.0.1, h.0.1.1), others.1))

pub listed_whole : (views : List ListedView) → AllByRecursion (λ view. SpecLengths view.spec) views → AllByRecursion ListedNumbers views → AllByRecursion ListedFits views
listed_whole [] h k = tt
listed_whole (view ∷ views) h k = ((((k.0.0, k.0.1), k.0.2), (h.0, k.0.3)), listed_whole views h.1 k.1)
