use Rattle.std.proofs.Common.{◌≡◌, ◌-◌, Some, is_le, length, slice_get, sym, ap, subst, ◌∙◌, List, ℕ}
use Rattle.mt_types.specs.declared.row.Row.{Row}
use Rattle.mt_slice.specs.Place.{place_of, place_cmp}
use Rattle.mt_chart.specs.Scan.{Rising}
use Rattle.mt_chart.specs.KeyAnswer.{as_places}
use Rattle.mt_scan.specs.Scan.{ScanView}
use Rattle.mt_scan.proofs.TakenLemmas.{placed, last-taken, after-last, at_most, after}
use Rattle.mt_scan.proofs.scan.Scan.is_taken.Goals as goal
use Rattle.mt_scan.proofs.scan.Scan.is_taken.Goals.{After-is_le}

-- the last pair
at_end : (c : After-is_le) → slice_get c.args.self.now.taken (length c.args.self.now.taken - 1) ≡ Some c.in-Some.field-0.now
at_end c = ap (λ (xs : List (List ℕ × Row)). slice_get xs (length xs - 1)) (sym (c.deref.ensures.value ∙ ap (λ (s : ScanView). s.taken) c.self.view_is)) ∙ sym c.in-Some.ensures.value

-- how the key compares with its key
order : (c : After-is_le) → is_le (place_cmp (place_of c.args.key.now) (place_of c.in-Some.field-0.now.0)) ≡ c.is_le.result
order c = ap is_le (sym c.compare.ensures.places) ∙ sym c.is_le.ensures

pub returns-in-Some-clause-taken : goal.returns-in-Some-clause-taken
returns-in-Some-clause-taken c le =
    let x = c.in-Some.field-0.now in
    (placed x, last-taken c.args.self.now.taken x (at_end c), at_most (place_of c.args.key.now) (place_of x.0) (order c ∙ le))

pub returns-in-Some-clause-next : goal.returns-in-Some-clause-next
returns-in-Some-clause-next c no_le =
    let x = c.in-Some.field-0.now in
    after-last c.args.self.now.taken x (at_end c) (place_of c.args.key.now)
    (subst (λ (s : ScanView). Rising (as_places s.taken)) c.self.view_is c.self.invariant.rises)
    (after (place_of c.args.key.now) (place_of x.0) (order c ∙ no_le))
