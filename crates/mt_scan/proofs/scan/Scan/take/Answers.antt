use Rattle.std.proofs.Common.{◌<◌, length, sym, subst}
use Rattle.mt_slice.specs.Place.{place_of}
use Rattle.mt_scan.specs.Scan.{ScanView, IsNext}
use Rattle.mt_scan.proofs.TakenLemmas.{is_scan-push}
use Rattle.mt_scan.proofs.scan.Scan.take.Goals as goal

pub invariant_of-self : goal.invariant_of-self
invariant_of-self c =
    let s : ScanView = record { prefix = c.self.inside.cursor.prefix; at = c.self.inside.cursor.at; taken = c.self.inside.taken.items; limit = c.self.inside.limit; asked = c.self.inside.columns } in
    is_scan-push s c.in_ok-key.key c.in_ok-row.row c.push.new.self.items c.self.invariant
    (subst (λ (t : ScanView). length t.taken < t.limit) (sym c.self.view_is) c.requires.room)
    c.in_ok-key.ensures.bytes
    (subst (λ (t : ScanView). IsNext t (place_of c.in_ok-key.key)) (sym c.self.view_is) (c.is_taken.ensures.next c.if-not-is_taken.true)) c.in_ok-push.ensures.items
