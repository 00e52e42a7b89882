use Rattle.std.proofs.Common.{sym, ◌∙◌, ap, arith}
use Rattle.std.specs.Ordering.{is_le}
use Rattle.mt_slice.specs.Place.{place_of, place_cmp, under}
use Rattle.mt_slice.proofs.Slices.{are_bytes_from_reads}
use Rattle.mt_scan.specs.Scan.{ScanView}
use Rattle.mt_scan.proofs.TakenLemmas.{at_most, from_at_most}
use Rattle.mt_scan.proofs.scan.Scan.is_from.Goals as goal

pub returns-clause-value : goal.returns-clause-value
returns-clause-value c =
    let is = c.is_from.ensures ∙ ap (λ (s : ScanView). is_le (place_cmp (place_of c.args.key.now) (under s.prefix s.at))) c.self.view_is in
    (λ yes. at_most _ _ (sym is ∙ yes), λ h. is ∙ from_at_most _ _ h)

pub returns-clause-bytes : goal.returns-clause-bytes
returns-clause-bytes c = are_bytes_from_reads c.args.key.now (λ i. omega (arith, c.type_inv.key i))
