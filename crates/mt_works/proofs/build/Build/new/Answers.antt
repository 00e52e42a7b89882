use Rattle.std.proofs.Common.{◌≡◌, [], ap, sym, ◌∙◌, subst}
use Rattle.mt_slice.specs.Place.{AreBytes, place_of}
use Rattle.mt_scan.specs.Scan.{ScanView}
use Rattle.mt_works.specs.Build.{first_key}
use Rattle.mt_works.specs.BuildFields.{build_of}
use Rattle.mt_works.proofs.ReadLemmas.{begins}
use Rattle.mt_works.proofs.build.Build.new.Goals as goal

pub returns-clause-scans : goal.returns-clause-scans
returns-clause-scans c = λ chart begun arena tree.
    let first : c.in_ok-start.start ≡ first_key c.in_ok-open_at.field-0.spec = c.in_ok-start.ensures.kept ∙ c.in_ok-first_key.ensures ∙ ap first_key (sym c.in_ok-open_at.ensures.spec) in
    let scan : c.in_ok-new.field-0 ≡ record { prefix = []; at = place_of c.in_ok-start.start; taken = []; limit = 16; asked = c.new-2.result } = c.in_ok-new.ensures in
    begins chart begun arena (build_of (record { scan = c.in_ok-new.field-0; end = c.in_ok-end.end; state = c.in_ok-open_at.field-0 })) tree
    (ap (λ (s : ScanView). s.prefix) scan) (ap (λ (s : ScanView). s.at) scan ∙ ap place_of first) (subst AreBytes first c.key_bytes-bytes.ensures.bytes) c.in_ok-open_at.ensures.afresh
