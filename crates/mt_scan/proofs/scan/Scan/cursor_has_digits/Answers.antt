use Rattle.std.proofs.Common.{subst}
use Rattle.mt_slice.specs.Place.{under}
use Rattle.mt_scan.specs.Scan.{ScanView}
use Rattle.mt_scan.specs.Onward.{HasDigits}
use Rattle.mt_scan.proofs.OnwardLemmas.{within_all, digits_below}
use Rattle.mt_scan.proofs.scan.Scan.cursor_has_digits.Goals as goal

pub returns : goal.returns
returns c =
    let whole : HasDigits (under c.args.self.now.prefix c.args.self.now.at) = subst (λ (s : ScanView). HasDigits (under s.prefix s.at)) c.self.view_is c.has_digits.ensures in
    record {
      digits = digits_below c.args.self.now.prefix c.args.self.now.at whole;
      within = λ places. within_all places c.args.self.now.prefix c.args.self.now.at whole;
    }
