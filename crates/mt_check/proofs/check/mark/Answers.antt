use Rattle.std.proofs.Common.{sym, ◌∙◌}
use Rattle.mt_check.proofs.CheckLemmas.{marked, unmarked}
use Rattle.mt_check.proofs.check.mark.Goals as goal

pub returns-in-Some-clause-claims : goal.returns-in-Some-clause-claims
returns-in-Some-clause-claims c =
    let claims = sym c.claim.ensures ∙ c.in-Some.is in
    let within = c.requires c.in-Some.number claims in
    λ earlier were. marked earlier c.args.receipt.now c.args.marks.now.items c.in-Some.number claims within.0 within.1 were

pub returns-in_default-clause-claims : goal.returns-in_default-clause-claims
returns-in_default-clause-claims c = λ earlier were. unmarked earlier c.args.receipt.now c.args.marks.now.items (sym c.claim.ensures ∙ c.in_default.is) were
