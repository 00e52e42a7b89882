use Rattle.std.proofs.Common.{◌≡◌, Bool, List, length, take, Some, refl, subst, sym, inr, ◌∙◌, arith}
use Rattle.std.specs.Prelude.{slice_get}
use Rattle.std.proofs.lemmas.Option.{slice_get_read}
use Rattle.mt_check.specs.Judging.{AreClaims}
use Rattle.mt_check.proofs.CheckLemmas.{first_broken, claims_more, right_more}
use Rattle.mt_check.proofs.check.judge.Goals as goal

pub returns-in-Some-clause-fault : goal.returns-in-Some-clause-fault
returns-in-Some-clause-fault c =
    let receipts = c.args.receipts.now in
    let i = c.loop-i.i in
    let r = c.index-receipts-i.result in
    let at : slice_get c.args.receipts.now c.loop-i.i ≡ Some c.index-receipts-i.result = slice_get_read c.args.receipts.now (length c.args.receipts.now) c.loop-i.i c.index-receipts-i.result refl (omega arith) c.index-receipts-i.is in
    let claims = subst (λ (ms : List Bool). AreClaims (take c.loop-i.i c.args.receipts.now) ms) (sym c.deref.ensures.value) c.loop-i.invariant.claims in
    let small = rw c.in-Some.is at c.in_ok-rule.ensures.fault in
    inr (first_broken c.args.log.now.columns c.args.log.now.deltas.now receipts i r c.in-Some.rule c.loop-i.invariant.right at (small (take i receipts) claims))

pub loop-i-preserved : goal.loop-i-preserved
loop-i-preserved c =
    let receipts = c.args.receipts.now in
    let i = c.loop-i.i in
    let r = c.index-receipts-i.result in
    let at : slice_get c.args.receipts.now c.loop-i.i ≡ Some c.index-receipts-i.result = slice_get_read c.args.receipts.now (length c.args.receipts.now) c.loop-i.i c.index-receipts-i.result refl (omega arith) c.index-receipts-i.is in
    let claims = subst (λ (ms : List Bool). AreClaims (take c.loop-i.i c.args.receipts.now) ms) (sym c.deref.ensures.value) c.loop-i.invariant.claims in
    record {
      standing = c.in_ok-rule.ensures.standing;
      size = c.mark.ensures.size ∙ c.loop-i.invariant.size;
      claims = claims_more receipts i r c.mark.new.marks.items at (c.mark.ensures.claims (take i receipts) c.loop-i.invariant.claims);
      right = right_more c.args.log.now.columns c.args.log.now.deltas.now receipts i r c.loop-i.invariant.right at
          (c.in_ok-rule.ensures.fine c.in_default.is) (c.in_ok-rule.ensures.unclaimed c.in_default.is (take i receipts) claims);
    }

pub returns-clause-right : goal.returns-clause-right
returns-clause-right c = λ i r h at. c.loop-i.invariant.right i r (omega arith) at
