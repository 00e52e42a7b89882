use Rattle.std.proofs.Common.{ℕ, ◌≡◌, List, drop, sym, ap, ◌∙◌, arith}
use Rattle.mt_types.specs.Keys.{key_cmp}
use Rattle.mt_slice.specs.Place.{AreBytes}
use Rattle.mt_slice.proofs.Slices.{are_bytes_from_reads}
use Rattle.mt_walk.proofs.StartLemmas.{less_long, more_long, more_short}
use Rattle.mt_walk.proofs.start.is_less.Goals as goal
use Rattle.mt_walk.proofs.start.is_less.Goals.{After-cmp}

pub returns-then-rest-le-SLICE_BYTES-clause-more : goal.returns-then-rest-le-SLICE_BYTES-clause-more
returns-then-rest-le-SLICE_BYTES-clause-more c = λ no. more_short c.args.rest.now c.args.suffix.now (omega (arith, c.if-rest-le-SLICE_BYTES.true))

bytes : (c : After-cmp) → AreBytes c.args.rest.now
bytes c = are_bytes_from_reads c.args.rest.now (λ i. omega (arith, c.type_inv.rest i))

compared : (c : After-cmp) → c.cmp.result ≡ key_cmp c.args.suffix.now (drop 8 c.args.rest.now)
compared c = c.cmp.ensures ∙ ap (λ (ks : List ℕ). key_cmp c.args.suffix.now ks) c.rest_of.ensures

pub returns-in-Less-clause-less : goal.returns-in-Less-clause-less
returns-in-Less-clause-less c = λ yes. less_long c.args.rest.now c.args.suffix.now (omega (arith, c.if-rest-le-SLICE_BYTES.false)) c.requires (bytes (goal.at.returns-in-Less-clause-less c).After-cmp) (sym (compared (goal.at.returns-in-Less-clause-less c).After-cmp) ∙ c.in-Less.is)

pub returns-in-Equal-clause-more : goal.returns-in-Equal-clause-more
returns-in-Equal-clause-more c = λ no. more_long c.args.rest.now c.args.suffix.now (omega (arith, c.if-rest-le-SLICE_BYTES.false)) c.requires (bytes (goal.at.returns-in-Equal-clause-more c).After-cmp)
    (λ e. (let was = compared (goal.at.returns-in-Equal-clause-more c).After-cmp in let is = c.in-Equal.is in cc))

pub returns-in-Greater-clause-more : goal.returns-in-Greater-clause-more
returns-in-Greater-clause-more c = λ no. more_long c.args.rest.now c.args.suffix.now (omega (arith, c.if-rest-le-SLICE_BYTES.false)) c.requires (bytes (goal.at.returns-in-Greater-clause-more c).After-cmp)
    (λ e. (let was = compared (goal.at.returns-in-Greater-clause-more c).After-cmp in let is = c.in-Greater.is in cc))
