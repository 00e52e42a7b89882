use Rattle.std.proofs.Common.{◌≡◌, ◌+◌, length, Option, Some, None, refl, ap, ◌∙◌, subst, inr, arith}
use Rattle.std.specs.Prelude.{slice_get}
use Rattle.std.specs.FinMap.{get}
use Rattle.std.specs.Option.{option_copied}
use Rattle.std.proofs.lemmas.Option.{slice_get_read}
use Rattle.mt_types.specs.declared.row.Row.{Row}
use Rattle.mt_check.specs.Receipts.{FitsRow, rows_at}
use Rattle.mt_check.specs.Faults.{BreaksThere, IsSmallest}
use Rattle.mt_check.specs.Versions.{last_row}
use Rattle.mt_check.proofs.LogLemmas.{standing_there, sound_more, versions_more, first_unsound}
use Rattle.mt_check.proofs.log.read_log.Goals as goal

pub returns-in-Some-clause-fault : goal.returns-in-Some-clause-fault
returns-in-Some-clause-fault c =
    let deltas = c.args.deltas.now in
    let d = c.index-deltas-i.result in
    let at : slice_get c.args.deltas.now c.loop-i.i ≡ Some c.index-deltas-i.result = slice_get_read c.args.deltas.now (length c.args.deltas.now) c.loop-i.i d refl (omega arith) c.index-deltas-i.is in
    let there : option_copied c.last_of.result ≡ get (rows_at c.args.deltas.now c.loop-i.i) c.index-deltas-i.result.key =
    c.last_of.ensures ∙ ap (last_row None) c.of_key.ensures ∙ standing_there deltas c.loop-i.i c.loop-i.versions d.key c.loop-i.invariant.versions in
    inr (first_unsound deltas c.loop-i.i d c.in-Some.rule c.loop-i.invariant.sound at
    (subst (λ (row : Option Row). IsSmallest (BreaksThere (c.loop-i.i + 1) row d) c.in-Some.rule) there c.in-Some.ensures.fault))

pub loop-i-preserved : goal.loop-i-preserved
loop-i-preserved c =
    let deltas = c.args.deltas.now in
    let d = c.index-deltas-i.result in
    let at : slice_get c.args.deltas.now c.loop-i.i ≡ Some c.index-deltas-i.result = slice_get_read c.args.deltas.now (length c.args.deltas.now) c.loop-i.i d refl (omega arith) c.index-deltas-i.is in
    let there : option_copied c.last_of.result ≡ get (rows_at c.args.deltas.now c.loop-i.i) c.index-deltas-i.result.key =
    c.last_of.ensures ∙ ap (last_row None) c.of_key.ensures ∙ standing_there deltas c.loop-i.i c.loop-i.versions d.key c.loop-i.invariant.versions in
    let fine = c.delta_fault.ensures.fine c.in_default.is in
    record {
      sound = sound_more deltas c.loop-i.i d c.loop-i.invariant.sound at fine.0 (subst (λ (row : Option Row). FitsRow row d) there fine.1);
      versions = versions_more deltas c.loop-i.i d c.loop-i.versions c.add.new.self at c.loop-i.invariant.versions c.in_ok-add.ensures;
    }

pub returns-clause-sound : goal.returns-clause-sound
returns-clause-sound c = λ i d h at. c.loop-i.invariant.sound i d (omega arith) at
