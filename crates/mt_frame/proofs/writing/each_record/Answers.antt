use Rattle.std.proofs.Common.{ℕ, List, [], ◌∷◌, ◌++◌, take, All, subst, sym, ap, ◌∙◌}
use Rattle.std.specs.List.{flat_map}
use Rattle.std.proofs.lemmas.List.{flat_map_more, take_more, take_all}
use Rattle.std.proofs.lemmas.List.Elements.{All-more, recursion_from_All}
use Rattle.mt_frame.specs.declared.entry.Record.{Record}
use Rattle.mt_frame.specs.Spelling.{record_spelling}
use Rattle.mt_frame.specs.Fits.{RecordFits}
use Rattle.mt_frame.proofs.writing.each_record.Goals as goal

pub loop-record-preserved : goal.loop-record-preserved
loop-record-preserved c =
    let i = c.loop-record.record-index in
    let xs = c.args.records.now in
    let item = c.record-item.result in
    record {
      written =
          c.in_ok-write_record.ensures.value ∙ ap (λ (l : List ℕ). l ++ record_spelling item) c.loop-record.invariant.written
          ∙ flat_map_more record_spelling c.args.out.now.items (take i xs) item
          ∙ ap (λ (l : List Record). c.args.out.now.items ++ flat_map record_spelling l) (ap (λ (r : Record). take i xs ++ r ∷ []) c.record-item.is ∙ sym (take_more xs i item c.loop-record-test.true));
      fit = All-more RecordFits xs i item c.loop-record-test.true c.loop-record.invariant.fit (subst RecordFits c.record-item.is c.in_ok-write_record.ensures.fits);
    }

pub returns-clause-fit : goal.returns-clause-fit
returns-clause-fit c =
    recursion_from_All RecordFits c.args.records.now (subst (All RecordFits) (take_all c.loop-record.record-index c.args.records.now c.loop-record-test.false) c.loop-record.invariant.fit)
