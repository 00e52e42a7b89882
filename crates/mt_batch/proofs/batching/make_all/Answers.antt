use Rattle.std.proofs.Common.{◌++◌, ◌∙◌, List, ℕ, ap, subst, sym, length}
use Rattle.mt_types.specs.Rows.{after}
use Rattle.mt_types.specs.declared.row.Change.{Change as RowChange}
use Rattle.mt_promise.specs.History.{moment}
use Rattle.mt_undo.specs.Removing.{Taken, drops}
use Rattle.mt_index.specs.Marks.{GoesOnByCalls}
use Rattle.mt_index.proofs.MarkStands.{none_open}
use Rattle.mt_batch.proofs.CallLemmas.{all_go}
use Rattle.mt_batch.specs.Changes.{numbers_from, puts_of}
use Rattle.mt_batch.proofs.batching.make_all.Goals as goal

pub settle-requires-clause-ahead : goal.settle-requires-clause-ahead
settle-requires-clause-ahead c =
    let all = c.in-Ok.ensures.ok c.args.machine.now c.mark-mark.result c.mark-mark.ensures.ahead in (
      c.args.machine.now,
      puts_of c.args.changes.now ++ drops all.taken,
      all.ahead,
      λ h st few.
          let (later, by) = all_go c.args.machine.now.columns h c.args.changes.now all.taken st.legal (none_open c.args.machine.now h st c.requires.idle) few c.requires.fit c.requires.once (all.are h st) in
          (later, subst (λ (C : ℕ). GoesOnByCalls C h (puts_of c.args.changes.now ++ drops all.taken) later) (sym all.ahead.columns) by),
    )

pub go_back-requires-clause-ahead : goal.go_back-requires-clause-ahead
go_back-requires-clause-ahead c =
    let gone = c.in-Err.ensures.err c.args.machine.now c.mark-mark.result c.mark-mark.ensures.ahead in
    (c.args.machine.now, gone.made, gone.ahead, gone.puts)

pub returns-in-Ok-clause-made : goal.returns-in-Ok-clause-made
returns-in-Ok-clause-made c h st =
    let all = c.in-Ok.ensures.ok c.args.machine.now c.mark-mark.result c.mark-mark.ensures.ahead in
    let C : ℕ = c.args.machine.now.columns in
    let changes = c.args.changes.now in
    let before : List RowChange = (moment h).commits in
    let few = c.settle.ensures.few c.args.machine.now (puts_of changes ++ drops all.taken) all.ahead h st in
    let (later, by) = all_go C h changes all.taken st.legal (none_open c.args.machine.now h st c.requires.idle) few c.requires.fit c.requires.once (all.are h st) in
    let settled = c.settle.ensures.stands c.args.machine.now (puts_of changes ++ drops all.taken) all.ahead h later st
    (subst (λ (D : ℕ). GoesOnByCalls D h (puts_of changes ++ drops all.taken) later) (sym all.ahead.columns) by) in
    record {
      ahead = later;
      stands = settled;
      goes = subst (λ (ts : List Taken). GoesOnByCalls C h (puts_of changes ++ drops ts) later) (all.are h st) by;
      from = c.commits-from.ensures.told h st;
      to = c.commits-to.ensures.told later settled;
      numbers = all.numbered h st ∙ ap (λ (n : ℕ). numbers_from (after C (before ++ puts_of changes)) n (length (before ++ puts_of changes)) changes) (c.commits-from.ensures.told h st);
    }

pub returns-in-Ok-clause-columns : goal.returns-in-Ok-clause-columns
returns-in-Ok-clause-columns c =
    let all = c.in-Ok.ensures.ok c.args.machine.now c.mark-mark.result c.mark-mark.ensures.ahead in
    c.settle.ensures.columns ∙ all.ahead.columns

pub returns-in-Ok-clause-bounds : goal.returns-in-Ok-clause-bounds
returns-in-Ok-clause-bounds c =
    let all = c.in-Ok.ensures.ok c.args.machine.now c.mark-mark.result c.mark-mark.ensures.ahead in
    c.settle.ensures.bounds c.args.machine.now (puts_of c.args.changes.now ++ drops all.taken) all.ahead

pub returns-in-Err-clause-stays : goal.returns-in-Err-clause-stays
returns-in-Err-clause-stays c h st =
    let gone = c.in-Err.ensures.err c.args.machine.now c.mark-mark.result c.mark-mark.ensures.ahead in
    c.go_back.ensures.stands c.args.machine.now gone.made gone.ahead gone.puts h st

pub returns-in-Err-clause-columns : goal.returns-in-Err-clause-columns
returns-in-Err-clause-columns c =
    let gone = c.in-Err.ensures.err c.args.machine.now c.mark-mark.result c.mark-mark.ensures.ahead in
    c.go_back.ensures.columns ∙ gone.ahead.columns

pub returns-in-Err-clause-bounds : goal.returns-in-Err-clause-bounds
returns-in-Err-clause-bounds c =
    let gone = c.in-Err.ensures.err c.args.machine.now c.mark-mark.result c.mark-mark.ensures.ahead in
    c.go_back.ensures.bounds c.args.machine.now gone.made gone.ahead
