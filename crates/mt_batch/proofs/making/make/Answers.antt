use Rattle.std.proofs.Common.{◌≤◌, List, sym, subst, arith, length}
use Rattle.std.specs.List.{AllByRecursion}
use Rattle.mt_types.specs.Numbers.{greatest_number}
use Rattle.mt_types.specs.declared.limits.TheConstants.{MAX_KEY_BYTES}
use Rattle.mt_commit.specs.Log.{newest}
use Rattle.mt_promise.specs.History.{moment, rows}
use Rattle.mt_undo.specs.Removing.{AreApart, AreThere, Taken}
use Rattle.mt_index.specs.Stands.{MachineView}
use Rattle.mt_batch.specs.Making.{HasGone}
use Rattle.mt_batch.proofs.ChangeLemmas.{all_apart, taken_fit, taken_there}
use Rattle.mt_batch.proofs.MakingLemmas.{all_made, either_err, holds_all, some_rows}
use Rattle.mt_batch.proofs.making.make.Goals as goal

pub returns-in_err-put_all-clause-err : goal.returns-in_err-put_all-clause-err
returns-in_err-put_all-clause-err c = either_err _ c.from_residual.result (λ s mark ahead. (c.in_err-put_all.ensures.puts s mark ahead).gone)

pub returns-in_err-taken-clause-err : goal.returns-in_err-taken-clause-err
returns-in_err-taken-clause-err c = either_err _ c.from_residual-in_err-taken.result (λ s mark ahead. (c.in_ok-put_all.ensures.puts s mark ahead).gone)

pub remove_rows-requires-clause-keeps : goal.remove_rows-requires-clause-keeps
remove_rows-requires-clause-keeps c =
    let (s, mark, ahead) = c.requires.ahead in
    let gone = (c.in_ok-put_all.ensures.puts s mark ahead).gone in
    let fits : newest c.put_all.new.machine.log ≤ greatest_number = (let number = c.commits-few.ensures.number in let low = c.commits-few.type_inv in omega (arith, number, low)) in
    holds_all s c.put_all.new.machine mark gone.made gone.ahead c.in_ok-put_all.ensures.idle fits

pub remove_rows-requires-clause-retention : goal.remove_rows-requires-clause-retention
remove_rows-requires-clause-retention c =
    let (s, mark, ahead) = c.requires.ahead in
    (c.in_ok-put_all.ensures.puts s mark ahead).gone.ahead.keeps.retention

pub remove_rows-requires-clause-there : goal.remove_rows-requires-clause-there
remove_rows-requires-clause-there c h st =
    subst (λ (ts : List Taken). AreThere (rows c.put_all.new.machine.columns (moment h)) ts) (sym (c.in_ok-taken.ensures.taken h st)) (taken_there (rows c.put_all.new.machine.columns (moment h)) c.args.changes.now)

pub remove_rows-requires-clause-apart : goal.remove_rows-requires-clause-apart
remove_rows-requires-clause-apart c =
    let (s, mark, ahead) = c.requires.ahead in
    let (g, gst) = some_rows s c.put_all.new.machine mark c.args.changes.now (c.in_ok-put_all.ensures.puts s mark ahead) in
    subst AreApart (sym (c.in_ok-taken.ensures.taken g gst)) (all_apart (rows c.put_all.new.machine.columns (moment g)) c.args.changes.now c.requires.once)

pub remove_rows-requires-clause-fit : goal.remove_rows-requires-clause-fit
remove_rows-requires-clause-fit c =
    let (s, mark, ahead) = c.requires.ahead in
    let (g, gst) = some_rows s c.put_all.new.machine mark c.args.changes.now (c.in_ok-put_all.ensures.puts s mark ahead) in
    subst (λ (ts : List Taken). AllByRecursion (λ (t : Taken). length t.0 ≤ MAX_KEY_BYTES) ts) (sym (c.in_ok-taken.ensures.taken g gst))
    (taken_fit c.args.machine.now.columns (rows c.put_all.new.machine.columns (moment g)) c.args.changes.now c.requires.fit)

pub returns-in_err-remove_rows-clause-err : goal.returns-in_err-remove_rows-clause-err
returns-in_err-remove_rows-clause-err c = either_err _ c.from_residual-in_err-remove_rows.result (λ s mark ahead.
    subst (λ (t : MachineView). HasGone s mark t) (sym c.in_err-remove_rows.ensures.err) (c.in_ok-put_all.ensures.puts s mark ahead).gone)

pub returns-clause-ok : goal.returns-clause-ok
returns-clause-ok c s mark ahead =
    let fits : newest c.put_all.new.machine.log ≤ greatest_number = (let number = c.commits-few.ensures.number in let low = c.commits-few.type_inv in omega (arith, number, low)) in
    all_made s c.put_all.new.machine mark c.args.changes.now (c.in_ok-put_all.ensures.puts s mark ahead) c.remove_rows.new.self c.in_ok-put_all.ensures.idle fits c.in_ok-remove_rows.ensures.columns
    _ c.in_ok-remove_rows.ensures.keeps c.in_ok-remove_rows.ensures.ok c.args.from _ c.in_ok-taken.ensures.taken
    c.in_ok-taken.ensures.numbers
