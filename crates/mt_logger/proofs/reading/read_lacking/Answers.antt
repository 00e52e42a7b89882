use Rattle.std.proofs.Common.{◌∙◌, ℕ, List, ap, subst, sym, arith}
use Rattle.mt_promise.specs.Alone.{IsRangeOfMap}
use Rattle.mt_promise.specs.History.{moment, rows}
use Rattle.mt_commit.specs.Log.{newest}
use Rattle.mt_folder_log.specs.declared.checkpoint.TheConstants.{PART}
use Rattle.mt_index.specs.Stands.{MachineView, Stands}
use Rattle.mt_logger.proofs.reading.read_lacking.Goals as goal

pub returns : goal.returns
returns g c =
    let s = c.in-Some.machine.now in
    let is = c.in-Some.ensures.machine in
    let (h, there) = c.machine.ensures.stands in
    let pairs = c.in_ok-rows.rows in
    let number = c.commits-at.ensures.number ∙ ap (λ (m : MachineView). newest m.log) (sym is) in
    record {
      m = s;
      is = (h, subst (λ (m : MachineView). Stands m h) (sym is) there);
      deltas_are = c.in_ok-deltas.ensures.tells;
      all = grind (arith, number, c.if-at-from.false, c.if-at-from-2.false, c.len-count.ensures);
      at = number;
      rows_are = λ h stands. subst (λ (asked : List ℕ). IsRangeOfMap (rows s.columns (moment h)) asked c.args.start PART pairs) c.new.ensures (c.in_ok-rows.ensures.pairs h stands);
    }
