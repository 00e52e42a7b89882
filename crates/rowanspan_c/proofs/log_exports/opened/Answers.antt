use Rattle.std.proofs.Common.{sym, subst}
use Rattle.mt_log_disk.specs.Disks.{log_seen}
use Rattle.mt_map.specs.Tidies.{MapView}
use Rattle.rowanspan_c.specs.declared.file_log.FileLog.{FileLog}
use Rattle.rowanspan_c.specs.Logs.{HasRows}
use Rattle.rowanspan_c.proofs.log_exports.opened.Goals as goal

pub returns-in-Ok-new-2 : goal.returns-in-Ok-new-2
returns-in-Ok-new-2 c =
    let map = c.in_ok-map.field-0.map in
    let file : FileLog = record { log = c.in_ok-map.field-0.log } in
    let found = c.in_ok-map.ensures.loaded in
    let rows : HasRows c.args.options map file = record {
      read = found.0;
      loaded = found.1;
      tidies = c.in_ok-map.ensures.tidies;
      even = log_seen c.in-Ok.files.even;
      odd = log_seen c.in-Ok.files.odd;
      are = λ clean. ((found.2 clean).0, (found.2 clean).1, λ mixing. (found.2 clean).2 (λ disk. mixing));
    } in
    subst (λ (s : FileLog). HasRows c.args.options c.in-Ok-new.index.value s) (sym c.in-Ok-new-2.ensures.ok)
    (subst (λ (m : MapView). HasRows c.args.options m file) (sym c.in-Ok-new.ensures.ok) rows)
