use Rattle.std.proofs.Common.{rules, ◌≡◌, IsTrue, IfOk, Ok, Err, Some, subst}
use Rattle.mt_folder.specs.declared.source.Source.TheVariants.{Newer}
use Rattle.mt_folder.specs.Files.{AreRows}
use Rattle.mt_folder.specs.Kept.{KeepsLog, KeepsLogs, KeepsSource}
use Rattle.mt_folder.specs.Logs.{is_whole, last_number, AreOfSource, HasRows}
use Rattle.mt_folder.specs.Spares.{disk_of, AreClean}
use Rattle.mt_folder.proofs.HeaderLemmas.{header_of, newest_of}
use Rattle.mt_folder.proofs.SourceLemmas as lemmas
use Rattle.mt_folder.proofs.opening.open_newer.Goals as goal

-- the newer log has all rows
pub returns-then-is_whole-clause-rows : goal.returns-then-is_whole-clause-rows
returns-then-is_whole-clause-rows g c =
    let whole : IsTrue (is_whole c.in_ok-opened.opened.log) = search rules in
    let log = c.in_ok-opened.opened.log in
    let bytes = g.D.Disk.seen c.args.newer.disk in
    let others = g.D.Disk.seen c.args.older.disk in
    elim c.whole_log.result as (λ r. IfOk r (λ opened. HasRows log opened.read) → IfOk r (λ opened. opened.source ≡ Some Newer) → IfOk r (λ opened. opened.journal ≡ c.in_ok-opened.opened.journal)
    → IfOk r (λ opened. disk_of opened.spare ≡ c.into_disk.result) → IfOk r (λ opened. AreClean g.D.Disk.is_clean opened → AreRows c.args.columns bytes others opened.source opened.read)) [
      | Ok opened ↦ λ rows source journal disk clean.
          let own = subst (λ (it : _). IsTrue (g.D.Disk.is_clean it.disk)) journal clean.0 in
          let spare = subst (λ (it : _). IsTrue (g.D.Disk.is_clean it)) disk clean.1 in
          let before = c.look_for_later.ensures.clean (subst (λ (it : _). IsTrue (g.D.Disk.is_clean it)) c.into_disk.ensures spare) in
          let says = c.in_ok-opened.ensures.says own in
          let newest = newest_of c.args.columns others c.args.older.header c.args.newer.header log (header_of c.args.columns bytes c.args.newer.header log (c.requires.header (c.in_ok-opened.ensures.clean own)) says) (c.requires.other_header before) c.requires.order in
          lemmas.rows_of_one c.args.columns bytes others opened.source opened.read log says whole newest source rows
      | Err error ↦ λ rows source journal disk. tt
    ] c.whole_log.ensures.rows c.whole_log.ensures.source c.whole_log.ensures.journal c.whole_log.ensures.disk

-- both logs were read
pub returns-clause-rows : goal.returns-clause-rows
returns-clause-rows g c =
    let log = c.in_ok-opened.opened.log in
    let other = c.in_ok-earlier.earlier.log in
    let bytes = g.D.Disk.seen c.args.newer.disk in
    let others = g.D.Disk.seen c.args.older.disk in
    elim c.open_both.result as (λ r. IfOk r (λ opened. AreOfSource log other opened.source opened.read)
    → IfOk r (λ opened. AreClean g.D.Disk.is_clean opened → IsTrue (g.D.Disk.is_clean c.in_ok-opened.opened.journal.disk) × IsTrue (g.D.Disk.is_clean c.in_ok-earlier.earlier.journal.disk))
    → IfOk r (λ opened. AreClean g.D.Disk.is_clean opened → AreRows c.args.columns bytes others opened.source opened.read)) [
      | Ok opened ↦ λ rows both clean.
          let cleans = both clean in
          let says = c.in_ok-opened.ensures.says cleans.0 in
          let said = c.in_ok-earlier.ensures.says cleans.1 in
          let newest = newest_of c.args.columns others c.args.older.header c.args.newer.header log (header_of c.args.columns bytes c.args.newer.header log (c.requires.header (c.in_ok-opened.ensures.clean cleans.0)) says) (c.requires.other_header (c.in_ok-earlier.ensures.clean cleans.1)) c.requires.order in
          lemmas.rows_of_two c.args.columns bytes others opened.source opened.read log other says said newest rows
      | Err error ↦ λ rows both. tt
    ] c.open_both.ensures.rows c.open_both.ensures.clean

-- the log in use continues after its last commit
pub returns-clause-continues : goal.returns-clause-continues
returns-clause-continues g c =
    let newer = c.in_ok-opened.opened in
    let older = c.in_ok-earlier.earlier in
    elim c.open_both.result as (λ r. (newer.journal.at.newest ≡ last_number newer.log → older.journal.at.newest ≡ last_number older.log → IfOk r (λ opened. opened.journal.at.newest ≡ opened.read.commits))
    → IfOk r (λ opened. AreClean g.D.Disk.is_clean opened → IsTrue (g.D.Disk.is_clean newer.journal.disk) × IsTrue (g.D.Disk.is_clean older.journal.disk))
    → IfOk r (λ opened. AreClean g.D.Disk.is_clean opened → opened.journal.at.newest ≡ opened.read.commits)) [
      | Ok opened ↦ λ continues both clean.
          let cleans = both clean in
          continues (c.in_ok-opened.ensures.newest cleans.0) (c.in_ok-earlier.ensures.newest cleans.1)
      | Err error ↦ λ continues both. tt
    ] c.open_both.ensures.continues c.open_both.ensures.clean

-- ---- the log in use is the one that was read
pub returns-then-not-has_log-clause-logs : goal.returns-then-not-has_log-clause-logs
returns-then-not-has_log-clause-logs g c = λ mixes.
    let bytes = g.D.Disk.seen c.args.newer.disk in
    let others = g.D.Disk.seen c.args.older.disk in
    elim c.make_log.result as (λ r. IfOk r (λ opened. KeepsLogs c.args.columns g.D.Disk.seen g.D.Disk.may_leave bytes others opened.source opened)
    → IfOk r (λ opened. AreClean g.D.Disk.is_clean opened → KeepsLogs c.args.columns g.D.Disk.seen g.D.Disk.may_leave bytes others opened.source opened)) [
      | Ok opened ↦ λ logs clean. logs
      | Err error ↦ λ logs. tt
    ] (c.make_log.ensures.logs bytes others)

pub returns-then-is_whole-clause-logs : goal.returns-then-is_whole-clause-logs
returns-then-is_whole-clause-logs g c = λ mixes.
    let log = c.in_ok-opened.opened.log in
    let bytes = g.D.Disk.seen c.args.newer.disk in
    let others = g.D.Disk.seen c.args.older.disk in
    elim c.whole_log.result as (λ r. IfOk r (λ opened. opened.source ≡ Some Newer) → IfOk r (λ opened. opened.journal ≡ c.in_ok-opened.opened.journal)
    → IfOk r (λ opened. AreClean g.D.Disk.is_clean opened → KeepsLog g.D.Disk.seen g.D.Disk.may_leave log opened)
    → IfOk r (λ opened. AreClean g.D.Disk.is_clean opened → KeepsLogs c.args.columns g.D.Disk.seen g.D.Disk.may_leave bytes others opened.source opened)) [
      | Ok opened ↦ λ source journal keeps clean.
          let own = subst (λ (it : _). IsTrue (g.D.Disk.is_clean it.disk)) journal clean.0 in
          lemmas.keeps_one c.args.columns g.D.Disk.seen g.D.Disk.may_leave bytes others opened.source opened log source (c.in_ok-opened.ensures.says own) (keeps clean)
      | Err error ↦ λ source journal keeps. tt
    ] c.whole_log.ensures.source c.whole_log.ensures.journal (c.whole_log.ensures.logs c.in_ok-opened.ensures.kept c.in_ok-opened.ensures.all)

pub returns-clause-logs : goal.returns-clause-logs
returns-clause-logs g c = λ mixes.
    let newer = c.in_ok-opened.opened in
    let older = c.in_ok-earlier.earlier in
    let bytes = g.D.Disk.seen c.args.newer.disk in
    let others = g.D.Disk.seen c.args.older.disk in
    elim c.open_both.result as (λ r. IfOk r (λ opened. AreClean g.D.Disk.is_clean opened → KeepsSource g.D.Disk.seen g.D.Disk.may_leave newer.log older.log opened.source opened)
    → IfOk r (λ opened. AreClean g.D.Disk.is_clean opened → IsTrue (g.D.Disk.is_clean newer.journal.disk) × IsTrue (g.D.Disk.is_clean older.journal.disk))
    → IfOk r (λ opened. AreClean g.D.Disk.is_clean opened → KeepsLogs c.args.columns g.D.Disk.seen g.D.Disk.may_leave bytes others opened.source opened)) [
      | Ok opened ↦ λ keeps both clean.
          let cleans = both clean in
          lemmas.keeps_two c.args.columns g.D.Disk.seen g.D.Disk.may_leave bytes others opened newer.log older.log (c.in_ok-opened.ensures.says cleans.0) (c.in_ok-earlier.ensures.says cleans.1) opened.source (keeps clean)
      | Err error ↦ λ keeps both. tt
    ] (c.open_both.ensures.logs mixes) c.open_both.ensures.clean
