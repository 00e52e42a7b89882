use Rattle.std.proofs.Common.{◌∙◌, subst, sym}
use Rattle.std.specs.Prelude.{IsTrue}
use Rattle.mt_journal.specs.Appending.{with_end}
use Rattle.mt_journal.specs.Keeping.{AllAreLogs}
use Rattle.mt_journal.proofs.Kept.{unless_err}
use Rattle.mt_folder.proofs.EndLemmas.{closed_same}
use Rattle.mt_folder.proofs.opening.later_log.Goals as goal

-- the end that was appended leaves the same rows
pub returns-clause-kept : goal.returns-clause-kept
returns-clause-kept g c = λ keeps mixes clean.
    let header = c.args.newer.log.header in
    let entries = c.args.newer.log.entries.items in
    let at = c.args.newer.journal.at in
    let before = keeps (c.append_end.ensures.clean clean.0) in
    record {
      header = header;
      entries = with_end at entries;
      keeps = unless_err c.append_end.result (c.append_end.ensures.kept header entries before (mixes c.append_end.new.self.disk)) c.in_default.not-Err;
      leaves = record {
        older = c.args.older.log;
        whole = c.requires.whole;
        base = c.requires.base;
        rows_are = c.in_ok-read.ensures.rows ∙ closed_same header entries at.newest _;
      };
    }

-- the newer log was closed
pub returns-clause-logs : goal.returns-clause-logs
returns-clause-logs g c = λ keeps all mixes clean.
    let at = c.args.newer.journal.at in
    let before = keeps (c.append_end.ensures.clean clean.0) in
    let older = subst (λ (disk : _). IsTrue (g.D.Disk.is_clean disk)) c.into_disk.ensures clean.1 in
    record {
      number = at.newest;
      keeps = unless_err c.append_end.result (c.append_end.ensures.kept c.args.newer.log.header c.args.newer.log.entries.items before (mixes c.append_end.new.self.disk)) c.in_default.not-Err;
      stays = subst (λ (disk : _). AllAreLogs c.args.older.log.header c.args.older.log.entries.items (g.D.Disk.may_leave disk)) (sym c.into_disk.ensures) (all older);
    }
