use Rattle.std.proofs.Common.{[], refl, subst}
use Rattle.std.specs.Prelude.{IsTrue}
use Rattle.mt_folder.proofs.HeaderLemmas.{no_log, none_older}
use Rattle.mt_folder.proofs.opening.make_log.Goals as goal

-- neither file has a log
pub returns-clause-rows : goal.returns-clause-rows
returns-clause-rows g c = λ clean.
    let looked = c.in_ok-journal.ensures.clean clean.0 in
    let other_looked = subst (λ (disk : _). IsTrue (g.D.Disk.is_clean disk)) c.into_disk.ensures clean.1 in
    record {
      blank = c.in_ok-look_for_nothing.ensures.nothing looked;
      other_blank = c.in_ok-look_for_nothing-2.ensures.nothing other_looked;
      none = no_log c.args.columns (g.D.Disk.seen c.args.side.disk) c.args.side.header (c.requires.header (c.look_for_nothing.ensures.clean looked)) c.requires.none;
      other_none = no_log c.args.columns (g.D.Disk.seen c.args.other.disk) c.args.other.header (c.requires.other_header (c.look_for_nothing-2.ensures.clean other_looked))
          (none_older c.args.other.header c.args.side.header c.requires.none c.requires.order);
      rows = c.open.ensures;
      commits = refl;
    }

-- the log that was made has no entries
pub returns-clause-kept : goal.returns-clause-kept
returns-clause-kept g c =
    record { header = record { columns = c.args.columns; generation = 0; base = 0; run = 0 }; entries = []; keeps = c.in_ok-journal.ensures.kept; leaves = c.open.ensures }
