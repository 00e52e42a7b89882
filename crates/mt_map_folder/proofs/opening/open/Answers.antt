use Rattle.std.proofs.Common.{◌≡◌, ◌⊎◌, ◌∙◌, ℕ, take, ap, subst, sym, arith}
use Rattle.std.specs.Prelude.{IsTrue}
use Rattle.mt_folder.specs.Files.{AreRows}
use Rattle.mt_folder.specs.Spares.{disk_of}
use Rattle.mt_folder_laws.specs.Left.{HaveFirst}
use Rattle.mt_folder_log.specs.Folder.{AreKept}
use Rattle.mt_journal.specs.Keeping.{Keeps}
use Rattle.mt_promise.specs.History.{moment}
use Rattle.mt_types.specs.Rows.{after}
use Rattle.mt_map_folder.proofs.CleanLemmas.{rows_left, spare_clean}
use Rattle.mt_folder_log.proofs.MadeLemmas.{made_none, made_of, BeginsAt}
use Rattle.mt_map_folder.proofs.OpenLemmas.{begun_of, continued_either, nothing_read, unneeded}
use Rattle.mt_map_folder.proofs.opening.open.Goals as goal

-- the map has the rows that were read
pub returns-clause-loaded : goal.returns-clause-loaded
returns-clause-loaded g c =
    let opened = c.in_ok-journal.field-0 in
    let columns = c.columns-columns.ensures ∙ c.in-Ok.ensures.opened.0 in
    let even = g.D.Disk.seen c.args.even in
    let odd = g.D.Disk.seen c.args.odd in (
      opened.read,
      c.in_ok-map.ensures.loaded,
      λ clean.
          let own = subst (λ (journal : _). IsTrue (g.D.Disk.is_clean journal.disk)) c.new.ensures.journal clean.0 in
          let all : IsTrue (g.D.Disk.is_clean opened.journal.disk) × IsTrue (g.D.Disk.is_clean (disk_of opened.spare)) = (own, spare_clean g.D.Disk.is_clean opened.spare c.new.result.other c.new.ensures.other clean.1) in (
            (opened.source, subst (λ (C : ℕ). AreRows C even odd opened.source opened.read ⊎ AreRows C odd even opened.source opened.read) columns (c.in_ok-journal.ensures.rows all)),
            ap (λ (journal : _). journal.at.newest) c.new.ensures.journal ∙ c.in_ok-journal.ensures.continues all,
            λ mixes.
                let kept = c.in_ok-journal.ensures.kept mixes all in
                record {
                  header = kept.header;
                  entries = kept.entries;
                  keeps = subst (λ (journal : _). Keeps journal.at (g.D.Disk.seen journal.disk) (g.D.Disk.may_leave journal.disk) kept.header kept.entries) (sym c.new.ensures.journal) kept.keeps;
                  leaves = rows_left opened.spare c.new.result.other kept.header kept.entries opened.read.rows c.new.ensures.other kept.leaves;
                },
          ),
    )

-- two empty files keep any changes, of which the map has made none
pub returns-clause-begins : goal.returns-clause-begins
returns-clause-begins g c = λ no_even no_odd clean changes.
    let opened = c.in_ok-journal.field-0 in
    let loaded = c.in_ok-map.ensures.loaded in
    let columns = c.columns-columns.ensures ∙ c.in-Ok.ensures.opened.0 in
    let own = subst (λ (journal : _). IsTrue (g.D.Disk.is_clean journal.disk)) c.new.ensures.journal clean.0 in
    let all : IsTrue (g.D.Disk.is_clean opened.journal.disk) × IsTrue (g.D.Disk.is_clean (disk_of opened.spare)) = (own, spare_clean g.D.Disk.is_clean opened.spare c.new.result.other c.new.ensures.other clean.1) in
    let none = nothing_read c.columns-columns.result (g.D.Disk.seen c.args.even) (g.D.Disk.seen c.args.odd) opened.source opened.read no_even no_odd (c.in_ok-journal.ensures.rows all) in
    let keeps = begun_of opened.source _ none.0 c.in_ok-journal.ensures.begins in
    let newest : c.new.result.journal.at.newest ≡ 0 = ap (λ (journal : _). journal.at.newest) c.new.ensures.journal ∙ c.in_ok-journal.ensures.continues all ∙ none.1 in
    let made = made_none c.in_ok-map.map.machine.columns changes (moment loaded.h).commits (loaded.closed.commits ∙ none.1) in
    record {
      h = loaded.h;
      stands = loaded.stands;
      made = made.0;
      columns = loaded.columns ∙ sym columns ∙ sym c.new.ensures.columns;
      opened = omega (arith, made.1);
      within = omega (arith, newest);
      kept = c.new.ensures.begins keeps (unneeded opened.source opened.spare none.0 c.in_ok-journal.ensures.spare) changes;
    }

-- files that have the first changes
pub returns-clause-again : goal.returns-clause-again
returns-clause-again g c = λ changes n have mixes clean.
    let opened = c.in_ok-journal.field-0 in
    let loaded = c.in_ok-map.ensures.loaded in
    let seen = g.D.Disk.seen in
    let may_leave = g.D.Disk.may_leave in
    let even = seen c.args.even in
    let odd = seen c.args.odd in
    let columns = c.columns-columns.ensures ∙ c.in-Ok.ensures.opened.0 in
    let own = subst (λ (journal : _). IsTrue (g.D.Disk.is_clean journal.disk)) c.new.ensures.journal clean.0 in
    let all : IsTrue (g.D.Disk.is_clean opened.journal.disk) × IsTrue (g.D.Disk.is_clean (disk_of opened.spare)) = (own, spare_clean g.D.Disk.is_clean opened.spare c.new.result.other c.new.ensures.other clean.1) in
    let C = c.columns-columns.result in
    let files = subst (λ (k : ℕ). HaveFirst k changes n even odd ⊎ HaveFirst k changes n odd even) (sym columns) have in
    let it = continued_either C seen may_leave changes n opened c.new.result.other c.new.ensures.other c.in_ok-journal.ensures.spare even odd files (c.in_ok-journal.ensures.rows all) (c.in_ok-journal.ensures.logs mixes all) in
    let commits = (moment loaded.h).commits in
    let rows : after c.args.options.columns commits ≡ after c.args.options.columns (take n changes) = loaded.has ∙ it.1 ∙ ap (λ (k : ℕ). after k (take n changes)) columns in
    let made = subst (λ (k : ℕ). BeginsAt k changes commits n) (sym loaded.columns) (made_of c.args.options.columns changes commits n (loaded.closed.commits ∙ it.0) it.2 rows) in
    let newest : c.new.result.journal.at.newest ≡ n = ap (λ (journal : _). journal.at.newest) c.new.ensures.journal ∙ c.in_ok-journal.ensures.continues all ∙ it.0 in (
      newest,
      record {
        h = loaded.h;
        stands = loaded.stands;
        made = made.0;
        columns = loaded.columns ∙ sym columns ∙ sym c.new.ensures.columns;
        opened = omega (arith, made.1, newest);
        within = omega (arith, loaded.closed.commits, it.0, newest);
        kept = subst (λ (journal : _). AreKept c.new.result.columns seen may_leave changes journal.at journal.disk c.new.result.other) (sym c.new.ensures.journal)
            (subst (λ (k : ℕ). AreKept k seen may_leave changes opened.journal.at opened.journal.disk c.new.result.other) (sym c.new.ensures.columns) it.3);
      },
    )
