use Rattle.std.proofs.Common.{List, [], ap, map, sym, subst}
use Rattle.std.proofs.lemmas.Result.{err_from_is_err_and}
use Rattle.mt_frame.specs.declared.entry.Record.{Record}
use Rattle.mt_map.specs.Tidies.{MapView}
use Rattle.mt_replay.specs.Replay.{change_again}
use Rattle.mt_store.specs.Extending.{Adds}
use Rattle.mt_store.proofs.ExtendLemmas.{adds_none}
use Rattle.mt_replay.proofs.EntryLemmas.{of_commits, of_others}
use Rattle.mt_store.specs.Again.{EndsAt}
use Rattle.mt_store.proofs.AgainLemmas.{ends_in_entry}
use Rattle.mt_store.proofs.MakingLemmas.{all_entries, entry_more}
use Rattle.mt_store.proofs.replaying.replay.Goals.{in-Commits+in_ok-make_all, in_default}
use Rattle.mt_store.proofs.replaying.replay.Goals as goal

pub loop-entry-preserved : goal.loop-entry-preserved
loop-entry-preserved c = elim c.match-entry.branch [
  | in-Commits+in_ok-make_all w ↦ entry_more c.args.index.now.machine c.loop-entry.index.machine c.match-entry.index.machine c.args.entries.now c.loop-entry.entry-index c.entry-item.result w.in-Commits.commits.records c.loop-entry-test.true c.entry-item.is (of_commits c.entry-item.result w.in-Commits.commits w.in-Commits.is) c.loop-entry.invariant
      (subst (λ (m : MapView). Adds c.loop-entry.index.machine (map change_again w.in-Commits.commits.records) m.machine) (sym w.index-is)
      (subst (λ (rs : List Record). Adds c.loop-entry.index.machine (map change_again rs) w.make_all.new.index.machine) w.as_slice.ensures w.in_ok-make_all.ensures.adds))
  | in_default w ↦ entry_more c.args.index.now.machine c.loop-entry.index.machine c.match-entry.index.machine c.args.entries.now c.loop-entry.entry-index c.entry-item.result [] c.loop-entry-test.true c.entry-item.is (of_others c.entry-item.result w.in_default.not-Commits) c.loop-entry.invariant
      (adds_none c.loop-entry.index.machine c.match-entry.index.machine (ap (λ (m : MapView). m.machine) w.index-is))
]

pub returns-clause-adds : goal.returns-clause-adds
returns-clause-adds c = all_entries c.args.index.now.machine c.loop-entry.index.machine c.loop-entry.index.machine c.args.entries.now c.loop-entry.entry-index c.loop-entry-test.false c.loop-entry.invariant

pub returns-in_err-make_all-clause-fails : goal.returns-in_err-make_all-clause-fails
returns-in_err-make_all-clause-fails c =
    let p = err_from_is_err_and c.from_residual.result c.from_residual.ensures.1 in
    rw (p.1, p.2) (ends_in_entry c.args.index.now.machine c.loop-entry.index.machine c.args.entries.now c.loop-entry.entry-index c.entry-item.result c.in-Commits.commits c.in_err-make_all.field-0.0
    c.loop-entry-test.true c.entry-item.is c.in-Commits.is c.loop-entry.invariant
    (subst (λ (rs : List Record). EndsAt c.loop-entry.index.machine rs c.in_err-make_all.field-0.0) c.as_slice.ensures c.in_err-make_all.ensures.fails))
