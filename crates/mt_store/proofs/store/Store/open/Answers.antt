use Rattle.std.specs.Prelude.{IsTrue}
use Rattle.std.proofs.Common.{◌≡◌, ◌<◌, ◌^◌, ◌∙◌, ℕ, List, ap, arith, inl, map, subst, sym}
use Rattle.std.proofs.lemmas.Result.{err_from_is_err_and}
use Rattle.mt_frame.specs.declared.entry.Entry.{Entry}
use Rattle.mt_journal.specs.declared.position.Position.{Position}
use Rattle.mt_replay.specs.Replay.{change_again, records_in}
use Rattle.mt_store.specs.Again.{EndsAt}
use Rattle.mt_store.specs.Extending.{Adds}
use Rattle.mt_store.specs.declared.store.Store.{Store}
use Rattle.mt_store.proofs.AgainLemmas.{cannot, no_damage, numbers_fit, start_fails}
use Rattle.mt_store.proofs.CauseLemmas.{not_refused, refused_for}
use Rattle.mt_store.proofs.OpenLemmas.{opens_again}
use Rattle.mt_store.proofs.store.Store.open.Goals as goal

pub returns-clause-found : goal.returns-clause-found
returns-clause-found g c = λ changes durable r clean. opens_again c.args.options.columns c.in-Ok.map.machine c.replay.new.index.machine (c.in-Ok.ensures.opened.0 ∙ c.with_retention.ensures.columns) c.in-Ok.ensures.opened.2
    c.in-Ok-open.opened.header c.in-Ok-open.opened.entries.items
    (subst (λ (entries : List Entry). Adds c.in-Ok.map.machine (map change_again (records_in entries)) c.replay.new.index.machine) c.deref.ensures.value c.in_ok-replay.ensures.adds)
    c.in-Ok-open.opened.journal.at (g.D.Disk.seen c.in-Ok-open.opened.journal.disk) (g.D.Disk.may_leave c.in-Ok-open.opened.journal.disk)
    (c.in-Ok-open.ensures.kept clean) c.logs_are_read_one_way.ensures changes durable (g.D.Disk.seen c.args.disk) (c.in-Ok-open.ensures.read clean) r

pub returns-in-Err-clause-cause : goal.returns-in-Err-clause-cause
returns-in-Err-clause-cause g c = refused_for _ _ _ _ c.in-Err.refusal _ c.with_retention.ensures.fault c.in-Err.ensures.fault (λ none. (c.args.disk, λ clean. inl none))

pub returns-in-Err-clause-whole : goal.returns-in-Err-clause-whole
returns-in-Err-clause-whole g c = λ s changes durable made columns small r. (c.args.disk, λ clean. tt)

pub returns-in-Err-open-clause-whole : goal.returns-in-Err-open-clause-whole
returns-in-Err-open-clause-whole g c = λ s changes durable made columns small r.
    c.in-Err-open.ensures.refused r.header r.entries r.log
    (r.own.columns ∙ (sym c.with_retention.ensures.columns ∙ (sym c.in-Ok.ensures.opened.0 ∙ sym c.columns.ensures)))
    (numbers_fit c.args.options.columns changes durable (g.D.Disk.seen c.args.disk) r small)

pub returns-in_err-replay-clause-cause : goal.returns-in_err-replay-clause-cause
returns-in_err-replay-clause-cause g c =
    let p = err_from_is_err_and c.from_residual.result c.from_residual.ensures.1 in
    let opened = c.in-Ok-open.opened in
    let disk = opened.journal.disk in
    let columns : c.in-Ok.map.machine.columns ≡ c.args.options.columns = c.in-Ok.ensures.opened.0 ∙ c.with_retention.ensures.columns in
    let ends = subst (λ (entries : List Entry). EndsAt c.in-Ok.map.machine (records_in entries) c.in_err-replay.field-0.0) c.deref.ensures.value c.in_err-replay.ensures.fails in
    let number : c.position-newest.result.newest < 2 ^ 64 = omega arith in
    not_refused _ _ c.in-Ok.map _ _ _ c.with_retention.ensures.fault c.in-Ok.ensures.fault (
      disk,
      rw (p.1, p.2) (start_fails (Store g.row.D.Denot) c.args.options.columns (g.D.Disk.seen c.args.disk) (g.D.Disk.is_usable c.args.disk) _ (IsTrue (g.D.Disk.is_clean disk)) c.in-Ok.map.machine (records_in opened.entries.items) _ _ c.in-Ok-open.ensures.cause.1.0 c.in_err-replay.field-0.0 ends
          (λ clean. cannot c.args.options.columns (g.D.Disk.seen c.args.disk) c.in-Ok.map.machine columns c.in-Ok.ensures.opened.2 opened.header opened.entries.items
          (c.in-Ok-open.ensures.columns ∙ (c.columns.ensures ∙ columns)) (c.in-Ok-open.ensures.read clean)
          (subst (λ (n : ℕ). n < 2 ^ 64) (ap (λ (at : Position). at.newest) c.position-newest.ensures.value ∙ (c.in-Ok-open.ensures.kept clean).newest) number)
          c.in_err-replay.field-0.0 ends)),
    )

pub returns-in_err-replay-clause-whole : goal.returns-in_err-replay-clause-whole
returns-in_err-replay-clause-whole g c = λ s changes durable made same small r.
    let p = err_from_is_err_and c.from_residual.result c.from_residual.ensures.1 in
    let opened = c.in-Ok-open.opened in
    let columns : c.in-Ok.map.machine.columns ≡ c.args.options.columns = c.in-Ok.ensures.opened.0 ∙ c.with_retention.ensures.columns in
    let ends = subst (λ (entries : List Entry). EndsAt c.in-Ok.map.machine (records_in entries) c.in_err-replay.field-0.0) c.deref.ensures.value c.in_err-replay.ensures.fails in
    let number : c.position-newest.result.newest < 2 ^ 64 = omega arith in (
      opened.journal.disk,
      λ clean. rw (p.1, p.2) (no_damage c.logs_are_read_one_way.ensures c.args.options.columns (g.D.Disk.seen c.args.disk) s changes durable made same r c.in_err-replay.field-0.0
          (cannot c.args.options.columns (g.D.Disk.seen c.args.disk) c.in-Ok.map.machine columns c.in-Ok.ensures.opened.2 opened.header opened.entries.items
          (c.in-Ok-open.ensures.columns ∙ (c.columns.ensures ∙ columns)) (c.in-Ok-open.ensures.read clean)
          (subst (λ (n : ℕ). n < 2 ^ 64) (ap (λ (at : Position). at.newest) c.position-newest.ensures.value ∙ (c.in-Ok-open.ensures.kept clean).newest) number)
          c.in_err-replay.field-0.0 ends)),
    )

pub returns-clause-whole : goal.returns-clause-whole
returns-clause-whole g c = λ s changes durable made columns small r. (c.in-Ok-open.opened.journal.disk, λ clean. tt)
