use Rattle.std.proofs.Common.{◌∙◌, ◌+◌, ◌^◌, ◌<◌, length, sym, arith}
use Rattle.std.proofs.lemmas.Result.{on_ok_weaker}
use Rattle.sqlite_disk.specs.Disk.{Only}
use Rattle.mt_journal.proofs.Kept.{all_left}
use Rattle.mt_journal.proofs.Repairs.{repaired, repair_crashed}
use Rattle.mt_journal.proofs.opening.repair.Goals as goal

pub returns-clause-kept : goal.returns-clause-kept
returns-clause-kept g c = λ header entries all.
    on_ok_weaker c.sync.result (λ (only : Only (g.D.Disk.seen c.write_at.new.self) (g.D.Disk.may_leave c.sync.new.self)).
    repaired header entries c.args.at.now (g.D.Disk.seen c.args.disk.now) (g.D.Disk.seen c.write_at.new.self) (g.D.Disk.seen c.sync.new.self) c.args.zeros.now (g.D.Disk.may_leave c.sync.new.self) all
    c.requires.zeros c.requires.tail c.write_at.ensures.others c.in_ok-write_at.ensures.written c.sync.ensures.seen only) c.sync.ensures.durable

pub returns-clause-whole : goal.returns-clause-whole
returns-clause-whole g c = λ header entries all.
    on_ok_weaker c.sync.result (λ (only : Only (g.D.Disk.seen c.write_at.new.self) (g.D.Disk.may_leave c.sync.new.self)).
    let kept = repaired header entries c.args.at.now (g.D.Disk.seen c.args.disk.now) (g.D.Disk.seen c.write_at.new.self) (g.D.Disk.seen c.sync.new.self) c.args.zeros.now (g.D.Disk.may_leave c.sync.new.self) all
    c.requires.zeros c.requires.tail c.write_at.ensures.others c.in_ok-write_at.ensures.written c.sync.ensures.seen only in
    all_left c.args.at.now (g.D.Disk.seen c.sync.new.self) (g.D.Disk.may_leave c.sync.new.self) (g.D.Disk.may_leave c.sync.new.self) header entries kept
    (λ left may_left. only left may_left ∙ sym c.sync.ensures.seen)) c.sync.ensures.durable

pub returns-in_err-write_at-clause-crash : goal.returns-in_err-write_at-clause-crash
returns-in_err-write_at-clause-crash g c = λ header entries all mixes only.
    let small : c.args.at.now.end + length c.args.zeros.now < 2 ^ 64 = omega (arith, c.requires.tail, c.requires.fits) in
    repair_crashed header entries c.args.at.now (g.D.Disk.seen c.args.disk.now) c.args.zeros.now (g.D.Disk.may_leave c.args.disk.now) (g.D.Disk.may_leave c.write_at.new.self) all c.requires.zeros c.requires.tail only
    (c.write_at.ensures.mixed (mixes c.args.disk.now) small)

pub returns-clause-crash : goal.returns-clause-crash
returns-clause-crash g c = λ header entries all mixes only left may_left.
    let small : c.args.at.now.end + length c.args.zeros.now < 2 ^ 64 = omega (arith, c.requires.tail, c.requires.fits) in
    repair_crashed header entries c.args.at.now (g.D.Disk.seen c.args.disk.now) c.args.zeros.now (g.D.Disk.may_leave c.args.disk.now) (g.D.Disk.may_leave c.write_at.new.self) all c.requires.zeros c.requires.tail only
    (c.write_at.ensures.mixed (mixes c.args.disk.now) small) left (c.sync.ensures.crash left may_left)
