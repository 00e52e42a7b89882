use Rattle.std.proofs.Common.{◌+◌, ◌^◌, ◌<◌, length, ap, subst, arith}
use Rattle.std.specs.Prelude.{IsTrue}
use Rattle.mt_journal.proofs.Frames.{frame_some}
use Rattle.mt_journal.proofs.Kept.{crashed, frame_kept, fronts_kept}
use Rattle.mt_journal.proofs.steps.write_frame.Goals as goal

pub returns-clause-kept : goal.returns-clause-kept
returns-clause-kept g c = λ header entries entry keeps says frame_is numbers mixing.
    let was : IsTrue (g.D.Disk.is_mixing c.args.disk.now) = subst IsTrue c.write_at.ensures.mixing mixing in
    let small : c.args.at.now.end + length c.args.frame.now < 2 ^ 64 = omega (arith, c.requires.room) in
    let some : 0 < length c.args.frame.now = omega (arith, frame_some header.generation c.args.at.now.end entry, ap length frame_is) in
    frame_kept c.args.at.now (g.D.Disk.seen c.args.disk.now) (g.D.Disk.seen c.write_at.new.self) (g.D.Disk.may_leave c.args.disk.now) (g.D.Disk.may_leave c.write_at.new.self) header entries entry c.args.frame.now c.args.count
    keeps says frame_is numbers c.requires.room c.write_at.ensures.others (c.in_ok-write_at.ensures.written some) (c.write_at.ensures.mixed was small)

pub returns-clause-crash : goal.returns-clause-crash
returns-clause-crash g c = λ header entries entry keeps says frame_is mixing left may_left.
    let was : IsTrue (g.D.Disk.is_mixing c.args.disk.now) = subst IsTrue c.write_at.ensures.mixing mixing in
    let small : c.args.at.now.end + length c.args.frame.now < 2 ^ 64 = omega (arith, c.requires.room) in
    crashed c.args.at.now (g.D.Disk.seen c.args.disk.now) (g.D.Disk.may_leave c.args.disk.now) (g.D.Disk.may_leave c.write_at.new.self) header entries entry c.args.frame.now keeps says frame_is c.requires.room (c.write_at.ensures.mixed was small) left may_left

pub returns-in_err-write_at-clause-crash : goal.returns-in_err-write_at-clause-crash
returns-in_err-write_at-clause-crash g c = λ header entries entry keeps says frame_is mixing left may_left.
    let was : IsTrue (g.D.Disk.is_mixing c.args.disk.now) = subst IsTrue c.write_at.ensures.mixing mixing in
    let small : c.args.at.now.end + length c.args.frame.now < 2 ^ 64 = omega (arith, c.requires.room) in
    crashed c.args.at.now (g.D.Disk.seen c.args.disk.now) (g.D.Disk.may_leave c.args.disk.now) (g.D.Disk.may_leave c.write_at.new.self) header entries entry c.args.frame.now keeps says frame_is c.requires.room (c.write_at.ensures.mixed was small) left may_left

pub returns-clause-fronts : goal.returns-clause-fronts
returns-clause-fronts g c = fronts_kept c.args.at.now.end (length c.args.frame.now) (g.D.Disk.may_leave c.args.disk.now) (g.D.Disk.may_leave c.write_at.new.self) c.write_at.ensures.crash

pub returns-in_err-write_at-clause-fronts : goal.returns-in_err-write_at-clause-fronts
returns-in_err-write_at-clause-fronts g c = fronts_kept c.args.at.now.end (length c.args.frame.now) (g.D.Disk.may_leave c.args.disk.now) (g.D.Disk.may_leave c.write_at.new.self) c.write_at.ensures.crash
