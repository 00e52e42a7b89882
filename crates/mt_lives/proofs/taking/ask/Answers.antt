use Rattle.std.proofs.Common.{refl}
use Rattle.mt_asked.specs.Borrowed.{request_of}
use Rattle.mt_store.proofs.ExtendLemmas.{made_from}
use Rattle.mt_lives.proofs.AskLemmas.{asked}
use Rattle.mt_lives.proofs.TurnLemmas.{answers, asked_lives, asked_to}
use Rattle.mt_lives.proofs.taking.ask.Goals as goal

pub returns : goal.returns
returns g c = λ C a lived.
    let request = request_of c.args.asked.now in
    let result = c.ask.result in
    let s = c.args.opened.now.map in
    let is = asked s c.ask.new.self request result c.ask.ensures in
    let log = c.args.opened.now.log in (
      asked_to g.D.Disk.seen g.D.Disk.may_leave C a s.machine log lived c.ask.new.self.machine request result is,
      (made_from request result, answers g.D.Disk.seen g.D.Disk.may_leave C a s.machine log lived c.ask.new.self.machine request result is, refl),
      asked_lives g.D.Disk.seen g.D.Disk.may_leave C a s.machine log lived c.ask.new.self.machine request result is,
    )
