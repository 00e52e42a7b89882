use Rattle.mt_shared.proofs.driving.drive.Goals as goal

pub returns-clause-reply : goal.returns-clause-reply
returns-clause-reply g c = (c.finish.ensures.drive c.args.shared.now c.args.pass.now c.args.request c.seen-seen.ensures c.begin-started.ensures.starts).reply

pub returns-clause-number : goal.returns-clause-number
returns-clause-number g c = (c.finish.ensures.drive c.args.shared.now c.args.pass.now c.args.request c.seen-seen.ensures c.begin-started.ensures.starts).number

pub returns-clause-seen : goal.returns-clause-seen
returns-clause-seen g c = (c.finish.ensures.drive c.args.shared.now c.args.pass.now c.args.request c.seen-seen.ensures c.begin-started.ensures.starts).seen

pub returns-clause-driven : goal.returns-clause-driven
returns-clause-driven g c = (c.finish.ensures.drive c.args.shared.now c.args.pass.now c.args.request c.seen-seen.ensures c.begin-started.ensures.starts).driven

pub returns-clause-refused : goal.returns-clause-refused
returns-clause-refused g c = (c.finish.ensures.drive c.args.shared.now c.args.pass.now c.args.request c.seen-seen.ensures c.begin-started.ensures.starts).refused
