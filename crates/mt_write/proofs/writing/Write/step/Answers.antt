use Rattle.mt_write.proofs.writing.Write.step.Goals as goal

pub returns : goal.returns
returns c = let s = c.go.ensures in record { request = s.request; steps = s.law; waits = s.waits; fails = s.fails; gets_on = s.follows; head = s.head; posts = s.posts; drops = s.drops }
