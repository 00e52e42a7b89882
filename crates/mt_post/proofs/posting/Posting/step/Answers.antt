use Rattle.mt_post.proofs.EndingLemmas.{step_gets_nearer}
use Rattle.mt_post.proofs.AloneLemmas.{lone_step}
use Rattle.mt_post.proofs.posting.Posting.step.Goals as goal

pub returns : goal.returns
returns c =
    let s = c.go.ensures in
    record {
      same = s.same;
      steps = s.law;
      waits = s.waits;
      ends = s.ends;
      gets_on = s.gets_on;
      numbers = s.numbers;
      heads = s.heads;
      marks = s.marks;
      nearer = step_gets_nearer c.args.tree.now c.go.new.tree c.args.self.now c.go.result c.go.new.self s;
      alone = lone_step c.args.tree.now c.go.new.tree c.args.self.now c.go.result c.go.new.self s;
    }
