use Rattle.mt_loop.specs.Working.{Works}
use Rattle.mt_loop.proofs.turns.Turns.answer_all.Given as goal

-- what was done so far is what frames have asked
abbrev pub invariant-loop : goal.invariant-loop
invariant-loop g l = record {
  works : Works g.S.Shared.does g.S.Shared.shows g.S.Shared.pages g.S.Shared.glances g.S.Shared.looks l.fn.shared l.fn.self.pass l.shared l.self.pass;
}
