use Rattle.std.proofs.Common.{◌≡◌, ◌∙◌}
use Rattle.mt_loop.proofs.WorkingLemmas.{works_next}
use Rattle.mt_loop.proofs.turns.Turns.answer_those.Goals.{then-held-ge-HELD, else-held-ge-HELD}
use Rattle.mt_loop.proofs.turns.Turns.answer_those.Goals as goal

-- a turn follows those before it
pub loop-key-preserved : goal.loop-key-preserved
loop-key-preserved g c =
    let held : c.if-held-ge-HELD.shared ≡ c.answer_one.new.shared = elim c.if-held-ge-HELD.branch [
      | then-held-ge-HELD w ↦ w.shared-is ∙ w.hold.ensures.stays
      | else-held-ge-HELD w ↦ w.shared-is
    ] in
    record {
      works = works_next g.S.Shared.does g.S.Shared.shows g.S.Shared.pages g.S.Shared.glances g.S.Shared.looks c.args.shared.now c.loop-key.shared c.prepare.new.shared c.answer_one.new.shared c.if-held-ge-HELD.shared
          c.args.self.now.pass c.loop-key.self.pass c.prepare.new.self.pass c.answer_one.new.self.pass c.loop-key.invariant.works c.prepare.ensures.shared (c.prepare.ensures.pass ∙ c.puts_off.ensures.pass)
          c.answer_one.ensures.works held;
    }
