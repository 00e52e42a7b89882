use Rattle.std.proofs.Common.{ap}
use Rattle.mt_loop.specs.Working.{Works}
use Rattle.mt_loop.proofs.WorkingLemmas.{works_at, works_on}
use Rattle.mt_loop.proofs.turns.Turns.answer_all.Goals.{then-reads-gt0, else-reads-gt0, then-others-gt0, else-others-gt0}
use Rattle.mt_loop.proofs.turns.Turns.answer_all.Goals as goal

-- frames of gets and ranges alone, and then the others
pub loop-preserved : goal.loop-preserved
loop-preserved g c =
    let does = g.S.Shared.does in
    let shows = g.S.Shared.shows in
    let pages = g.S.Shared.pages in
    let glances = g.S.Shared.glances in
    let looks = g.S.Shared.looks in
    let s = c.args.shared.now in
    let p = c.args.self.now.pass in
    let read = c.if-reads-gt0 in
    let reads : Works does shows pages glances looks s p read.shared read.self.pass = elim read.branch [
      | then-reads-gt0 w ↦
          works_at does shows pages glances looks s w.answer_those.new.shared read.shared p w.answer_those.new.self.pass read.self.pass
          (works_on does shows pages glances looks s c.loop.shared w.answer_those.new.shared p c.loop.self.pass w.answer_those.new.self.pass c.loop.invariant.works w.answer_those.ensures.works)
          w.shared-is (ap (λ (turns : _). turns.pass) w.self-is)
      | else-reads-gt0 w ↦ works_at does shows pages glances looks s c.loop.shared read.shared p c.loop.self.pass read.self.pass c.loop.invariant.works w.shared-is (ap (λ (turns : _). turns.pass) w.self-is)
    ] in
    let last = c.if-others-gt0 in
    let others : Works does shows pages glances looks s p last.shared last.self.pass = elim last.branch [
      | then-others-gt0 w ↦
          let answered = w.answer_those-then-others-gt0 in
          works_at does shows pages glances looks s answered.new.shared last.shared p answered.new.self.pass last.self.pass
          (works_on does shows pages glances looks s read.shared answered.new.shared p read.self.pass answered.new.self.pass reads answered.ensures.works)
          w.shared-is (ap (λ (turns : _). turns.pass) w.self-is)
      | else-others-gt0 w ↦ works_at does shows pages glances looks s read.shared last.shared p read.self.pass last.self.pass reads w.shared-is (ap (λ (turns : _). turns.pass) w.self-is)
    ] in
    record { works = others }
