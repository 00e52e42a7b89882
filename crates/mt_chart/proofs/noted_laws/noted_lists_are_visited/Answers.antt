-- The law, by its lemmas.
use Rattle.std.proofs.Common.{inl, refl, ◌∷◌}
use Rattle.mt_chart.specs.ScanRun.{Stood, AllHave}
use Rattle.mt_chart.proofs.Ranges.{noted_visits, border_is_noted}
use Rattle.mt_chart.proofs.ScanRuns.{in_order}
use Rattle.mt_chart.proofs.noted_laws.noted_lists_are_visited.Goals as goal

pub returns-clause-visited : goal.returns-clause-visited
returns-clause-visited c = λ show chart begun past top start limit prefix number at taken range node noted order low right out visit.
    noted_visits show chart begun (Stood show past) (AllHave past) top start limit prefix number at taken range node noted (in_order node.entries order) low right out visit

pub returns-clause-whole : goal.returns-clause-whole
returns-clause-whole c = λ show arena past chart tree begun prefix number node on.
    border_is_noted show arena chart tree begun (Stood show (arena ∷ past)) (AllHave (arena ∷ past)) (λ key row h. inl (row, h, refl)) (λ key t. t.0) prefix number node on
