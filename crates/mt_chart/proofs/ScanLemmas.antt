-- The laws of scans, each by its lemma.
use Rattle.mt_chart.specs.ScanRun.{Stood, AllHave}
use Rattle.mt_chart.specs.ScanLaws.{ScansStayOpen, ScansAnswerRightly, VisitsHaveOutcomes, AnswersAreOfKeys, SteadyRowsAreRead, NothingElseIsRead}
use Rattle.mt_chart.proofs.ScanRuns.{scan_keeps, scan_answers, visits_total, stood_steady, stood_never}
use Rattle.mt_chart.proofs.KeyAnswers.{answers_keys}

pub scans_open : ScansStayOpen
scans_open show begun start limit chart arena past prefix number at taken s = scan_keeps show begun start limit s

pub scans_right : ScansAnswerRightly
scans_right show begun start limit chart arena past prefix number at taken given s node there alive ordered below visit =
    scan_answers show begun start limit chart arena past prefix number at taken given s node there alive ordered below visit

pub outcomes : VisitsHaveOutcomes
outcomes show limit prefix at right entries taken few = visits_total show limit prefix at right entries taken few

pub of_keys : AnswersAreOfKeys
of_keys show past start limit pairs bytes keys answer = answers_keys (Stood show past) (AllHave past) start limit pairs bytes keys answer

pub steady : SteadyRowsAreRead
steady show past key row read stood same = stood_steady show past key row read stood same

pub never_read : NothingElseIsRead
never_read show past key read stood none = stood_never show past key read stood none
