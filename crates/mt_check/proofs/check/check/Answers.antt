use Rattle.mt_check.proofs.LogLemmas.{sound_log}
use Rattle.mt_check.proofs.CheckLemmas.{all_sound, none_again, whole_log, first_fault}
use Rattle.mt_check.proofs.check.check.Goals as goal

pub judge-requires-clause-read : goal.judge-requires-clause-read
judge-requires-clause-read c = record { sound = sound_log c.args.deltas.now c.in_ok-versions.ensures.sound; are = c.in_ok-versions.ensures.versions }

pub returns-clause-log : goal.returns-clause-log
returns-clause-log c = whole_log c.args.deltas.now c.judge.result (sound_log c.args.deltas.now c.in_ok-versions.ensures.sound)

pub returns-clause-sound : goal.returns-clause-sound
returns-clause-sound c = all_sound c.args.columns c.args.deltas.now c.args.receipts.now c.judge.result c.judge.ensures.right

pub returns-clause-once : goal.returns-clause-once
returns-clause-once c = none_again c.args.columns c.args.deltas.now c.args.receipts.now c.judge.result c.judge.ensures.right

pub returns-clause-fault : goal.returns-clause-fault
returns-clause-fault c =
    first_fault c.args.columns c.args.deltas.now c.args.receipts.now c.judge.result (sound_log c.args.deltas.now c.in_ok-versions.ensures.sound) c.judge.ensures.fault
