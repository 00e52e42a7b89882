use Rattle.mt_check.proofs.CallLemmas.{of_answer}
use Rattle.mt_check.proofs.calls.is_right_answer.Goals as goal

pub returns-in-Absent : goal.returns-in-Absent
returns-in-Absent c =
    of_answer c.args.log.now.columns c.args.log.now.deltas.now c.args.span.from c.args.span.to _ _ _ _ c.lacks.result c.in-Get.is c.in-Absent.is c.lacks.ensures

pub returns-in-Found : goal.returns-in-Found
returns-in-Found c =
    of_answer c.args.log.now.columns c.args.log.now.deltas.now c.args.span.from c.args.span.to _ _ _ _ c.shows.result c.in-Get.is c.in-Found.is (rw (← c.as_slice.ensures) c.shows.ensures)

pub returns-in-Absent-answer : goal.returns-in-Absent-answer
returns-in-Absent-answer c =
    of_answer c.args.log.now.columns c.args.log.now.deltas.now c.args.span.from c.args.span.to _ _ _ _ c.lacks-in-Absent-answer.result c.in-Remove.is c.in-Absent-answer.is c.lacks-in-Absent-answer.ensures

pub returns-in-Rows : goal.returns-in-Rows
returns-in-Rows c =
    of_answer c.args.log.now.columns c.args.log.now.deltas.now c.args.span.from c.args.span.to _ _ _ _ c.gives.result c.in-Range.is c.in-Rows.is
    (rw (← c.as_slice-in-Rows.ensures, ← c.as_slice-in-Rows-2.ensures) c.gives.ensures)
